-- The cues of a cut, and the shape of its first take.
use Rattle.std.proofs.Common.{ℕ, ◌<◌, length}
use Rattle.std.proofs.lemmas.List.Elements.{All-get_or}
use Rattle.dsd_bits.specs.Shape.{HasShape}
use Rattle.splice_core.specs.Cues.{IsCueWithin}
use Rattle.cut_core.specs.Cuts.{CutContent, cue_at}
use Rattle.cut_core.specs.Keeping.{CanCut}

module _ (cut : CutContent) (can : CanCut cut) where
  pub fits_at : (i : ℕ) → i < length cut.splice.cues → IsCueWithin (length cut.splice.weights) (length cut.splice.takes) (cue_at cut i)
  fits_at i lt = All-get_or (IsCueWithin (length cut.splice.weights) (length cut.splice.takes)) cut.splice.cues i _ lt can.splicing.each_fits

  pub first_shape : HasShape cut.first
  first_shape = can.shaped
