-- What a `Decoder` means.
use Rattle.std.specs.Prelude.{◌≡◌, ◌^◌, ℤ, List}
use Rattle.clip_core.specs.Mixes.{AreTaps}
use Rattle.heard_core.specs.Pieces.{all_pieces}
use Rattle.heard_core.specs.declared.decoder.Decoder.TheInside.{Inside}

-- its taps
abbrev pub taps_of : Inside → List ℤ
taps_of a = a.taps.items

-- its taps are within their limits, and it has their pieces
pub record IsDecoder (a : Inside) : Type 0 where
  pub fits : AreTaps (2 ^ 28) a.taps.items
  pub whole : a.pieces.items ≡ all_pieces a.taps.items
