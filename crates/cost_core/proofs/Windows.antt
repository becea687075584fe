-- The window of a bridge between two cues lies within the limits.
use Rattle.std.proofs.Common.{◌≡◌, ℕ, ◌+◌, ◌-◌, ◌<◌, ◌≤◌, Bool, List, length, get_or, sym, ap, ◌∙◌, arith}
use Rattle.std.specs.Prelude.{string_bytes}
use Rattle.std.proofs.lemmas.List.{get_or-map, length-map}
use Rattle.std.proofs.lemmas.List.Elements.{All-get_or}
use Rattle.dsd_bits.proofs.PackingLemmas.{length-slice_range}
use Rattle.splice_core.specs.Cues.{IsCueWithin, IsSplicing, cue_content}
use Rattle.splice_core.specs.Splices.{SpliceContent, splice_content}
use Rattle.splice_core.specs.declared.cue.Cue.{Cue}
use Rattle.splice_core.specs.declared.splice.Splice.{Splice}
use Rattle.cost_core.specs.Limits.{IsBridging}
use Rattle.cost_core.specs.Windows.{bridging_at, splice_cue}
use Rattle.cost_core.proofs.TargetLaws.{targets_number, targets_small}

-- what a splice keeps of itself
pub splicing : (splice : Splice) → IsSplicing (splice_content splice).weights (length (splice_content splice).takes) (splice_content splice).cues
splicing splice = rw (length-map splice.takes.items string_bytes) splice.limits

-- a cue that was read is that of the splice
pub cue_read : (splice : Splice) (i : ℕ) (c : Cue) → i < length (splice_content splice).cues → c ≡ get_or splice.cues.items i c → cue_content c ≡ splice_cue (splice_content splice) i
cue_read splice i c h e =
    let there : i < length splice.cues.items = omega (arith, length-map splice.cues.items cue_content) in
    ap cue_content e ∙ sym (get_or-map cue_content splice.cues.items i c _ there)

module _ (splice : SpliceContent) (fine : IsSplicing splice.weights (length splice.takes) splice.cues) where
  -- each cue is within the limits
  pub cue_fits : (i : ℕ) → i < length splice.cues → IsCueWithin (length splice.weights) (length splice.takes) (splice_cue splice i)
  cue_fits i h = All-get_or (IsCueWithin (length splice.weights) (length splice.takes)) splice.cues i _ h fine.each_fits

  module _ (i : ℕ) (a : List Bool) (stop : ℕ) (b : List Bool) (start : ℕ) (there : i < length splice.cues) (ends : length splice.weights ≤ stop + 1) (inside : stop ≤ length a) (next_inside : start + length splice.weights ≤ length b + 1) where
    before : IsCueWithin (length splice.weights) (length splice.takes) (splice_cue splice i)
    before = cue_fits i there

    pub preceding_many : length (bridging_at splice i a stop b start).preceding ≡ length splice.weights - 1
    preceding_many = length-slice_range a (stop - (length splice.weights - 1)) stop inside ∙ omega (arith, fine.weights_fit.two_weights, ends)

    pub following_many : length (bridging_at splice i a stop b start).following ≡ length splice.weights - 1
    following_many = length-slice_range b start (start + (length splice.weights - 1)) (omega (arith, fine.weights_fit.two_weights, next_inside)) ∙ omega arith

    pub bridging_limits : IsBridging (bridging_at splice i a stop b start)
    bridging_limits =
        let some = fine.weights_fit.two_weights in
        record {
          weights_in = fine.weights_fit;
          before = omega (arith, preceding_many);
          after = omega (arith, following_many);
          levels_in = before.bridge_fits;
          target_in = λ k. targets_small (splice_cue splice i).target before.target_fits splice.weights fine.weights_fit a stop b start (splice_cue splice i).bridge (k - 1);
        }

    pub targets_many : length (bridging_at splice i a stop b start).targets ≡ (bridging_at splice i a stop b start).levels + length (bridging_at splice i a stop b start).following
    targets_many = targets_number (splice_cue splice i).target splice.weights a stop b start (splice_cue splice i).bridge ∙ omega (arith, following_many)
