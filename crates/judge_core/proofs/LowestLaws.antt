-- The first bit of a master that is off its cue, by the first of each channel.
use Rattle.std.proofs.Common.{◌≡◌, ℕ, ◌<◌, ◌≤◌, List, [], length, get_or, take, Option, None, Some, sym, subst, arith}
use Rattle.std.proofs.lemmas.List.{get_or-take, length-take-le}
use Rattle.dsd_bits.specs.Contents.{Content}
use Rattle.cut_core.specs.Cuts.{CutContent, take_channels}
use Rattle.cut_core.specs.Keeping.{CanCut}
use Rattle.cut_core.proofs.ZipLaws.{zip_numbers}
use Rattle.cut_core.specs.Masters.{HaveShape, HoldCues, rebuilt, channel_numbers}
use Rattle.judge_core.specs.Checking.{IsFirstCuedBit}
use Rattle.judge_core.specs.Comparing.{FindsOff}
use Rattle.judge_core.specs.Kept.{FindAllOff}
use Rattle.judge_core.proofs.CuedLaws.{first_off, on_cues}

module _ (cut : CutContent) (can : CanCut cut) (some : 1 ≤ length cut.splice.cues) (r : Content) (shape : HaveShape cut r.channels) (firsts : List (Option ℕ)) (states : FindAllOff cut r.channels firsts) where
  stated : (c : ℕ) (x : Option ℕ) → c < take_channels cut → get_or firsts c None ≡ x → FindsOff cut c (get_or r.channels c []) x
  stated c x there is = subst (FindsOff cut c (get_or r.channels c [])) is (states c there)

  holds_at : (c : ℕ) → c < take_channels cut → get_or firsts c None ≡ None → get_or r.channels c [] ≡ rebuilt cut c (get_or r.channels c [])
  holds_at c there none = on_cues cut can r.channels shape c there some (λ p lt off. stated c None there none p (lt, off))

  pub all_hold : ((c : ℕ) → c < take_channels cut → get_or firsts c None ≡ None) → HoldCues cut (channel_numbers cut) r.channels
  all_hold none = zip_numbers (λ c z. z ≡ rebuilt cut c z) (take_channels cut) r.channels [] shape.as_many (λ c there. holds_at c there (none c there))

  pub lowest_is : (c place : ℕ) → c < take_channels cut → ((b : ℕ) → b < c → get_or firsts b None ≡ None) → get_or firsts c None ≡ Some place → IsFirstCuedBit cut r c place
  lowest_is c place there none is =
      let first = stated c (Some place) there is in
      record {
        there = omega (arith, shape.as_many, there);
        before = zip_numbers (λ k z. z ≡ rebuilt cut k z) c (take c r.channels) [] (length-take-le c r.channels (omega (arith, shape.as_many, there))) (λ k lt.
            let same = get_or-take c r.channels k [] lt in
            subst (λ z. z ≡ rebuilt cut k z) (sym same) (holds_at k (omega (arith, lt, there)) (none k lt)));
        differs = first_off cut can r.channels shape c there some place first.here.0 (λ p sooner off. first.before p sooner (omega (arith, sooner, first.here.0), off)) first.here.1;
      }
