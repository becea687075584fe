-- The first bit that is off its cue, of a channel that comes part by part.
use Rattle.std.proofs.Common.{◌≡◌, ℕ, zero, suc, ◌+◌, ◌-◌, ◌<◌, ◌≤◌, max, Bool, true, false, not, List, ◌++◌, length, get_or, slice_range, Option, None, Some, inl, inr, refl, sym, ap, subst, ◌∙◌, arith}
use Rattle.std.proofs.Math.Bool.{beq}
use Rattle.std.proofs.lemmas.Bool.{cases_lt}
use Rattle.std.proofs.lemmas.List.{get_or-append_right, get_or_append_left, length-append}
use Rattle.std.proofs.lemmas.List.Sums.{sum_by_more}
use Rattle.cut_core.specs.Cuts.{CutContent, cue_at, cue_bits, span, take_channels}
use Rattle.cut_core.specs.Keeping.{CanCut}
use Rattle.judge_core.specs.Comparing.{FindsFirst, IsFirst, IsOffAt, IsOffCue, IsOffPart, FindsOff, cue_start}
use Rattle.cut_core.proofs.ChannelLaws.{cue_long}
use Rattle.cut_core.proofs.SliceLaws.{slice_at}

-- ---- cues follow each other
rises : (cut : CutContent) (k j : ℕ) → j + k < length cut.splice.cues → cue_start cut j + span (cue_at cut j) ≤ cue_start cut (j + 1 + k)
rises cut zero j lt =
    let sums : cue_start cut (j + 1) ≡ cue_start cut j + span (cue_at cut j) = sum_by_more span cut.splice.cues j _ (omega (arith, lt)) in
    let same : j + 1 + 0 ≡ j + 1 = omega arith in
    omega (arith, sums, ap (cue_start cut) same)
rises cut (suc k) j lt =
    let sums : cue_start cut (j + 1 + k + 1) ≡ cue_start cut (j + 1 + k) + span (cue_at cut (j + 1 + k)) = sum_by_more span cut.splice.cues (j + 1 + k) _ (omega (arith, lt)) in
    let same : j + 1 + suc k ≡ j + 1 + k + 1 = omega arith in
    omega (arith, sums, ap (cue_start cut) same, rises cut k j (omega (arith, lt)))

ends_before : (cut : CutContent) → CanCut cut → (c j i : ℕ) → c < take_channels cut → j < i → i < length cut.splice.cues → cue_start cut j + length (cue_bits cut c j) ≤ cue_start cut i
ends_before cut can c j i there lt inside =
    let same : j + 1 + (i - (j + 1)) ≡ i = omega (arith, lt) in
    omega (arith, cue_long cut can c there j (omega (arith, lt, inside)), rises cut (i - (j + 1)) j (omega (arith, lt, inside)), ap (cue_start cut) same)

-- the first in a cue, where there is none in the cues before it, is the first
pub first_of_all : (cut : CutContent) → CanCut cut → (c done : ℕ) (part : List Bool) (k place : ℕ) → c < take_channels cut → k < length cut.splice.cues → ((i : ℕ) → i < k → (p : ℕ) → IsOffAt cut c i done part p → ⊥)
    → IsFirst (IsOffAt cut c k done part) place → IsFirst (IsOffPart cut c done part) place
first_of_all cut can c done part k place there lt none first = record {
  here = (k, lt, first.here);
  before = λ earlier sooner off. elim (cases_lt off.0 k) [
    | inl below ↦ none off.0 below earlier off.2
    | inr not_below ↦ elim (cases_lt k off.0) [
      | inl above ↦ absurd (omega (arith, ends_before cut can c k off.0 there above off.1, first.here.to, off.2.from, sooner))
      | inr not_above ↦ first.before earlier sooner (let same : off.0 ≡ k = omega (arith, not_below, not_above) in subst (λ i. IsOffAt cut c i done part earlier) same off.2)
    ]
  ];
}

-- if a part of a channel has the bits of a cue from a place on, no bit before the place after them differs
pub none_alike : (cut : CutContent) (c i done : ℕ) (part bits : List Bool) (start stop from alike : ℕ) → slice_range bits start stop ≡ cue_bits cut c i → from ≡ max (cue_start cut i) done → from - cue_start cut i + alike ≤ stop - start
    → ((k : ℕ) → k < alike → get_or part (from - done + k) false ≡ get_or bits (start + (from - cue_start cut i) + k) false) → (p : ℕ) → p < from + alike → IsOffAt cut c i done part p → ⊥
none_alike cut c i done part bits start stop from alike is first few same p lt off =
    let own = cue_start cut i in
    let reached : from ≤ p = omega (arith, first, off.from, off.reached) in
    let k = p - from in
    let here : from - done + k ≡ p - done = omega (arith, reached, first) in
    let there : start + (from - own) + k ≡ start + (p - own) = omega (arith, reached, first) in
    let low : p - own < stop - start = omega (arith, lt, reached, first, few) in
    off.differs (ap (λ n. get_or part n false) (sym here) ∙ same k (omega (arith, lt, reached)) ∙ ap (λ n. get_or bits n false) there ∙ sym (slice_at bits start stop (p - own) low) ∙ ap (λ l. get_or l (p - own) false) is)

-- where the bit at a place was compared to the cue's
unlike : (x y : Bool) → not (beq x y) ≡ true → x ≡ y → ⊥
unlike true true h e = cc
unlike true false h e = cc
unlike false true h e = cc
unlike false false h e = cc

alike : (x y : Bool) → not (beq x y) ≡ false → x ≡ y
alike true true h = refl
alike true false h = cc
alike false true h = cc
alike false false h = refl

module _ (cut : CutContent) (c i done : ℕ) (part bits : List Bool) (start stop place : ℕ) (is : slice_range bits start stop ≡ cue_bits cut c i) (x y : Bool) (got : x ≡ get_or part (place - done) false) (cued : y ≡ get_or (slice_range bits start stop) (place - cue_start cut i) false) where
  pub differs_there : not (beq x y) ≡ true → get_or part (place - done) false ≡ get_or (cue_bits cut c i) (place - cue_start cut i) false → ⊥
  differs_there h e = unlike x y h (got ∙ e ∙ ap (λ l. get_or l (place - cue_start cut i) false) (sym is) ∙ sym cued)

  pub none_more : not (beq x y) ≡ false → ((p : ℕ) → p < place → IsOffAt cut c i done part p → ⊥) → (p : ℕ) → p < place + 1 → IsOffAt cut c i done part p → ⊥
  none_more h none p lt off = elim (cases_lt p place) [
    | inl below ↦ none p below off
    | inr past ↦ (
        let here : p ≡ place = omega (arith, lt, past) in
        (subst (IsOffAt cut c i done part) here off).differs (sym got ∙ alike x y h ∙ cued ∙ ap (λ l. get_or l (place - cue_start cut i) false) is)
        )
  ]

-- ---- one part more
module _ (cut : CutContent) (c : ℕ) (before part : List Bool) where
  long : length (before ++ part) ≡ length before + length part
  long = length-append before part

  left : (p : ℕ) → p < length before → get_or (before ++ part) p false ≡ get_or before p false
  left p lt = get_or_append_left before part false p lt

  right : (p : ℕ) → length before ≤ p → get_or (before ++ part) p false ≡ get_or part (p - length before) false
  right p ge = get_or-append_right before part (length before) p false refl ge

  on : (p : ℕ) → p < length before → IsOffCue cut c before p → IsOffCue cut c (before ++ part) p
  on p lt off = record { cue = off.cue; cue_there = off.cue_there; from = off.from; to = off.to; differs = λ e. off.differs (sym (left p lt) ∙ e) }

  back : (p : ℕ) → p < length before → IsOffCue cut c (before ++ part) p → IsOffCue cut c before p
  back p lt off = record { cue = off.cue; cue_there = off.cue_there; from = off.from; to = off.to; differs = λ e. off.differs (left p lt ∙ e) }

  part_on : (p : ℕ) → IsOffPart cut c (length before) part p → (p < length (before ++ part)) × IsOffCue cut c (before ++ part) p
  part_on p (i, there, off) = (omega (arith, long, off.inside), record { cue = i; cue_there = there; from = off.from; to = off.to; differs = λ e. off.differs (sym (right p off.reached) ∙ e) })

  part_back : (p : ℕ) → length before ≤ p → p < length (before ++ part) → IsOffCue cut c (before ++ part) p → IsOffPart cut c (length before) part p
  part_back p ge lt off = (off.cue, off.cue_there, record { reached = ge; inside = omega (arith, long, lt); from = off.from; to = off.to; differs = λ e. off.differs (right p ge ∙ e) })

  pub still_first : (place : ℕ) → FindsOff cut c before (Some place) → FindsOff cut c (before ++ part) (Some place)
  still_first place first = record {
    here = (omega (arith, long, first.here.0), on place first.here.0 first.here.1);
    before = λ earlier sooner off. (let lt : earlier < length before = omega (arith, sooner, first.here.0) in first.before earlier sooner (lt, back earlier lt off.1));
  }

  pub next_first : FindsOff cut c before None → (found : Option ℕ) → FindsFirst (IsOffPart cut c (length before) part) found → FindsOff cut c (before ++ part) found
  next_first none None h = λ p off. elim (cases_lt p (length before)) [
    | inl below ↦ none p (below, back p below off.1)
    | inr after ↦ h p (part_back p after off.0 off.1)
  ]
  next_first none (Some place) h = record {
    here = part_on place h.here;
    before = λ earlier sooner off. elim (cases_lt earlier (length before)) [
      | inl below ↦ none earlier (below, back earlier below off.1)
      | inr after ↦ h.before earlier sooner (part_back earlier after off.0 off.1)
    ];
  }
