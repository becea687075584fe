-- Laws of a part that is added to the mix.
use Rattle.std.proofs.Common.{◌≡◌, ℕ, ◌+◌, ◌-◌, ◌<◌, ◌≤◌, min, max, ℤ, pos, ◌+ℤ◌, ◌*ℤ◌, true, false, ◌&&◌, nat_le, nat_lt, if◌then◌else◌, List, length, get_or, slice_range, refl, sym, ◌∙◌, ap, subst, inl, inr, arith}
use Rattle.std.proofs.lemmas.Bool.{cases_lt, le-leb, le-ltb, lt-ltb}
use Rattle.std.proofs.lemmas.Bool.Decides.{leb_tells}
use Rattle.std.proofs.Math.Bool.{and-false}
use Rattle.std.proofs.Math.IntN.{+ℤ_idr}
use Rattle.std.proofs.lemmas.List.Edits.{get_or-between, length-between}
use Rattle.std.proofs.lemmas.List.FromFn.{get_or-map-range_with_len}
use borrow.Rule.Slice.PartMut.{put_mid}
use Rattle.clip_core.specs.Gains.{gain}
use Rattle.heard_core.specs.Sounds.{decoded, decoded_from}
use Rattle.null_core.specs.Mixing.{IsGained, IsPartAdded}
use Rattle.null_core.specs.Parts.{PartContent, added, has_place}
use Rattle.null_core.proofs.MidLaws.{length_mid, mid_before, mid_within, mid_after}

no_leb : (a b : ℕ) → b < a → nat_le a b ≡ false
no_leb a b below = elim (leb_tells a b) [ inl tells ↦ let no_way : ⊥ = omega (arith, tells.1, below) in absurd no_way | inr tells ↦ tells.0 ]

module _ (p : PartContent) where
  apart : (m : ℕ) → has_place m p ≡ false → added m p ≡ pos 0
  apart m none = ap (λ b. if b then gain p.points (m - p.at) *ℤ decoded p.taps p.bits (p.start + (m - p.at)) else pos 0) none

  within : (m : ℕ) → has_place m p ≡ true → added m p ≡ gain p.points (m - p.at) *ℤ decoded p.taps p.bits (p.start + (m - p.at))
  within m has = ap (λ b. if b then gain p.points (m - p.at) *ℤ decoded p.taps p.bits (p.start + (m - p.at)) else pos 0) has

  early : (m : ℕ) → m < p.at → has_place m p ≡ false
  early m below = ap (λ b. b && nat_lt m (p.at + p.size)) (no_leb p.at m below)

  late : (m : ℕ) → p.at + p.size ≤ m → has_place m p ≡ false
  late m above = ap (λ b. nat_le p.at m && b) (le-ltb m (p.at + p.size) above) ∙ and-false (nat_le p.at m)

  there : (m : ℕ) → p.at ≤ m → m < p.at + p.size → has_place m p ≡ true
  there m above below = ap (λ b. b && nat_lt m (p.at + p.size)) (le-leb p.at m above) ∙ lt-ltb m (p.at + p.size) below

  -- a part that has none of the places adds nothing
  pub none_added : (from low high : ℕ) (old : List ℤ) → low ≡ max from p.at → high ≡ min (from + length old) (p.at + p.size) → high ≤ low → IsPartAdded p from old old
  none_added from low high old low_is high_is none = record {
    long = refl;
    each = λ i inside. sym (+ℤ_idr (get_or old i (pos 0))) ∙ ap (λ z. get_or old i (pos 0) +ℤ z) (sym (apart (from + i) (elim (cases_lt (from + i) p.at) [
      | inl below ↦ early (from + i) below
      | inr above ↦ late (from + i) (omega (arith, low_is, high_is, none, inside, above))
    ])));
  }

  module _ (from low high : ℕ) (old heard new : List ℤ) (low_is : low ≡ max from p.at) (high_is : high ≡ min (from + length old) (p.at + p.size)) (order : low < high)
      (heard_is : heard ≡ decoded_from p.taps p.bits (p.start + (low - p.at)) (high - low)) (gained : IsGained (gain p.points) (low - p.at) heard (slice_range old (low - from) (high - from)) new) where
    first_place : low - from ≤ length old
    first_place = omega (arith, high_is, order)

    number_is : high - from - (low - from) ≡ high - low
    number_is = omega (arith, low_is, order)

    range_long : length (slice_range old (low - from) (high - from)) ≡ high - from - (low - from)
    range_long = length-between old (low - from) (high - from) (omega (arith, high_is, order))

    new_long : length new ≡ high - from - (low - from)
    new_long = gained.long ∙ range_long

    mid : List ℤ
    mid = put_mid (low - from) (high - from - (low - from)) old new

    IsIt : ℕ → Type 0
    IsIt i = get_or mid i (pos 0) ≡ get_or old i (pos 0) +ℤ added (from + i) p

    as_it_was : (i : ℕ) → has_place (from + i) p ≡ false → get_or mid i (pos 0) ≡ get_or old i (pos 0) → IsIt i
    unfolding IsIt
    as_it_was i none same = same ∙ sym (+ℤ_idr (get_or old i (pos 0))) ∙ ap (λ z. get_or old i (pos 0) +ℤ z) (sym (apart (from + i) none))

    before : (i : ℕ) → i < low - from → IsIt i
    unfolding mid
    before i below = as_it_was i (early (from + i) (omega (arith, low_is, below))) (mid_before (low - from) (high - from - (low - from)) old new first_place new_long (pos 0) i below)

    after : (j : ℕ) → low - from + (high - from - (low - from)) + j < length old → IsIt (low - from + (high - from - (low - from)) + j)
    unfolding mid
    after j below = as_it_was (low - from + (high - from - (low - from)) + j) (late _ (omega (arith, low_is, high_is, order, below))) (mid_after (low - from) (high - from - (low - from)) old new first_place new_long (pos 0) j)

    between : (j : ℕ) → j < high - low → IsIt (low - from + j)
    unfolding IsIt mid
    between j below =
        let k = low - p.at in
        let m : from + (low - from + j) ≡ low + j = omega (arith, low_is) in
        let place : (from + (low - from + j)) - p.at ≡ k + j = omega (arith, low_is) in
        let sound : get_or heard j (pos 0) ≡ decoded p.taps p.bits (p.start + (k + j)) = ap (λ xs. get_or xs j (pos 0)) heard_is ∙ get_or-map-range_with_len (decoded p.taps p.bits) (p.start + k) (high - low) j (p.start + (k + j)) (pos 0) below (omega arith) in
        let has = there (from + (low - from + j)) (omega (arith, low_is)) (omega (arith, low_is, high_is, below)) in
        mid_within (low - from) (high - from - (low - from)) old new first_place new_long (pos 0) j (omega (arith, number_is, below))
        ∙ gained.each j (omega (arith, range_long, number_is, below))
        ∙ ap (λ z. z +ℤ (gain p.points (k + j) *ℤ get_or heard j (pos 0))) (get_or-between old (low - from) (high - from) j (pos 0) (omega (arith, number_is, below, low_is)))
        ∙ ap (λ z. get_or old (low - from + j) (pos 0) +ℤ (gain p.points (k + j) *ℤ z)) sound
        ∙ ap (λ z. get_or old (low - from + j) (pos 0) +ℤ z) (sym (within (from + (low - from + j)) has ∙ ap (λ n. gain p.points n *ℤ decoded p.taps p.bits (p.start + n)) place))

    pub part_added : IsPartAdded p from old (put_mid (low - from) (high - from - (low - from)) old new)
    unfolding IsIt mid
    part_added = record {
      long = length_mid (low - from) (high - from - (low - from)) old new (omega (arith, high_is, order)) new_long;
      each = λ i inside. elim (cases_lt i (low - from)) [
        | inl earlier ↦ before i earlier
        | inr later ↦ elim (cases_lt (i - (low - from)) (high - low)) [
          | inl now ↦ let at : low - from + (i - (low - from)) ≡ i = omega (arith, later) in subst IsIt at (between (i - (low - from)) now)
          | inr past ↦
              let at : low - from + (high - from - (low - from)) + (i - (high - from)) ≡ i = omega (arith, past, later, low_is, order) in
              subst IsIt at (after (i - (high - from)) (omega (arith, at, inside)))
        ]
      ];
    }
