-- A part that holds the bits that its sound needs sounds like the one that holds all bits of its take.
use Rattle.std.proofs.Common.{◌≡◌, ℕ, ◌+◌, ◌-◌, ◌/◌, ◌<◌, ◌≤◌, min, ℤ, pos, ◌-ℤ◌, ◌*ℤ◌, Bool, true, false, IsTrue, nat_le, nat_lt, if◌then◌else◌, List, length, map, get_or, slice_range, drop, get_or-take, get_or-drop, length-drop, length-take, refl, sym, ◌∙◌, ap, inl, inr, arith}
use Rattle.std.proofs.lemmas.Bool.{and_parts, cases_Bool, cases_lt, cond-false, leb-true, ltb-true}
use Rattle.std.proofs.lemmas.Int.{ints}
use Rattle.std.proofs.lemmas.List.{get_or-map, get_or_past, length-map}
use Rattle.dsd_bits.specs.Sums.{sign}
use Rattle.fir_core.specs.Convolution.{signal}
use Rattle.fir_core.proofs.SumOrder.{sum_below_same}
use Rattle.fir_core.proofs.Sums.{signal_before}
use Rattle.heard_core.specs.Sounds.{decoded}
use Rattle.null_core.specs.Likeness.{AreAskedAlike, AreExcerptsOf, IsExcerptOf, SoundAlike}
use Rattle.null_core.specs.Parts.{AskedContent, PartContent, added, has_place, part_bit, part_gain}

pub length-slice : (xs : List Bool) (s t : ℕ) → length (slice_range xs s t) ≡ min (t - s) (length xs - s)
length-slice xs s t = omega (arith, length-take (t - s) (drop s xs), length-drop s xs)

slice_at : (xs : List Bool) (s t i : ℕ) → i < t - s → get_or (slice_range xs s t) i false ≡ get_or xs (s + i) false
slice_at xs s t i lt = get_or-take (t - s) (drop s xs) i false lt ∙ get_or-drop s xs i false

module _ (bits : List Bool) (from to : ℕ) where
  -- the signal at a place of the range
  signal_in : (k : ℕ) → from + k < to → signal (slice_range bits from to) (pos k) ≡ signal bits (pos (from + k))
  signal_in k below = elim (cases_lt (from + k) (length bits)) [
    | inl there ↦
        get_or-map sign (slice_range bits from to) k false (pos 0) (omega (arith, length-slice bits from to, below, there))
        ∙ ap sign (slice_at bits from to k (omega (arith, below)))
        ∙ sym (get_or-map sign bits (from + k) false (pos 0) there)
    | inr past ↦
        get_or_past (map sign (slice_range bits from to)) k (pos 0) (omega (arith, length-map (slice_range bits from to) sign, length-slice bits from to, past))
        ∙ sym (get_or_past (map sign bits) (from + k) (pos 0) (omega (arith, length-map bits sign, past)))
  ]

  -- the sound of a bit, if the range has the bits that the taps reach, or the take has none there
  pub decoded_in : (taps : List ℤ) (n : ℕ) → from ≤ n - length taps / 2 → n + length taps / 2 < to → decoded taps (slice_range bits from to) (n - from) ≡ decoded taps bits n
  decoded_in taps n low high =
      let reach = length taps / 2 in
      sum_below_same (length taps) _ _ (λ k lt. ap (λ z. get_or taps k (pos 0) *ℤ z) (elim (cases_lt (n - from + reach) k) [
        | inl before ↦ signal_before (slice_range bits from to) (n - from + reach) k before ∙ sym (signal_before bits (n + reach) k (omega (arith, before, low, lt)))
        | inr here ↦
            let place = n - from + reach - k in
            let in_range : pos (n - from + reach) -ℤ pos k ≡ pos place = omega (arith, ints, here) in
            let in_take : pos (n + reach) -ℤ pos k ≡ pos (from + place) = omega (arith, ints, here, low) in
            ap (signal (slice_range bits from to)) in_range ∙ signal_in place (omega (arith, here, low, high)) ∙ ap (signal bits) (sym in_take)
      ]))

module _ (whole p : PartContent) (of : IsExcerptOf whole p) where
  same_place : (m : ℕ) → has_place m p ≡ has_place m whole
  same_place m = ap (has_place m) of.is

  part_there : (m : ℕ) → has_place m whole ≡ true → m - whole.at < whole.size
  part_there m has = let both = and_parts (nat_le whole.at m) (nat_lt m (whole.at + whole.size)) has in omega (arith, leb-true whole.at m both.0, ltb-true m (whole.at + whole.size) both.1)

  sound_at : (m : ℕ) → has_place m whole ≡ true → decoded p.taps p.bits (p.start + (m - p.at)) ≡ decoded whole.taps whole.bits (whole.start + (m - whole.at))
  sound_at m has =
      let there = part_there m has in
      let place : whole.start - of.from + (m - whole.at) ≡ whole.start + (m - whole.at) - of.from = omega (arith, of.low) in
      ap (λ (q : PartContent). decoded q.taps q.bits (q.start + (m - q.at))) of.is
      ∙ ap (decoded whole.taps (slice_range whole.bits of.from of.to)) place
      ∙ decoded_in whole.bits of.from of.to whole.taps (whole.start + (m - whole.at)) (omega (arith, of.low)) (omega (arith, of.high, there))

  adds_alike : (m : ℕ) → added m p ≡ added m whole
  adds_alike m =
      let sound = decoded p.taps p.bits (p.start + (m - p.at)) in
      (λ j. if same_place m j then part_gain (of.is j) m *ℤ sound else pos 0)
      ∙ elim (cases_Bool (has_place m whole)) [
        | inl has ↦ ap (λ (z : ℤ). if has_place m whole then part_gain whole m *ℤ z else pos 0) (sound_at m has)
        | inr none ↦ cond-false _ _ _ none ∙ sym (cond-false _ _ _ none)
      ]

  bit_alike : (m : ℕ) → IsTrue (has_place m p) → part_bit p m ≡ part_bit whole m
  bit_alike m has =
      let there = part_there m (sym (same_place m) ∙ has) in
      let place : of.from + (whole.start - of.from + (m - whole.at)) ≡ whole.start + (m - whole.at) = omega (arith, of.low) in
      ap (λ (q : PartContent). part_bit q m) of.is
      ∙ slice_at whole.bits of.from of.to (whole.start - of.from + (m - whole.at)) (omega (arith, of.low, of.high, there))
      ∙ ap (λ k. get_or whole.bits k false) place

  pub sounds_alike : SoundAlike p whole
  sounds_alike = record {
    take = ap (λ (q : PartContent). q.take) of.is;
    ahead = ap (λ (q : PartContent). q.ahead) of.is;
    at = ap (λ (q : PartContent). q.at) of.is;
    size = ap (λ (q : PartContent). q.size) of.is;
    points = ap (λ (q : PartContent). q.points) of.is;
    sound = adds_alike;
    bit = bit_alike;
  }

pub excerpts_alike : (a : AskedContent) (parts : List PartContent) → AreExcerptsOf a.parts parts → AreAskedAlike (record a { parts = parts }) a
excerpts_alike a parts of = record {
  unit = refl;
  audible = refl;
  every = refl;
  as_many = of.as_many;
  each = λ i p q is_p is_q. sounds_alike q p (of.each i q p is_q is_p);
}
