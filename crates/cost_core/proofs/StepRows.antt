-- The row of a level's steps, as it is read.
use Rattle.std.proofs.Common.{◌≡◌, ℕ, ◌+◌, ◌*◌, ◌-◌, ◌/◌, ◌%◌, ◌^◌, ◌<◌, ◌≤◌, inl, inr, List, ◌++◌, map, length, get_or, sym, ap, ◌∙◌, arith}
use Rattle.std.proofs.lemmas.List.{length-append, get_or_append_left, get_or-append-add}
use Rattle.std.proofs.lemmas.List.FromFn.{length-map-range_with_len, get_or-map-range_with_len}
use Rattle.std.proofs.lemmas.Bool.{cases_lt}
use Rattle.std.proofs.lemmas.Nat.{pow-add}
use Rattle.std.proofs.Math.Pow.{pow_mono}
use Rattle.std.specs.List.{range_with_len}
use Rattle.cost_core.specs.Trellis.{Trellis, states, newest, before_by_0, before_by_1}
use Rattle.cost_core.specs.Bridges.{Bridging}
use Rattle.cost_core.specs.StateCosts.{step_of, step_row, tail_row, trellis_of}
use Rattle.cost_core.proofs.Numbers.{pow_double}

pub high_is : (t : Trellis) → 0 < t.width → (q n : ℕ) → n ≡ states t → q / 2 + n / 2 ≡ before_by_1 t.width q
high_is t some q n en = rw en (omega (arith, pow_double t.width some))

-- states are two, four, eight, or a multiple of sixteen
pub states_even : (w n : ℕ) → 0 < w → n ≡ 2 ^ w → n % 2 ≡ 0
states_even w n some e = omega (arith, pow_double w some)

pub states_whole : (w n : ℕ) → n ≡ 2 ^ w → 8 < n → n % 16 ≡ 0
states_whole w n e many =
    elim (cases_lt w 4) [
      | inl few ↦ let le : 2 ^ w ≤ 2 ^ 3 = pow_mono {i = w} {j = 3} (omega arith) in absurd (omega arith)
      | inr enough ↦
          let i : w ≡ w - 4 + 4 = omega arith in
          let s : n ≡ 2 ^ (w - 4) * 2 ^ 4 = e ∙ ap (λ k. 2 ^ k) i ∙ pow-add 2 (w - 4) 4 in
          omega arith
    ]

-- the steps of a level, as they are read from their row
module _ (d : Bridging) (i q n : ℕ) (steps : List ℕ) (es : steps ≡ step_row d i) (en : n ≡ states (trellis_of d)) (hq : q < states (trellis_of d)) where
  abbrev by : (ℕ → ℕ → ℕ) → ℕ → ℕ
  by before p = step_of d i (before (length d.preceding) p) (newest p)

  abbrev part : (ℕ → ℕ → ℕ) → List ℕ
  part before = map (by before) (range_with_len 0 (2 ^ length d.preceding))

  part_length : (before : ℕ → ℕ → ℕ) → length (part before) ≡ states (trellis_of d)
  part_length before = length-map-range_with_len (by before) 0 (2 ^ length d.preceding)

  part_at : (before : ℕ → ℕ → ℕ) → get_or (part before) q 0 ≡ by before q
  part_at before = get_or-map-range_with_len (by before) 0 (2 ^ length d.preceding) q q 0 hq (omega arith)

  pub steps_length : length steps ≡ states (trellis_of d) + states (trellis_of d)
  steps_length = ap length es ∙ length-append (part before_by_0) (part before_by_1) ∙ omega (arith, part_length before_by_0, part_length before_by_1)

  pub step_0 : get_or steps q 0 ≡ step_of d i (q / 2) (newest q)
  step_0 = ap (λ l. get_or l q 0) es ∙ get_or_append_left (part before_by_0) (part before_by_1) 0 q (omega (arith, part_length before_by_0)) ∙ part_at before_by_0

  pub step_1 : 0 < length d.preceding → get_or steps (n + q) 0 ≡ step_of d i (q / 2 + n / 2) (newest q)
  step_1 some =
      ap (λ l. get_or l (n + q) 0) es ∙ ap (λ k. get_or (part before_by_0 ++ part before_by_1) (k + q) 0) (en ∙ sym (part_length before_by_0))
      ∙ get_or-append-add (part before_by_0) (part before_by_1) q 0 ∙ part_at before_by_1 ∙ ap (λ p. step_of d i p (newest q)) (sym (high_is (trellis_of d) some q n en))

-- and the ends of all states
pub tail_at : (d : Bridging) (q : ℕ) (row : List ℕ) → row ≡ tail_row d → q < states (trellis_of d) → get_or row q 0 ≡ (trellis_of d).tail q
tail_at d q row e h = ap (λ l. get_or l q 0) e ∙ get_or-map-range_with_len (trellis_of d).tail 0 (2 ^ length d.preceding) q q 0 h (omega arith)
