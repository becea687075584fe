-- The states before a state, and what is wrong with a row.
use Rattle.std.proofs.Common.{◌≡◌, ℕ, ◌+◌, ◌-◌, ◌/◌, ◌%◌, ◌^◌, ◌<◌, ◌≤◌, ◌⊎◌, Bool, true, false, ltb, List, get_or, length, refl, sym, ap, ◌∙◌, subst, inl, inr, IsTrue, arith, rules, tests}
use Rattle.std.proofs.lemmas.Bool.{cases_lt, cases_Bool, eq-eqb, eqb-true, eqb-false, ne_eqb}
use Rattle.cost_core.specs.Trellis.{Trellis, digit, states, next, newest, before_by_0, before_by_1, cost}
use Rattle.cost_core.specs.Validity.{IsValid}
use Rattle.cost_core.proofs.Numbers.{pow_double, shift_low, shift_high, unshift}
use Rattle.cost_core.proofs.Walks.{digit_below, next_below}
use Rattle.cost_core.specs.Tables.{row_in, value_in}
use Rattle.cert_core.specs.Reasons.{Exceeds, AreClean}

true_lt : (a v : ℕ) → a < v → IsTrue (ltb a v)
true_lt a v h = search (rules, tests)

lt_true : (a v : ℕ) → IsTrue (ltb a v) → a < v
lt_true a v h = search (rules, tests)

newest_digit : (q : ℕ) → digit (newest q) ≡ q % 2
newest_digit q =
    elim (cases_Bool (newest q)) [
      | inl e ↦ ap digit e ∙ sym (eqb-true (q % 2) 1 e)
      | inr e ↦ let ne = eqb-false (q % 2) 1 e in ap digit e ∙ omega arith
    ]

newest_is : (q : ℕ) (bit : Bool) → q % 2 ≡ digit bit → newest q ≡ bit
newest_is q false e = ne_eqb (q % 2) 1 (λ f. omega arith)
newest_is q true e = eq-eqb (q % 2) 1 e

module _ (t : Trellis) (some : 0 < t.width) where
  halves : states t ≡ 2 ^ (t.width - 1) + 2 ^ (t.width - 1)
  halves = pow_double t.width some

  high_is : (q n : ℕ) → n ≡ states t → q / 2 + n / 2 ≡ before_by_1 t.width q
  high_is q n en = omega (arith, halves)

  low_below : (q : ℕ) → q < states t → before_by_0 t.width q < 2 ^ (t.width - 1)
  low_below q h = omega (arith, halves)

  next_low : (q : ℕ) → q < states t → next t.width (before_by_0 t.width q) (newest q) ≡ q
  next_low q h = rw halves (shift_low _ _ _ (low_below q h) (digit_below (newest q)) ∙ omega (arith, newest_digit q))

  next_high : (q : ℕ) → q < states t → next t.width (before_by_1 t.width q) (newest q) ≡ q
  next_high q h = rw halves (shift_high _ _ _ (low_below q h) (digit_below (newest q)) ∙ omega (arith, newest_digit q))

  before_next : (p : ℕ) (bit : Bool) (q : ℕ) → p < states t → next t.width p bit ≡ q → (bit ≡ newest q) × ((p ≡ before_by_0 t.width q) ⊎ (p ≡ before_by_1 t.width q))
  before_next p bit q h e =
      let w = unshift (2 ^ (t.width - 1)) p (digit bit) q (omega (arith, halves)) (digit_below bit) (sym e ∙ rw halves refl) in
      (sym (newest_is q bit w.0), w.1)

  module _ (level : ℕ) (previous row : List ℕ) (q : ℕ) (inside : q < states t) where
    -- what a state of the row before sets by a step of the newest bit
    abbrev set_by : ℕ → ℕ
    set_by p = get_or previous p 0 + t.step level p (newest q)

    exceeds_low : set_by (before_by_0 t.width q) < get_or row q 0 → Exceeds t level previous row q
    exceeds_low lt = (before_by_0 t.width q, newest q, omega (arith, low_below q inside, halves), next_low q inside, lt)

    exceeds_high : set_by (before_by_1 t.width q) < get_or row q 0 → Exceeds t level previous row q
    exceeds_high lt = (before_by_1 t.width q, newest q, omega (arith, low_below q inside, halves), next_high q inside, lt)

    pub one_exceeds : Exceeds t level previous row q → (set_by (before_by_0 t.width q) < get_or row q 0) ⊎ (set_by (before_by_1 t.width q) < get_or row q 0)
    one_exceeds (p, bit, h, e, lt) =
        let w = before_next p bit q h e in
        let lt2 : set_by p < get_or row q 0 = subst (λ b. get_or previous p 0 + t.step level p b < get_or row q 0) w.0 lt in
        elim w.1 [
          | inl is ↦ inl (subst (λ s. set_by s < get_or row q 0) is lt2)
          | inr is ↦ inr (subst (λ s. set_by s < get_or row q 0) is lt2)
        ]

    -- the test of the first state before it decides
    pub exceeds_then : (a : ℕ) → a ≡ set_by (q / 2) → a < get_or row q 0 → (IsTrue (ltb a (get_or row q 0)) → Exceeds t level previous row q) × (Exceeds t level previous row q → IsTrue (ltb a (get_or row q 0)))
    exceeds_then a ea h = (λ _. exceeds_low (omega arith), λ _. true_lt a (get_or row q 0) h)

    -- the test of the second one decides
    pub exceeds_else : (a b n : ℕ) → a ≡ set_by (q / 2) → get_or row q 0 ≤ a → n ≡ states t → b ≡ set_by (q / 2 + n / 2)
        → (IsTrue (ltb b (get_or row q 0)) → Exceeds t level previous row q) × (Exceeds t level previous row q → IsTrue (ltb b (get_or row q 0)))
    exceeds_else a b n ea h en eb =
        let e : b ≡ set_by (before_by_1 t.width q) = eb ∙ ap set_by (high_is q n en) in (
          λ k. exceeds_high (let l = lt_true b (get_or row q 0) k in omega arith),
          λ x. elim (one_exceeds x) [ inl l ↦ absurd (omega arith) | inr l ↦ true_lt b (get_or row q 0) (omega arith) ],
        )

-- clean rows of all levels are a valid table
module _ (t : Trellis) (rows : List (List ℕ)) (clean : AreClean t rows) (all : length rows ≡ t.levels + 1) (stated : ℕ) (ends : (q : ℕ) → q < states t → stated ≤ get_or (row_in rows t.levels) q 0 + t.tail q) where
  step_holds : (level q : ℕ) (bit : Bool) → level < t.levels → q < states t → value_in rows (level + 1) (next t.width q bit) ≤ value_in rows level q + t.step level q bit
  step_holds level q bit below inside =
      let s = next t.width q bit in
      let e : level + 1 - 1 ≡ level = omega arith in
      let kept = (clean.clean (level + 1) (omega arith)).steps (omega arith) s (next_below t q bit) in
      elim (cases_lt (value_in rows level q + t.step level q bit) (value_in rows (level + 1) s)) [
        | inl lt ↦ absurd (kept (q, bit, inside, refl, rw e lt))
        | inr le ↦ le
      ]

  pub valid_from_clean : (x : List Bool) → stated ≡ cost t x → IsValid t (value_in rows) stated x
  valid_from_clean x e = record {
    bounded = λ level q below inside. (clean.clean level (omega arith)).bounded q inside;
    at_start = (clean.clean 0 (omega arith)).start refl;
    at_step = step_holds;
    at_end = ends;
    is_cost = e;
  }
