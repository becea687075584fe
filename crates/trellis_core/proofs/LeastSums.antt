-- Least sums over all lists of bits: the search's are these, and they are valid bounds.
use Rattle.std.proofs.Common.{◌≡◌, ℕ, ◌+◌, ◌^◌, ◌<◌, ◌≤◌, Bool, List, [], ◌∷◌, ◌++◌, reverse, length, get_or, refl, sym, ap, subst, ◌∙◌, inl, inr, arith}
use Rattle.std.proofs.lemmas.Grind.{common_steps}
use Rattle.std.proofs.lemmas.Bool.{cases_lt}
use Rattle.std.proofs.lemmas.List.{reverse-reverse, length-reverse, length-append}
use Rattle.std.proofs.lemmas.List.FromFn.{length-map-range_with_len, get_or-map-range_with_len}
use Rattle.cost_core.specs.Trellis.{Trellis, states, next, state_after, steps, cost_from, cost, IsBounded}
use Rattle.cost_core.specs.Tables.{row_in, value_in}
use Rattle.cost_core.specs.Least.{IsLeast}
use Rattle.cost_core.specs.Validity.{IsValid}
use Rattle.cost_core.specs.StateCosts.{trellis_of}
use Rattle.cost_core.proofs.Limits.{costs_in_bounds}
use Rattle.cost_core.proofs.Places.{steps_are_cost}
use Rattle.cost_core.proofs.Walks.{next_below}
use Rattle.trellis_core.specs.Best.{best, best_row, best_rows, traced}
use Rattle.trellis_core.specs.LeastSums.{LeadsTo, sum_of_steps, IsBest, BestRows, BestRowsAreValid}
use Rattle.trellis_core.proofs.Back.{back_state, back_cost}
use Rattle.trellis_core.proofs.Bests.{best_le, best_below, traced_length, traced_gives}
use Rattle.trellis_core.proofs.RowLaws.{row_length, row_at}

-- one bit more at the end
after_more : (w q : ℕ) (x : List Bool) (b : Bool) → state_after w q (x ++ (b ∷ [])) ≡ next w (state_after w q x) b
unfolding state_after
after_more w q [] b = refl
after_more w q (a ∷ x) b = after_more w (next w q a) x b

steps_more : (w : ℕ) (step : ℕ → ℕ → Bool → ℕ) (l q : ℕ) (x : List Bool) (b : Bool) → steps w step l q (x ++ (b ∷ [])) ≡ steps w step l q x + step (l + length x) (state_after w q x) b
unfolding steps state_after
steps_more w step l q [] b =
    let e : l + 0 ≡ l = omega arith in
    rw e (omega arith)
steps_more w step l q (a ∷ x) b =
    let e : l + 1 + length x ≡ l + length (a ∷ x) = omega arith in
    let p = state_after w (next w q a) x in
    let rest = steps_more w step (l + 1) (next w q a) x b in
    let same : step (l + 1 + length x) p b ≡ step (l + length (a ∷ x)) p b = ap (λ n. step n p b) e in
    omega (arith, rest, same)

module _ (t : Trellis) (fine : IsBounded t) where
  -- bits from the newest on, as a walk from the start
  leads_back : (r : List Bool) → LeadsTo t (length r) (back_state t r) (reverse r)
  leads_back [] = unfold state_after in (refl, refl)
  leads_back (b ∷ r) =
      let w = leads_back r in
      let e : reverse (b ∷ r) ≡ reverse r ++ (b ∷ []) = grind (arith, common_steps) in
      (length-reverse (b ∷ r), ap (state_after t.width t.start) e ∙ after_more t.width t.start (reverse r) b ∙ ap (λ q. next t.width q b) w.1)

  sum_back : (r : List Bool) → sum_of_steps t (reverse r) ≡ back_cost t r
  sum_back [] = unfold steps in refl
  sum_back (b ∷ r) =
      let w = leads_back r in
      let e : reverse (b ∷ r) ≡ reverse r ++ (b ∷ []) = grind (arith, common_steps) in
      let s : t.step (0 + length (reverse r)) (state_after t.width t.start (reverse r)) b ≡ t.step (length r) (back_state t r) b = rw w.1 (ap (λ n. t.step n (back_state t r) b) (omega (arith, w.0))) in
      ap (sum_of_steps t) e ∙ steps_more t.width t.step 0 t.start (reverse r) b ∙ omega (arith, sum_back r, s)

  -- the sums by two predecessors are least over all lists
  pub best_is_best : (level q : ℕ) → q < states t → IsBest t level q (best t level q)
  best_is_best level q h = record {
    at_most = best_le t fine.some_state level q;
    below_each = λ x leads.
        let r = reverse x in
        let e = reverse-reverse x in
        let n : length r ≡ level = length-reverse x ∙ leads.0 in
        let at : back_state t r ≡ q = sym (leads_back r).1 ∙ ap (state_after t.width t.start) e ∙ leads.1 in
        let f : best t level q ≡ best t (length r) (back_state t r) = ap (λ j. best t j q) (sym n) ∙ ap (best t (length r)) (sym at) in
        omega (arith, f, ap (sum_of_steps t) e, sum_back r, best_below t fine.some_state fine.start_in r);
    is_some = elim (cases_lt (best t level q) (2 ^ 63)) [
      | inl lt ↦
          let r = traced t level q in
          let v = traced_gives t fine.some_state level q h lt in
          let w = leads_back r in
          inr (reverse r, (length-reverse r ∙ traced_length t fine.some_state level q, w.1 ∙ v.0), sum_back r ∙ v.1)
      | inr ge ↦ inl (omega (arith, best_le t fine.some_state level q))
    ];
  }

  best_row_in : (n level : ℕ) → level < n → row_in (best_rows t n) level ≡ best_row t level
  best_row_in n level h = get_or-map-range_with_len (best_row t) 0 n level level [] h (omega arith)

  pub all_rows : BestRows t (best_rows t (t.levels + 1))
  all_rows = record {
    is_table = record {
      levels_in = length-map-range_with_len (best_row t) 0 (t.levels + 1);
      states_in = λ level h. ap length (best_row_in (t.levels + 1) level (omega arith)) ∙ row_length t level;
    };
    are_best = λ level q hl hq.
        let e : value_in (best_rows t (t.levels + 1)) level q ≡ best t level q = ap (λ l. get_or l q 0) (best_row_in (t.levels + 1) level (omega arith)) ∙ row_at t level q hq in
        rw e (best_is_best level q hq);
  }

  cost_is : (y : List Bool) → cost t y ≡ sum_of_steps t y + t.tail (state_after t.width t.start y)
  unfolding cost cost_from
  cost_is y = refl

  module _ (rows : List (List ℕ)) (table : BestRows t rows) (x : List Bool) (least : IsLeast t.levels (cost t) x) where
    valid_start : value_in rows 0 t.start ≡ 0
    valid_start =
        let b = table.are_best 0 t.start (omega arith) fine.start_in in
        omega (arith, b.below_each [] (leads_back []), sum_back [])

    valid_step : (level q : ℕ) (bit : Bool) → level < t.levels → q < states t → value_in rows (level + 1) (next t.width q bit) ≤ value_in rows level q + t.step level q bit
    valid_step level q bit hl hq =
        let b = table.are_best level q (omega arith) hq in
        let n = table.are_best (level + 1) (next t.width q bit) (omega arith) (next_below t q bit) in
        elim b.is_some [
          | inl e ↦ omega (arith, n.at_most)
          | inr (y, leads, sum) ↦
              let m = n.below_each (y ++ (bit ∷ [])) (length-append y (bit ∷ []) ∙ omega (arith, leads.0), after_more t.width t.start y bit ∙ ap (λ p. next t.width p bit) leads.1) in
              let s : t.step (0 + length y) (state_after t.width t.start y) bit ≡ t.step level q bit = rw leads.1 (ap (λ k. t.step k q bit) (omega (arith, leads.0))) in
              omega (arith, m, steps_more t.width t.step 0 t.start y bit, sum, s)
        ]

    valid_end : (q : ℕ) → q < states t → cost t x ≤ value_in rows t.levels q + t.tail q
    valid_end q hq =
        let b = table.are_best t.levels q (omega arith) hq in
        elim b.is_some [
          | inl e ↦ omega (arith, fine.cost_in x least.long)
          | inr (y, leads, sum) ↦ omega (arith, least.least y leads.0, cost_is y, sum, ap t.tail leads.1)
        ]

    pub best_valid : IsValid t (value_in rows) (cost t x) x
    best_valid = record {
      bounded = λ level q hl hq. (table.are_best level q hl hq).at_most;
      at_start = valid_start;
      at_step = valid_step;
      at_end = valid_end;
      is_cost = refl;
    }

pub best_rows_are_valid : BestRowsAreValid
best_rows_are_valid d rows x limits table least =
    let t = trellis_of d in
    let fine = costs_in_bounds d limits in
    let same = steps_are_cost d in
    let by_states : IsLeast t.levels (cost t) x = record {
      long = least.long;
      least = λ y e. omega (arith, same x limits least.long, same y limits e, least.least y e);
    } in
    subst (λ c. IsValid t (value_in rows) c x) (same x limits least.long) (best_valid t fine rows table x by_states)
