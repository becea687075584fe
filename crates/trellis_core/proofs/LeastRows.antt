-- There is one table of best sums, that of the least sums over all lists of bits.
use Rattle.std.proofs.Common.{◌≡◌, ℕ, zero, suc, ◌+◌, ◌^◌, ◌<◌, ◌≤◌, ◌⊎◌, min, inl, inr, Bool, true, false, List, [], ◌∷◌, fold, get_or, length, map, refl, sym, ap, ◌∙◌, arith}
use Rattle.std.specs.List.{All, Contains, filter}
use Rattle.std.proofs.lemmas.Bool.{cases_Bool, cases_lt, eq-eqb, eqb-true}
use Rattle.std.proofs.lemmas.List.{ext_get_or, get_or-map, length-map}
use Rattle.std.proofs.lemmas.List.Elements.{All-append, All-cons, All-map, All-nil, All-weaker, Contains-append_left, Contains-append_right}
use Rattle.std.proofs.lemmas.List.FromFn.{get_or-map-range_with_len, length-map-range_with_len}
use Rattle.cost_core.specs.Trellis.{Trellis, states}
use Rattle.cost_core.specs.Tables.{row_in, value_in}
use Rattle.trellis_core.specs.LeastSums.{BestRows, BestRowsAreLeast, IsBest, bit_lists, least_row, least_rows, least_sum, leads_to, sum_of_steps}

-- ---- a minimum over those of some lists that pass a test
module _ (test : List Bool → Bool) (sum : List Bool → ℕ) where
  least_le : (v : ℕ) (xs : List (List Bool)) → fold min v (map sum (filter test xs)) ≤ v
  least_le v [] = omega arith
  least_le v (x ∷ xs) = elim (cases_Bool (test x)) [
    | inl e ↦ rw e (omega (arith, least_le (min v (sum x)) xs))
    | inr e ↦ rw e (least_le v xs)
  ]

  least_below : (v : ℕ) (xs : List (List Bool)) (x : List Bool) (k : ℕ) → k < length xs → get_or xs k x ≡ x → test x ≡ true → fold min v (map sum (filter test xs)) ≤ sum x
  least_below v [] x k lt is passes = absurd (omega arith)
  least_below v (y ∷ xs) x zero lt is passes =
      let e : test y ≡ true = ap test is ∙ passes in
      rw e (omega (arith, least_le (min v (sum y)) xs, ap sum is))
  least_below v (y ∷ xs) x (suc k) lt is passes = elim (cases_Bool (test y)) [
    | inl e ↦ rw e (least_below (min v (sum y)) xs x k (omega arith) is passes)
    | inr e ↦ rw e (least_below v xs x k (omega arith) is passes)
  ]

  least_some : (P : List Bool → Type 0) (v : ℕ) (xs : List (List Bool)) → All P xs
      → (fold min v (map sum (filter test xs)) ≡ v) ⊎ ((x : List Bool) × P x × (test x ≡ true) × (sum x ≡ fold min v (map sum (filter test xs))))
  least_some P v [] each = inl refl
  least_some P v (y ∷ xs) each =
      let more : All P xs = λ k d lt. each (suc k) d (omega arith) in
      elim (cases_Bool (test y)) [
        | inl e ↦ rw e (elim (least_some P (min v (sum y)) xs more) [
          | inl all ↦ elim (cases_lt (sum y) v) [
            | inl lt ↦ inr (y, each 0 y (omega arith), e, omega (arith, all))
            | inr ge ↦ inl (omega (arith, all))
          ]
          | inr found ↦ inr found
        ])
        | inr e ↦ rw e (least_some P v xs more)
      ]

-- ---- all lists of n bits
contains_map : (f : List Bool → List Bool) (xs : List (List Bool)) (x : List Bool) → Contains xs x → Contains (map f xs) (f x)
contains_map f xs x (k, lt, is) = (k, omega (arith, length-map xs f), get_or-map f xs k x (f x) lt ∙ ap f is)

has_list : (n : ℕ) (x : List Bool) → length x ≡ n → Contains (bit_lists n) x
unfolding bit_lists
has_list zero [] e = (0, omega arith, refl)
has_list zero (b ∷ x) e = absurd (omega arith)
has_list (suc n) [] e = absurd (omega arith)
has_list (suc n) (false ∷ x) e = Contains-append_left (map (λ x. false ∷ x) (bit_lists n)) (map (λ x. true ∷ x) (bit_lists n)) (false ∷ x) (contains_map (λ x. false ∷ x) (bit_lists n) x (has_list n x (omega arith)))
has_list (suc n) (true ∷ x) e = Contains-append_right (map (λ x. false ∷ x) (bit_lists n)) (map (λ x. true ∷ x) (bit_lists n)) (true ∷ x) (contains_map (λ x. true ∷ x) (bit_lists n) x (has_list n x (omega arith)))

one_more : (bit : Bool) (n : ℕ) → All (λ (x : List Bool). length x ≡ n) (bit_lists n) → All (λ (x : List Bool). length x ≡ suc n) (map (λ x. bit ∷ x) (bit_lists n))
one_more bit n each = All-map (λ (x : List Bool). length x ≡ suc n) (λ x. bit ∷ x) (bit_lists n) (All-weaker (λ (x : List Bool). length x ≡ n) (λ (x : List Bool). length (bit ∷ x) ≡ suc n) (λ x e. ap suc e) (bit_lists n) each)

are_long : (n : ℕ) → All (λ (x : List Bool). length x ≡ n) (bit_lists n)
unfolding bit_lists
are_long zero = All-cons (λ (x : List Bool). length x ≡ 0) [] [] refl (All-nil (λ (x : List Bool). length x ≡ 0))
are_long (suc n) =
    All-append (λ (x : List Bool). length x ≡ suc n) (map (λ x. false ∷ x) (bit_lists n)) (map (λ x. true ∷ x) (bit_lists n)) (one_more false n (are_long n)) (one_more true n (are_long n))

-- ---- sums
module _ (t : Trellis) where
  least_is_best : (level q : ℕ) → IsBest t level q (least_sum t level q)
  unfolding least_sum
  least_is_best level q = record {
    at_most = least_le (leads_to t q) (sum_of_steps t) (2 ^ 63) (bit_lists level);
    below_each = λ x leads.
        let there = has_list level x leads.0 in
        least_below (leads_to t q) (sum_of_steps t) (2 ^ 63) (bit_lists level) x there.0 there.1 there.2 (eq-eqb _ _ leads.1);
    is_some = elim (least_some (leads_to t q) (sum_of_steps t) (λ x. length x ≡ level) (2 ^ 63) (bit_lists level) (are_long level)) [
      | inl none ↦ inl none
      | inr (x, long, leads, sum) ↦ inr (x, (long, eqb-true _ _ leads), sum)
    ];
  }

  best_le : (level q v w : ℕ) → IsBest t level q v → IsBest t level q w → v ≤ w
  best_le level q v w h k = elim k.is_some [
    | inl none ↦ omega (arith, h.at_most)
    | inr (x, leads, sum) ↦ omega (arith, h.below_each x leads, sum)
  ]

  one_best : (level q v w : ℕ) → IsBest t level q v → IsBest t level q w → v ≡ w
  one_best level q v w h k = omega (arith, best_le level q v w h k, best_le level q w v k h)

  -- ---- rows
  row_is : (level : ℕ) → level ≤ t.levels → row_in (least_rows t) level ≡ least_row t level
  unfolding least_rows
  row_is level h = get_or-map-range_with_len (least_row t) 0 (t.levels + 1) level level [] (omega arith) (omega arith)

  row_long : (level : ℕ) → length (least_row t level) ≡ states t
  unfolding least_row
  row_long level = length-map-range_with_len (least_sum t level) 0 (states t)

  value_is : (level q : ℕ) → q < states t → get_or (least_row t level) q 0 ≡ least_sum t level q
  unfolding least_row
  value_is level q h = get_or-map-range_with_len (least_sum t level) 0 (states t) q q 0 h (omega arith)

  rows_long : length (least_rows t) ≡ t.levels + 1
  unfolding least_rows
  rows_long = length-map-range_with_len (least_row t) 0 (t.levels + 1)

  pub least_are_best : BestRows t (least_rows t)
  least_are_best = record {
    is_table = record { levels_in = rows_long; states_in = λ level h. ap length (row_is level h) ∙ row_long level };
    are_best = λ level q h hq.
        let e : value_in (least_rows t) level q ≡ least_sum t level q = ap (λ row. get_or row q 0) (row_is level h) ∙ value_is level q hq in
        rw e (least_is_best level q);
  }

  pub best_are_least : (rows : List (List ℕ)) → BestRows t rows → rows ≡ least_rows t
  best_are_least rows best =
      let table = best.is_table in
      ext_get_or [] rows (least_rows t) (table.levels_in ∙ sym rows_long) (λ level lt.
      let h : level ≤ t.levels = omega (arith, table.levels_in) in
      ext_get_or 0 (row_in rows level) (least_row t level) (table.states_in level h ∙ sym (row_long level)) (λ q hq.
      let inside : q < states t = omega (arith, table.states_in level h) in
      one_best level q _ _ (best.are_best level q h inside) (least_is_best level q) ∙ sym (value_is level q inside))
      ∙ sym (row_is level h))

pub best_rows_are_least : BestRowsAreLeast
best_rows_are_least = λ t rows. (best_are_least t rows, λ e. rw e (least_are_best t))
