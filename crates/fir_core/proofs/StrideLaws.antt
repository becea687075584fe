-- Strided sums: vectors of numbers that wrap, the columns of rows, and every eighth step.
use Rattle.std.proofs.Common.{◌≡◌, ℕ, zero, suc, ◌+◌, ◌-◌, ◌*◌, ◌/◌, ◌%◌, ◌^◌, ◌<◌, ◌≤◌, ℤ, pos, negsuc, ◌+ℤ◌, inl, inr, map, unsigned_abs, List, [], length, get_or, take, drop, sum_by, sym, ap, ap₂, ◌∙◌, arith, subst, length-drop, FitsSigned, to_z, of_z, w32}
use Rattle.std.proofs.lemmas.Bool.{cases_lt}
use Rattle.std.specs.Int.{div_ceil, int_wrap}
use Rattle.std.proofs.lemmas.Grind.{div_ceil_times}
use Rattle.std.specs.Simd.Lanes.{put_chunk, zip2}
use Rattle.std.proofs.lemmas.Int.{ints, to_z-of_z, fits_signed_from_abs, int_wrap_fits, wrapping_add_onto, int_wrap-add_left, int_wrap-add_right, SFits-int_wrap}
use Rattle.std.proofs.lemmas.Simd.{get_or-put_chunk_above, get_or-put_chunk_at, get_or-put_chunk_below, length-put_chunk}
use Rattle.std.proofs.lemmas.List.{drop-drop, get_or-drop, get_or-take, get_or_append_left, length-take-le}
use Rattle.std.proofs.Math.Seq.{get_or-append_right}
use Rattle.std.proofs.Common.{◌≢◌, ◌++◌, min, add-one, length-append, refl}
use Rattle.std.proofs.Math.IntN.{+ℤ_assoc, +ℤ_comm}
use Rattle.std.proofs.Math.Nat.{div-mul-le_self, mul-le-mul_right}
use Rattle.std.proofs.lemmas.List.FromFn.{fill_by_all, get_or-map-range_with_len}
use Rattle.std.proofs.lemmas.Nat.{mul-le}
use Rattle.std.proofs.lemmas.Simd.{get_or-replicate, length-replicate}
use Rattle.std.specs.Prelude.{replicate}
use Rattle.dsd_bits.specs.Sums.{sum_below}
use Rattle.fir_core.specs.Lookup.{IsLaid, IsSpot, entry_of, groups_at, last_group, sum_before}
use Rattle.fir_core.specs.declared.lookup.Lookup.{Lookup}
use Rattle.fir_core.specs.Strides.{AreColumns, AreNear, IsAddedAt, step_at, steps_sum, stride_sum}
use Rattle.fir_core.proofs.RowLaws.{column_is, ends_groups, last_small, next_sum, none_before, row_fits, whole_window}
use Rattle.fir_core.specs.Signed.{bits_of, dot}
use Rattle.fir_core.specs.Windows.{window_sum, window_sums}
use Rattle.fir_core.proofs.Dot.{dot_bound}
use Rattle.fir_core.proofs.LaneSums.{length-numbers, number_is, wrap_add}
use Rattle.fir_core.proofs.SumOrder.{sum_below_same}
use Rattle.fir_core.proofs.TileLaws.{below_ceil, length-sums}

-- ---- numbers that wrap
of_z_below : (z : ℤ) → FitsSigned w32 z → of_z w32 z < 2 ^ 32
of_z_below (pos n) f = let g = f.sfits in omega (arith, g)
of_z_below (negsuc n) f = omega arith

lane_added : (sum y : ℤ) → unsigned_abs y ≤ 2 ^ 30 → to_z w32 (wrap_add (of_z w32 (int_wrap w32 sum)) (of_z w32 y)) ≡ int_wrap w32 (sum +ℤ y)
lane_added sum y small =
    let fits : FitsSigned w32 (int_wrap w32 sum) = SFits-int_wrap w32 sum in
    wrapping_add_onto w32 (of_z w32 (int_wrap w32 sum)) y (of_z_below (int_wrap w32 sum) fits) (fits_signed_from_abs w32 y (omega arith))
    ∙ ap (λ z. int_wrap w32 (z +ℤ y)) (to_z-of_z w32 (int_wrap w32 sum) fits)
    ∙ int_wrap-add_left w32 sum y

-- n eights of them
pub near_added : (f : ℕ → ℤ) (number : ℕ) (old new : List (List ℤ)) (row : List ℤ) → length new ≡ number → 8 * number ≤ length row → ((c : ℕ) → c < 8 * number → unsigned_abs (get_or row c (pos 0)) ≤ 2 ^ 30)
    → ((k : ℕ) → k < number → get_or new k [] ≡ map (to_z w32) (zip2 wrap_add (map (of_z w32) (get_or old k [])) (map (of_z w32) (take 8 (drop (8 * k) row)))))
    → AreNear number f old → AreNear number (λ c. f c +ℤ get_or row c (pos 0)) new
near_added f number old new row long within small is before = record {
  long = long;
  eight = λ k h. ap length (is k h) ∙ length-numbers (get_or old k []) row (8 * k) (before.eight k h) (omega (arith, h, within));
  each = λ k l h b.
      ap (λ xs. get_or xs l (pos 0)) (is k h) ∙ number_is (get_or old k []) row (8 * k) (before.eight k h) (omega (arith, h, within)) l b
      ∙ ap (λ z. to_z w32 (wrap_add (of_z w32 z) (of_z w32 (get_or row (8 * k + l) (pos 0))))) (before.each k l h b)
      ∙ lane_added (f (8 * k + l)) (get_or row (8 * k + l) (pos 0)) (small (8 * k + l) (omega (arith, h, b)));
}

-- the same in other words
pub near_same : (f g : ℕ → ℤ) (number : ℕ) (near : List (List ℤ)) → ((c : ℕ) → c < 8 * number → f c ≡ g c) → AreNear number f near → AreNear number g near
near_same f g number near same before = record {
  long = before.long;
  eight = before.eight;
  each = λ k l h b. before.each k l h b ∙ ap (int_wrap w32) (same (8 * k + l) (omega (arith, h, b)));
}

pub wrapped_zero : int_wrap w32 (pos 0) ≡ pos 0
wrapped_zero = int_wrap_fits w32 (pos 0) (fits_signed_from_abs w32 (pos 0) (omega arith))

-- all of them zeros
pub near_zeros : (number : ℕ) → AreNear number (λ c. pos 0) (replicate number (replicate 8 (pos 0)))
near_zeros number =
    let zeros : (k : ℕ) → k < number → get_or (replicate number (replicate 8 (pos 0))) k [] ≡ replicate 8 (pos 0) = λ k h. get_or-replicate number k (replicate 8 (pos 0)) [] h in
    record {
      long = length-replicate number (replicate 8 (pos 0));
      eight = λ k h. ap length (zeros k h) ∙ length-replicate 8 (pos 0);
      each = λ k l h b. ap (λ xs. get_or xs l (pos 0)) (zeros k h) ∙ get_or-replicate 8 l (pos 0) (pos 0) b ∙ sym wrapped_zero;
    }

-- each a place further down, and the last of zeros
pub near_moved : (f : ℕ → ℤ) (number : ℕ) (old new : List (List ℤ)) → 1 ≤ number → length new ≡ number → ((k : ℕ) → k + 1 < number → get_or new k [] ≡ get_or old (k + 1) []) → get_or new (number - 1) [] ≡ replicate 8 (pos 0)
    → AreNear number f old → ((c : ℕ) → 8 * number ≤ c → f c ≡ pos 0) → AreNear number (λ c. f (c + 8)) new
near_moved f number old new some long front last before none = record {
  long = long;
  eight = λ k h. elim (cases_lt (k + 1) number) [
    | inl inside ↦ ap length (front k inside) ∙ before.eight (k + 1) inside
    | inr end ↦ let e : k ≡ number - 1 = omega (arith, h, end) in ap (λ m. length (get_or new m [])) e ∙ ap length last ∙ length-replicate 8 (pos 0)
  ];
  each = λ k l h b. elim (cases_lt (k + 1) number) [
    | inl inside ↦
        let next : 8 * (k + 1) + l ≡ 8 * k + l + 8 = omega arith in
        ap (λ xs. get_or xs l (pos 0)) (front k inside) ∙ before.each (k + 1) l inside b ∙ ap (λ c. int_wrap w32 (f c)) next
    | inr end ↦
        let e : k ≡ number - 1 = omega (arith, h, end) in
        ap (λ m. get_or (get_or new m []) l (pos 0)) e ∙ ap (λ xs. get_or xs l (pos 0)) last ∙ get_or-replicate 8 l (pos 0) (pos 0) b ∙ sym wrapped_zero
        ∙ sym (ap (int_wrap w32) (none (8 * k + l + 8) (omega (arith, h, end, b))))
  ];
}

-- ---- the columns of a row
pub sum_next : (m : ℕ) (f : ℕ → ℤ) → sum_below (m + 1) f ≡ sum_below m f +ℤ f m
sum_next m f = ap (λ n. sum_below n f) (add-one m)

-- the last columns of a row
pub columns_within : (hs entries : List ℤ) (step span place byte number : ℕ) → IsLaid hs entries step span → place < step → byte < 256 → number ≤ span
    → 4 + (256 * place + byte) * (span + 8) + (span - number) + number ≤ length entries
columns_within hs entries step span place byte number laid inside small few = let fits = row_fits hs entries step span place byte laid inside small in omega (arith, fits)

pub columns_are : (lookup : Lookup) (place byte number : ℕ) → place < lookup.step → byte < 256 → number ≤ lookup.span
    → AreColumns lookup place byte number (take number (drop (4 + (256 * place + byte) * (lookup.span + 8) + (lookup.span - number)) lookup.entries.now))
columns_are lookup place byte number inside small few =
    let hs = lookup.taps.now in
    let entries = lookup.entries.now in
    let span = lookup.span in
    let row = 4 + (256 * place + byte) * (span + 8) in
    let at = row + (span - number) in
    let each : (c : ℕ) → c < number → get_or (take number (drop at entries)) c (pos 0) ≡ last_group hs (groups_at lookup.step span place (span - number + c)) byte = λ c h.
    let next : at + c ≡ row + (span - number + c) = omega arith in
    get_or-take number (drop at entries) c (pos 0) h ∙ get_or-drop at entries c (pos 0) ∙ ap (λ m. get_or entries m (pos 0)) next
    ∙ column_is hs entries lookup.step span place byte lookup.laid inside small (span - number + c) (omega arith) in
    record {
      len = length-take-le number (drop at entries) (omega (arith, length-drop at entries, columns_within hs entries lookup.step span place byte number lookup.laid inside small few));
      each = each;
      small = λ c h. subst (λ z. unsigned_abs z ≤ 2 ^ 30) (sym (each c h)) (last_small hs (groups_at lookup.step span place (span - number + c)) byte lookup.laid.small);
    }

-- ---- the bytes of a step
pub one_more_place : (a : ℤ) (m : ℕ) (g : ℕ → ℤ) (r : ℤ) → r ≡ g m → (a +ℤ sum_below m g) +ℤ r ≡ a +ℤ sum_below (m + 1) g
one_more_place a m g r is = +ℤ_assoc a (sum_below m g) r ∙ ap (λ z. a +ℤ (sum_below m g +ℤ z)) is ∙ ap (λ z. a +ℤ z) (sym (sum_next m g))

pub all_places : (hs : List ℤ) (bytes : List ℕ) (step span u column m : ℕ) → m ≡ step → sum_below m (λ q. last_group hs (groups_at step span q column) (get_or bytes (u * step + q) 0)) ≡ step_at hs bytes step span u column
unfolding step_at
all_places hs bytes step span u column m whole = ap (λ n. sum_below n (λ q. last_group hs (groups_at step span q column) (get_or bytes (u * step + q) 0))) whole

-- ---- sums that are read, added to and written
both_added : (x y : ℤ) → to_z w32 (wrap_add (of_z w32 (int_wrap w32 y)) (of_z w32 (int_wrap w32 x))) ≡ int_wrap w32 (x +ℤ y)
both_added x y =
    let fits_x : FitsSigned w32 (int_wrap w32 x) = SFits-int_wrap w32 x in
    let fits_y : FitsSigned w32 (int_wrap w32 y) = SFits-int_wrap w32 y in
    wrapping_add_onto w32 (of_z w32 (int_wrap w32 y)) (int_wrap w32 x) (of_z_below (int_wrap w32 y) fits_y) fits_x
    ∙ ap (λ z. int_wrap w32 (z +ℤ int_wrap w32 x)) (to_z-of_z w32 (int_wrap w32 y) fits_y)
    ∙ int_wrap-add_left w32 y (int_wrap w32 x)
    ∙ int_wrap-add_right w32 y x
    ∙ ap (int_wrap w32) (+ℤ_comm y x)

pub added_at : (near sums : List ℤ) (at : ℕ) → length near ≡ 8 → at + 8 ≤ length sums → IsAddedAt near at sums (put_chunk at sums (map (to_z w32) (zip2 wrap_add (map (of_z w32) near) (map (of_z w32) (take 8 (drop at sums))))))
added_at near sums at eight within =
    let lanes = map (to_z w32) (zip2 wrap_add (map (of_z w32) near) (map (of_z w32) (take 8 (drop at sums)))) in
    let long : length lanes ≡ 8 = length-numbers near sums at eight within in
    record {
      len = length-put_chunk at sums lanes;
      added = λ l h x y is_near is_sum.
          get_or-put_chunk_at at sums lanes l (pos 0) (omega (arith, h, long)) (omega (arith, long, within)) ∙ number_is near sums at eight within l h
          ∙ ap₂ (λ a b. to_z w32 (wrap_add (of_z w32 a) (of_z w32 b))) is_near is_sum ∙ both_added x y;
      before = λ i h. get_or-put_chunk_below at sums lanes i (pos 0) h;
      after = λ i h. get_or-put_chunk_above at sums lanes i (pos 0) (omega (arith, h, long));
    }

-- ---- every eighth step
no_entry : (hs : List ℤ) (step span place column byte : ℕ) → place < step → span ≤ column → last_group hs (groups_at step span place column) byte ≡ pos 0
no_entry hs step span place column byte inside past =
    let none : span - column ≡ 0 = omega arith in
    let e : groups_at step span place column ≡ 0 = ap (λ n. n * step + (place + 1) - step) none ∙ omega arith in
    ap (λ n. last_group hs n byte) e

zeros : (m : ℕ) → sum_below m (λ k. pos 0) ≡ pos 0
zeros zero = refl
zeros (suc m) = ap (λ z. z +ℤ pos 0) (zeros m)

sum_zeros : (m : ℕ) (f : ℕ → ℤ) → ((k : ℕ) → k < m → f k ≡ pos 0) → sum_below m f ≡ pos 0
sum_zeros m f none = sum_below_same m f (λ k. pos 0) none ∙ zeros m

no_step : (hs : List ℤ) (bytes : List ℕ) (step span u column : ℕ) → span ≤ column → step_at hs bytes step span u column ≡ pos 0
unfolding step_at
no_step hs bytes step span u column past = sum_zeros step (λ q. last_group hs (groups_at step span q column) (get_or bytes (u * step + q) 0)) (λ q h. no_entry hs step span q column (get_or bytes (u * step + q) 0) h past)

pub no_steps : (hs : List ℤ) (bytes : List ℕ) (step span s number column : ℕ) → span ≤ column → steps_sum hs bytes step span s number column ≡ pos 0
unfolding steps_sum
no_steps hs bytes step span s number column past =
    sum_zeros number (λ t. step_at hs bytes step span (8 * t + s) (column + 8 * number - 8 * (t + 1))) (λ t h. no_step hs bytes step span (8 * t + s) (column + 8 * number - 8 * (t + 1)) (omega (arith, h, past)))

pub none_yet : (hs : List ℤ) (bytes : List ℕ) (step span s column : ℕ) → steps_sum hs bytes step span s 0 column ≡ pos 0
unfolding steps_sum
none_yet hs bytes step span s column = refl

pub next_step : (hs : List ℤ) (bytes : List ℕ) (step span s number column : ℕ)
    → steps_sum hs bytes step span s number (column + 8) +ℤ step_at hs bytes step span (8 * number + s) column ≡ steps_sum hs bytes step span s (number + 1) column
unfolding steps_sum
next_step hs bytes step span s number column =
    let now : ℕ → ℤ = λ t. step_at hs bytes step span (8 * t + s) (column + 8 * (number + 1) - 8 * (t + 1)) in
    let before : ℕ → ℤ = λ t. step_at hs bytes step span (8 * t + s) (column + 8 + 8 * number - 8 * (t + 1)) in
    let same : sum_below number before ≡ sum_below number now = sum_below_same number before now (λ t h. ap (λ c. step_at hs bytes step span (8 * t + s) c) (omega arith)) in
    let last : step_at hs bytes step span (8 * number + s) column ≡ now number = ap (λ c. step_at hs bytes step span (8 * number + s) c) (omega arith) in
    ap₂ ◌+ℤ◌ same last ∙ sym (sum_next number now)

pub step_within : (u steps step long : ℕ) → u + 1 ≤ steps → steps * step ≤ long → u * step + step ≤ long
step_within u steps step long below enough = let e : (u + 1) * step ≤ steps * step = mul-le-mul_right step below in omega (arith, enough)

-- the vectors after one step more
pub near_turned : (hs : List ℤ) (bytes : List ℕ) (step span s t number : ℕ) (near down new : List (List ℤ)) → 8 * number ≤ span
    → AreNear number (λ c. steps_sum hs bytes step span s t (span - 8 * number + c)) near
    → ((f : ℕ → ℤ) → AreNear number f near → ((c : ℕ) → 8 * number ≤ c → f c ≡ pos 0) → AreNear number (λ c. f (c + 8)) down)
    → ((f : ℕ → ℤ) → AreNear number f down → AreNear number (λ c. f c +ℤ step_at hs bytes step span (8 * t + s) (span - 8 * number + c)) new)
    → AreNear number (λ c. steps_sum hs bytes step span s (t + 1) (span - 8 * number + c)) new
near_turned hs bytes step span s t number near down new fits before moves adds =
    let so_far : ℕ → ℤ = λ c. steps_sum hs bytes step span s t (span - 8 * number + c) in
    near_same (λ c. so_far (c + 8) +ℤ step_at hs bytes step span (8 * t + s) (span - 8 * number + c)) (λ c. steps_sum hs bytes step span s (t + 1) (span - 8 * number + c)) number new
    (λ c h. ap (λ m. steps_sum hs bytes step span s t m +ℤ step_at hs bytes step span (8 * t + s) (span - 8 * number + c)) (omega arith) ∙ next_step hs bytes step span s t (span - 8 * number + c))
    (adds (λ c. so_far (c + 8)) (moves so_far before (λ c h. no_steps hs bytes step span s t (span - 8 * number + c) (omega arith))))

pub turn_is : (hs : List ℤ) (bytes : List ℕ) (step span number s t l i : ℕ) → 1 ≤ number → l < 8 → i ≡ 8 * t + s + l
    → steps_sum hs bytes step span s (t + (number - 1) + 1) (span - 8 * number + (8 * 0 + l)) ≡ stride_sum hs bytes step span number s i
turn_is hs bytes step span number s t l i some below at =
    let n : t + (number - 1) + 1 ≡ (i - s) / 8 + number = omega (arith, at) in
    let c : span - 8 * number + (8 * 0 + l) ≡ span - 8 * number + (i - s) % 8 = omega (arith, at) in
    ap₂ (λ (m k : ℕ). steps_sum hs bytes step span s m k) n c

-- ---- all strides
sum_but_one : (m r : ℕ) (f g : ℕ → ℤ) (e : ℤ) → r < m → ((s : ℕ) → s < m → s ≢ r → g s ≡ f s) → g r ≡ f r +ℤ e → sum_below m g ≡ sum_below m f +ℤ e
sum_but_one zero r f g e inside same more = absurd (omega arith)
sum_but_one (suc m) r f g e inside same more = elim (cases_lt r m) [
  | inl below ↦
      let front : sum_below m g ≡ sum_below m f +ℤ e = sum_but_one m r f g e below (λ s h. same s (omega (arith, h))) more in
      let last : g m ≡ f m = same m (omega arith) (omega (arith, below)) in
      let sum : ℤ = sum_below m f in
      let value : ℤ = f m in
      let turn : (sum +ℤ e) +ℤ value ≡ (sum +ℤ value) +ℤ e = omega (arith, ints) in
      ap₂ ◌+ℤ◌ front last ∙ turn
  | inr at ↦
      let same_place : r ≡ m = omega (arith, inside, at) in
      let front : sum_below m g ≡ sum_below m f = sum_below_same m g f (λ s h. same s (omega (arith, h)) (omega (arith, h, at))) in
      let last : g m ≡ f m +ℤ e = subst (λ (k : ℕ). g k ≡ f k +ℤ e) same_place more in
      ap₂ ◌+ℤ◌ front last ∙ sym (+ℤ_assoc (sum_below m f) (f m) e)
]

-- n terms, by their places' remainders
by_turns : (m : ℕ) (f : ℕ → ℤ) → sum_below 8 (λ s. sum_below ((m + 7 - s) / 8) (λ t. f (8 * t + s))) ≡ sum_below m f
by_turns zero f = sum_zeros 8 (λ s. sum_below ((0 + 7 - s) / 8) (λ t. f (8 * t + s))) (λ s h. let none : (0 + 7 - s) / 8 ≡ 0 = omega arith in ap (λ n. sum_below n (λ t. f (8 * t + s))) none)
by_turns (suc m) f =
    let r = m % 8 in
    let before : ℕ → ℤ = λ s. sum_below ((m + 7 - s) / 8) (λ t. f (8 * t + s)) in
    let after : ℕ → ℤ = λ s. sum_below ((suc m + 7 - s) / 8) (λ t. f (8 * t + s)) in
    let number : (suc m + 7 - r) / 8 ≡ (m + 7 - r) / 8 + 1 = omega arith in
    let place : 8 * ((m + 7 - r) / 8) + r ≡ m = omega arith in
    sum_but_one 8 r before after (f m) (omega arith)
    (λ s h other. let same : (suc m + 7 - s) / 8 ≡ (m + 7 - s) / 8 = omega (arith, h, other) in ap (λ n. sum_below n (λ t. f (8 * t + s))) same)
    (ap (λ n. sum_below n (λ t. f (8 * t + r))) number ∙ sum_next ((m + 7 - r) / 8) (λ t. f (8 * t + r)) ∙ ap (λ n. before r +ℤ f n) place)
    ∙ ap (λ z. z +ℤ f m) (by_turns m f)

-- a step in the sum of a window
module _ (hs : List ℤ) (bytes : List ℕ) (step span j u : ℕ) (reached : u < j + span) (within : (u + 1) * step ≤ length bytes) where
  step_so_far : (m : ℕ) → m ≤ step → sum_before hs bytes step (u * step) j +ℤ sum_below m (λ q. last_group hs (groups_at step span q (j + span - (u + 1))) (get_or bytes (u * step + q) 0)) ≡ sum_before hs bytes step (u * step + m) j
  unfolding entry_of
  step_so_far zero h =
      let sum : ℤ = sum_before hs bytes step (u * step) j in
      let same : sum +ℤ pos 0 ≡ sum = omega (arith, ints) in
      let here : u * step ≡ u * step + 0 = omega arith in
      same ∙ ap (λ p. sum_before hs bytes step p j) here
  step_so_far (suc m) h =
      let p = u * step + m in
      let entry : ℕ → ℤ = λ q. last_group hs (groups_at step span q (j + span - (u + 1))) (get_or bytes (u * step + q) 0) in
      let spot : IsSpot step p u m = record { at = refl; inside = omega (arith, h) } in
      let is : entry m ≡ entry_of hs bytes step p j = ap (λ n. last_group hs n (get_or bytes p 0)) (ends_groups step span p u m j spot reached) in
      let next : p + 1 ≡ u * step + suc m = omega arith in
      sym (+ℤ_assoc (sum_before hs bytes step (u * step) j) (sum_below m entry) (entry m))
      ∙ ap₂ ◌+ℤ◌ (step_so_far m (omega (arith, h))) is
      ∙ next_sum hs bytes step p j (omega (arith, within, h))
      ∙ ap (λ n. sum_before hs bytes step n j) next

  pub whole_step_added : sum_before hs bytes step (u * step) j +ℤ step_at hs bytes step span u (j + span - (u + 1)) ≡ sum_before hs bytes step ((u + 1) * step) j
  unfolding step_at
  whole_step_added = step_so_far step (omega arith) ∙ ap (λ p. sum_before hs bytes step p j) (omega arith)

-- n steps
steps_before : (hs : List ℤ) (bytes : List ℕ) (step span j u : ℕ) → u ≤ j + span → u * step ≤ length bytes → sum_below u (λ i. step_at hs bytes step span i (j + span - (i + 1))) ≡ sum_before hs bytes step (u * step) j
steps_before hs bytes step span j zero reached within = sym (ap (λ p. sum_before hs bytes step p j) (omega arith) ∙ none_before hs bytes step j)
steps_before hs bytes step span j (suc u) reached within =
    let here : (u + 1) * step ≤ length bytes = omega (arith, within) in
    let next : (u + 1) * step ≡ suc u * step = omega arith in
    ap (λ z. z +ℤ step_at hs bytes step span u (j + span - (u + 1))) (steps_before hs bytes step span j u (omega (arith, reached)) (omega (arith, here)))
    ∙ whole_step_added hs bytes step span j u (omega (arith, reached)) here
    ∙ ap (λ p. sum_before hs bytes step p j) next

-- a stride, by its steps
turn_steps : (hs : List ℤ) (bytes : List ℕ) (step span number j s : ℕ) → 8 * number ≤ span → s < 8
    → stride_sum hs bytes step span number s (j + 7) ≡ sum_below ((j + 8 * number + 7 - s) / 8) (λ t. step_at hs bytes step span (8 * t + s) (j + span - (8 * t + s + 1)))
unfolding steps_sum
turn_steps hs bytes step span number j s fits below =
    let n : (j + 7 - s) / 8 + number ≡ (j + 8 * number + 7 - s) / 8 = omega arith in
    sum_below_same ((j + 7 - s) / 8 + number) (λ t. step_at hs bytes step span (8 * t + s) (span - 8 * number + (j + 7 - s) % 8 + 8 * ((j + 7 - s) / 8 + number) - 8 * (t + 1))) (λ t. step_at hs bytes step span (8 * t + s) (j + span - (8 * t + s + 1)))
    (λ t h. ap (λ c. step_at hs bytes step span (8 * t + s) c) (omega (arith, fits, below)))
    ∙ ap (λ m. sum_below m (λ t. step_at hs bytes step span (8 * t + s) (j + span - (8 * t + s + 1)))) n

pub all_turns : (hs : List ℤ) (bytes : List ℕ) (step span number j : ℕ) → 8 * number ≤ span → (j + 8 * number) * step ≤ length bytes → length hs % 8 ≡ 0 → length hs / 8 ≤ 8 * number * step
    → sum_below 8 (λ s. stride_sum hs bytes step span number s (j + 7)) ≡ window_sum hs bytes (j * step)
all_turns hs bytes step span number j fits within whole wide =
    let steps : ℕ → ℤ = λ u. step_at hs bytes step span u (j + span - (u + 1)) in
    sum_below_same 8 (λ s. stride_sum hs bytes step span number s (j + 7)) (λ s. sum_below ((j + 8 * number + 7 - s) / 8) (λ t. steps (8 * t + s))) (λ s h. turn_steps hs bytes step span number j s fits h)
    ∙ by_turns (j + 8 * number) steps
    ∙ steps_before hs bytes step span j (j + 8 * number) (omega (arith, fits)) within
    ∙ whole_window hs bytes step ((j + 8 * number) * step) j whole (omega (arith, wide))

pub all_turns_fit : (hs : List ℤ) (bytes : List ℕ) (step span number j : ℕ) → 8 * number ≤ span → (j + 8 * number) * step ≤ length bytes → length hs % 8 ≡ 0 → length hs / 8 ≤ 8 * number * step → sum_by unsigned_abs hs ≤ 2 ^ 30
    → int_wrap w32 (sum_below 8 (λ s. stride_sum hs bytes step span number s (j + 7))) ≡ window_sum hs bytes (j * step)
all_turns_fit hs bytes step span number j fits within whole wide small =
    ap (int_wrap w32) (all_turns hs bytes step span number j fits within whole wide)
    ∙ int_wrap_fits w32 (window_sum hs bytes (j * step)) (fits_signed_from_abs w32 (window_sum hs bytes (j * step)) (omega (arith, small, dot_bound hs (bits_of (drop (j * step) bytes)))))

pub reach_within : (j number eights step long : ℕ) → j + 15 < 8 * eights → (8 * (eights + number) - 16) * step ≤ long → (j + 8 * number) * step ≤ long
reach_within j number eights step long below enough = let e : (j + 8 * number) * step ≤ (8 * (eights + number) - 16) * step = mul-le-mul_right step (omega (arith, below)) in omega (arith, enough)

-- ---- windows in two parts
pub many_follow : (front many few left steps number most tile : ℕ) → front ≡ many → left ≡ steps - (8 * number + 7) → few ≡ min left most → many ≡ min few tile → many ≢ 0 → front + 8 * number + 7 ≤ steps
many_follow front many few left steps number most tile is l f m some = omega arith

pub steps_within : (many number steps step long : ℕ) → steps ≡ long / step → many + 8 * number + 7 ≤ steps → (many + 8 * number + 7) * step ≤ long
steps_within many number steps step long is few =
    let e : (many + 8 * number + 7) * step ≤ steps * step = mul-le-mul_right step few in
    let whole : steps * step ≤ long = rw is (div-mul-le_self long step) in
    omega arith

pub sums_joined : (hs : List ℤ) (bytes : List ℕ) (step m k : ℕ) (front back : List ℤ) → front ≡ window_sums hs bytes step m → length back ≡ k → ((i : ℕ) → i < k → get_or back i (pos 0) ≡ window_sum hs (drop (m * step) bytes) (i * step))
    → front ++ back ≡ window_sums hs bytes step (m + k)
sums_joined hs bytes step m k front back is_prefix long_back each =
    let long : length front ≡ m = ap length is_prefix ∙ length-sums hs bytes step m in
    fill_by_all (λ i. window_sum hs bytes (i * step)) (front ++ back) (m + k) (pos 0)
    (length-append front back ∙ ap₂ ◌+◌ long long_back)
    (λ i h. elim (cases_lt i m) [
      | inl below ↦
          get_or_append_left front back (pos 0) i (omega (arith, long)) ∙ ap (λ xs. get_or xs i (pos 0)) is_prefix ∙ get_or-map-range_with_len (λ j. window_sum hs bytes (j * step)) 0 m i i (pos 0) below (omega arith)
      | inr past ↦
          let place : m * step + (i - m) * step ≡ i * step = (let e : m + (i - m) ≡ i = omega arith in let f = ap (λ (x : ℕ). x * step) e in omega arith) in
          get_or-append_right front back i (pos 0) (omega (arith, long)) ∙ ap (λ j. get_or back (i - j) (pos 0)) long ∙ each (i - m) (omega arith)
          ∙ ap (λ bs. dot hs (bits_of bs)) (drop-drop ((i - m) * step) (m * step) bytes) ∙ ap (λ n. window_sum hs bytes n) place
    ])

-- how many eights of windows the bytes of a step reach
pub eights_cover : (size step number : ℕ) → 1 ≤ step → number ≡ div_ceil (div_ceil size step) 8 → size ≤ 8 * number * step
eights_cover size step number some is =
    let steps = div_ceil size step in
    let whole : size ≤ steps * step = (div_ceil_times size step some).0 in
    let more : steps * step ≤ (8 * number) * step = mul-le-mul_right step (omega (arith, is)) in
    omega (arith, whole, more)

pub eights_fit : (size step span number : ℕ) → 1 ≤ step → size ≤ span * step → span % 8 ≡ 0 → number ≡ div_ceil (div_ceil size step) 8 → 8 * number ≤ span
eights_fit size step span number some wide eights is =
    elim (cases_lt span (div_ceil size step)) [
      | inl less ↦ absurd (omega (arith, below_ceil span size step some less, wide))
      | inr enough ↦ omega (arith, is, eights, enough)
    ]

pub few_eights : (size step number : ℕ) → 1 ≤ step → size ≤ 513 → number ≡ div_ceil (div_ceil size step) 8 → number ≤ 128
few_eights size step number some few is =
    elim (cases_lt 513 (div_ceil size step)) [
      | inl more ↦ absurd (omega (arith, below_ceil 513 size step some more, mul-le 513 1 513 step (omega arith) some, few))
      | inr less ↦ omega (arith, is, less)
    ]

pub some_eights : (size step number : ℕ) → 1 ≤ step → 1 ≤ size → number ≡ div_ceil (div_ceil size step) 8 → 1 ≤ number
some_eights size step number some least is =
    elim (cases_lt 0 number) [
      | inl more ↦ omega (arith, more)
      | inr none ↦ let zero : number ≡ 0 = omega (arith, none) in absurd (omega (arith, eights_cover size step number some is, ap (λ m. 8 * m * step) zero, least))
    ]
