-- Parts of lists.
use Rattle.std.proofs.Common.{◌≡◌, ℕ, zero, suc, ◌+◌, ◌-◌, ◌<◌, ◌≤◌, min, Bool, false, List, [], ◌∷◌, ◌++◌, length, get_or, slice_range, take, drop, get_or-take, get_or-drop, length-drop, length-take, sym, ap, ◌∙◌, arith}
use Rattle.std.proofs.lemmas.List.{ext_get_or}
use Rattle.cost_core.proofs.Chunks.{take_two}

pub length-slice : (xs : List Bool) (s t : ℕ) → length (slice_range xs s t) ≡ min (t - s) (length xs - s)
length-slice xs s t = omega (arith, length-take (t - s) (drop s xs), length-drop s xs)

-- a bit of a part
pub slice_at : (xs : List Bool) (s t i : ℕ) → i < t - s → get_or (slice_range xs s t) i false ≡ get_or xs (s + i) false
slice_at xs s t i lt = get_or-take (t - s) (drop s xs) i false lt ∙ get_or-drop s xs i false

-- what is taken of lists that are appended
take_both : (n : ℕ) (xs ys : List Bool) → take n (xs ++ ys) ≡ take n xs ++ take (n - length xs) ys
take_both zero xs ys = let none : 0 ≡ 0 - length xs = omega arith in ap (λ k. take k ys) none
take_both (suc n) [] ys = let all : suc n ≡ suc n - 0 = omega arith in ap (λ k. take k ys) all
take_both (suc n) (x ∷ xs) ys = let less : n - length xs ≡ suc n - suc (length xs) = omega arith in ap (λ l. x ∷ l) (take_both n xs ys ∙ ap (λ k. take n xs ++ take k ys) less)

drop_both : (n : ℕ) (xs ys : List Bool) → drop n (xs ++ ys) ≡ drop n xs ++ drop (n - length xs) ys
drop_both zero xs ys = let none : 0 ≡ 0 - length xs = omega arith in ap (λ k. xs ++ drop k ys) none
drop_both (suc n) [] ys = let all : suc n ≡ suc n - 0 = omega arith in ap (λ k. drop k ys) all
drop_both (suc n) (x ∷ xs) ys = let less : n - length xs ≡ suc n - suc (length xs) = omega arith in drop_both n xs ys ∙ ap (λ k. drop n xs ++ drop k ys) less

-- a part of lists that are appended
pub slice-append : (xs ys : List Bool) (s t : ℕ) → slice_range (xs ++ ys) s t ≡ slice_range xs s t ++ slice_range ys (s - length xs) (t - length xs)
slice-append xs ys s t =
    let rest = drop (s - length xs) ys in
    let many : t - s - length (drop s xs) ≡ t - length xs - (s - length xs) = omega (arith, length-drop s xs) in
    ap (take (t - s)) (drop_both s xs ys) ∙ take_both (t - s) (drop s xs) rest ∙ ap (λ k. slice_range xs s t ++ take k rest) many

-- a part of a part
pub slice-slice : (xs : List Bool) (a b s t : ℕ) → a ≤ b → b ≤ length xs → slice_range xs (a + min s (min t (b - a))) (a + min t (b - a)) ≡ slice_range (slice_range xs a b) s t
slice-slice xs a b s t order inside =
    let first = a + min s (min t (b - a)) in
    let last = a + min t (b - a) in
    let piece = slice_range xs a b in
    let lp = length-slice xs a b in
    let ll = length-slice piece s t in
    let lr = length-slice xs first last in
    ext_get_or false _ _ (omega (arith, lp, ll, lr)) (λ i lt.
    let k : i < last - first = omega (arith, lr) in
    let j : i < t - s = omega (arith, lr) in
    let in_piece : s + i < b - a = omega (arith, lr) in
    let place : first + i ≡ a + (s + i) = omega (arith, lr) in
    slice_at xs first last i k ∙ ap (λ m. get_or xs m false) place ∙ sym (slice_at xs a b (s + i) in_piece) ∙ sym (slice_at piece s t i j))

-- all of a list
pub slice_all : (xs : List Bool) → slice_range xs 0 (length xs) ≡ xs
slice_all xs =
    let l = length-slice xs 0 (length xs) in
    ext_get_or false _ _ (omega (arith, l)) (λ i lt. (let inside : i < length xs - 0 = omega (arith, l) in let e : 0 + i ≡ i = omega arith in slice_at xs 0 (length xs) i inside ∙ ap (λ m. get_or xs m false) e))

-- a prefix, and what follows it
pub slice_join : (xs : List Bool) (s t : ℕ) → s ≤ t → slice_range xs 0 t ≡ slice_range xs 0 s ++ slice_range xs s t
slice_join xs s t order =
    let all : t - 0 ≡ s - 0 + (t - s) = omega (arith, order) in
    let at : s - 0 ≡ s = omega arith in
    ap (λ n. take n xs) all ∙ take_two (s - 0) (t - s) xs ∙ ap (λ k. take (s - 0) xs ++ take (t - s) (drop k xs)) at
