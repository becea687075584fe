-- Laws of sums of products.
use Rattle.std.proofs.Common.{[], ◌∷◌, ◌≡◌, ◌+◌, ◌-◌, ◌*◌, ◌<◌, ◌≤◌, ◌^◌, ℕ, zero, suc, List, ℤ, pos, ◌+ℤ◌, ◌*ℤ◌, length, take, drop, get_or, reverse, unsigned_abs, sum_by, refl, ap, ap₂, sym, ◌∙◌, arith, add-one, subst, to_z, of_z, w64, FitsSigned}
use Rattle.std.specs.List.{All}
use Rattle.std.proofs.Math.Nat.{mul-le-mul_left}
use Rattle.std.proofs.lemmas.Int.{fits_signed_from_abs, ints, to_z-of_z, unsigned_abs-mul}
use Rattle.std.proofs.lemmas.List.{drop-drop, drop-take, reverse-append, take-take, take_rest}
use Rattle.std.proofs.lemmas.List.Elements.{All-from_get_or, All-get_or, All-head, All-tail}
use Rattle.std.proofs.lemmas.List.Sums.{get_or-le-sum_by, sum_by-append, sum_by-cons, sum_by-take-le}
use Rattle.dsd_bits.proofs.SumLaws.{abs_add}
use Rattle.heard_core.specs.Products.{IsSmall, dot}

pub dot_none : (xs : List ℤ) → dot xs [] ≡ pos 0
dot_none [] = refl
dot_none (x ∷ xs) = refl

-- the sum in two parts
pub dot_split : (m : ℕ) (xs ys : List ℤ) → dot xs ys ≡ dot (take m xs) ys +ℤ dot (drop m xs) (drop m ys)
dot_split zero xs ys = omega (arith, ints)
dot_split (suc m) [] ys = refl
dot_split (suc m) (x ∷ xs) [] = omega (arith, ints, dot_none (drop m xs))
dot_split (suc m) (x ∷ xs) (y ∷ ys) = omega (arith, ints, dot_split m xs ys)

-- what follows the first list's length isn't read
pub dot_prefix : (xs ys : List ℤ) → dot xs ys ≡ dot xs (take (length xs) ys)
dot_prefix [] ys = refl
dot_prefix (x ∷ xs) [] = refl
dot_prefix (x ∷ xs) (y ∷ ys) = ap (λ z. x *ℤ y +ℤ z) (dot_prefix xs ys)

-- one product more
pub dot_more : (xs ys : List ℤ) (k : ℕ) → k < length xs → k < length ys → dot (take (k + 1) xs) ys ≡ dot (take k xs) ys +ℤ get_or xs k (pos 0) *ℤ get_or ys k (pos 0)
dot_more [] ys k l m = absurd (omega arith)
dot_more (x ∷ xs) [] k l m = absurd (omega arith)
dot_more (x ∷ xs) (y ∷ ys) zero l m = omega (arith, ints)
dot_more (x ∷ xs) (y ∷ ys) (suc k) l m = let e = rw add-one at (dot_more xs ys k (omega arith) (omega arith)) in rw add-one (omega (arith, ints, e))

-- ---- in absolute value
pub abs_product : (x y : ℤ) → IsSmall y → unsigned_abs (x *ℤ y) ≤ unsigned_abs x * 2147483647
abs_product x y small = rw (unsigned_abs-mul x y) (mul-le-mul_left (unsigned_abs x) (omega arith))

pub dot_bound : (xs ys : List ℤ) → All IsSmall ys → unsigned_abs (dot xs ys) ≤ sum_by unsigned_abs xs * 2147483647
dot_bound [] ys small = omega arith
dot_bound (x ∷ xs) [] small = omega arith
dot_bound (x ∷ xs) (y ∷ ys) small =
    let rest = dot_bound xs ys (All-tail IsSmall y ys small) in
    let one = abs_product x y (All-head IsSmall y ys small) in
    omega (arith, one, rest, abs_add (x *ℤ y) (dot xs ys), sum_by-cons unsigned_abs x xs)

-- a window is the rest of the errors from its first place on
pub dot_rest : (xs : List ℤ) (p : ℕ) (ys : List ℤ) → dot xs (take (length ys - p) (drop p ys)) ≡ dot xs (drop p ys)
dot_rest xs p ys = ap (dot xs) (take_rest ys p)

pub small_tap : (xs : List ℤ) (k : ℕ) → sum_by unsigned_abs xs < 2 ^ 31 → k < length xs → IsSmall (get_or xs k (pos 0))
small_tap xs k small below = omega (arith, get_or-le-sum_by unsigned_abs xs k (pos 0) below)

-- each partial sum is below 2 ^ 62
pub dot_take_small : (xs ys : List ℤ) (k : ℕ) → sum_by unsigned_abs xs < 2 ^ 31 → All IsSmall ys → unsigned_abs (dot (take k xs) ys) < 2 ^ 62
dot_take_small xs ys k small small_ys = omega (arith, dot_bound (take k xs) ys small_ys, sum_by-take-le unsigned_abs xs k)

pub dot_small : (xs ys : List ℤ) → sum_by unsigned_abs xs < 2 ^ 31 → All IsSmall ys → unsigned_abs (dot xs ys) < 2 ^ 62
dot_small xs ys small small_ys = omega (arith, dot_bound xs ys small_ys)

-- ---- tap by tap
pub fits_wide : (z : ℤ) → unsigned_abs z < 2 ^ 62 → FitsSigned w64 z
fits_wide z small = fits_signed_from_abs w64 z (omega arith)

pub wide_back : (z : ℤ) → unsigned_abs z < 2 ^ 62 → to_z w64 (of_z w64 z) ≡ z
wide_back z small = to_z-of_z w64 z (fits_wide z small)

product_small : (x y : ℤ) → IsSmall x → IsSmall y → unsigned_abs (x *ℤ y) < 2 ^ 62
product_small x y small_x small_y = omega (arith, abs_product x y small_y)

-- one step of the loop that adds the products
module _ (xs ys : List ℤ) (k : ℕ) (s : ℤ) (small_xs : sum_by unsigned_abs xs < 2 ^ 31) (small_ys : All IsSmall ys) (below : k < length xs) (room : length xs ≤ length ys) (so_far : s ≡ dot (take k xs) ys) where
  abbrev x : ℤ
  x = get_or xs k (pos 0)

  abbrev y : ℤ
  y = get_or ys k (pos 0)

  small_x : IsSmall x
  small_x = small_tap xs k small_xs below

  small_y : IsSmall y
  small_y = All-get_or IsSmall ys k (pos 0) (omega arith) small_ys

  product_is : to_z w64 (of_z w64 x) *ℤ to_z w64 (of_z w64 y) ≡ x *ℤ y
  product_is = ap₂ ◌*ℤ◌ (wide_back x (omega (arith, small_x))) (wide_back y (omega (arith, small_y)))

  pub product_fits : FitsSigned w64 (to_z w64 (of_z w64 x) *ℤ to_z w64 (of_z w64 y))
  product_fits = subst (FitsSigned w64) (sym product_is) (fits_wide _ (product_small x y small_x small_y))

  sum_is : s +ℤ to_z w64 (of_z w64 (to_z w64 (of_z w64 x) *ℤ to_z w64 (of_z w64 y))) ≡ dot (take (k + 1) xs) ys
  sum_is = ap₂ ◌+ℤ◌ so_far (ap (λ z. to_z w64 (of_z w64 z)) product_is ∙ wide_back _ (product_small x y small_x small_y)) ∙ sym (dot_more xs ys k below (omega arith))

  pub sum_fits : FitsSigned w64 (s +ℤ to_z w64 (of_z w64 (to_z w64 (of_z w64 x) *ℤ to_z w64 (of_z w64 y))))
  sum_fits = subst (FitsSigned w64) (sym sum_is) (fits_wide (dot (take (k + 1) xs) ys) (dot_take_small xs ys (k + 1) small_xs small_ys))

  pub next_sum : to_z w64 (of_z w64 (s +ℤ to_z w64 (of_z w64 (to_z w64 (of_z w64 x) *ℤ to_z w64 (of_z w64 y))))) ≡ dot (take (k + 1) xs) ys
  next_sum = to_z-of_z w64 _ sum_fits ∙ sum_is

-- ---- windows
-- the first products of a window, and the rest of them
pub window_parts : (xs ys : List ℤ) (m p : ℕ) → dot xs (drop p ys) ≡ dot (take m xs) (drop p ys) +ℤ dot (take (length xs - m) (drop m xs)) (take (length ys - (p + m)) (drop (p + m) ys))
window_parts xs ys m p =
    dot_split m xs (drop p ys) ∙ (λ i. dot (take m xs) (drop p ys) +ℤ dot (sym (take_rest xs m) i) ((drop-drop m p ys ∙ sym (take_rest ys (p + m))) i))

-- the products of four taps more
pub window_group : (xs ys : List ℤ) (i p : ℕ)
    → dot (take (4 * (i + 1)) xs) (drop p ys) ≡ dot (take (4 * i) xs) (drop p ys) +ℤ dot (take 4 (take (length xs - 4 * i) (drop (4 * i) xs))) (drop p (take (length ys - 4 * i) (drop (4 * i) ys)))
window_group xs ys i p =
    let m = 4 * i in
    let next : 4 * (i + 1) ≡ m + 4 = omega arith in
    let turned : p + m ≡ m + p = omega arith in
    ap (λ n. dot (take n xs) (drop p ys)) next
    ∙ dot_split m (take (m + 4) xs) (drop p ys)
    ∙ (λ j. dot (take-take m (m + 4) xs (omega arith) j) (drop p ys)
    +ℤ dot ((drop-take m 4 xs ∙ ap (take 4) (sym (take_rest xs m))) j) ((drop-drop m p ys ∙ ap (λ n. drop n ys) turned ∙ sym (drop-drop p m ys) ∙ ap (drop p) (sym (take_rest ys m))) j))

pub small_taps : (xs : List ℤ) → sum_by unsigned_abs xs < 2 ^ 31 → All IsSmall xs
small_taps xs small = All-from_get_or IsSmall xs (pos 0) (λ i l. small_tap xs i small l)

pub abs_sum_turned : (xs : List ℤ) → sum_by unsigned_abs (reverse xs) ≡ sum_by unsigned_abs xs
abs_sum_turned [] = refl
abs_sum_turned (x ∷ xs) =
    ap (sum_by unsigned_abs) (reverse-append (x ∷ []) xs) ∙ sum_by-append unsigned_abs (reverse xs) (reverse (x ∷ []))
    ∙ omega (arith, abs_sum_turned xs, sum_by-cons unsigned_abs x xs, sum_by-cons unsigned_abs x [])
