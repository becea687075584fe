-- Sums of lanes that wrap: the sum of all lanes stays right at 32 bits.
use Rattle.std.proofs.Common.{[], ◌∷◌, ◌≡◌, ◌+◌, ◌%◌, ◌<◌, ◌≤◌, ◌^◌, length, length-drop, get_or, take, drop, unsigned_abs, ℕ, List, ℤ, pos, negsuc, suc, zero, true, false, ◌+ℤ◌, to_z, of_z, map, Bool, refl, ap, sym, ◌∙◌, arith, w32}
use mir.Val.{SFits}
use Rattle.std.proofs.Math.Facts.{sfits_to_z}
use Rattle.std.specs.Int.{int_wrap}
use Rattle.std.specs.Simd.Lanes.{Each1, zip2, fold_l}
use Rattle.std.proofs.lemmas.Int.{ints, of_z-to_z, to_z-of_z, wrapping_add_onto, fits_signed_from_abs, wrapping_add-bits, int_wrap-add_left, int_wrap-add_same, int_wrap_fits}
use Rattle.std.proofs.lemmas.List.{get_or-drop, get_or-map, get_or-take, length-map, length-take-le}
use Rattle.std.proofs.lemmas.Simd.{get_or-zip2, length-zip2}
use Rattle.fir_core.specs.Signed.{signed, dot}

abbrev pub wrap_add : ℕ → ℕ → ℕ
wrap_add a b = (a + b) % 2 ^ 32

-- the sum of the lanes as signed numbers
abbrev pub lanes_sum : List ℕ → ℤ
lanes_sum [] = pos 0
lanes_sum (x ∷ xs) = to_z w32 x +ℤ lanes_sum xs

abbrev pub AllFit : List ℕ → Type 0
AllFit = Each1 (λ x. x < 2 ^ 32)

-- lane by lane
pub added : (xs ys : List ℕ) → length xs ≡ length ys → AllFit xs → AllFit ys
    → int_wrap w32 (lanes_sum (zip2 wrap_add xs ys)) ≡ int_wrap w32 (lanes_sum xs +ℤ lanes_sum ys)
added [] [] l f g = refl
added [] (y ∷ ys) l f g = absurd (omega arith)
added (x ∷ xs) [] l f g = absurd (omega arith)
added (x ∷ xs) (y ∷ ys) l f g =
    let tx : ℤ = to_z w32 x in
    let ty : ℤ = to_z w32 y in
    let sx : ℤ = lanes_sum xs in
    let sy : ℤ = lanes_sum ys in
    let sz : ℤ = lanes_sum (zip2 wrap_add xs ys) in
    let swap : (tx +ℤ ty) +ℤ sz ≡ sz +ℤ (tx +ℤ ty) = omega (arith, ints) in
    let join : (sx +ℤ sy) +ℤ (tx +ℤ ty) ≡ (tx +ℤ sx) +ℤ (ty +ℤ sy) = omega (arith, ints) in
    ap (λ z. int_wrap w32 (z +ℤ sz)) (wrapping_add-bits w32 x y f.0 g.0)
    ∙ int_wrap-add_left w32 (tx +ℤ ty) sz
    ∙ ap (int_wrap w32) swap
    ∙ int_wrap-add_same w32 sz (sx +ℤ sy) (tx +ℤ ty) (added xs ys (omega arith) f.1 g.1)
    ∙ ap (int_wrap w32) join

pub added_fit : (xs ys : List ℕ) → length xs ≡ length ys → AllFit (zip2 wrap_add xs ys) × (length (zip2 wrap_add xs ys) ≡ length xs)
added_fit [] [] l = (tt, refl)
added_fit [] (y ∷ ys) l = absurd (omega arith)
added_fit (x ∷ xs) [] l = absurd (omega arith)
added_fit (x ∷ xs) (y ∷ ys) l = let r = added_fit xs ys (omega arith) in ((omega arith, r.0), omega (arith, r.1))

-- `reduce_sum`
pub folded : (a : ℕ) (xs : List ℕ) → a < 2 ^ 32 → AllFit xs → to_z w32 (fold_l wrap_add a xs) ≡ int_wrap w32 (to_z w32 a +ℤ lanes_sum xs)
folded a [] l f =
    let e : to_z w32 a ≡ to_z w32 a +ℤ pos 0 = omega (arith, ints) in
    sym (int_wrap_fits w32 (to_z w32 a) (sfits_to_z (record { fits = l }))) ∙ ap (int_wrap w32) e
folded a (x ∷ xs) l f =
    let ta : ℤ = to_z w32 a in
    let tx : ℤ = to_z w32 x in
    let s : ℤ = lanes_sum xs in
    let join : (ta +ℤ tx) +ℤ s ≡ ta +ℤ (tx +ℤ s) = omega (arith, ints) in
    folded (wrap_add a x) xs (omega arith) f.1
    ∙ ap (λ z. int_wrap w32 (z +ℤ s)) (wrapping_add-bits w32 a x l f.0)
    ∙ int_wrap-add_left w32 (ta +ℤ tx) s
    ∙ ap (int_wrap w32) join

abbrev Small : List ℤ → Type 0
Small = Each1 (λ h. unsigned_abs h ≤ 1073741824)

small_signed : (b : Bool) (h : ℤ) → unsigned_abs h ≤ 1073741824 → SFits w32 (signed b h) × (of_z w32 (signed b h) < 2 ^ 32)
small_signed true (pos n) s = (fits_signed_from_abs w32 _ (omega arith), omega arith)
small_signed true (negsuc n) s = (fits_signed_from_abs w32 _ (omega arith), omega arith)
small_signed false (pos zero) s = (fits_signed_from_abs w32 _ (omega arith), omega arith)
small_signed false (pos (suc n)) s = (fits_signed_from_abs w32 _ (omega arith), omega arith)
small_signed false (negsuc n) s = (fits_signed_from_abs w32 _ (omega arith), omega arith)

-- what a byte's lanes add up to
pub byte_sum : (bs : List Bool) (hs : List ℤ) → length bs ≡ length hs → Small hs
    → (lanes_sum (map (of_z w32) (zip2 signed bs hs)) ≡ dot hs bs) × AllFit (map (of_z w32) (zip2 signed bs hs)) × (length (map (of_z w32) (zip2 signed bs hs)) ≡ length hs)
byte_sum [] [] l s = (refl, tt, refl)
byte_sum [] (h ∷ hs) l s = absurd (omega arith)
byte_sum (b ∷ bs) [] l s = absurd (omega arith)
byte_sum (b ∷ bs) (h ∷ hs) l s =
    let r = byte_sum bs hs (omega arith) s.1 in
    let one = small_signed b h s.0 in
    (λ i. to_z-of_z w32 (signed b h) one.0 i +ℤ r.0 i, (one.1, r.1), omega (arith, r.2))

-- ---- eight lanes to which eight numbers of a list are added
module _ (xs : List ℕ) (ys : List ℤ) (k : ℕ) (eight : length xs ≡ 8) (within : k + 8 ≤ length ys) where
  long_part : length (map (of_z w32) (take 8 (drop k ys))) ≡ 8
  long_part = length-map (take 8 (drop k ys)) (of_z w32) ∙ length-take-le 8 (drop k ys) (omega (arith, length-drop k ys))

  pub length-lanes : length (zip2 wrap_add xs (map (of_z w32) (take 8 (drop k ys)))) ≡ 8
  length-lanes = length-zip2 wrap_add xs (map (of_z w32) (take 8 (drop k ys))) (eight ∙ sym long_part) ∙ eight

  pub lane_is : (l : ℕ) → l < 8 → get_or (zip2 wrap_add xs (map (of_z w32) (take 8 (drop k ys)))) l 0 ≡ wrap_add (get_or xs l 0) (of_z w32 (get_or ys (k + l) (pos 0)))
  lane_is l h =
      get_or-zip2 wrap_add xs (map (of_z w32) (take 8 (drop k ys))) l 0 0 0 (omega (arith, eight)) (omega (arith, long_part))
      ∙ ap (wrap_add (get_or xs l 0)) (get_or-map (of_z w32) (take 8 (drop k ys)) l (pos 0) 0 (omega (arith, length-take-le 8 (drop k ys) (omega (arith, length-drop k ys))))
      ∙ ap (of_z w32) (get_or-take 8 (drop k ys) l (pos 0) h ∙ get_or-drop k ys l (pos 0)))

-- the same for numbers
module _ (xs ys : List ℤ) (k : ℕ) (eight : length xs ≡ 8) (within : k + 8 ≤ length ys) where
  long_words : length (map (of_z w32) xs) ≡ 8
  long_words = length-map xs (of_z w32) ∙ eight

  pub length-numbers : length (map (to_z w32) (zip2 wrap_add (map (of_z w32) xs) (map (of_z w32) (take 8 (drop k ys))))) ≡ 8
  length-numbers = length-map (zip2 wrap_add (map (of_z w32) xs) (map (of_z w32) (take 8 (drop k ys)))) (to_z w32) ∙ length-lanes (map (of_z w32) xs) ys k long_words within

  pub number_is : (l : ℕ) → l < 8 → get_or (map (to_z w32) (zip2 wrap_add (map (of_z w32) xs) (map (of_z w32) (take 8 (drop k ys))))) l (pos 0) ≡ to_z w32 (wrap_add (of_z w32 (get_or xs l (pos 0))) (of_z w32 (get_or ys (k + l) (pos 0))))
  number_is l h =
      get_or-map (to_z w32) (zip2 wrap_add (map (of_z w32) xs) (map (of_z w32) (take 8 (drop k ys)))) l 0 (pos 0) (omega (arith, h, length-lanes (map (of_z w32) xs) ys k long_words within))
      ∙ ap (to_z w32) (lane_is (map (of_z w32) xs) ys k long_words within l h ∙ ap (λ n. wrap_add n (of_z w32 (get_or ys (k + l) (pos 0)))) (get_or-map (of_z w32) xs l (pos 0) 0 (omega (arith, h, eight))))

-- eight lanes that hold f's values from j on
pub record AreLanes (f : ℕ → ℤ) (j : ℕ) (lanes : List ℕ) : Type 0 where
  pub long : length lanes ≡ 8
  pub each : (l : ℕ) → l < 8 → get_or lanes l 0 ≡ of_z w32 (f (j + l))

pub lanes_from : (f : ℕ → ℤ) (j : ℕ) (xs : List ℤ) → j + 8 ≤ length xs → ((k : ℕ) → j ≤ k → k < length xs → get_or xs k (pos 0) ≡ f k) → AreLanes f j (map (of_z w32) (take 8 (drop j xs)))
lanes_from f j xs within each =
    let long : length (take 8 (drop j xs)) ≡ 8 = length-take-le 8 (drop j xs) (omega (arith, length-drop j xs)) in
    record {
      long = length-map (take 8 (drop j xs)) (of_z w32) ∙ long;
      each = λ l h. get_or-map (of_z w32) (take 8 (drop j xs)) l (pos 0) 0 (omega (arith, h, long)) ∙ ap (of_z w32) (get_or-take 8 (drop j xs) l (pos 0) h ∙ get_or-drop j xs l (pos 0) ∙ each (j + l) (omega arith) (omega (arith, h)));
    }

of_z_small : (x : ℤ) → unsigned_abs x ≤ 2 ^ 30 → of_z w32 x < 2 ^ 32
of_z_small (pos n) small = omega arith
of_z_small (negsuc n) small = omega arith

-- two words whose sum is small
pub words_added : (x y : ℤ) → unsigned_abs x ≤ 2 ^ 30 → unsigned_abs y ≤ 2 ^ 30 → unsigned_abs (x +ℤ y) ≤ 2 ^ 30 → wrap_add (of_z w32 x) (of_z w32 y) ≡ of_z w32 (x +ℤ y)
words_added x y small_x small_y small =
    sym (of_z-to_z w32 (wrap_add (of_z w32 x) (of_z w32 y)) (omega arith))
    ∙ ap (of_z w32) (wrapping_add_onto w32 (of_z w32 x) y (of_z_small x small_x) (fits_signed_from_abs w32 y (omega arith))
    ∙ ap (λ z. int_wrap w32 (z +ℤ y)) (to_z-of_z w32 x (fits_signed_from_abs w32 x (omega arith)))
    ∙ int_wrap_fits w32 (x +ℤ y) (fits_signed_from_abs w32 (x +ℤ y) (omega arith)))

pub lanes_read : (f : ℕ → ℤ) (j : ℕ) (lanes : List ℕ) → ((k : ℕ) → unsigned_abs (f k) ≤ 2 ^ 30) → AreLanes f j lanes → (l : ℕ) → l < 8 → get_or (map (to_z w32) lanes) l (pos 0) ≡ f (j + l)
lanes_read f j lanes small are l h =
    get_or-map (to_z w32) lanes l 0 (pos 0) (omega (arith, h, are.long)) ∙ ap (to_z w32) (are.each l h) ∙ to_z-of_z w32 (f (j + l)) (fits_signed_from_abs w32 (f (j + l)) (omega (arith, small (j + l))))
