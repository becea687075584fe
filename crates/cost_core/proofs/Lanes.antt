-- What the lanes of a comparison and of a choice are.
use Rattle.std.proofs.Common.{[], ◌∷◌, inl, inr, min, replicate, ◌≡◌, ℕ, ◌+◌, ◌<◌, ◌≤◌, ◌^◌, ◌%◌, ◌-◌, List, ltb, cond, map, length, refl, ap, ◌∙◌, arith, w64, Fits}
use Rattle.std.specs.Simd.Lanes.{zip2, Each1, Each2, sel_l, mask_l, top}
use Rattle.std.proofs.lemmas.Bool.{cases_Bool, ltb-true, ltb-false}
use Rattle.std.proofs.lemmas.Simd.{tops_compared, mask_l-lt, mask_l-mod, length-zip2, zip2_splat, Each2-of}
use Rattle.cost_core.specs.Rows.{sums, seconds, least}

flipped : (xs ys : List ℕ) → zip2 ltb ys xs ≡ seconds xs ys
flipped [] [] = refl
flipped [] (y ∷ ys) = refl
flipped (x ∷ xs) [] = refl
flipped (x ∷ xs) (y ∷ ys) = ap (λ l. ltb y x ∷ l) (flipped xs ys)

-- the lesser of both, not yet capped
abbrev lesser : List ℕ → List ℕ → List ℕ
lesser = zip2 (λ x y. cond (ltb y x) y x)

picked : (xs ys : List ℕ) → sel_l (zip2 ltb ys xs) ys xs ≡ lesser xs ys
picked [] [] = refl
picked [] (y ∷ ys) = refl
picked (x ∷ xs) [] = refl
picked (x ∷ xs) (y ∷ ys) = ap (λ l. cond (ltb y x) y x ∷ l) (picked xs ys)

capped : (c : ℕ) (xs ys : List ℕ) → map (λ v. min v c) (lesser xs ys) ≡ zip2 (λ x y. min (cond (ltb y x) y x) c) xs ys
capped c [] [] = refl
capped c [] (y ∷ ys) = refl
capped c (x ∷ xs) [] = refl
capped c (x ∷ xs) (y ∷ ys) = ap (λ l. min (cond (ltb y x) y x) c ∷ l) (capped c xs ys)

abbrev compared : List ℕ → List ℕ → List ℕ
compared xs ys = zip2 (λ a b. cond (ltb a b) (2 ^ 64 - 1) 0) ys xs

lesser_min : (x y : ℕ) → cond (ltb x y) x y ≡ min x y
lesser_min x y =
    elim (cases_Bool (ltb x y)) [
      | inl e ↦ let lt = ltb-true x y e in rw e (omega arith)
      | inr e ↦ let le = ltb-false x y e in rw e (omega arith)
    ]

mins : (xs ys : List ℕ) → sel_l (zip2 ltb xs ys) xs ys ≡ zip2 min xs ys
mins [] [] = refl
mins [] (y ∷ ys) = refl
mins (x ∷ xs) [] = refl
mins (x ∷ xs) (y ∷ ys) = (λ i. lesser_min x y i ∷ mins xs ys i)

-- what `simd_min` gives
abbrev smaller : List ℕ → List ℕ → List ℕ
smaller xs ys = sel_l (map (top 63) (compared ys xs)) xs ys

pub row_is : (xs ys : List ℕ) → length xs ≡ 8 → length ys ≡ 8 → smaller (smaller ys xs) (replicate 8 (2 ^ 63)) ≡ least xs ys
row_is xs ys lx ly =
    let c : List ℕ = replicate 8 (2 ^ 63) in
    let e : smaller ys xs ≡ lesser xs ys = ap (λ ms. sel_l ms ys xs) (tops_compared w64 ltb ys xs) ∙ picked xs ys in
    let n : length (lesser xs ys) ≡ 8 = length-zip2 (λ x y. cond (ltb y x) y x) xs ys (omega arith) ∙ lx in
    ap (λ l. smaller l c) e ∙ ap (λ ms. sel_l ms (lesser xs ys) c) (tops_compared w64 ltb (lesser xs ys) c) ∙ mins (lesser xs ys) c
    ∙ zip2_splat min (lesser xs ys) 8 (2 ^ 63) n ∙ capped (2 ^ 63) xs ys

pub length-sums : (xs ys : List ℕ) → length xs ≡ length ys → length (sums xs ys) ≡ length xs
length-sums xs ys e = length-zip2 (λ a b. a + b) xs ys e

pub choices_are : (xs ys : List ℕ) → length xs ≡ 8 → length ys ≡ 8 → (mask_l (map (top 63) (compared xs ys)) % 2 ^ 64 ≡ mask_l (seconds xs ys)) × (mask_l (seconds xs ys) < 256)
choices_are xs ys l m =
    let long : length (seconds xs ys) ≡ 8 = length-zip2 (λ x y. ltb y x) xs ys (omega arith) ∙ l in (
      ap (λ ms. mask_l ms % 2 ^ 64) (tops_compared w64 ltb ys xs ∙ flipped xs ys) ∙ mask_l-mod (seconds xs ys) 64 (omega arith),
      omega (arith, mask_l-lt (seconds xs ys), ap (λ n. 2 ^ n) long),
    )

pub sums_fit : (xs ys : List ℕ) → Each1 (λ x. x ≤ 2 ^ 63) xs → Each1 (λ y. y < 2 ^ 63) ys → Each2 (λ a b. Fits w64 (a + b)) xs ys
sums_fit xs ys = Each2-of (λ x. x ≤ 2 ^ 63) (λ y. y < 2 ^ 63) (λ a b. Fits w64 (a + b)) (λ a b l m. record { fits = omega arith }) xs ys
