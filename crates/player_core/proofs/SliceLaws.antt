-- Slices of lists.
use Rattle.std.proofs.Common.{◌≡◌, ℕ, zero, suc, ◌+◌, ◌-◌, ◌*◌, ◌≤◌, min, inl, inr, List, [], ◌∷◌, ◌++◌, length, take, drop, slice_range, refl, sym, ap, ap₂, ◌∙◌, arith, length-drop, zero-mul, suc-mul}
use Rattle.std.specs.List.{flat_map, range_with_len}
use Rattle.std.proofs.Math.Seq.{drop-append-add, take-add, take-append-add, take-nil, drop-nil}
use Rattle.std.proofs.lemmas.Bool.{cases_lt}
use Rattle.std.proofs.lemmas.List.{drop-drop, drop-take, drop_min, take_all}

-- ---- of lists one after the other
module _ {X : Type 0} where
  drop-append : (n : ℕ) (xs ys : List X) → drop n (xs ++ ys) ≡ drop n xs ++ drop (n - length xs) ys
  drop-append zero xs ys = let none : zero - length xs ≡ 0 = omega arith in ap (λ k. xs ++ drop k ys) (sym none)
  drop-append (suc n) [] ys = let all : suc n ≡ suc n - length {A = X} [] = omega arith in ap (λ k. drop k ys) all
  drop-append (suc n) (x ∷ xs) ys = let less : n - length xs ≡ suc n - length (x ∷ xs) = omega arith in drop-append n xs ys ∙ ap (λ k. drop n xs ++ drop k ys) less

  take-append : (n : ℕ) (xs ys : List X) → take n (xs ++ ys) ≡ take n xs ++ take (n - length xs) ys
  take-append zero xs ys = let none : zero - length xs ≡ 0 = omega arith in ap (λ k. take k ys) (sym none)
  take-append (suc n) [] ys = let all : suc n ≡ suc n - length {A = X} [] = omega arith in ap (λ k. take k ys) all
  take-append (suc n) (x ∷ xs) ys = let less : n - length xs ≡ suc n - length (x ∷ xs) = omega arith in ap (λ zs. x ∷ zs) (take-append n xs ys) ∙ ap (λ k. x ∷ (take n xs ++ take k ys)) less

  pub drop_more_of : (n : ℕ) (xs ys : List X) → drop n (xs ++ ys) ≡ drop n xs ++ drop (n - length xs) ys
  drop_more_of n xs ys = drop-append n xs ys

  pub slice_more : (xs ys : List X) (a b : ℕ) → slice_range (xs ++ ys) a b ≡ slice_range xs a b ++ slice_range ys (a - length xs) (b - length xs)
  slice_more xs ys a b =
      let left : (b - a) - length (drop a xs) ≡ (b - length xs) - (a - length xs) = omega (arith, length-drop a xs) in
      ap (take (b - a)) (drop-append a xs ys)
      ∙ take-append (b - a) (drop a xs) (drop (a - length xs) ys)
      ∙ ap (λ k. take (b - a) (drop a xs) ++ take k (drop (a - length xs) ys)) left

  -- two slices that meet
  pub slices_meet : (xs : List X) (a b c : ℕ) → a ≤ b → b ≤ c → slice_range xs a b ++ slice_range xs b c ≡ slice_range xs a c
  slices_meet xs a b c ab bc =
      let on : a + (b - a) ≡ b = omega arith in
      let both : (b - a) + (c - b) ≡ c - a = omega arith in
      ap (λ zs. take (b - a) (drop a xs) ++ take (c - b) zs) (ap (λ k. drop k xs) (sym on) ∙ sym (drop-drop (b - a) a xs))
      ∙ sym (take-add (b - a) (c - b) (drop a xs))
      ∙ ap (λ k. take k (drop a xs)) both

  -- the part of a list that is written of what two bounds leave
  pub within_is : (xs : List X) (a b : ℕ) → drop (min (min a (length xs)) (min b (length xs))) (take (min b (length xs)) xs) ≡ slice_range xs a b
  within_is xs a b = elim (cases_lt b a) [
    | inl turned ↦
        let all : min (min a (length xs)) (min b (length xs)) ≡ min b (length xs) = omega arith in
        let none : b - a ≡ 0 = omega arith in
        let whole : min b (length xs) ≡ min b (length xs) + 0 = omega arith in
        ap (λ k. drop k (take (min b (length xs)) xs)) all
        ∙ ap (λ k. drop (min b (length xs)) (take k xs)) whole
        ∙ drop-take (min b (length xs)) 0 xs
        ∙ ap (λ k. take k (drop a xs)) (sym none)
    | inr ordered ↦
        let f = min a (length xs) in
        let l = min b (length xs) in
        let first : min f l ≡ f = omega arith in
        let parts : l ≡ f + (l - f) = omega arith in
        ap (λ k. drop k (take l xs)) first
        ∙ ap (λ k. drop f (take k xs)) parts
        ∙ drop-take f (l - f) xs
        ∙ ap (take (l - f)) (drop_min a xs)
        ∙ elim (cases_lt (length xs) b) [
          | inl past ↦ take_all (l - f) (drop a xs) (omega (arith, length-drop a xs)) ∙ sym (take_all (b - a) (drop a xs) (omega (arith, length-drop a xs)))
          | inr inside ↦ elim (cases_lt (length xs) a) [
            | inl out ↦ take_all (l - f) (drop a xs) (omega (arith, length-drop a xs)) ∙ sym (take_all (b - a) (drop a xs) (omega (arith, length-drop a xs)))
            | inr within ↦ (let same : l - f ≡ b - a = omega arith in ap (λ k. take k (drop a xs)) same)
          ]
        ]
  ]

-- ---- of lists that are made of lists of one length
module _ {X Y : Type 0} (f : X → List Y) (n : ℕ) (each : (x : X) → length (f x) ≡ n) where
  take_flat : (k : ℕ) (xs : List X) → take (k * n) (flat_map f xs) ≡ flat_map f (take k xs)
  take_flat zero xs = ap (λ m. take m (flat_map f xs)) (zero-mul n)
  take_flat (suc k) [] = take-nil (suc k * n)
  take_flat (suc k) (x ∷ xs) =
      let parts : suc k * n ≡ length (f x) + k * n = omega (arith, suc-mul k n, each x) in
      ap (λ m. take m (f x ++ flat_map f xs)) parts ∙ take-append-add (f x) (flat_map f xs) (k * n) ∙ ap (λ zs. f x ++ zs) (take_flat k xs)

  drop_flat : (k : ℕ) (xs : List X) → drop (k * n) (flat_map f xs) ≡ flat_map f (drop k xs)
  drop_flat zero xs = ap (λ m. drop m (flat_map f xs)) (zero-mul n)
  drop_flat (suc k) [] = drop-nil (suc k * n)
  drop_flat (suc k) (x ∷ xs) =
      let parts : suc k * n ≡ length (f x) + k * n = omega (arith, suc-mul k n, each x) in
      ap (λ m. drop m (f x ++ flat_map f xs)) parts ∙ drop-append-add (f x) (flat_map f xs) (k * n) ∙ drop_flat k xs

  pub slice_flat : (xs : List X) (a b : ℕ) → a ≤ b → slice_range (flat_map f xs) (a * n) (b * n) ≡ flat_map f (slice_range xs a b)
  slice_flat xs a b ordered =
      let on : a + (b - a) ≡ b = omega arith in
      let spread : (a + (b - a)) * n ≡ a * n + (b - a) * n = grind arith in
      let all : (a + (b - a)) * n ≡ b * n = ap (λ m. m * n) on in
      let number : b * n - a * n ≡ (b - a) * n = omega (arith, spread, all) in
      ap₂ (λ m zs. take m zs) number (drop_flat a xs) ∙ take_flat (b - a) (drop a xs)

-- ---- of numbers in order
drop_range : (k a n : ℕ) → drop k (range_with_len a n) ≡ range_with_len (a + k) (n - k)
drop_range zero a n = let at : a ≡ a + zero = omega arith in let all : n ≡ n - zero = omega arith in ap₂ range_with_len at all
drop_range (suc k) a zero = let none : 0 ≡ zero - suc k = omega arith in ap (range_with_len (a + suc k)) none
drop_range (suc k) a (suc n) = let at : (a + 1) + k ≡ a + suc k = omega arith in let left : n - k ≡ suc n - suc k = omega arith in drop_range k (a + 1) n ∙ ap₂ range_with_len at left

take_range : (k a n : ℕ) → k ≤ n → take k (range_with_len a n) ≡ range_with_len a k
take_range zero a n within = refl
take_range (suc k) a zero within = absurd (omega arith)
take_range (suc k) a (suc n) within = ap (λ zs. a ∷ zs) (take_range k (a + 1) n (omega arith))

pub slice_of_range : (n a b : ℕ) → b ≤ n → slice_range (range_with_len 0 n) a b ≡ range_with_len a (b - a)
slice_of_range n a b within = elim (cases_lt b a) [
  | inl turned ↦ (let none : b - a ≡ 0 = omega arith in ap (λ k. take k (drop a (range_with_len 0 n))) none ∙ ap (range_with_len a) (sym none))
  | inr ordered ↦
      let at : 0 + a ≡ a = omega arith in
      ap (take (b - a)) (drop_range a 0 n ∙ ap (λ k. range_with_len k (n - a)) at) ∙ take_range (b - a) a (n - a) (omega arith)
]
