-- Lists pair by pair.
use Rattle.std.proofs.Common.{◌≡◌, ℕ, zero, suc, ◌+◌, ◌<◌, ◌≤◌, List, [], ◌∷◌, ◌++◌, length, get_or, map, refl, sym, ap, subst, ◌∙◌, arith}
use Rattle.std.specs.List.{AllZip, range_with_len}
use Rattle.std.proofs.lemmas.List.FromFn.{get_or-range_with_len, length-range_with_len}

-- one pair more
pub zip_more : {A B : Type 0} (R : A → B → Type 0) (xs : List A) (ys : List B) (x : A) (y : B) → AllZip R xs ys → R x y → AllZip R (xs ++ x ∷ []) (ys ++ y ∷ [])
zip_more R [] [] x y h r = (r, tt)
zip_more R [] (b ∷ ys) x y h r = absurd h
zip_more R (a ∷ xs) [] x y h r = absurd h
zip_more R (a ∷ xs) (b ∷ ys) x y h r = (h.0, zip_more R xs ys x y h.1 r)

-- the same for lists that are read from the start
pub zip_at : {A B : Type 0} (R : A → B → Type 0) (xs : List A) (ys : List B) (i : ℕ) (d : A) (e : B) → AllZip R xs ys → i < length xs → R (get_or xs i d) (get_or ys i e)
zip_at R [] ys i d e h lt = absurd (omega arith)
zip_at R (x ∷ xs) [] i d e h lt = absurd h
zip_at R (x ∷ xs) (y ∷ ys) zero d e h lt = h.0
zip_at R (x ∷ xs) (y ∷ ys) (suc i) d e h lt = zip_at R xs ys i d e h.1 (omega arith)

pub zip_long : {A B : Type 0} (R : A → B → Type 0) (xs : List A) (ys : List B) → AllZip R xs ys → length ys ≡ length xs
zip_long R [] [] h = refl
zip_long R [] (y ∷ ys) h = absurd h
zip_long R (x ∷ xs) [] h = absurd h
zip_long R (x ∷ xs) (y ∷ ys) h = ap suc (zip_long R xs ys h.1)

-- from each pair
pub zip_from : {A B : Type 0} (R : A → B → Type 0) (xs : List A) (ys : List B) (d : A) (e : B) → length ys ≡ length xs → ((i : ℕ) → i < length xs → R (get_or xs i d) (get_or ys i e)) → AllZip R xs ys
zip_from R [] [] d e same h = tt
zip_from R [] (y ∷ ys) d e same h = absurd (omega arith)
zip_from R (x ∷ xs) [] d e same h = absurd (omega arith)
zip_from R (x ∷ xs) (y ∷ ys) d e same h = (h 0 (omega arith), zip_from R xs ys d e (omega arith) (λ i lt. h (suc i) (omega arith)))

-- what follows for each pair
pub zip_map : {A B : Type 0} (R S : A → B → Type 0) (xs : List A) (ys : List B) → ((x : A) (y : B) → R x y → S x y) → AllZip R xs ys → AllZip S xs ys
zip_map R S [] [] f h = tt
zip_map R S [] (y ∷ ys) f h = absurd h
zip_map R S (x ∷ xs) [] f h = absurd h
zip_map R S (x ∷ xs) (y ∷ ys) f h = (f x y h.0, zip_map R S xs ys f h.1)

-- pairs with what items come to
pub zip_of_map : {A B C : Type 0} (R : B → C → Type 0) (f : A → B) (xs : List A) (ys : List C) → AllZip (λ x y. R (f x) y) xs ys → AllZip R (map f xs) ys
zip_of_map R f [] [] h = tt
zip_of_map R f [] (y ∷ ys) h = absurd h
zip_of_map R f (x ∷ xs) [] h = absurd h
zip_of_map R f (x ∷ xs) (y ∷ ys) h = (h.0, zip_of_map R f xs ys h.1)

-- what follows for each pair of a number and an item
pub zip_range : {B : Type 0} (R S : ℕ → B → Type 0) (n a : ℕ) (ys : List B) → ((k : ℕ) (y : B) → a ≤ k → k < a + n → R k y → S k y) → AllZip R (range_with_len a n) ys → AllZip S (range_with_len a n) ys
zip_range R S zero a [] f h = tt
zip_range R S zero a (y ∷ ys) f h = absurd h
zip_range R S (suc n) a [] f h = absurd h
zip_range R S (suc n) a (y ∷ ys) f h = (f a y (omega arith) (omega arith) h.0, zip_range R S n (a + 1) ys (λ k x low high r. f k x (omega arith) (omega arith) r) h.1)

-- the item of a number
pub zip_number : {B : Type 0} (R : ℕ → B → Type 0) (n : ℕ) (ys : List B) (i : ℕ) (d : B) → AllZip R (range_with_len 0 n) ys → i < n → R i (get_or ys i d)
zip_number R n ys i d h lt =
    let e : 0 + i ≡ i = omega arith in
    subst (λ k. R k (get_or ys i d)) (get_or-range_with_len 0 n i 0 lt ∙ e) (zip_at R (range_with_len 0 n) ys i 0 d h (omega (arith, length-range_with_len 0 n)))

-- an item for each number
pub zip_numbers : {B : Type 0} (R : ℕ → B → Type 0) (n : ℕ) (ys : List B) (d : B) → length ys ≡ n → ((c : ℕ) → c < n → R c (get_or ys c d)) → AllZip R (range_with_len 0 n) ys
zip_numbers R n ys d e h =
    zip_from R (range_with_len 0 n) ys 0 d (e ∙ sym (length-range_with_len 0 n)) (λ i lt.
    let below : i < n = omega (arith, length-range_with_len 0 n) in
    let same : i ≡ get_or (range_with_len 0 n) i 0 = sym (get_or-range_with_len 0 n i 0 below ∙ omega arith) in
    subst (λ k. R k (get_or ys i d)) same (h i below))

pub zip_numbers_long : {B : Type 0} (R : ℕ → B → Type 0) (n : ℕ) (ys : List B) → AllZip R (range_with_len 0 n) ys → length ys ≡ n
zip_numbers_long R n ys h = zip_long R (range_with_len 0 n) ys h ∙ length-range_with_len 0 n
