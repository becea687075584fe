-- Lists that are made one after the other.
use Rattle.std.proofs.Common.{◌≡◌, ℕ, zero, suc, ◌+◌, ◌*◌, ◌<◌, List, [], ◌∷◌, ◌++◌, length, sym, refl, ap, ap₂, ◌∙◌, arith, append_assoc, add-one, length-append, suc-mul, zero-mul}
use Rattle.std.specs.List.{flat_map, range_with_len}
use Rattle.std.proofs.lemmas.Grind.{flat_map-append}
use Rattle.std.proofs.lemmas.List.{append-nil}

range_more : (a n : ℕ) → range_with_len a (n + 1) ≡ range_with_len a n ++ (a + n) ∷ []
range_more a n = rw (add-one n) (by_one a n)
  where
    by_one : (a n : ℕ) → range_with_len a (suc n) ≡ range_with_len a n ++ (a + n) ∷ []
    by_one a zero = let e : a + 0 ≡ a = omega arith in rw e refl
    by_one a (suc n) = let e : a + 1 + n ≡ a + suc n = omega arith in ap (λ (xs : List ℕ). a ∷ xs) (by_one (a + 1) n ∙ ap (λ (m : ℕ). range_with_len (a + 1) n ++ m ∷ []) e)

-- one list more
pub one_after : {X : Type 0} (f : ℕ → List X) (a n : ℕ) → flat_map f (range_with_len a (n + 1)) ≡ flat_map f (range_with_len a n) ++ f (a + n)
one_after f a n =
    ap (flat_map f) (range_more a n) ∙ flat_map-append f (range_with_len a n) ((a + n) ∷ []) ∙ ap (λ xs. flat_map f (range_with_len a n) ++ xs) (append-nil (f (a + n)))

pub in_two : {X : Type 0} (f : ℕ → List X) (a n : ℕ) → flat_map f (range_with_len 0 (a + n)) ≡ flat_map f (range_with_len 0 a) ++ flat_map f (range_with_len a n)
in_two f a zero = let e : a + 0 ≡ a = omega arith in ap (λ (m : ℕ). flat_map f (range_with_len 0 m)) e ∙ sym (append-nil (flat_map f (range_with_len 0 a)))
in_two f a (suc n) =
    let e : a + suc n ≡ (a + n) + 1 = omega arith in
    let more : suc n ≡ n + 1 = omega arith in
    let place : 0 + (a + n) ≡ a + n = omega arith in
    ap (λ (m : ℕ). flat_map f (range_with_len 0 m)) e ∙ one_after f 0 (a + n)
    ∙ ap₂ (λ xs (m : ℕ). xs ++ f m) (in_two f a n) place
    ∙ append_assoc (flat_map f (range_with_len 0 a)) (flat_map f (range_with_len a n)) (f (a + n))
    ∙ ap (λ xs. flat_map f (range_with_len 0 a) ++ xs) (sym (one_after f a n) ∙ ap (λ (m : ℕ). flat_map f (range_with_len a m)) (sym more))

-- the same lists from another number on
pub moved : {X : Type 0} (f g : ℕ → List X) (a n : ℕ) → ((i : ℕ) → i < n → f i ≡ g (a + i)) → flat_map f (range_with_len 0 n) ≡ flat_map g (range_with_len a n)
moved f g a zero same = refl
moved f g a (suc n) same =
    let more : suc n ≡ n + 1 = omega arith in
    let place : 0 + n ≡ n = omega arith in
    ap (λ (m : ℕ). flat_map f (range_with_len 0 m)) more ∙ one_after f 0 n
    ∙ ap₂ (λ xs ys. xs ++ ys) (moved f g a n (λ i h. same i (omega arith))) (ap f place ∙ same n (omega arith))
    ∙ sym (ap (λ (m : ℕ). flat_map g (range_with_len a m)) more ∙ one_after g a n)

pub length-equal : {X A : Type 0} (f : X → List A) (n : ℕ) (xs : List X) → ((x : X) → length (f x) ≡ n) → length (flat_map f xs) ≡ length xs * n
length-equal f n [] each = sym (zero-mul n)
length-equal f n (x ∷ xs) each = omega (arith, length-append (f x) (flat_map f xs), each x, length-equal f n xs each, suc-mul (length xs) n)
