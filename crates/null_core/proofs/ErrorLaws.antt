-- Laws of errors that are appended one by one.
use Rattle.std.proofs.Common.{◌≡◌, ℕ, ◌+◌, ◌^◌, ◌<◌, ◌≤◌, ◌++◌, ◌∷◌, [], ℤ, Bool, List, map, get_or, unsigned_abs, refl, sym, inl, inr, ◌∙◌, ap, subst, arith, to_z, of_z, w64}
use Rattle.std.proofs.lemmas.List.{append-nil, append_assoc}
use Rattle.std.proofs.lemmas.List.FromFn.{get_or-map-range_with_len, map-range_with_len_more}
use Rattle.std.specs.List.{range_with_len}
use Rattle.std.proofs.lemmas.Bool.{cases_lt}
use Rattle.std.proofs.lemmas.Int.{to_z-of_z, fits_signed_from_abs}
use Rattle.null_core.specs.Errors.{IsLoud, error_at, errors_from}
use Rattle.null_core.specs.Judging.{IsFirst, IsLoudIn}
use Rattle.null_core.specs.Parts.{AskedContent}

-- the errors of n places were appended, and none of them is too large
pub record AreSoFar (a : AskedContent) (bits : List Bool) (from n : ℕ) (old new : List ℤ) : Type 0 where
  pub items : new ≡ old ++ errors_from a bits from n
  pub quiet : (m : ℕ) → IsLoudIn a bits from (from + n) m → ⊥

module _ (a : AskedContent) (bits : List Bool) (from : ℕ) (old : List ℤ) where
  pub none_so_far : AreSoFar a bits from 0 old old
  none_so_far = record { items = sym (append-nil old); quiet = λ m h. omega (arith, h.after, h.before) }

  module _ (n : ℕ) (new : List ℤ) (sofar : AreSoFar a bits from n old new) (e : ℤ) (is : e ≡ error_at a bits (from + n)) where
    pub one_more : unsigned_abs e < 2 ^ 31 → AreSoFar a bits from (n + 1) old (new ++ e ∷ [])
    one_more small = record {
      items = ap (λ x. x ++ e ∷ []) sofar.items ∙ append_assoc old (errors_from a bits from n) (e ∷ []) ∙ ap (λ x. old ++ x) (ap (λ x. errors_from a bits from n ++ x ∷ []) is ∙ sym (map-range_with_len_more (error_at a bits) from n (from + n) refl));
      quiet = λ m h. elim (cases_lt m (from + n)) [
        | inl earlier ↦ sofar.quiet m (record { after = h.after; before = earlier; loud = h.loud })
        | inr later ↦ let at : m ≡ from + n = omega (arith, later, h.before) in let loud : 2 ^ 31 ≤ unsigned_abs e = subst (λ x. 2 ^ 31 ≤ unsigned_abs x) (sym is) (subst (λ k. IsLoud a bits k) at h.loud) in omega (arith, small, loud)
      ];
    }

    pub first_loud : (to : ℕ) → from + n < to → 2 ^ 31 ≤ unsigned_abs e → IsFirst (IsLoudIn a bits from to) (from + n)
    first_loud to inside loud = record {
      here = record { after = omega arith; before = inside; loud = subst (λ x. 2 ^ 31 ≤ unsigned_abs x) is loud };
      before = λ m earlier h. sofar.quiet m (record { after = h.after; before = earlier; loud = h.loud });
    }

-- a sum of at most 2 ^ 60 is the same as a number of 64 bits
pub same_w64 : (z : ℤ) → unsigned_abs z ≤ 2 ^ 60 → to_z w64 (of_z w64 z) ≡ z
same_w64 z small = to_z-of_z w64 z (fits_signed_from_abs w64 z (omega (arith, small)))

-- what a list by places has at one of them
module _ (f : ℕ → ℤ) (a n i : ℕ) (xs : List ℤ) (is : xs ≡ map f (range_with_len a n)) (inside : i < n) where
  pub listed_at : (d : ℤ) → get_or xs i d ≡ f (a + i)
  listed_at d = ap (λ ys. get_or ys i d) is ∙ get_or-map-range_with_len f a n i (a + i) d inside refl
