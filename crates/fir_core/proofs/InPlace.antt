-- A list that is written from its start on.
use Rattle.std.proofs.Common.{◌≡◌, ℕ, ◌+◌, ◌<◌, ◌≤◌, ◌≢◌, ◌^◌, ℤ, pos, unsigned_abs, List, map, length, get_or, sym, ap, ◌∙◌, ◌-◌, inl, inr, arith, below_more, get_or-set_other, get_or-set_same, to_z, of_z, w32}
use Rattle.std.proofs.Math.ListN.{set, length-set}
use Rattle.std.proofs.lemmas.Int.{to_z-of_z, fits_signed_from_abs}
use Rattle.std.specs.Simd.Lanes.{put_chunk}
use Rattle.std.proofs.lemmas.Bool.{cases_lt}
use Rattle.std.proofs.lemmas.Simd.{get_or-put_chunk_above, get_or-put_chunk_at, get_or-put_chunk_below, length-put_chunk}
use Rattle.std.proofs.lemmas.List.{ext_get_or, get_or-map, length-map}

-- the values below i are f's and the others g's; then a number is written at i that is read back as f i
module _ (f g : ℕ → ℤ) (xs : List ℤ) (i : ℕ) (r : ℤ) (within : i < length xs) (is : to_z w32 (of_z w32 r) ≡ f i)
    (done : (k : ℕ) → k < i → get_or xs k (pos 0) ≡ f k) (rest : (k : ℕ) → i ≤ k → k < length xs → get_or xs k (pos 0) ≡ g k) where
  pub one_more : (k : ℕ) → k < i + 1 → get_or (set xs i (to_z w32 (of_z w32 r))) k (pos 0) ≡ f k
  one_more = below_more _ _
      (λ k h. let ne : k ≢ i = omega arith in rw get_or-set_other (done k h))
      (rw get_or-set_same is)

  pub one_less : (k : ℕ) → i + 1 ≤ k → k < length (set xs i (to_z w32 (of_z w32 r))) → get_or (set xs i (to_z w32 (of_z w32 r))) k (pos 0) ≡ g k
  one_less k h l = let ne : k ≢ i = omega arith in rw get_or-set_other (rest k (omega arith) (omega (arith, length-set {A = ℤ})))

-- of n values those below i are f's and the others g's
pub record Written (f g : ℕ → ℤ) (number i : ℕ) (xs : List ℤ) : Type 0 where
  pub long : length xs ≡ number
  pub done : (k : ℕ) → k < i → get_or xs k (pos 0) ≡ f k
  pub rest : (k : ℕ) → i ≤ k → k < number → get_or xs k (pos 0) ≡ g k

-- n more are written at once
pub chunk_written : (f g : ℕ → ℤ) (number i n : ℕ) (xs ys : List ℤ) → length ys ≡ n → i + n ≤ number → ((k : ℕ) → k < n → get_or ys k (pos 0) ≡ f (i + k)) → Written f g number i xs → Written f g number (i + n) (put_chunk i xs ys)
chunk_written f g number i n xs ys many within each w =
    let room : i + length ys ≤ length xs = omega (arith, w.long) in
    record {
      long = length-put_chunk i xs ys ∙ w.long;
      done = λ k h. elim (cases_lt k i) [
        | inl below ↦ get_or-put_chunk_below i xs ys k (pos 0) below ∙ w.done k below
        | inr after ↦
            let inside : k - i < length ys = omega arith in
            let place : i + (k - i) ≡ k = omega arith in
            ap (λ m. get_or (put_chunk i xs ys) m (pos 0)) (sym place) ∙ get_or-put_chunk_at i xs ys (k - i) (pos 0) inside room ∙ each (k - i) (omega arith) ∙ ap f place
      ];
      rest = λ k h l. get_or-put_chunk_above i xs ys k (pos 0) (omega arith) ∙ w.rest k (omega arith) l;
    }

pub mapped : (f : ℤ → ℤ) (xs ys : List ℤ) → length ys ≡ length xs → ((k : ℕ) → k < length xs → get_or ys k (pos 0) ≡ f (get_or xs k (pos 0))) → ys ≡ map f xs
mapped f xs ys long each =
    ext_get_or (pos 0) ys (map f xs) (long ∙ sym (length-map xs f)) (λ k h. each k (omega arith) ∙ sym (get_or-map f xs k (pos 0) (pos 0) (omega arith)))

-- a small number that was stored is read back
pub stored_back : (z : ℤ) → unsigned_abs z ≤ 2 ^ 30 → to_z w32 (of_z w32 z) ≡ z
stored_back z small = to_z-of_z w32 z (fits_signed_from_abs w32 z (omega arith))

-- and one that is known to be equal to another
pub read_back : (z y : ℤ) → z ≡ y → unsigned_abs y ≤ 2 ^ 30 → to_z w32 (of_z w32 z) ≡ y
read_back z y is small = ap (λ x. to_z w32 (of_z w32 x)) is ∙ stored_back y small
