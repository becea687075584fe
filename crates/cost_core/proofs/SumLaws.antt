-- Sums of weights with the signs of bits.
use Rattle.std.proofs.Common.{◌≡◌, ℕ, zero, suc, ◌+◌, ◌*◌, ◌<◌, ◌≤◌, ◌^◌, ℤ, pos, ◌+ℤ◌, ◌-ℤ◌, ◌*ℤ◌, unsigned_abs, Bool, true, false, List, length, get_or, sum_by, refl, ap, ◌∙◌, arith, add-one, FitsSigned, to_z, of_z, w32}
use Rattle.std.proofs.lemmas.Int.{ints, unsigned_abs-mul, fits_signed_from_abs, to_z-of_z}
use Rattle.std.proofs.lemmas.Nat.{mul-le}
use Rattle.std.proofs.lemmas.List.Sums.{get_or-le-sum_by, sum_by-take-le}
use Rattle.dsd_bits.specs.Sums.{sign, sum_below}
use Rattle.dsd_bits.proofs.SumLaws.{abs_dot}
use Rattle.cost_core.specs.Weighted.{weighed}

pub abs_sub : (a b : ℤ) → unsigned_abs (a -ℤ b) ≤ unsigned_abs a + unsigned_abs b
abs_sub a b = omega (arith, ints)

abs_sign : (bit : Bool) → unsigned_abs (sign bit) ≤ 1
abs_sign true = omega arith
abs_sign false = omega arith

-- equal terms have equal sums
pub sum_below_same : (m : ℕ) (f g : ℕ → ℤ) → ((k : ℕ) → k < m → f k ≡ g k) → sum_below m f ≡ sum_below m g
sum_below_same zero f g h = refl
sum_below_same (suc m) f g h = rw (sum_below_same m f g (λ k lt. h k (omega arith)), h m (omega arith)) refl

-- equal bits have equal weighted sums
pub weighed_same : (weights : List ℤ) (f g : ℕ → Bool) → ((k : ℕ) → k < length weights → f k ≡ g k) → weighed weights f ≡ weighed weights g
weighed_same weights f g h =
    sum_below_same (length weights) (λ k. get_or weights k (pos 0) *ℤ sign (f k)) (λ k. get_or weights k (pos 0) *ℤ sign (g k)) (λ k lt. ap (λ b. get_or weights k (pos 0) *ℤ sign b) (h k lt))

-- a weight with the sign of a bit
abbrev pub weight_term : List ℤ → (ℕ → Bool) → ℕ → ℤ
weight_term weights bit k = get_or weights k (pos 0) *ℤ sign (bit k)

-- no partial sum is above the sum of the weights
pub partly_weighed_in : (weights : List ℤ) (bit : ℕ → Bool) (k : ℕ) → k ≤ length weights → unsigned_abs (sum_below k (weight_term weights bit)) ≤ sum_by unsigned_abs weights
partly_weighed_in weights bit k within = omega (arith, abs_dot weights (λ j. sign (bit j)) (λ j. abs_sign (bit j)) k within, sum_by-take-le unsigned_abs weights k)

pub weighed_in : (weights : List ℤ) (bit : ℕ → Bool) → unsigned_abs (weighed weights bit) ≤ sum_by unsigned_abs weights
weighed_in weights bit = partly_weighed_in weights bit (length weights) (omega arith)

-- a small number is kept in 32 bits
pub kept : (z : ℤ) → unsigned_abs z < 2 ^ 31 → to_z w32 (of_z w32 z) ≡ z
kept z h = to_z-of_z w32 z (fits_signed_from_abs w32 z h)

-- n parts of a weighted sum
pub part_in : (n : ℕ) (z : ℤ) → unsigned_abs z ≤ 4096 → unsigned_abs (pos n *ℤ z) ≤ n * 4096
part_in n z h = rw (unsigned_abs-mul (pos n) z) (mul-le n (unsigned_abs z) n 4096 (omega arith) h)

pub part_kept : (n : ℕ) (z : ℤ) → n ≤ 4097 → unsigned_abs z ≤ 4096 → to_z w32 (of_z w32 (to_z w32 n *ℤ to_z w32 (of_z w32 z))) ≡ pos n *ℤ z
part_kept n z h k =
    let e : to_z w32 n ≡ pos n = omega (arith, ints) in
    rw (e, kept z (omega arith)) (kept (pos n *ℤ z) (omega (arith, part_in n z k)))

-- a small number fits in 32 bits, and so do n parts of a weighted sum
pub small_fits : (n : ℕ) → n ≤ 4097 → FitsSigned w32 (pos n)
small_fits n h = fits_signed_from_abs w32 (pos n) (omega arith)

pub part_fits : (n : ℕ) (z : ℤ) → n ≤ 4097 → unsigned_abs z ≤ 4096 → FitsSigned w32 (to_z w32 n *ℤ to_z w32 (of_z w32 z))
part_fits n z h k =
    let e : to_z w32 n ≡ pos n = omega (arith, ints) in
    rw (e, kept z (omega arith)) (fits_signed_from_abs w32 (pos n *ℤ z) (omega (arith, part_in n z k)))

-- one step of the loop that weighs bits: the sum fits, and it is the sum so far
module _ (weights : List ℤ) (bit : ℕ → Bool) (small : sum_by unsigned_abs weights ≤ 4096) (k : ℕ) (below : k < length weights) where
  weight_in : unsigned_abs (get_or weights k (pos 0)) ≤ 4096
  weight_in = omega (arith, get_or-le-sum_by unsigned_abs weights k (pos 0) below)

  weight_kept : to_z w32 (of_z w32 (get_or weights k (pos 0))) ≡ get_or weights k (pos 0)
  weight_kept = kept (get_or weights k (pos 0)) (omega (arith, weight_in))

  module _ (s r : ℤ) (so_far : s ≡ sum_below k (weight_term weights bit)) (added : r ≡ to_z w32 (of_z w32 (get_or weights k (pos 0))) *ℤ sign (bit k)) where
    added_term : r ≡ weight_term weights bit k
    added_term = added ∙ ap (λ z. z *ℤ sign (bit k)) weight_kept

    term_in : unsigned_abs (weight_term weights bit k) ≤ 4096
    term_in = rw (unsigned_abs-mul (get_or weights k (pos 0)) (sign (bit k))) (mul-le (unsigned_abs (get_or weights k (pos 0))) (unsigned_abs (sign (bit k))) 4096 1 weight_in (abs_sign (bit k)))

    read_back : to_z w32 (of_z w32 r) ≡ r
    read_back = kept r (rw added_term (omega (arith, term_in)))

    next_sum : s +ℤ to_z w32 (of_z w32 r) ≡ sum_below (k + 1) (weight_term weights bit)
    next_sum = rw (read_back, add-one k, so_far, added_term)

    next_in : unsigned_abs (s +ℤ to_z w32 (of_z w32 r)) ≤ 4096
    next_in = rw next_sum (omega (arith, small, partly_weighed_in weights bit (k + 1) (omega arith)))

    pub next_fits : FitsSigned w32 (s +ℤ to_z w32 (of_z w32 r))
    next_fits = fits_signed_from_abs w32 _ (omega (arith, next_in))

    pub next_is : to_z w32 (of_z w32 (s +ℤ to_z w32 (of_z w32 r))) ≡ sum_below (k + 1) (weight_term weights bit)
    next_is = kept _ (omega (arith, next_in)) ∙ next_sum
