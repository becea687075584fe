-- Laws of `sum_below`.
use Rattle.std.proofs.Common.{ℕ, zero, suc, ◌+◌, ◌≤◌, ℤ, pos, negsuc, ◌+ℤ◌, ◌*ℤ◌, unsigned_abs, arith, add-one, mul-one, mul-le-mul_left, List, length, get_or, take, sum_by}
use Rattle.std.proofs.lemmas.Int.{unsigned_abs-mul}
use Rattle.std.proofs.lemmas.List.Sums.{sum_by_more}
use Rattle.dsd_bits.specs.Sums.{sum_below}

-- in absolute value
pub abs_add : (a b : ℤ) → unsigned_abs (a +ℤ b) ≤ unsigned_abs a + unsigned_abs b
abs_add (pos a) (pos b) = omega arith
abs_add (pos a) (negsuc b) = grind arith
abs_add (negsuc a) (pos b) = grind arith
abs_add (negsuc a) (negsuc b) = omega arith

-- weights times numbers of at most 1 in absolute value: no partial sum is above the sum of the weights before it
pub abs_dot : (h : List ℤ) (f : ℕ → ℤ) → ((k : ℕ) → unsigned_abs (f k) ≤ 1) → (k : ℕ) → k ≤ length h → unsigned_abs (sum_below k (λ j. get_or h j (pos 0) *ℤ f j)) ≤ sum_by unsigned_abs (take k h)
abs_dot h f small zero within = omega arith
abs_dot h f small (suc k) within =
    let tap = get_or h k (pos 0) in
    let more = sum_by_more unsigned_abs h k (pos 0) (omega arith) in
    let one : unsigned_abs (tap *ℤ f k) ≤ unsigned_abs tap = rw (unsigned_abs-mul tap (f k)) (omega (arith, mul-le-mul_left (unsigned_abs tap) (small k), mul-one (unsigned_abs tap))) in
    omega (arith, one, abs_dot h f small k (omega arith), abs_add (sum_below k (λ j. get_or h j (pos 0) *ℤ f j)) (tap *ℤ f k), rw add-one at more)
