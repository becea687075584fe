-- One byte's bits as a mask that selects a tap or its negative.
use Rattle.std.proofs.Common.{[], ◌∷◌, ◌≡◌, ◌+◌, ◌*◌, ◌%◌, ◌/◌, ◌<◌, ◌≤◌, ◌^◌, length, unsigned_abs, ℕ, ◌-◌, List, ℤ, pos, to_z, of_z, map, cond, Bool, true, false, not, eqb, refl, ap, ◌∙◌, arith, replicate, bit_and, suc, zero, w32, negsuc, neg_ℤ}
use Rattle.std.proofs.lemmas.Nat.{pow_pos}
use Rattle.std.specs.Simd.Lanes.{zip2, Each1, sel_l, top}
use Rattle.std.proofs.lemmas.Int.{ints}
use Rattle.std.proofs.lemmas.Nat.Bits.{and_pow}
use Rattle.std.proofs.lemmas.Bool.Decides.{nat_tests}
use Rattle.fir_core.specs.Signed.{signed}

times_test : (d p : ℕ) → d < 2 → 0 < p → not (eqb (d * p) 0) ≡ eqb d 1
times_test zero p d s = grind (arith, nat_tests)
times_test (suc zero) p d s = grind (arith, nat_tests)
times_test (suc (suc d)) p h s = absurd (omega arith)

-- a test of one bit by a mask of one bit
pub mask_test : (n k : ℕ) → not (eqb (bit_and n (2 ^ k)) 0) ≡ eqb (n / 2 ^ k % 2) 1
mask_test n k = ap (λ x. not (eqb x 0)) (and_pow n k) ∙ times_test (n / 2 ^ k % 2) (2 ^ k) (omega arith) (pow_pos k)

neg_bits : (h : ℤ) → unsigned_abs h ≤ 1073741824 → (0 + (2 ^ 32 - of_z w32 h)) % 2 ^ 32 ≡ of_z w32 (neg_ℤ h)
neg_bits (pos zero) s = refl
neg_bits (pos (suc n)) s = omega arith
neg_bits (negsuc n) s = omega arith

one_lane : (t : Bool) (h : ℤ) → unsigned_abs h ≤ 1073741824 → to_z w32 (cond (top 31 (cond t 4294967295 0)) (of_z w32 h) ((0 + (2 ^ 32 - of_z w32 h)) % 2 ^ 32)) ≡ signed t h
one_lane true h s = omega (arith, ints)
one_lane false h s = ap (to_z w32) (neg_bits h s) ∙ omega (arith, ints)

pub selected : (ts : List Bool) (hs : List ℤ) → length ts ≡ length hs → Each1 (λ h. unsigned_abs h ≤ 1073741824) hs
    → map (to_z w32) (sel_l (map (λ t. top 31 (cond t 4294967295 0)) ts) (map (of_z w32) hs) (zip2 (λ a b. (a + (2 ^ 32 - b)) % 2 ^ 32) (replicate (length ts) 0) (map (of_z w32) hs))) ≡ zip2 signed ts hs
selected [] hs e s = refl
selected (t ∷ ts) [] e s = absurd (omega arith)
selected (t ∷ ts) (h ∷ hs) e s = λ i. one_lane t h s.0 i ∷ selected ts hs (omega arith) s.1 i
