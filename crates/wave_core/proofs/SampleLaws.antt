-- A sample that is written over its bytes.
use Rattle.std.proofs.Common.{◌≡◌, ◌≢◌, ℕ, zero, suc, ◌+◌, ◌*◌, ◌/◌, ◌<◌, ◌≤◌, inl, inr, ℤ, pos, negsuc, of_z, w32, List, ap, ◌∙◌, arith, refl, length, get_or, set, slice_index}
use Rattle.std.proofs.lemmas.Grind.{get_or-set_at}
use Rattle.std.proofs.lemmas.List.{get_or-set_other, length-set}
use Rattle.std.specs.Int.{to_le_bytes}
use Rattle.wave_core.specs.Contents.{IsSample, IsWidth}
use Rattle.wave_core.specs.Texts.{sample_bytes}

-- the lowest bytes of a stored sample are its bytes
pub low_bytes : (width : ℕ) (z : ℤ) (k : ℕ) → IsWidth width → IsSample width z → k < width / 8 → slice_index (to_le_bytes w32 (of_z w32 z)) k ≡ slice_index (sample_bytes width z) k
low_bytes width z k (inl e) small h = rw e (narrow z k (rw e at small) (rw e at h))
  where
    narrow : (z : ℤ) (k : ℕ) → IsSample 16 z → k < 2 → slice_index (to_le_bytes w32 (of_z w32 z)) k ≡ slice_index (sample_bytes 16 z) k
    narrow (pos n) zero small h = refl
    narrow (pos n) (suc zero) small h = refl
    narrow (pos n) (suc (suc k)) small h = omega arith
    narrow (negsuc n) zero small h = omega arith
    narrow (negsuc n) (suc zero) small h = omega arith
    narrow (negsuc n) (suc (suc k)) small h = omega arith
low_bytes width z k (inr e) small h = rw e (wide z k (rw e at small) (rw e at h))
  where
    wide : (z : ℤ) (k : ℕ) → IsSample 24 z → k < 3 → slice_index (to_le_bytes w32 (of_z w32 z)) k ≡ slice_index (sample_bytes 24 z) k
    wide (pos n) zero small h = refl
    wide (pos n) (suc zero) small h = refl
    wide (pos n) (suc (suc zero)) small h = refl
    wide (pos n) (suc (suc (suc k))) small h = omega arith
    wide (negsuc n) zero small h = omega arith
    wide (negsuc n) (suc zero) small h = omega arith
    wide (negsuc n) (suc (suc zero)) small h = omega arith
    wide (negsuc n) (suc (suc (suc k))) small h = omega arith

-- a width that isn't 16 has three bytes
pub three_bytes : (width : ℕ) → IsWidth width → (width ≡ 16 → ⊥) → width / 8 ≡ 3
three_bytes width (inl e) other = absurd (other e)
three_bytes width (inr e) other = ap (λ w. w / 8) e

-- a list of which the first bytes from a place on are others
abbrev one : List ℕ → List ℕ → ℕ → List ℕ
one to bytes at = set to at (get_or bytes 0 0)

abbrev two : List ℕ → List ℕ → ℕ → List ℕ
two to bytes at = set (one to bytes at) (at + 1) (get_or bytes 1 0)

abbrev three : List ℕ → List ℕ → ℕ → List ℕ
three to bytes at = set (two to bytes at) (at + 2) (get_or bytes 2 0)

pub two_own : (to bytes : List ℕ) (place size k : ℕ) → size ≡ 2 → place * size + size ≤ length to → k < size → slice_index (two to bytes (place * 2)) (place * size + k) ≡ slice_index bytes k
two_own to bytes place size k e inside h = rw e (by k (rw e at inside) (rw e at h))
  where
    by : (k : ℕ) → place * 2 + 2 ≤ length to → k < 2 → slice_index (two to bytes (place * 2)) (place * 2 + k) ≡ slice_index bytes k
    by zero inside h =
        get_or-set_other (one to bytes (place * 2)) (place * 2 + 1) (place * 2 + 0) (get_or bytes 1 0) 0 (λ e. omega arith)
        ∙ get_or-set_at to (place * 2) (place * 2 + 0) (get_or bytes 0 0) 0 (omega arith) (omega arith)
    by (suc zero) inside h = get_or-set_at (one to bytes (place * 2)) (place * 2 + 1) (place * 2 + 1) (get_or bytes 1 0) 0 (omega arith) (omega (arith, length-set to (place * 2) (get_or bytes 0 0)))
    by (suc (suc k)) inside h = omega arith

pub two_others : (to bytes : List ℕ) (place size p k : ℕ) → size ≡ 2 → p ≢ place → k < size → slice_index (two to bytes (place * 2)) (p * size + k) ≡ slice_index to (p * size + k)
two_others to bytes place size p k e apart h = rw e (by (rw e at h))
  where
    by : k < 2 → slice_index (two to bytes (place * 2)) (p * 2 + k) ≡ slice_index to (p * 2 + k)
    by h =
        get_or-set_other (one to bytes (place * 2)) (place * 2 + 1) (p * 2 + k) (get_or bytes 1 0) 0 (λ e. apart (omega arith))
        ∙ get_or-set_other to (place * 2) (p * 2 + k) (get_or bytes 0 0) 0 (λ e. apart (omega arith))

pub three_own : (to bytes : List ℕ) (place size k : ℕ) → size ≡ 3 → place * size + size ≤ length to → k < size → slice_index (three to bytes (place * 3)) (place * size + k) ≡ slice_index bytes k
three_own to bytes place size k e inside h = rw e (by k (rw e at inside) (rw e at h))
  where
    by : (k : ℕ) → place * 3 + 3 ≤ length to → k < 3 → slice_index (three to bytes (place * 3)) (place * 3 + k) ≡ slice_index bytes k
    by zero inside h =
        get_or-set_other (two to bytes (place * 3)) (place * 3 + 2) (place * 3 + 0) (get_or bytes 2 0) 0 (λ e. omega arith)
        ∙ get_or-set_other (one to bytes (place * 3)) (place * 3 + 1) (place * 3 + 0) (get_or bytes 1 0) 0 (λ e. omega arith)
        ∙ get_or-set_at to (place * 3) (place * 3 + 0) (get_or bytes 0 0) 0 (omega arith) (omega arith)
    by (suc zero) inside h =
        get_or-set_other (two to bytes (place * 3)) (place * 3 + 2) (place * 3 + 1) (get_or bytes 2 0) 0 (λ e. omega arith)
        ∙ get_or-set_at (one to bytes (place * 3)) (place * 3 + 1) (place * 3 + 1) (get_or bytes 1 0) 0 (omega arith) (omega (arith, length-set to (place * 3) (get_or bytes 0 0)))
    by (suc (suc zero)) inside h =
        get_or-set_at (two to bytes (place * 3)) (place * 3 + 2) (place * 3 + 2) (get_or bytes 2 0) 0 (omega arith) (omega (arith, length-set (one to bytes (place * 3)) (place * 3 + 1) (get_or bytes 1 0), length-set to (place * 3) (get_or bytes 0 0)))
    by (suc (suc (suc k))) inside h = omega arith

pub three_others : (to bytes : List ℕ) (place size p k : ℕ) → size ≡ 3 → p ≢ place → k < size → slice_index (three to bytes (place * 3)) (p * size + k) ≡ slice_index to (p * size + k)
three_others to bytes place size p k e apart h = rw e (by (rw e at h))
  where
    by : k < 3 → slice_index (three to bytes (place * 3)) (p * 3 + k) ≡ slice_index to (p * 3 + k)
    by h =
        get_or-set_other (two to bytes (place * 3)) (place * 3 + 2) (p * 3 + k) (get_or bytes 2 0) 0 (λ e. apart (omega arith))
        ∙ get_or-set_other (one to bytes (place * 3)) (place * 3 + 1) (p * 3 + k) (get_or bytes 1 0) 0 (λ e. apart (omega arith))
        ∙ get_or-set_other to (place * 3) (p * 3 + k) (get_or bytes 0 0) 0 (λ e. apart (omega arith))
