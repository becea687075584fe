-- Bits that are compared a byte at a time.
use Rattle.std.proofs.Common.{◌≡◌, ℕ, ◌+◌, ◌-◌, ◌*◌, ◌/◌, ◌%◌, ◌^◌, ◌<◌, ◌≤◌, Bool, false, eqb, List, length, get_or, slice_index, bit_or, suc, zero, inl, inr, refl, subst, sym, ap, ◌∙◌, arith}
use Rattle.std.proofs.lemmas.Bool.{cases_lt}
use Rattle.std.proofs.lemmas.List.FromFn.{get_or-map-range_with_len}
use Rattle.std.proofs.lemmas.Nat.{or_shifted}
use Rattle.std.specs.Int.{bit_at}
use Rattle.dsd_bits.specs.Packing.{packed_bit, unpacked}
use Rattle.dsd_bits.specs.Shifting.{byte_across, byte_from}
use Rattle.dsd_bits.proofs.ShiftingLemmas.{bit_of_byte_from}

-- ---- two neighbouring bytes
across_by : (high low s a b : ℕ) → high * 2 ^ s % 256 ≡ a * 2 ^ s → b < 2 ^ s → a * 2 ^ s + b ≡ byte_across high low s → bit_or (high * 2 ^ s % 256) b ≡ byte_across high low s
across_by high low s a b first second sum = ap (λ n. bit_or n b) first ∙ or_shifted a s b second ∙ sum

-- bytes that are shifted alone
pub across_is : (high low s : ℕ) → low < 256 → s < 8 → bit_or (high * 2 ^ s % 256) (low / 2 / 2 ^ (7 - s)) ≡ byte_across high low s
across_is high low zero small h = across_by high low 0 (high % 256) (low / 2 / 128) (omega arith) (omega (arith, small)) (omega (arith, small))
across_is high low (suc zero) small h = across_by high low 1 (high % 128) (low / 2 / 64) (omega arith) (omega (arith, small)) (omega (arith, small))
across_is high low (suc (suc zero)) small h = across_by high low 2 (high % 64) (low / 2 / 32) (omega arith) (omega (arith, small)) (omega (arith, small))
across_is high low (suc (suc (suc zero))) small h = across_by high low 3 (high % 32) (low / 2 / 16) (omega arith) (omega (arith, small)) (omega (arith, small))
across_is high low (suc (suc (suc (suc zero)))) small h = across_by high low 4 (high % 16) (low / 2 / 8) (omega arith) (omega (arith, small)) (omega (arith, small))
across_is high low (suc (suc (suc (suc (suc zero))))) small h = across_by high low 5 (high % 8) (low / 2 / 4) (omega arith) (omega (arith, small)) (omega (arith, small))
across_is high low (suc (suc (suc (suc (suc (suc zero)))))) small h = across_by high low 6 (high % 4) (low / 2 / 2) (omega arith) (omega (arith, small)) (omega (arith, small))
across_is high low (suc (suc (suc (suc (suc (suc (suc zero))))))) small h = across_by high low 7 (high % 2) (low / 2 / 1) (omega arith) (omega (arith, small)) (omega (arith, small))
across_is high low (suc (suc (suc (suc (suc (suc (suc (suc s)))))))) small h = absurd (omega (arith, h))

-- ---- bytes that are alike
-- from one byte of the first list, and one bit of the second, some bytes are alike
abbrev pub BytesAlike : List ℕ → ℕ → List ℕ → ℕ → ℕ → Type 0
BytesAlike p first q own n = (k : ℕ) → k < n → slice_index p (first + k) ≡ byte_from q (own + 8 * k)

module _ (p q : List ℕ) (first own : ℕ) where
  -- a byte is read where the others begin
  pub byte_here : (k : ℕ) → byte_across (slice_index q (own / 8 + k)) (slice_index q (own / 8 + k + 1)) (own % 8) ≡ byte_from q (own + 8 * k)
  byte_here k =
      let at : (own + 8 * k) / 8 ≡ own / 8 + k = omega arith in
      let shift : (own + 8 * k) % 8 ≡ own % 8 = omega arith in
      rw (at, shift) refl

  pub byte_more : (n : ℕ) → BytesAlike p first q own n → slice_index p (first + n) ≡ byte_from q (own + 8 * n) → BytesAlike p first q own (n + 1)
  byte_more n so_far same k lt = elim (cases_lt k n) [
    | inl before ↦ so_far k before
    | inr after ↦ (let last : n ≡ k = omega arith in subst (λ (j : ℕ). slice_index p (first + j) ≡ byte_from q (own + 8 * j)) last same)
  ]

  pub chunk_more : (c : ℕ) → BytesAlike p first q own (64 * c) → BytesAlike p (first + 64 * c) q (own + 512 * c) 64 → BytesAlike p first q own (64 * (c + 1))
  chunk_more c so_far chunk k lt = elim (cases_lt k (64 * c)) [
    | inl before ↦ so_far k before
    | inr after ↦
        let r = k - 64 * c in
        let left : first + 64 * c + r ≡ first + k = omega arith in
        let right : own + 512 * c + 8 * r ≡ own + 8 * k = omega arith in
        ap (slice_index p) (sym left) ∙ chunk r (omega arith) ∙ ap (byte_from q) right
  ]

  -- their bits are alike
  pub bits_alike : (n : ℕ) → ((j : ℕ) → slice_index q j < 256) → BytesAlike p first q own n → (i : ℕ) → i < 8 * n → packed_bit p (8 * first + i) ≡ packed_bit q (own + i)
  bits_alike n small alike i lt =
      let at : (8 * first + i) / 8 ≡ first + i / 8 = omega arith in
      let shift : (8 * first + i) % 8 ≡ i % 8 = omega arith in
      let place : own + 8 * (i / 8) + i % 8 ≡ own + i = omega arith in
      rw (at, shift) (ap (λ (b : ℕ). eqb (bit_at b (7 - i % 8)) 1) (alike (i / 8) (omega arith)) ∙ bit_of_byte_from q small (own + 8 * (i / 8)) (i % 8) (omega arith) ∙ ap (packed_bit q) place)

-- ---- lists of bits
-- the bit of a list that bytes hold
bit_of : (x : List Bool) (p : List ℕ) (i : ℕ) → x ≡ unpacked p (length x) → i < length x → get_or x i false ≡ packed_bit p i
bit_of x p i e there = ap (λ l. get_or l i false) e ∙ get_or-map-range_with_len (packed_bit p) 0 (length x) i i false there (omega arith)

-- bits up to a byte are alike, and the bytes after them
pub lists_alike : (x y : List Bool) (p q : List ℕ) (at own head n : ℕ) → x ≡ unpacked p (length x) → y ≡ unpacked q (length y) → (at + head) % 8 ≡ 0 → at + (head + 8 * n) ≤ length x → own + (head + 8 * n) ≤ length y
    → ((k : ℕ) → k < head → get_or x (at + k) false ≡ get_or y (own + k) false) → ((i : ℕ) → i < 8 * n → packed_bit p (8 * ((at + head) / 8) + i) ≡ packed_bit q (own + head + i)) → (k : ℕ) → k < head + 8 * n → get_or x (at + k) false ≡ get_or y (own + k) false
lists_alike x y p q at own head n ex ey whole inside_x inside_y before alike k lt = elim (cases_lt k head) [
  | inl early ↦ before k early
  | inr late ↦
      let i = k - head in
      let left : 8 * ((at + head) / 8) + i ≡ at + k = omega (arith, whole, late) in
      let right : own + head + i ≡ own + k = omega arith in
      bit_of x p (at + k) ex (omega arith) ∙ ap (packed_bit p) (sym left) ∙ alike i (omega arith) ∙ ap (packed_bit q) right ∙ sym (bit_of y q (own + k) ey (omega arith))
]
