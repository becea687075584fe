-- Lemmas about bytes that are read from any bit on.
use Rattle.std.proofs.Common.{◌≡◌, ℕ, ◌+◌, ◌-◌, ◌*◌, ◌/◌, ◌%◌, ◌^◌, ◌<◌, ◌≤◌, false, eqb, List, ◌++◌, max, length, get_or, slice_index, set, bit_or, slice_range, take, drop, get_or-take, get_or-drop, length-drop, length-take-le, length-append, eq-eqb, ne_eqb, refl, sym, ap, ◌∙◌, inl, inr, arith}
use Rattle.std.proofs.Math.Nat.{max-zero, zero-max}
use Rattle.std.proofs.Math.Seq.{take-append_seam}
use Rattle.std.proofs.lemmas.Bool.{cases_lt, cases_eq}
use Rattle.std.proofs.lemmas.Grind.{same_number_lists}
use Rattle.std.proofs.lemmas.List.{get_or_append_left, get_or-append_right, take_all}
use Rattle.std.proofs.lemmas.List.FromFn.{length-map-range_with_len, get_or-map-range_with_len}
use Rattle.std.proofs.lemmas.Nat.{shr-shr}
use Rattle.std.proofs.lemmas.Nat.Bits.{bit_at-lt, bit_at_or, bit_at_above, bit_at_cat_low, bit_at_cat_high}
use Rattle.std.specs.Int.{bit_at}
use Rattle.dsd_bits.specs.Packing.{packed_bit}
use Rattle.dsd_bits.proofs.PackingLemmas.{packed_bit-set}
use Rattle.dsd_bits.specs.Shifting.{byte_across, byte_from, bytes_from}

-- a bit of what is left after a shift
bit_at-shr : (x t m : ℕ) → bit_at (x / 2 ^ t) m ≡ bit_at x (t + m)
bit_at-shr x t m = ap (λ v. v % 2) (shr-shr x t m)

-- a bit of the lowest byte
bit_at-low_byte : (y m : ℕ) → m < 8 → bit_at (y % 256) m ≡ bit_at y m
bit_at-low_byte y m h =
    let whole : y / 256 * 2 ^ 8 + y % 256 ≡ y = omega arith in
    sym (bit_at_cat_low (y / 256) 8 (y % 256) m h) ∙ ap (λ v. bit_at v m) whole

across_first : (high low s i : ℕ) → low < 256 → s + i < 8 → bit_at (byte_across high low s) (7 - i) ≡ bit_at high (7 - (s + i))
across_first high low s i small h =
    let place : 8 - s + (7 - i) - 8 ≡ 7 - (s + i) = omega arith in
    bit_at-low_byte _ (7 - i) (omega arith) ∙ bit_at-shr (high * 256 + low) (8 - s) (7 - i) ∙ bit_at_cat_high high 8 low (8 - s + (7 - i)) small (omega arith) ∙ ap (bit_at high) place

across_second : (high low s i : ℕ) → s < 8 → i < 8 → 8 ≤ s + i → bit_at (byte_across high low s) (7 - i) ≡ bit_at low (7 - (s + i - 8))
across_second high low s i part within h =
    let place : 8 - s + (7 - i) ≡ 7 - (s + i - 8) = omega arith in
    bit_at-low_byte _ (7 - i) (omega arith) ∙ bit_at-shr (high * 256 + low) (8 - s) (7 - i) ∙ bit_at_cat_low high 8 low (8 - s + (7 - i)) (omega arith) ∙ ap (bit_at low) place

module _ (bytes : List ℕ) (small : (j : ℕ) → slice_index bytes j < 256) where
  -- bit i of the byte from a bit on
  pub bit_of_byte_from : (at i : ℕ) → i < 8 → eqb (bit_at (byte_from bytes at) (7 - i)) 1 ≡ packed_bit bytes (at + i)
  bit_of_byte_from at i h = elim (cases_lt (at % 8 + i) 8) [
    | inl first ↦
        let q : (at + i) / 8 ≡ at / 8 = omega arith in
        let r : (at + i) % 8 ≡ at % 8 + i = omega arith in
        rw (q, r) (ap (λ (b : ℕ). eqb b 1) (across_first _ _ (at % 8) i (small (at / 8 + 1)) first))
    | inr second ↦
        let q : (at + i) / 8 ≡ at / 8 + 1 = omega arith in
        let r : (at + i) % 8 ≡ at % 8 + i - 8 = omega arith in
        rw (q, r) (ap (λ (b : ℕ). eqb b 1) (across_second _ _ (at % 8) i (omega arith) h second))
  ]

  -- the bits of the bytes from a bit on
  pub packed_bit-bytes_from : (at size i : ℕ) → i < 8 * size → packed_bit (bytes_from bytes at size) i ≡ packed_bit bytes (at + i)
  packed_bit-bytes_from at size i h =
      let e : at + 8 * (i / 8) + i % 8 ≡ at + i = omega arith in
      ap (λ b. eqb (bit_at b (7 - i % 8)) 1) (get_or-map-range_with_len (λ k. byte_from bytes (at + 8 * k)) 0 size (i / 8) (i / 8) 0 (omega arith) (omega arith)) ∙ bit_of_byte_from (at + 8 * (i / 8)) (i % 8) (omega arith) ∙ ap (packed_bit bytes) e

  -- at a whole byte they are the bytes themselves
  pub bytes_from-whole : (at size : ℕ) → at % 8 ≡ 0 → at / 8 + size ≤ length bytes → slice_range bytes (at / 8) (at / 8 + size) ≡ bytes_from bytes at size
  bytes_from-whole at size whole within =
      let f : ℕ → ℕ = λ k. byte_from bytes (at + 8 * k) in
      let cut : at / 8 + size - at / 8 ≡ size = omega arith in
      let n : length (slice_range bytes (at / 8) (at / 8 + size)) ≡ size = rw cut (length-take-le size (drop (at / 8) bytes) (omega (arith, length-drop (at / 8) bytes))) in
      same_number_lists _ _ (n ∙ sym (length-map-range_with_len f 0 size)) (λ j h.
      let below : j < size = omega (arith, n) in
      let q : (at + 8 * j) / 8 ≡ at / 8 + j = omega arith in
      let r : (at + 8 * j) % 8 ≡ 0 = omega arith in
      let high = slice_index bytes (at / 8 + j) in
      let low = slice_index bytes (at / 8 + j + 1) in
      let one : byte_across high low 0 ≡ high = omega (arith, small (at / 8 + j), small (at / 8 + j + 1)) in
      let part : get_or (slice_range bytes (at / 8) (at / 8 + size)) j 0 ≡ high = rw cut (get_or-take size (drop (at / 8) bytes) j 0 below ∙ get_or-drop (at / 8) bytes j 0) in
      part ∙ sym (get_or-map-range_with_len f 0 size j j 0 below (omega arith) ∙ rw (q, r) one))

-- bytes after bytes
pub packed_bit-append_before : (xs ys : List ℕ) (i : ℕ) → i < 8 * length xs → packed_bit (xs ++ ys) i ≡ packed_bit xs i
packed_bit-append_before xs ys i h = ap (λ b. eqb (bit_at b (7 - i % 8)) 1) (get_or_append_left xs ys 0 (i / 8) (omega arith))

pub packed_bit-append_after : (xs ys : List ℕ) (i : ℕ) → 8 * length xs ≤ i → packed_bit (xs ++ ys) i ≡ packed_bit ys (i - 8 * length xs)
packed_bit-append_after xs ys i h =
    let q : (i - 8 * length xs) / 8 ≡ i / 8 - length xs = omega arith in
    let r : (i - 8 * length xs) % 8 ≡ i % 8 = omega arith in
    rw (q, r) (ap (λ b. eqb (bit_at b (7 - i % 8)) 1) (get_or-append_right xs ys (length xs) (i / 8) 0 refl (omega arith)))

-- a slice of all the bytes that was written
pub written_back : (to rest : List ℕ) (n : ℕ) → length to ≡ n → take n (to ++ rest) ≡ to
written_back to rest n e =
    let size : length (take n (to ++ rest)) ≡ n = length-take-le n (to ++ rest) (omega (arith, length-append to rest)) in
    same_number_lists _ _ (size ∙ sym e) (λ k h. get_or-take n (to ++ rest) k 0 (omega arith) ∙ get_or_append_left to rest 0 k (omega arith))

-- a slice that was written after the old bytes
pub written_after : (old pad all prefix new rest : List ℕ) (kept n len : ℕ) → kept ≡ length old → kept ≤ n → all ≡ take n old ++ pad → prefix ≡ take kept all → length (prefix ++ new) ≡ len
    → take len ((prefix ++ new) ++ rest) ≡ old ++ new
written_after old pad all prefix new rest kept n len k h all_is prefix_is size =
    let whole = all_is ∙ ap (λ xs. xs ++ pad) (take_all n old (omega arith)) in
    written_back (prefix ++ new) rest len size ∙ ap (λ xs. xs ++ new) (prefix_is ∙ ap (take kept) whole ∙ ap (λ m. take m (old ++ pad)) k ∙ take-append_seam old pad)

-- bytes that are appended one by one
pub appended : (old to source : List ℕ) (at size : ℕ) → length to ≡ length old + size → ((j : ℕ) → j < length old → slice_index to j ≡ slice_index old j)
    → ((j : ℕ) → j < size → slice_index to (length old + j) ≡ byte_from source (at + 8 * j)) → to ≡ old ++ bytes_from source at size
appended old to source at size n before after =
    let f : ℕ → ℕ = λ k. byte_from source (at + 8 * k) in
    let all : length (old ++ bytes_from source at size) ≡ length old + size = length-append old (bytes_from source at size) ∙ ap (λ m. length old + m) (length-map-range_with_len f 0 size) in
    same_number_lists _ _ (n ∙ sym all) (λ k h. elim (cases_lt k (length old)) [
      | inl low ↦ before k low ∙ sym (get_or_append_left old (bytes_from source at size) 0 k low)
      | inr high ↦
          let e : length old + (k - length old) ≡ k = omega arith in
          let below : k - length old < size = omega arith in
          ap (slice_index to) (sym e) ∙ after (k - length old) below ∙ sym (get_or-append_right old (bytes_from source at size) (length old) k 0 refl high ∙ get_or-map-range_with_len f 0 size (k - length old) (k - length old) 0 below (omega arith))
    ])

-- a bit that is not one
not_one : (v : ℕ) → v < 2 → eqb v 1 ≡ false → v ≡ 0
not_one v small h = grind (arith, h)

-- `bytes[at / 8] |= byte >> at % 8`
module _ (bytes : List ℕ) (at b : ℕ) (byte : b < 256) (room : at / 8 < length bytes) where
  abbrev filled : List ℕ
  filled = set bytes (at / 8) (bit_or (slice_index bytes (at / 8)) (b / 2 ^ (at % 8)))

  -- a bit of the byte that is written
  bit_filled : (m : ℕ) → bit_at (bit_or (slice_index bytes (at / 8)) (b / 2 ^ (at % 8))) m ≡ max (bit_at (slice_index bytes (at / 8)) m) (bit_at b (at % 8 + m))
  bit_filled m = bit_at_or (slice_index bytes (at / 8)) (b / 2 ^ (at % 8)) m ∙ ap (max (bit_at (slice_index bytes (at / 8)) m)) (bit_at-shr b (at % 8) m)

  pub filled_before : (i : ℕ) → i < at → packed_bit filled i ≡ packed_bit bytes i
  filled_before i h = packed_bit-set bytes (at / 8) _ i room ∙ elim (cases_eq (i / 8) (at / 8)) [
    | inl e ↦
        let none : bit_at b (at % 8 + (7 - i % 8)) ≡ 0 = bit_at_above b 8 _ byte (omega arith) in
        let old = bit_filled (7 - i % 8) ∙ ap (max (bit_at (slice_index bytes (at / 8)) (7 - i % 8))) none ∙ max-zero _ in
        rw (eq-eqb _ _ e, old, e) refl
    | inr ne ↦ rw (ne_eqb _ _ ne) refl
  ]

  pub filled_after : (i : ℕ) → at ≤ i → i / 8 ≡ at / 8 → packed_bit bytes i ≡ false → packed_bit filled i ≡ eqb (bit_at b (7 - (i - at))) 1
  filled_after i h e spare =
      let old : bit_at (slice_index bytes (at / 8)) (7 - i % 8) ≡ 0 = ap (λ j. bit_at (slice_index bytes j) (7 - i % 8)) (sym e) ∙ not_one _ (bit_at-lt _ _) spare in
      let place : at % 8 + (7 - i % 8) ≡ 7 - (i - at) = omega arith in
      let bit = bit_filled (7 - i % 8) ∙ ap (λ m. max m (bit_at b (at % 8 + (7 - i % 8)))) old ∙ zero-max _ ∙ ap (bit_at b) place in
      packed_bit-set bytes (at / 8) _ i room ∙ rw (eq-eqb _ _ e, bit) refl
