-- Lemmas about planes of five channels, of which every fifth byte is taken, 16 at a time.
use Rattle.std.proofs.Common.{◌≡◌, ◌⊎◌, ℕ, ◌+◌, ◌-◌, ◌*◌, ◌<◌, ◌≤◌, List, [], ◌∷◌, ◌++◌, length, get_or, slice_index, zero, suc, inl, inr, sym, ap, ◌∙◌, arith}
use Rattle.std.proofs.lemmas.Bool.{cases_lt}
use Rattle.std.proofs.lemmas.List.{get_or_append_left, get_or-append_right}
use Rattle.std.proofs.lemmas.Nat.{mul-le}
use Rattle.std.proofs.lemmas.Simd.{length-chunk, get_or-chunk, get_or-put_chunk_below, get_or-put_chunk_at, get_or-put_chunk_above}
use Rattle.std.specs.Simd.Lanes.{chunk, put_chunk, pick_l}

-- four bytes from each of two vectors
module _ (bytes : List ℕ) (at : ℕ) (long : at + 36 ≤ length bytes) where
  abbrev both : List ℕ
  both = chunk at 16 bytes ++ chunk (at + 20) 16 bytes

  of_first : (m : ℕ) → m < 16 → get_or both m 0 ≡ slice_index bytes (at + m)
  of_first m below = get_or_append_left (chunk at 16 bytes) (chunk (at + 20) 16 bytes) 0 m (omega (arith, below, length-chunk at 16 bytes (omega (arith, long)))) ∙ get_or-chunk at 16 bytes m 0 below

  of_second : (m place : ℕ) → m < 16 → at + 20 + m ≡ place → get_or both (16 + m) 0 ≡ slice_index bytes place
  of_second m place below is =
      let e : 16 + m - 16 ≡ m = omega arith in
      get_or-append_right (chunk at 16 bytes) (chunk (at + 20) 16 bytes) 16 (16 + m) 0 (length-chunk at 16 bytes (omega (arith, long))) (omega arith) ∙ ap (λ j. get_or (chunk (at + 20) 16 bytes) j 0) e ∙ get_or-chunk (at + 20) 16 bytes m 0 below ∙ ap (slice_index bytes) is

  pub eight_fifths : (k : ℕ) → k < 8 → get_or (pick_l 0 both (0 ∷ 5 ∷ 10 ∷ 15 ∷ 16 ∷ 21 ∷ 26 ∷ 31 ∷ [])) k 0 ≡ slice_index bytes (at + 5 * k)
  eight_fifths zero h = of_first 0 (omega arith)
  eight_fifths (suc zero) h = of_first 5 (omega arith)
  eight_fifths (suc (suc zero)) h = of_first 10 (omega arith)
  eight_fifths (suc (suc (suc zero))) h = of_first 15 (omega arith)
  eight_fifths (suc (suc (suc (suc zero)))) h = of_second 0 _ (omega arith) (omega arith)
  eight_fifths (suc (suc (suc (suc (suc zero))))) h = of_second 5 _ (omega arith) (omega arith)
  eight_fifths (suc (suc (suc (suc (suc (suc zero)))))) h = of_second 10 _ (omega arith) (omega arith)
  eight_fifths (suc (suc (suc (suc (suc (suc (suc zero))))))) h = of_second 15 _ (omega arith) (omega arith)
  eight_fifths (suc (suc (suc (suc (suc (suc (suc (suc k)))))))) h = absurd (omega (arith, h))

-- eight bytes and eight more
pub sixteen_fifths : (bytes first second : List ℕ) (at k : ℕ) → length first ≡ 8 → ((j : ℕ) → j < 8 → slice_index first j ≡ slice_index bytes (at + 5 * j)) → ((j : ℕ) → j < 8 → slice_index second j ≡ slice_index bytes (at + 40 + 5 * j)) → k < 16
    → slice_index (first ++ second) k ≡ slice_index bytes (at + 5 * k)
sixteen_fifths bytes first second at k size prefix back below = elim (cases_lt k 8) [
  | inl low ↦ get_or_append_left first second 0 k (omega (arith, size, low)) ∙ prefix k low
  | inr high ↦
      let place : at + 40 + 5 * (k - 8) ≡ at + 5 * k = omega (arith, high) in
      get_or-append_right first second 8 k 0 size high ∙ back (k - 8) (omega (arith, below, high)) ∙ ap (slice_index bytes) place
]

-- 16 more bytes of a plane that begins at a place
module _ (planes lanes : List ℕ) (base n : ℕ) (size : length lanes ≡ 16) (room : base + n + 16 ≤ length planes) where
  pub plane_more : (frames : List ℕ) (c : ℕ) → ((j : ℕ) → j < n → slice_index planes (base + j) ≡ slice_index frames (j * 5 + c)) → ((j : ℕ) → j < 16 → slice_index lanes j ≡ slice_index frames ((n + j) * 5 + c))
      → (j : ℕ) → j < n + 16 → slice_index (put_chunk (base + n) planes lanes) (base + j) ≡ slice_index frames (j * 5 + c)
  plane_more frames c before more j h = elim (cases_lt j n) [
    | inl low ↦ get_or-put_chunk_below (base + n) planes lanes (base + j) 0 (omega (arith, low)) ∙ before j low
    | inr high ↦
        let e : base + n + (j - n) ≡ base + j = omega (arith, high) in
        let back : (n + (j - n)) * 5 + c ≡ j * 5 + c = omega (arith, high) in
        let below : j - n < 16 = omega (arith, h, high) in
        ap (slice_index (put_chunk (base + n) planes lanes)) (sym e) ∙ get_or-put_chunk_at (base + n) planes lanes (j - n) 0 (omega (arith, size, below)) (omega (arith, size, room)) ∙ more (j - n) below ∙ ap (slice_index frames) back
  ]

  pub plane_others : (place : ℕ) → (place < base) ⊎ (base + (n + 16) ≤ place) → slice_index (put_chunk (base + n) planes lanes) place ≡ slice_index planes place
  plane_others place (inl low) = get_or-put_chunk_below (base + n) planes lanes place 0 (omega (arith, low))
  plane_others place (inr high) = get_or-put_chunk_above (base + n) planes lanes place 0 (omega (arith, high, size))

-- the place of a frame in a block is small
pub frame_fits : (k n : ℕ) → k < 4096 → n ≤ 6 → k * n < 24577
frame_fits k n few number = omega (arith, mul-le k n 4095 6 (omega (arith, few)) number)
