-- What bytes hold after a range of bits was added to them.
use Rattle.std.proofs.Common.{◌≡◌, ℕ, ◌+◌, ◌-◌, ◌*◌, ◌<◌, ◌≤◌, Bool, false, List, ◌++◌, length, get_or, slice_index, slice_range, drop, get_or-take, get_or-drop, length-append, sym, ap, ◌∙◌, inl, inr, arith}
use Rattle.std.proofs.lemmas.Bool.{cases_lt}
use Rattle.std.proofs.lemmas.List.{ext_get_or, get_or_append_left, get_or-append_right}
use Rattle.std.specs.Int.{div_ceil}
use Rattle.dsd_bits.specs.Packing.{packed_bit, unpacked, IsTight}
use Rattle.dsd_bits.specs.Shifting.{bytes_from}
use Rattle.dsd_bits.proofs.PackingLemmas.{length-unpacked, get_or-unpacked, at_tight, length-slice_range}
use Rattle.dsd_bits.proofs.ShiftingLemmas.{packed_bit-bytes_from, packed_bit-append_before, packed_bit-append_after}

-- the bytes of the list xs, then the bytes that were appended, then the last of the first was filled
module _ (bytes : List ℕ) (n : ℕ) (tight : IsTight bytes n) (xs : List Bool) (xs_is : unpacked bytes n ≡ xs)
    (source : List ℕ) (small : (j : ℕ) → slice_index source j < 256) (src : List Bool) (src_is : src ≡ unpacked source (length src)) (src_tight : IsTight source (length src))
    (start stop added : ℕ) (in_order : start ≤ stop) (in_source : stop ≤ length src) (size : length bytes + added ≡ div_ceil (n + (stop - start)) 8)
    (filled : List ℕ)
    (before : (i : ℕ) → i < n → packed_bit filled i ≡ packed_bit (bytes ++ bytes_from source (start + (8 * length bytes - n)) added) i)
    (in_byte : (i : ℕ) → n ≤ i → i < 8 * div_ceil n 8 → packed_bit filled i ≡ packed_bit source (start + (i - n)))
    (after : (i : ℕ) → 8 * div_ceil n 8 ≤ i → packed_bit filled i ≡ packed_bit (bytes ++ bytes_from source (start + (8 * length bytes - n)) added) i) where
  length_old : length xs ≡ n
  length_old = ap length (sym xs_is) ∙ length-unpacked bytes n

  -- the bits that were there
  old_bit : (i : ℕ) → i < n → packed_bit filled i ≡ get_or xs i false
  old_bit i h = before i h ∙ packed_bit-append_before bytes _ i (omega (arith, tight.enough)) ∙ sym (at_tight bytes n tight i) ∙ ap (λ l. get_or l i false) xs_is

  -- the bits that were added
  from_source : (i : ℕ) → n ≤ i → i < n + (stop - start) → packed_bit filled i ≡ packed_bit source (start + (i - n))
  from_source i h below = elim (cases_lt i (8 * div_ceil n 8)) [
    | inl first ↦ in_byte i h first
    | inr rest ↦
        let whole : 8 * length bytes ≤ i = omega (arith, tight.no_more, tight.enough) in
        let in_rest : i - 8 * length bytes < 8 * added = omega (arith, size) in
        let place : start + (8 * length bytes - n) + (i - 8 * length bytes) ≡ start + (i - n) = omega (arith, tight.enough) in
        after i rest ∙ packed_bit-append_after bytes _ i whole ∙ packed_bit-bytes_from source small _ added (i - 8 * length bytes) in_rest ∙ ap (packed_bit source) place
  ]

  new_bit : (i : ℕ) → n ≤ i → i < n + (stop - start) → packed_bit filled i ≡ get_or (xs ++ slice_range src start stop) i false
  new_bit i h below =
      let k = start + (i - n) in
      let read = get_or-take (stop - start) (drop start src) (i - n) false (omega arith) ∙ get_or-drop start src (i - n) false in
      from_source i h below ∙ sym (at_tight source (length src) src_tight k) ∙ ap (λ l. get_or l k false) (sym src_is) ∙ sym (get_or-append_right xs (slice_range src start stop) n i false length_old h ∙ read)

  pub range_appended : unpacked filled (n + (stop - start)) ≡ xs ++ slice_range src start stop
  range_appended =
      let count = length-unpacked filled (n + (stop - start)) in
      let all : length (xs ++ slice_range src start stop) ≡ n + (stop - start) = omega (arith, length-append xs (slice_range src start stop), length-slice_range src start stop in_source, length_old) in
      ext_get_or false _ _ (count ∙ sym all) (λ i h.
      let below : i < n + (stop - start) = omega arith in
      get_or-unpacked filled (n + (stop - start)) i below ∙ elim (cases_lt i n) [
        | inl low ↦ old_bit i low ∙ sym (get_or_append_left xs (slice_range src start stop) false i (omega (arith, length_old)))
        | inr high ↦ new_bit i high below
      ])
