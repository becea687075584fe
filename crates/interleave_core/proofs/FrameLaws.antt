-- Frames that are taken apart and put together again.
use Rattle.std.proofs.Common.{◌≡◌, ℕ, ◌+◌, ◌*◌, ◌/◌, ◌%◌, ◌<◌, ◌≤◌, ◌^◌, List, [], map, length, get_or, slice_index, sym, ap, ap₂, ◌∙◌, arith, inl, inr}
use Rattle.std.proofs.lemmas.Bool.{cases_lt}
use Rattle.std.proofs.lemmas.List.{get_or_past}
use Rattle.std.proofs.lemmas.Grind.{same_number_lists}
use Rattle.std.proofs.lemmas.List.FromFn.{length-map-range_with_len, get_or-map-range_with_len}
use Rattle.std.proofs.lemmas.Nat.{div-add-mod', div_below, mod_below, mul-le}
use Rattle.std.specs.List.{range_with_len}
use Rattle.std.specs.Int.{div_ceil}
use Rattle.dsd_bits.specs.declared.interleaving.Interleaving.{Interleaving}
use Rattle.dsd_bits.specs.declared.interleaving.Interleaving.TheVariants.{Bytes}
use Rattle.dsd_bits.specs.Lacing.{frame_number, laced, laced_bit, laced_byte, unlaced, unlaced_all}
use Rattle.dsd_bits.specs.Packing.{IsTight, packed, packed_byte, unpacked}
use Rattle.dsd_bits.proofs.BlockLemmas.{packed_at}
use Rattle.dsd_bits.proofs.LacingLemmas.{own_bytes, unpacked-own_bytes}
use Rattle.dsd_bits.proofs.PackingLemmas.{length-unpacked, packed-unpacked, past_end}
use Rattle.interleave_core.specs.Reinterleaving.{reinterleaved}
use Rattle.interleave_core.proofs.TakenLaws.{channel_long, frames_are, unlaced_count, unlaced_number}

module _ (bytes : List ℕ) (n count : ℕ) (some : 1 ≤ n) (whole : count % 8 ≡ 0) (size : length bytes ≡ count / 8 * n) (short : count ≤ 2 ^ 36) (small : (k : ℕ) → slice_index bytes k < 256) where
  -- the bytes of a channel
  own : ℕ → List ℕ
  own c = own_bytes bytes n c (count / 8)

  own_long : (c : ℕ) → length (own c) ≡ count / 8
  unfolding own
  own_long c = length-map-range_with_len (λ frame. slice_index bytes (frame * n + c)) 0 (count / 8)

  own_at : (c j : ℕ) → j < count / 8 → slice_index (own c) j ≡ slice_index bytes (j * n + c)
  unfolding own
  own_at c j below = get_or-map-range_with_len (λ frame. slice_index bytes (frame * n + c)) 0 (count / 8) j j 0 below (omega arith)

  tight : (c : ℕ) → IsTight (own c) (8 * (count / 8))
  tight c = record {
    enough = omega (arith, own_long c);
    no_more = omega (arith, own_long c);
    in_limit = omega (arith, short, whole);
    spare = λ i past. past_end (own c) i (omega (arith, own_long c));
  }

  own_small : (c j : ℕ) → slice_index (own c) j < 256
  unfolding own
  own_small c j = elim (cases_lt j (count / 8)) [
    | inl low ↦ rw (own_at c j low) (small (j * n + c))
    | inr high ↦ rw (get_or_past (own c) j 0 (omega (arith, own_long c))) (omega arith)
  ]

  -- byte j of a channel
  byte_again : (c j : ℕ) → j < count / 8 → packed_byte (unlaced bytes n c) j ≡ slice_index bytes (j * n + c)
  unfolding own
  byte_again c j below =
      let again = packed-unpacked (own c) (8 * (count / 8)) (tight c) (own_small c) in
      let xs = unpacked (own c) (8 * (count / 8)) in
      let long : div_ceil (length xs) 8 ≡ count / 8 = omega (arith, length-unpacked (own c) (8 * (count / 8))) in
      let channel : unlaced bytes n c ≡ xs = ap (λ k. map (laced_bit bytes n c) (range_with_len 0 (8 * k))) (frames_are bytes n count some whole size) ∙ sym (unpacked-own_bytes bytes n c (count / 8)) in
      ap (λ x. packed_byte x j) channel
      ∙ sym (get_or-map-range_with_len (packed_byte xs) 0 (div_ceil (length xs) 8) j j 0 (omega (arith, long)) (omega arith))
      ∙ sym (ap (λ bs. slice_index bs j) again)
      ∙ own_at c j below

  -- the same of a byte past the end, where both are zero
  pub frame_byte : (c j : ℕ) → packed_byte (unlaced bytes n c) j ≡ slice_index bytes (j * n + c)
  frame_byte c j = elim (cases_lt j (count / 8)) [
    | inl low ↦ byte_again c j low
    | inr high ↦
        let past : count / 8 * n ≤ j * n = mul-le (count / 8) n j n high (omega arith) in
        let xs = unlaced bytes n c in
        let long : div_ceil (length xs) 8 ≡ count / 8 = omega (arith, channel_long bytes n count some whole size c) in
        sym (packed_at xs j) ∙ get_or_past (packed xs) j 0 (omega (arith, long, length-map-range_with_len (packed_byte xs) 0 (div_ceil (length xs) 8))) ∙ sym (get_or_past bytes (j * n + c) 0 (omega arith))
  ]

  pub frames_again : reinterleaved Bytes Bytes n count bytes ≡ bytes
  frames_again =
      let all = unlaced_all bytes n in
      let number = unlaced_number bytes n count some whole size in
      let bits = unlaced_count bytes n count some whole size in
      let places : frame_number all * length all ≡ count / 8 * n = ap₂ (λ (k m : ℕ). k / 8 * m) bits number in
      let long = length-map-range_with_len (laced_byte all) 0 (frame_number all * length all) in
      same_number_lists (laced all) bytes (long ∙ places ∙ sym size) (λ p h.
      let below : p < count / 8 * n = omega (arith, long, places) in
      let c = mod_below p n some in
      get_or-map-range_with_len (laced_byte all) 0 (frame_number all * length all) p p 0 (omega (arith, places)) (omega arith)
      ∙ ap (λ m. packed_byte (get_or all (p % m) []) (p / m)) number
      ∙ ap (λ x. packed_byte x (p / n)) (get_or-map-range_with_len (unlaced bytes n) 0 n (p % n) (p % n) [] c (omega arith))
      ∙ byte_again (p % n) (p / n) (div_below p n (count / 8) some below)
      ∙ ap (slice_index bytes) (div-add-mod' p n))

  pub same_frames : (from to : Interleaving) → from ≡ Bytes → to ≡ Bytes → reinterleaved from to n count bytes ≡ bytes
  same_frames from to from_none to_none = ap₂ (λ (f t : Interleaving). reinterleaved f t n count bytes) from_none to_none ∙ frames_again
