-- Lemmas about laced sound bytes.
use Rattle.std.proofs.Common.{◌≡◌, ◌≢◌, ℕ, ◌+◌, ◌-◌, ◌*◌, ◌/◌, ◌%◌, ◌<◌, ◌≤◌, Bool, false, eqb, List, [], ◌++◌, map, take, length, get_or, slice_index, inl, inr, sym, ap, ◌∙◌, refl, arith, mul_comm, mul_assoc, add-zero}
use Rattle.std.proofs.lemmas.List.FromFn.{length-map-range_with_len, get_or-map-range_with_len}
use Rattle.std.proofs.lemmas.List.{same_lists, ext_get_or, get_or_append_left, get_or-append_right}
use Rattle.std.proofs.Math.Nat.{add-mul}
use Rattle.std.proofs.lemmas.Simd.{length-chunk, get_or-chunk, get_or-put_chunk_below, get_or-put_chunk_at}
use lib.Lanes.{chunk, put_chunk}
use Rattle.std.proofs.lemmas.Bool.{cases_lt}
use Rattle.std.proofs.lemmas.Grind.{same_number_lists}
use Rattle.std.proofs.lemmas.Nat.{div-add-mod', div-mul-add, div_below, mod-mul-add, mod_below, mul-add-lt}
use Rattle.std.specs.List.{range_with_len}
use Rattle.std.specs.Int.{bit_at}
use Rattle.dsd_bits.specs.Channels.{IsLevel, count_of}
use Rattle.dsd_bits.specs.Packing.{unpacked, packed_byte, packed}
use Rattle.dsd_bits.specs.Lacing.{AreLaced, laced_bit, picked, unlaced, unlaced_all, frame_number, laced_byte, laced_part, laced}
use Rattle.dsd_bits.proofs.RoundTrip.{bit_of_byte}
use Rattle.dsd_bits.proofs.ShiftingLemmas.{written_back}

-- lists by a function of the place, equal place by place
pub map_range_same : {X : Type 0} (n : ℕ) (f g : ℕ → X) → ((i : ℕ) → i < n → f i ≡ g i) → map f (range_with_len 0 n) ≡ map g (range_with_len 0 n)
map_range_same n f g same =
    same_lists _ _ (length-map-range_with_len f 0 n ∙ sym (length-map-range_with_len g 0 n)) (λ i d h.
    let low : i < n = omega (arith, length-map-range_with_len f 0 n) in
    get_or-map-range_with_len f 0 n i i d low (omega arith) ∙ same i low ∙ sym (get_or-map-range_with_len g 0 n i i d low (omega arith)))

-- the bytes of one channel
abbrev pub own_bytes : List ℕ → ℕ → ℕ → ℕ → List ℕ
own_bytes bytes channels c frames = map (λ frame. slice_index bytes (frame * channels + c)) (range_with_len 0 frames)

pub unpacked-own_bytes : (bytes : List ℕ) (channels c frames : ℕ) → unpacked (own_bytes bytes channels c frames) (8 * frames) ≡ map (laced_bit bytes channels c) (range_with_len 0 (8 * frames))
unpacked-own_bytes bytes channels c frames = map_range_same (8 * frames) _ _ (λ i h.
    ap (λ b. eqb (bit_at b (7 - i % 8)) 1) (get_or-map-range_with_len (λ frame. slice_index bytes (frame * channels + c)) 0 frames (i / 8) (i / 8) 0 (omega arith) (omega arith)))

-- bytes of which each is the channel's
pub picked_is : (to bytes : List ℕ) (channels c from frames : ℕ) → length to ≡ frames → ((j : ℕ) → j < frames → slice_index to j ≡ slice_index bytes ((from + j) * channels + c)) → to ≡ picked bytes channels c from frames
picked_is to bytes channels c from frames size at =
    let f : ℕ → ℕ = λ frame. slice_index bytes (frame * channels + c) in
    same_number_lists _ _ (size ∙ sym (length-map-range_with_len f from frames)) (λ k h.
    let low : k < frames = omega (arith, size) in
    at k low ∙ sym (get_or-map-range_with_len f from frames k (from + k) 0 low refl))

-- all the bytes of a channel
pub unlaced_from : (result : List Bool) (bytes items : List ℕ) (channels c frames len : ℕ) → items ≡ picked bytes channels c 0 frames → len ≡ length items → frames ≡ length bytes / channels → result ≡ unpacked items (8 * len) → result ≡ unlaced bytes channels c
unlaced_from result bytes items channels c frames len own long frames_are read =
    let f : ℕ → ℕ = λ frame. slice_index bytes (frame * channels + c) in
    let size : len ≡ frames = long ∙ ap length own ∙ length-map-range_with_len f 0 frames in
    read ∙ ap (λ bs. unpacked bs (8 * len)) own ∙ ap (λ n. unpacked (own_bytes bytes channels c frames) (8 * n)) size ∙ unpacked-own_bytes bytes channels c frames ∙ ap (λ n. map (laced_bit bytes channels c) (range_with_len 0 (8 * n))) frames_are

-- bytes that were picked are those of the channel
pub unlaced_is : (result : List Bool) (bytes to rest : List ℕ) (channels c len : ℕ) → length to ≡ len → len ≡ length bytes / channels → ((frame : ℕ) → frame < length to → slice_index to frame ≡ slice_index bytes (frame * channels + c))
    → result ≡ unpacked (take len (to ++ rest)) (8 * len) → result ≡ unlaced bytes channels c
unlaced_is result bytes to rest channels c len size frames_are at read =
    let frames = length bytes / channels in
    let f : ℕ → ℕ = λ frame. slice_index bytes (frame * channels + c) in
    let own : to ≡ own_bytes bytes channels c frames =
    same_number_lists _ _ (size ∙ frames_are ∙ sym (length-map-range_with_len f 0 frames)) (λ k h. at k h ∙ sym (get_or-map-range_with_len f 0 frames k k 0 (omega (arith, size, frames_are)) (omega arith))) in
    read ∙ ap (λ bs. unpacked bs (8 * len)) (written_back to rest len size ∙ own) ∙ ap (λ n. unpacked (own_bytes bytes channels c frames) (8 * n)) frames_are ∙ unpacked-own_bytes bytes channels c frames

-- ---- two channels taken apart, sixteen frames at a time

pub side_by_side : (bytes : List ℕ) (at m : ℕ) → at + 32 ≤ length bytes → m < 32 → get_or (chunk at 16 bytes ++ chunk (at + 16) 16 bytes) m 0 ≡ slice_index bytes (at + m)
side_by_side bytes at m long below = elim (cases_lt m 16) [
  | inl low ↦ get_or_append_left (chunk at 16 bytes) (chunk (at + 16) 16 bytes) 0 m (omega (arith, length-chunk at 16 bytes (omega arith))) ∙ get_or-chunk at 16 bytes m 0 low
  | inr high ↦
      let e : at + 16 + (m - 16) ≡ at + m = omega arith in
      get_or-append_right (chunk at 16 bytes) (chunk (at + 16) 16 bytes) 16 m 0 (length-chunk at 16 bytes (omega arith)) high ∙ get_or-chunk (at + 16) 16 bytes (m - 16) 0 (omega arith) ∙ ap (slice_index bytes) e
]

-- one vector more
pub more_lanes : (to lanes bytes : List ℕ) (n : ℕ) (place : ℕ → ℕ) → length lanes ≡ 16 → n + 16 ≤ length to
    → ((j : ℕ) → j < n → slice_index to j ≡ slice_index bytes (place j))
    → ((j : ℕ) → j < 16 → slice_index lanes j ≡ slice_index bytes (place (n + j)))
    → (j : ℕ) → j < n + 16 → slice_index (put_chunk n to lanes) j ≡ slice_index bytes (place j)
more_lanes to lanes bytes n place size room before more j h = elim (cases_lt j n) [
  | inl low ↦ get_or-put_chunk_below n to lanes j 0 low ∙ before j low
  | inr high ↦
      let e : n + (j - n) ≡ j = omega arith in
      let below : j - n < 16 = omega arith in
      ap (slice_index (put_chunk n to lanes)) (sym e) ∙ get_or-put_chunk_at n to lanes (j - n) 0 (omega (arith, size)) (omega (arith, size)) ∙ more (j - n) below ∙ ap (λ i. slice_index bytes (place i)) e
]

-- ---- places of channels in frames

pub frames_apart : (a b n c : ℕ) → c < n → a ≢ b → a * n + c ≢ b * n + c
frames_apart a b n c h apart = λ e. apart (sym (div-mul-add a n c h) ∙ ap (λ m. m / n) e ∙ div-mul-add b n c h)

pub channels_apart : (a b n c d : ℕ) → c < n → d < n → d ≢ c → a * n + d ≢ b * n + c
channels_apart a b n c d hc hd apart = λ e. apart (sym (mod-mul-add a n d hd) ∙ ap (λ m. m % n) e ∙ mod-mul-add b n c hc)

-- ---- channels of whole bytes
module _ (channels : List (List Bool)) (level : IsLevel channels) (whole : count_of channels % 8 ≡ 0) (some : 1 ≤ length channels) where
  pub channel_length : (c : ℕ) → c < length channels → length (get_or channels c []) ≡ 8 * frame_number channels
  channel_length c in_list = omega (arith, level.same c [] in_list)

  -- the byte of a channel at a frame
  pub byte_is_laced : (frame c : ℕ) → frame < frame_number channels → c < length channels → slice_index (packed (get_or channels c [])) frame ≡ laced_byte channels (frame * length channels + c)
  byte_is_laced frame c below in_list =
      let n = length channels in
      let size = channel_length c in_list in
      let read = get_or-map-range_with_len (packed_byte (get_or channels c [])) 0 _ frame frame 0 (omega arith) (omega arith) in
      read ∙ sym (ap (λ p. packed_byte (get_or channels p []) ((frame * n + c) / n)) (mod-mul-add frame n c in_list) ∙ ap (packed_byte (get_or channels c [])) (div-mul-add frame n c in_list))

  length-laced : length (laced channels) ≡ frame_number channels * length channels
  length-laced = length-map-range_with_len (laced_byte channels) 0 _

  -- bytes of which each is a channel's
  pub laced_part_is : (to : List ℕ) (from frames : ℕ) → from + frames ≤ frame_number channels → length to ≡ frames * length channels
      → ((frame c : ℕ) → frame < frames → c < length channels → slice_index to (frame * length channels + c) ≡ slice_index (packed (get_or channels c [])) (from + frame))
      → to ≡ laced_part channels from frames
  laced_part_is to from frames inside size at =
      let n = length channels in
      let long = length-map-range_with_len (laced_byte channels) (from * n) (frames * n) in
      same_number_lists _ _ (size ∙ sym long) (λ j h.
      let below : j < frames * n = omega (arith, size) in
      let frame : j / n < frames = div_below j n frames some below in
      let c : j % n < n = mod_below j n some in
      let place : j / n * n + j % n ≡ j = div-add-mod' j n in
      let moved : (from + j / n) * n + j % n ≡ from * n + j = omega (arith, add-mul from (j / n) n, place) in
      let inner : from + j / n < frame_number channels = omega (arith, inside, frame) in
      ap (slice_index to) (sym place) ∙ at (j / n) (j % n) frame c ∙ byte_is_laced (from + j / n) (j % n) inner c ∙ ap (laced_byte channels) moved
      ∙ sym (get_or-map-range_with_len (laced_byte channels) (from * n) (frames * n) j (from * n + j) 0 below refl))

  pub laced_two_are : (to : List ℕ) (from frames : ℕ) → length channels ≡ 2 → from + frames ≤ frame_number channels → length to ≡ frames * length channels
      → ((frame : ℕ) → frame < frames → slice_index to (2 * frame) ≡ slice_index (packed (get_or channels 0 [])) (from + frame))
      → ((frame : ℕ) → frame < frames → slice_index to (2 * frame + 1) ≡ slice_index (packed (get_or channels 1 [])) (from + frame))
      → to ≡ laced_part channels from frames
  laced_two_are to from frames two inside size at-left at-right = laced_part_is to from frames inside size (λ frame c below in_list.
      let row = ap (λ m. frame * m + c) two in
      elim (cases_lt c 1) [
        | inl low ↦
            let e : c ≡ 0 = omega arith in
            let place : frame * 2 + c ≡ 2 * frame = omega (arith, e) in
            ap (slice_index to) (row ∙ place) ∙ at-left frame below ∙ ap (λ m. slice_index (packed (get_or channels m [])) (from + frame)) (sym e)
        | inr high ↦
            let e : c ≡ 1 = omega (arith, two) in
            let place : frame * 2 + c ≡ 2 * frame + 1 = omega (arith, e) in
            ap (slice_index to) (row ∙ place) ∙ at-right frame below ∙ ap (λ m. slice_index (packed (get_or channels m [])) (from + frame)) (sym e)
      ])

  frames_again : length (laced channels) / length channels ≡ frame_number channels
  frames_again = rw (length-laced, ← add-zero (frame_number channels * length channels)) (div-mul-add (frame_number channels) (length channels) 0 some)

  -- a bit of channel c
  bit_again : (c i : ℕ) → c < length channels → i < 8 * frame_number channels → laced_bit (laced channels) (length channels) c i ≡ get_or (get_or channels c []) i false
  bit_again c i in_list below =
      let n = length channels in
      let frame : i / 8 < frame_number channels = omega arith in
      let place : i / 8 * n + c < frame_number channels * n = omega (arith, mul-add-lt (i / 8) n c (frame_number channels) frame in_list, mul_comm n (frame_number channels)) in
      let read = get_or-map-range_with_len (laced_byte channels) 0 (frame_number channels * n) (i / 8 * n + c) (i / 8 * n + c) 0 place (omega arith) in
      ap (λ b. eqb (bit_at b (7 - i % 8)) 1) (read ∙ ap (λ p. packed_byte (get_or channels p []) ((i / 8 * n + c) / n)) (mod-mul-add (i / 8) n c in_list) ∙ ap (packed_byte (get_or channels c [])) (div-mul-add (i / 8) n c in_list)) ∙ bit_of_byte (get_or channels c []) i

  -- each bit is at its place
  pub are_laced : AreLaced channels (laced channels)
  are_laced = record {
    size =
        let e : 8 * frame_number channels ≡ count_of channels = omega arith in
        ap (λ m. 8 * m) length-laced ∙ sym (mul_assoc 8 (frame_number channels) (length channels)) ∙ ap (λ m. m * length channels) e;
    at = λ c i in_list below. bit_again c i in_list (omega arith);
  }

  channel_again : (c : ℕ) → c < length channels → unlaced (laced channels) (length channels) c ≡ get_or channels c []
  channel_again c in_list =
      let size = length-map-range_with_len (laced_bit (laced channels) (length channels) c) 0 (8 * (length (laced channels) / length channels)) ∙ ap (λ m. 8 * m) frames_again in
      ext_get_or false _ _ (size ∙ sym (channel_length c in_list)) (λ i h.
      let below : i < 8 * frame_number channels = omega arith in
      let room : i < 8 * (length (laced channels) / length channels) = omega (arith, frames_again) in
      get_or-map-range_with_len (laced_bit (laced channels) (length channels) c) 0 _ i i false room (omega arith) ∙ bit_again c i in_list below)

  -- the law of lacing
  pub unlaced_all-laced : unlaced_all (laced channels) (length channels) ≡ channels
  unlaced_all-laced =
      let size = length-map-range_with_len (unlaced (laced channels) (length channels)) 0 (length channels) in
      ext_get_or [] _ _ size (λ c h.
      let in_list : c < length channels = omega arith in
      get_or-map-range_with_len (unlaced (laced channels) (length channels)) 0 (length channels) c c [] in_list (omega arith) ∙ channel_again c in_list)
