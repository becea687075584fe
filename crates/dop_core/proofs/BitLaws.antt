-- The bits of frames that come piece by piece.
use Rattle.std.proofs.Common.{◌≡◌, ℕ, ◌+◌, ◌-◌, ◌*◌, ◌/◌, ◌%◌, ◌<◌, ◌≤◌, inl, inr, Bool, eqb, List, [], ◌++◌, get_or, length, map, min, slice_index, take, refl, sym, ap, ap₂, ◌∙◌, arith, append-nil}
use Rattle.std.specs.Int.{bit_at, div_ceil}
use Rattle.std.specs.List.{range_with_len}
use Rattle.std.proofs.Math.Nat.{add-mul}
use Rattle.std.proofs.lemmas.Bool.{cases_lt}
use Rattle.std.proofs.lemmas.List.{get_or-append-add, get_or-take, get_or_append_left, nil_from_length}
use Rattle.std.proofs.lemmas.List.FromFn.{get_or-map-range_with_len, length-map-range_with_len}
use Rattle.std.proofs.lemmas.Nat.{mul-le}
use Rattle.dsd_bits.specs.Blocks.{block_byte, blocks_size}
use Rattle.dsd_bits.specs.Channels.{IsLevel, count_of}
use Rattle.dsd_bits.specs.declared.interleaving.Interleaving.{Interleaving}
use Rattle.dsd_bits.specs.declared.interleaving.Interleaving.TheVariants.{Bytes, Blocks}
use Rattle.dsd_bits.specs.Lacing.{frame_number, laced_bit, laced_byte, unlaced_all}
use Rattle.dsd_bits.specs.Packing.{packed_bit}
use Rattle.dsd_bits.proofs.LacingLemmas.{map_range_same}
use Rattle.interleave_core.specs.Reinterleaving.{laced_in}
use Rattle.interleave_core.proofs.JoinLaws.{Appended, written}
use Rattle.interleave_core.proofs.PlaceLaws.{join_by, times_over}
use Rattle.dop_core.specs.Reading.{dop_byte, dop_bytes, dop_channel, dop_channels}
use Rattle.dop_core.proofs.MarkerLaws.{nothing_times}
use Rattle.dop_core.proofs.SoundLaws.{are_described}

-- a bit of a channel is one of a byte
bit_of : (n : ℕ) (sound : List ℕ) (c size i : ℕ) → i / 8 < size → packed_bit (dop_bytes n sound c size) i ≡ eqb (bit_at (dop_byte n sound c (i / 8)) (7 - i % 8)) 1
bit_of n sound c size i low = ap (λ m. eqb (bit_at m (7 - i % 8)) 1) (get_or-map-range_with_len (dop_byte n sound c) 0 size (i / 8) (i / 8) 0 low (omega arith))

module _ (n : ℕ) (first more : List ℕ) (c : ℕ) (in_frame : c < n) where
  -- of the first frames
  byte_left : (frames p : ℕ) → 3 * (frames * n) ≤ length first → p < 2 * frames → dop_byte n (first ++ more) c p ≡ dop_byte n first c p
  byte_left frames p long low =
      let row : (p / 2 + 1) * n ≤ frames * n = mul-le (p / 2 + 1) n frames n (omega (arith, low)) (omega arith) in
      get_or_append_left first more 0 (3 * (p / 2 * n + c) + (1 - p % 2)) (omega (arith, row, add-mul (p / 2) 1 n, in_frame, long))

  -- of those after them
  byte_right : (frames p : ℕ) → length first ≡ 3 * (frames * n) → dop_byte n (first ++ more) c (2 * frames + p) ≡ dop_byte n more c p
  byte_right frames p long =
      let half : (2 * frames + p) / 2 ≡ frames + p / 2 = omega arith in
      let odd : (2 * frames + p) % 2 ≡ p % 2 = omega arith in
      let row : (frames + p / 2) * n ≡ frames * n + p / 2 * n = add-mul frames (p / 2) n in
      let place : 3 * ((2 * frames + p) / 2 * n + c) + (1 - (2 * frames + p) % 2) ≡ length first + (3 * (p / 2 * n + c) + (1 - p % 2)) =
      ap₂ (λ h m. 3 * (h * n + c) + (1 - m)) half odd ∙ omega (arith, row, long) in
      ap (slice_index (first ++ more)) place ∙ get_or-append-add first more (3 * (p / 2 * n + c) + (1 - p % 2)) 0

  -- a channel of the first frames
  channel_left : (count : ℕ) → 3 * (div_ceil count 16 * n) ≤ length first → dop_channel n (first ++ more) count c ≡ dop_channel n first count c
  channel_left count long = map_range_same count _ _ (λ i low.
      let size = div_ceil count 8 in
      let inside : i / 8 < size = omega (arith, low) in
      bit_of n (first ++ more) c size i inside ∙ ap (λ m. eqb (bit_at m (7 - i % 8)) 1) (byte_left (div_ceil count 16) (i / 8) long (omega (arith, low))) ∙ sym (bit_of n first c size i inside))

  channel_both : (frames b : ℕ) → length first ≡ 3 * (frames * n) → dop_channel n (first ++ more) (16 * frames + b) c ≡ dop_channel n first (16 * frames) c ++ dop_channel n more b c
  channel_both frames b long =
      let size = div_ceil (16 * frames + b) 8 in
      join_by (packed_bit (dop_bytes n (first ++ more) c size)) (packed_bit (dop_bytes n first c (div_ceil (16 * frames) 8))) (packed_bit (dop_bytes n more c (div_ceil b 8))) (16 * frames) b (16 * frames + b) refl
      (λ i low. bit_of n (first ++ more) c size i (omega (arith, low)) ∙ ap (λ m. eqb (bit_at m (7 - i % 8)) 1) (byte_left frames (i / 8) (omega (arith, long)) (omega (arith, low))) ∙ sym (bit_of n first c (div_ceil (16 * frames) 8) i (omega (arith, low))))
      (λ i low.
      let byte : (16 * frames + i) / 8 ≡ 2 * frames + i / 8 = omega arith in
      let bit : (16 * frames + i) % 8 ≡ i % 8 = omega arith in
      bit_of n (first ++ more) c size (16 * frames + i) (omega (arith, low))
      ∙ ap₂ (λ p m. eqb (bit_at (dop_byte n (first ++ more) c p) (7 - m)) 1) byte bit
      ∙ ap (λ m. eqb (bit_at m (7 - i % 8)) 1) (byte_right frames (i / 8) long)
      ∙ sym (bit_of n more c (div_ceil b 8) i (omega (arith, low))))

channel_at : (n : ℕ) (sound : List ℕ) (count c : ℕ) → c < n → get_or (dop_channels n sound count) c [] ≡ dop_channel n sound count c
channel_at n sound count c low = get_or-map-range_with_len (dop_channel n sound count) 0 n c c [] low (omega arith)

-- bytes after the frames don't matter
pub channels_left : (n : ℕ) (first more : List ℕ) (count : ℕ) → 3 * (div_ceil count 16 * n) ≤ length first → dop_channels n (first ++ more) count ≡ dop_channels n first count
channels_left n first more count long = map_range_same n _ _ (λ c low. channel_left n first more c low count long)

appended : (n : ℕ) (first more : List ℕ) (frames b : ℕ) → length first ≡ 3 * (frames * n) → Appended (dop_channels n (first ++ more) (16 * frames + b)) (dop_channels n first (16 * frames)) (dop_channels n more b) n (16 * frames)
appended n first more frames b long = record {
  all_long = length-map-range_with_len (dop_channel n (first ++ more) (16 * frames + b)) 0 n;
  first_long = length-map-range_with_len (dop_channel n first (16 * frames)) 0 n;
  more_long = length-map-range_with_len (dop_channel n more b) 0 n;
  each = λ c low. channel_at n (first ++ more) (16 * frames + b) c low ∙ channel_both n first more c low frames b long ∙ sym (ap₂ (λ (x y : List Bool). x ++ y) (channel_at n first (16 * frames) c low) (channel_at n more b c low));
  bits = λ c low. ap length (channel_at n first (16 * frames) c low) ∙ length-map-range_with_len (packed_bit (dop_bytes n first c (div_ceil (16 * frames) 8))) 0 (16 * frames);
}

-- whole groups of frames, and those after them
pub laced_on : (to : Interleaving) (n : ℕ) (first more : List ℕ) (frames b : ℕ) → 1 ≤ n → 16 * frames % 32768 ≡ 0 → length first ≡ 3 * (frames * n)
    → laced_in to (dop_channels n (first ++ more) (16 * frames + b)) ≡ laced_in to (dop_channels n first (16 * frames)) ++ laced_in to (dop_channels n more b)
laced_on to n first more frames b some groups long = written to _ _ _ n (16 * frames) some groups (appended n first more frames b long)

-- the channels of a piece of sound
pub number_is : (n : ℕ) (sound : List ℕ) (count : ℕ) → length (dop_channels n sound count) ≡ n
number_is n sound count = length-map-range_with_len (dop_channel n sound count) 0 n

pub level_is : (n : ℕ) (sound : List ℕ) (count : ℕ) → 1 ≤ n → IsLevel (dop_channels n sound count)
level_is n sound count some = (are_described (record { rate = 0; channels = n; start = 0; frames = 0 }) sound count some).level

pub count_is : (n : ℕ) (sound : List ℕ) (count : ℕ) → 1 ≤ n → count_of (dop_channels n sound count) ≡ count
count_is n sound count some = (are_described (record { rate = 0; channels = n; start = 0; frames = 0 }) sound count some).count

-- no bits are no bytes
pub laced_none : (to : Interleaving) (n : ℕ) (sound : List ℕ) → 1 ≤ n → laced_in to (dop_channels n sound 0) ≡ []
laced_none Bytes n sound some =
    let size : count_of (dop_channels n sound 0) / 8 ≡ 0 = omega (arith, count_is n sound 0 some) in
    nil_from_length _ (length-map-range_with_len (laced_byte (dop_channels n sound 0)) 0 (frame_number (dop_channels n sound 0) * length (dop_channels n sound 0)) ∙ nothing_times (count_of (dop_channels n sound 0) / 8) (length (dop_channels n sound 0)) size)
laced_none (Blocks order) n sound some =
    let groups : div_ceil (count_of (dop_channels n sound 0)) 32768 ≡ 0 = omega (arith, count_is n sound 0 some) in
    let none = nothing_times (div_ceil (count_of (dop_channels n sound 0)) 32768) (length (dop_channels n sound 0)) groups in
    nil_from_length _ (length-map-range_with_len (block_byte order (dop_channels n sound 0)) 0 (blocks_size (length (dop_channels n sound 0)) (count_of (dop_channels n sound 0))) ∙ nothing_times (div_ceil (count_of (dop_channels n sound 0)) 32768 * length (dop_channels n sound 0)) 4096 none)

-- packed bytes, one of each channel in turn
pub packed_are : (n : ℕ) (piece packed : List ℕ) (count : ℕ) → 1 ≤ n → count % 8 ≡ 0 → length packed ≡ count / 8 * n → ((p d : ℕ) → p < count / 8 → d < n → slice_index packed (p * n + d) ≡ dop_byte n piece d p)
    → unlaced_all packed n ≡ dop_channels n piece count
packed_are n piece packed count some whole long each = map_range_same n _ _ (λ c low.
    let bits : 8 * (length packed / n) ≡ count = omega (arith, ap (λ k. k / n) long ∙ times_over (count / 8) n some, whole) in
    ap (λ k. map (laced_bit packed n c) (range_with_len 0 k)) bits
    ∙ map_range_same count _ _ (λ i below. ap (λ m. eqb (bit_at m (7 - i % 8)) 1) (each (i / 8) c (omega (arith, below, whole)) low) ∙ sym (bit_of n piece c (div_ceil count 8) i (omega (arith, below)))))

-- ---- up to some frame

module _ (to : Interleaving) (n frames count : ℕ) (some : 1 ≤ n) (most : count ≤ 16 * frames) (least : 16 * frames < count + 16) where
  -- the bits of the first frames
  abbrev pub so_far : List ℕ → ℕ → List ℕ
  so_far sound done = laced_in to (dop_channels n sound (min count (16 * done)))

  -- with those of the next piece
  pub so_far_on : (sound piece : List ℕ) (done more : ℕ) → done < frames → done + more ≤ frames → 16 * done % 32768 ≡ 0 → length sound ≡ 3 * (done * n) → so_far (sound ++ piece) (done + more) ≡ so_far sound done ++ laced_in to (dop_channels n piece (min (count - 16 * done) (16 * more)))
  so_far_on sound piece done more less within groups long =
      let before : min count (16 * done) ≡ 16 * done = omega (arith, less, least) in
      let all : min count (16 * (done + more)) ≡ 16 * done + min (count - 16 * done) (16 * more) = omega (arith, less, least) in
      ap (λ k. laced_in to (dop_channels n (sound ++ piece) k)) all
      ∙ laced_on to n sound piece done (min (count - 16 * done) (16 * more)) some groups long
      ∙ ap (λ k. laced_in to (dop_channels n sound k) ++ laced_in to (dop_channels n piece (min (count - 16 * done) (16 * more)))) (sym before)

  -- all bits begin with them
  pub so_far_all : (sound rest : List ℕ) (done : ℕ) → done ≤ frames → (done < frames → 16 * done % 32768 ≡ 0) → length sound ≡ 3 * (done * n) → length (sound ++ rest) ≡ 3 * (frames * n) → (tail : List ℕ) × (laced_in to (dop_channels n (sound ++ rest) count) ≡ so_far sound done ++ tail)
  so_far_all sound rest done within groups long whole = elim (cases_lt done frames) [
    | inl less ↦ (
        let before : min count (16 * done) ≡ 16 * done = omega (arith, less, least) in
        let all : count ≡ 16 * done + (count - 16 * done) = omega (arith, less, least) in (
          laced_in to (dop_channels n rest (count - 16 * done)),
          ap (λ k. laced_in to (dop_channels n (sound ++ rest) k)) all
              ∙ laced_on to n sound rest done (count - 16 * done) some (groups less) long
              ∙ ap (λ k. laced_in to (dop_channels n sound k) ++ laced_in to (dop_channels n rest (count - 16 * done))) (sym before),
        ))
    | inr all ↦ (
        let same : done ≡ frames = omega (arith, within, all) in
        let every : count ≡ min count (16 * done) = omega (arith, most, same) in
        let enough : div_ceil count 16 ≤ done = omega (arith, most, same) in
        let fits : div_ceil count 16 * n ≤ done * n = mul-le (div_ceil count 16) n done n enough (omega arith) in (
          [],
          ap (laced_in to) (channels_left n sound rest count (omega (arith, fits, long)))
              ∙ ap (λ k. laced_in to (dop_channels n sound k)) every
              ∙ sym (append-nil (so_far sound done)),
        ))
  ]

-- a byte of the first rows
pub row_taken : (to : List ℕ) (n rows p d : ℕ) → p < rows → d < n → slice_index (take (rows * n) to) (p * n + d) ≡ slice_index to (p * n + d)
row_taken to n rows p d row low =
    let within : (p + 1) * n ≤ rows * n = mul-le (p + 1) n rows n (omega (arith, row)) (omega arith) in
    get_or-take (rows * n) to (p * n + d) 0 (omega (arith, within, add-mul p 1 n, low))
