-- What more groups of sound bytes give of each channel.
use Rattle.std.proofs.Common.{◌≡◌, ℕ, ◌+◌, ◌-◌, ◌*◌, ◌/◌, ◌%◌, ◌<◌, ◌≤◌, min, ℤ, pos, Bool, inl, inr, List, [], ◌∷◌, ◌++◌, map, drop, length, get_or, slice_index, refl, sym, subst, ap, ap₂, ◌∙◌, arith}
use Rattle.std.specs.List.{flat_map, range_with_len}
use Rattle.std.specs.Int.{div_ceil}
use Rattle.std.proofs.Math.Nat.{mul-add-div_right, mul-add-mod_self_right, mul-div_cancel}
use Rattle.std.proofs.Math.Seq.{drop-append_seam}
use Rattle.std.proofs.lemmas.Bool.{cases_lt}
use Rattle.std.proofs.lemmas.Grind.{div_ceil_times, flat_map-append}
use Rattle.std.proofs.lemmas.Nat.{div_below, mod_below, mul-add-lt}
use Rattle.std.proofs.lemmas.List.{append-nil, get_or_append_left, get_or-append_right}
use Rattle.std.proofs.lemmas.List.FromFn.{get_or-map-range_with_len, length-map-range_with_len, map-range_with_len_more}
use Rattle.dsd_bits.specs.declared.interleaving.Interleaving.{Interleaving}
use Rattle.dsd_bits.specs.declared.interleaving.Interleaving.TheVariants.{Bytes, Blocks}
use Rattle.dsd_bits.specs.declared.sound.Sound.{Sound}
use Rattle.dsd_bits.specs.Packing.{unpacked}
use Rattle.dsd_bits.proofs.BlockLemmas.{map_range_join}
use Rattle.dsd_bits.proofs.LacingLemmas.{map_range_same}
use Rattle.fir_core.specs.Decimator.{Decimator, sample_at, samples_of}
use Rattle.fir_core.specs.Places.{samples_from}
use Rattle.fir_core.specs.Streams.{Feeds, Fits, due, due_number, bits_held}
use Rattle.fir_core.specs.StreamView.{state_of}
use Rattle.fir_core.proofs.StreamLaws.{due_more}
use Rattle.fir_core.proofs.TileLaws.{below_ceil}
use Rattle.fir_core.specs.declared.stream.Stream.{Stream}
use Rattle.player_core.specs.Due.{bytes_known, channel_bits, channel_bytes, frames_due}
use Rattle.player_core.specs.Frames.{tile_of}
use Rattle.player_core.specs.Groups.{channel_byte, channel_part, group_size, in_order, part_size, place_in}

-- ---- places, on plain numbers
pub some_part : (interleaving : Interleaving) → 0 < part_size interleaving
some_part Bytes = omega arith
some_part (Blocks order) = omega arith

pub mul_some : (a b : ℕ) → 0 < a → 0 < b → 0 < a * b
mul_some a b h k = grind arith

-- a byte of the first groups is in them
place_before : (interleaving : Interleaving) (channels c p k : ℕ) → c < channels → p < k * part_size interleaving → place_in interleaving channels c p < k * (channels * part_size interleaving)
place_before interleaving channels c p k low before =
    let ps = part_size interleaving in
    let some = some_part interleaving in
    let q : p / ps < k = div_below p ps k some before in
    let row : p / ps * channels + c < channels * k = mul-add-lt (p / ps) channels c k q low in
    let all : (p / ps * channels + c) * ps + p % ps < ps * (channels * k) = mul-add-lt (p / ps * channels + c) ps (p % ps) (channels * k) row (mod_below p ps some) in
    let turned : ps * (channels * k) ≡ k * (channels * ps) = grind arith in
    subst (λ (n : ℕ). (p / ps * channels + c) * ps + p % ps < n) turned all

-- a byte after the first groups is as far after them as it is within the later ones
pub place_after : (interleaving : Interleaving) (channels c p k : ℕ) → place_in interleaving channels c (k * part_size interleaving + p) ≡ k * (channels * part_size interleaving) + place_in interleaving channels c p
place_after interleaving channels c p k =
    let ps = part_size interleaving in
    let q : (k * ps + p) / ps ≡ k + p / ps = mul-add-div_right (some_part interleaving) k p in
    let r : (k * ps + p) % ps ≡ p % ps = mul-add-mod_self_right k ps p in
    let spread : ((k + p / ps) * channels + c) * ps + p % ps ≡ k * (channels * ps) + ((p / ps * channels + c) * ps + p % ps) = grind arith in
    ap₂ (λ m n. (m * channels + c) * ps + n) q r ∙ spread

-- ---- the bytes of a channel
-- those of a prefix, whatever follows it
pub part_of_prefix : (interleaving : Interleaving) (channels : ℕ) (prefix groups : List ℕ) (c k number : ℕ) → c < channels → length prefix ≡ k * (channels * part_size interleaving) → number ≤ k * part_size interleaving
    → channel_part interleaving channels (prefix ++ groups) c 0 number ≡ channel_part interleaving channels prefix c 0 number
part_of_prefix interleaving channels prefix groups c k number low long within =
    map_range_same number (channel_byte interleaving channels (prefix ++ groups) c) (channel_byte interleaving channels prefix c)
    (λ p h. ap (in_order interleaving) (get_or_append_left prefix groups 0 (place_in interleaving channels c p) (omega (arith, long, place_before interleaving channels c p k low (omega arith)))))

-- those after it
part_after : (interleaving : Interleaving) (channels : ℕ) (prefix groups : List ℕ) (c k p : ℕ) → length prefix ≡ k * (channels * part_size interleaving)
    → channel_byte interleaving channels (prefix ++ groups) c (k * part_size interleaving + p) ≡ channel_byte interleaving channels groups c p
part_after interleaving channels prefix groups c k p long =
    let after = place_after interleaving channels c p k in
    let at = place_in interleaving channels c p in
    let back : k * (channels * part_size interleaving) + at - length prefix ≡ at = omega (arith, long) in
    ap (λ n. in_order interleaving (slice_index (prefix ++ groups) n)) after
    ∙ ap (in_order interleaving) (get_or-append_right prefix groups (length prefix) (k * (channels * part_size interleaving) + at) 0 refl (omega (arith, long)) ∙ ap (slice_index groups) back)

-- both
pub bytes_more : (s : Sound) (prefix groups : List ℕ) (c k fed number : ℕ) → c < s.channels → length prefix ≡ k * group_size s.interleaving s.channels
    → bytes_known s (length prefix) ≡ fed → bytes_known s (length (prefix ++ groups)) ≡ fed + number
    → channel_bytes s (prefix ++ groups) c ≡ channel_bytes s prefix c ++ channel_part s.interleaving s.channels groups c 0 number
bytes_more s prefix groups c k fed number low long was is =
    let ps = part_size s.interleaving in
    let byte = channel_byte s.interleaving s.channels (prefix ++ groups) c in
    let some : 0 < s.channels * ps = mul_some s.channels ps (omega arith) (some_part s.interleaving) in
    let whole : length prefix / (s.channels * ps) ≡ k = ap (λ n. n / (s.channels * ps)) long ∙ mul-div_cancel k some in
    let exact : min (div_ceil s.count 8) (k * ps) ≡ fed = ap (λ n. min (div_ceil s.count 8) (n * ps)) (sym whole) ∙ was in
    let within : fed ≤ k * ps = omega arith in
    let most : fed + number ≤ div_ceil s.count 8 = omega arith in
    ap (channel_part s.interleaving s.channels (prefix ++ groups) c 0) is
    ∙ sym (map_range_join byte (channel_byte s.interleaving s.channels groups c) fed 0 number
    (λ p h.
    let seam : fed ≡ k * ps = omega arith in
    let place : 0 + p ≡ p = omega arith in
    ap (channel_byte s.interleaving s.channels groups c) place ∙ sym (part_after s.interleaving s.channels prefix groups c k p long) ∙ ap (λ n. byte (n + p)) (sym seam)))
    ∙ ap (λ xs. xs ++ channel_part s.interleaving s.channels groups c 0 number) (part_of_prefix s.interleaving s.channels prefix groups c k fed low long within ∙ ap (channel_part s.interleaving s.channels prefix c 0) (sym was))

-- ---- a stream that is fed them
-- lists with prefixes of one length
pub same_backs : {X : Type 0} (a b xs ys : List X) → length a ≡ length b → a ++ xs ≡ b ++ ys → xs ≡ ys
same_backs a b xs ys long e = sym (drop-append_seam a xs) ∙ ap₂ (λ (n : ℕ) zs. drop n zs) long e ∙ drop-append_seam b ys

pub ceil_grows : (a b f : ℕ) → 0 < f → a ≤ b → div_ceil a f ≤ div_ceil b f
ceil_grows a b f some h = elim (cases_lt (div_ceil b f) (div_ceil a f)) [
  | inl above ↦ absurd (omega (arith, below_ceil (div_ceil b f) a f some above, (div_ceil_times b f some).0))
  | inr within ↦ within
]

pub due_grows : (d : Decimator) (count a b : ℕ) → 0 < d.factor → a ≤ b → due_number d count a ≤ due_number d count b
due_grows d count a b some h = ceil_grows (bits_held count a - d.delay) (bits_held count b - d.delay) d.factor some (omega arith)

module _ (d : Decimator) (s : Sound) (fed number : ℕ) (prefix groups : List ℕ) (k c : ℕ) (low : c < s.channels) (long : length prefix ≡ k * group_size s.interleaving s.channels)
    (was : bytes_known s (length prefix) ≡ fed) (is : bytes_known s (length (prefix ++ groups)) ≡ fed + number) where
  abbrev all : List ℕ
  all = prefix ++ groups

  abbrev piece : List ℕ
  piece = channel_part s.interleaving s.channels groups c 0 number

  both : channel_bytes s all c ≡ channel_bytes s prefix c ++ piece
  both = bytes_more s prefix groups c k fed number low long was is

  length-bytes : (bytes : List ℕ) → length (channel_bytes s bytes c) ≡ bytes_known s (length bytes)
  length-bytes bytes = length-map-range_with_len (channel_byte s.interleaving s.channels bytes c) 0 (bytes_known s (length bytes))

  -- what is due of the channel are its first samples
  due_is : (bytes : List ℕ) → due d s.count (channel_bytes s bytes c) ≡ samples_of d (channel_bits s bytes c) 0 (frames_due d s (length bytes))
  due_is bytes = ap (λ n. samples_from d (unpacked (channel_bytes s bytes c) (bits_held s.count n)) d.delay (due_number d s.count n)) (length-bytes bytes)

  pub fits_all : (old new : Stream) (before after : List ℤ) → old.taps ≡ d → old.count ≡ s.count → Feeds (state_of old) (state_of new) piece before after
      → Fits (state_of old) (channel_bytes s prefix c) → Fits (state_of new) (channel_bytes s all c)
  fits_all old new before after filter bits feeds fits = subst (Fits (state_of new)) (sym both) (feeds.2 (channel_bytes s prefix c) fits).0

  -- what is given is due after the groups and was not before
  pub gives : (old new : Stream) (before after : List ℤ) → 8 ≤ d.factor → old.taps ≡ d → old.count ≡ s.count → Feeds (state_of old) (state_of new) piece before after
      → Fits (state_of old) (channel_bytes s prefix c)
      → after ≡ before ++ samples_of d (channel_bits s all c) (frames_due d s (length prefix)) (frames_due d s (length all) - frames_due d s (length prefix))
  gives old new before after least filter bits feeds fits =
      let n = frames_due d s (length prefix) in
      let m = frames_due d s (length all) - n in
      let grows : n ≤ frames_due d s (length all) = due_grows d s.count (bytes_known s (length prefix)) (bytes_known s (length all)) (omega (arith, least)) (omega (arith, was, is)) in
      let whole : n + m ≡ frames_due d s (length all) = omega arith in
      let first = samples_of d (channel_bits s all c) 0 n in
      let stated : due d s.count (channel_bytes s prefix c ++ piece) ≡ due d s.count (channel_bytes s prefix c) ++ feeds.0
      = ap₂ (λ (e : Decimator) (b : ℕ). due e b (channel_bytes s prefix c ++ piece)) (sym filter) (sym bits) ∙ (feeds.2 (channel_bytes s prefix c) fits).1 ∙ ap₂ (λ (e : Decimator) (b : ℕ). due e b (channel_bytes s prefix c) ++ feeds.0) filter bits in
      let split : samples_of d (channel_bits s all c) 0 (frames_due d s (length all)) ≡ first ++ samples_of d (channel_bits s all c) n m
      = ap (samples_of d (channel_bits s all c) 0) (sym whole) ∙ sym (map_range_join (sample_at d (channel_bits s all c)) (sample_at d (channel_bits s all c)) n n m (λ j h. refl)) in
      let joined : due d s.count (channel_bytes s prefix c) ++ feeds.0 ≡ first ++ samples_of d (channel_bits s all c) n m
      = sym stated ∙ ap (due d s.count) (sym both) ∙ due_is all ∙ split in
      let size : length (due d s.count (channel_bytes s prefix c)) ≡ length first
      = ap length (due_is prefix) ∙ length-map-range_with_len (sample_at d (channel_bits s prefix c)) 0 n ∙ sym (length-map-range_with_len (sample_at d (channel_bits s all c)) 0 n) in
      feeds.1 ∙ ap (λ xs. before ++ xs) (same_backs (due d s.count (channel_bytes s prefix c)) first feeds.0 (samples_of d (channel_bits s all c) n m) size joined)

  -- a sample that was due stays the same with more bytes
  pub sample_stays : 8 ≤ d.factor → (j : ℕ) → j < frames_due d s (length prefix) → sample_at d (channel_bits s all c) j ≡ sample_at d (channel_bits s prefix c) j
  sample_stays least j h =
      let n = frames_due d s (length prefix) in
      let x = channel_bytes s prefix c in
      let more = due_more d s.count x piece least in
      let grows : n ≤ frames_due d s (length all) = due_grows d s.count (bytes_known s (length prefix)) (bytes_known s (length all)) (omega (arith, least)) (omega (arith, was, is)) in
      let size : length (due d s.count x) ≡ n = ap length (due_is prefix) ∙ length-map-range_with_len (sample_at d (channel_bits s prefix c)) 0 n in
      sym (get_or-map-range_with_len (sample_at d (channel_bits s all c)) 0 (frames_due d s (length all)) j j (pos 0) (omega arith) (omega arith))
      ∙ ap (λ zs. get_or zs j (pos 0)) (sym (due_is all) ∙ ap (due d s.count) both ∙ more)
      ∙ get_or_append_left (due d s.count x) _ (pos 0) j (omega (arith, size))
      ∙ ap (λ zs. get_or zs j (pos 0)) (due_is prefix)
      ∙ get_or-map-range_with_len (sample_at d (channel_bits s prefix c)) 0 n j j (pos 0) h (omega arith)

-- ---- the tile of one channel more
pub tile_more : (d : Decimator) (bits_of : ℕ → List Bool) (n m c : ℕ) → tile_of d (map bits_of (range_with_len 0 (c + 1))) n m ≡ tile_of d (map bits_of (range_with_len 0 c)) n m ++ samples_of d (bits_of c) n m
tile_more d bits_of n m c =
    let part : List Bool → List ℤ = λ bits. samples_of d bits n m in
    ap (flat_map part) (map-range_with_len_more bits_of 0 c c (omega arith))
    ∙ flat_map-append part (map bits_of (range_with_len 0 c)) (bits_of c ∷ [])
    ∙ ap (λ xs. flat_map part (map bits_of (range_with_len 0 c)) ++ xs) (append-nil (part (bits_of c)))
