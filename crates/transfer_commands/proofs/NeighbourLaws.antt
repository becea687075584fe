-- What is kept of a recording that is before or after another.
use Rattle.std.proofs.Common.{◌≡◌, ℕ, ◌+◌, ◌-◌, ◌/◌, ◌%◌, ◌<◌, ◌≤◌, min, inl, inr, Bool, false, List, [], ◌∷◌, ◌++◌, length, map, get_or, take, drop, slice_index, slice_range, Option, None, Some, eqb, sym, ap, subst, ◌∙◌, arith, length-append, length-take, length-drop, length-take-le}
use Rattle.std.specs.Io.KnownBytes.{prepend_known}
use Rattle.std.specs.List.{range_with_len}
use Rattle.std.specs.Int.{bit_at, div_ceil}
use Rattle.std.proofs.lemmas.Bool.{cases_lt}
use Rattle.std.proofs.lemmas.List.{drop_at, ext_get_or, get_or-drop, get_or-take, get_or_past, take_at}
use Rattle.std.proofs.lemmas.List.FromFn.{get_or-map-range_with_len}
use Rattle.std.proofs.lemmas.Simd.{map-map}
use Rattle.dsd_bits.specs.declared.interleaving.Interleaving.TheVariants.{Bytes}
use Rattle.dsd_bits.specs.declared.sound.Sound.{Sound}
use Rattle.dsd_bits.specs.declared.stretches.BitRange.{BitRange}
use Rattle.dsd_bits.specs.Packing.{packed_bit}
use Rattle.dsd_bits.specs.Sounds.{IsSound, sound_bytes, sound_channels}
use Rattle.dsd_bits.specs.Stretches.{stretch_of}
use Rattle.dsd_bits.proofs.LacingLemmas.{map_range_same}
use Rattle.dsd_bits.proofs.PackingLemmas.{get_or-unpacked, length-unpacked}
use Rattle.folder_core.specs.GappedFiles.{LiesInGap, zeroed, zeroed_known}
use Rattle.folder_core.specs.declared.gapped_file.Gaps.{Gaps}
use Rattle.player_core.specs.Due.{bytes_known, channel_bytes, channel_whole}
use Rattle.player_core.specs.Groups.{channel_byte, in_order, place_in}
use Rattle.player_core.proofs.FinishLaws.{channels_are, known_whole}
use Rattle.sound_core.specs.Files.{LeadsToSound}
use Rattle.sound_core.specs.Keeping.{IsKeptOf, stretches_in}
use Rattle.sound_core.specs.Outlines.{AreStated, IsPlacedIn, Surroundings, around_of}
use Rattle.sound_core.specs.declared.keeping.Kept.{Kept}
use Rattle.sound_core.proofs.SameLaws.{stated_same}
use Rattle.transfer_core.specs.Unread.{IsOfSound}
use Rattle.transfer_core.proofs.OtherSounds.{around_other}
use Rattle.transfer_commands.specs.Gaps.{HoldNoBitIn, LieInSound}
use Rattle.transfer_commands.specs.Neighbours.{KeepsLeft}
use Rattle.transfer_commands.proofs.SkippedLaws.{filled, own, same_but}

-- ---- sound bytes that are the same wherever bits of a range lie
module _ (s : Sound) (is : IsSound s) (whole : s.interleaving ≡ Bytes → s.count % 8 ≡ 0) (xs ys : List ℕ) (long_x : length xs ≡ s.size) (long_y : length ys ≡ s.size) (range : BitRange)
    (same : (i c : ℕ) → range.start ≤ i → i < range.stop → i < s.count → c < s.channels → slice_index ys (place_in s.interleaving s.channels c (i / 8)) ≡ slice_index xs (place_in s.interleaving s.channels c (i / 8))) where
  byte_is : (bytes : List ℕ) → length bytes ≡ s.size → (c i : ℕ) → i < s.count → slice_index (channel_bytes s bytes c) (i / 8) ≡ channel_byte s.interleaving s.channels bytes c (i / 8)
  byte_is bytes long c i low =
      let known : bytes_known s (length bytes) ≡ div_ceil s.count 8 = ap (bytes_known s) long ∙ known_whole s is whole in
      get_or-map-range_with_len (channel_byte s.interleaving s.channels bytes c) 0 (bytes_known s (length bytes)) (i / 8) (i / 8) 0 (omega (arith, low, known)) (omega arith)

  bit_same : (c i : ℕ) → c < s.channels → range.start ≤ i → i < range.stop → i < s.count → packed_bit (channel_bytes s ys c) i ≡ packed_bit (channel_bytes s xs c) i
  bit_same c i few from to low =
      ap (λ v. eqb (bit_at v (7 - i % 8)) 1) (byte_is ys long_y c i low ∙ ap (in_order s.interleaving) (same i c from to low few) ∙ sym (byte_is xs long_x c i low))

  -- a bit of a channel in the range
  abbrev a : ℕ
  a = range.start

  abbrev b : ℕ
  b = range.stop

  part_long : (bytes : List ℕ) (c : ℕ) → length (slice_range (channel_whole s bytes c) a b) ≡ min (b - a) (s.count - a)
  part_long bytes c =
      let channel = channel_whole s bytes c in
      omega (arith, length-take (b - a) (drop a channel), length-drop a channel, length-unpacked (channel_bytes s bytes c) s.count)

  bit_of : (bytes : List ℕ) (c k : ℕ) → k < b - a → a + k < s.count → get_or (slice_range (channel_whole s bytes c) a b) k false ≡ packed_bit (channel_bytes s bytes c) (a + k)
  bit_of bytes c k low inside =
      let channel = channel_whole s bytes c in
      get_or-take (b - a) (drop a channel) k false low ∙ get_or-drop a channel k false ∙ get_or-unpacked (channel_bytes s bytes c) s.count (a + k) inside

  part_same : (c : ℕ) → c < s.channels → slice_range (channel_whole s ys c) a b ≡ slice_range (channel_whole s xs c) a b
  part_same c few =
      ext_get_or false (slice_range (channel_whole s ys c) a b) (slice_range (channel_whole s xs c) a b) (part_long ys c ∙ sym (part_long xs c)) (λ k h.
      let low : k < b - a = omega (arith, h, part_long ys c) in
      let inside : a + k < s.count = omega (arith, h, part_long ys c) in
      bit_of ys c k low inside ∙ bit_same c (a + k) few (omega arith) (omega (arith, low)) inside ∙ sym (bit_of xs c k low inside))

  stretch_is : (bytes : List ℕ) → length bytes ≡ s.size → stretch_of (sound_channels s.interleaving s.channels s.count bytes) range ≡ map (λ c. slice_range (channel_whole s bytes c) a b) (range_with_len 0 s.channels)
  stretch_is bytes long =
      ap (λ cs. stretch_of cs range) (sym (channels_are s is whole bytes long)) ∙ map-map (λ bits. slice_range bits a b) (channel_whole s bytes) (range_with_len 0 s.channels)

  pub stretch_same : stretch_of (sound_channels s.interleaving s.channels s.count ys) range ≡ stretch_of (sound_channels s.interleaving s.channels s.count xs) range
  stretch_same =
      stretch_is ys long_y
      ∙ map_range_same s.channels (λ c. slice_range (channel_whole s ys c) a b) (λ c. slice_range (channel_whole s xs c) a b) (λ c few. part_same c few)
      ∙ sym (stretch_is xs long_x)

-- ---- a sound in its surroundings
module _ (o : Surroundings) (stated : AreStated o) (file sound : List ℕ) (stands : IsPlacedIn o file sound) where
  abbrev after : List ℕ
  after = stands.gap ++ (o.back ++ stands.rest)

  pub placed_bytes : sound_bytes file o.sound ≡ sound
  placed_bytes =
      ap (λ f. take o.sound.size (drop o.sound.start f)) stands.file_is
      ∙ ap (take o.sound.size) (drop_at o.head (sound ++ after) o.sound.start (sym stated.start))
      ∙ take_at sound after o.sound.size stands.sound_long

  pub placed_inside : o.sound.start + o.sound.size ≤ length file
  placed_inside = omega (arith, ap length stands.file_is, length-append o.head (sound ++ after), length-append sound after, stated.start, stands.sound_long)

-- sound bytes by their places in a file
sound_byte : (file : List ℕ) (s : Sound) (p : ℕ) → p < s.size → slice_index (sound_bytes file s) p ≡ slice_index file (s.start + p)
sound_byte file s p low = get_or-take s.size (drop s.start file) p 0 low ∙ get_or-drop s.start file p 0

sound_long : (file : List ℕ) (s : Sound) → s.start + s.size ≤ length file → length (sound_bytes file s) ≡ s.size
sound_long file s within = length-take-le s.size (drop s.start file) (omega (arith, within, length-drop s.start file))

same_byte : (file other : List ℕ) (s : Sound) (p : ℕ) → s.start + s.size ≤ length file → s.start + s.size ≤ length other → slice_index other (s.start + p) ≡ slice_index file (s.start + p) → slice_index (sound_bytes other s) p ≡ slice_index (sound_bytes file s) p
same_byte file other s p in_file in_other same = elim (cases_lt p s.size) [
  | inl low ↦ sound_byte other s p low ∙ same ∙ sym (sound_byte file s p low)
  | inr past ↦ get_or_past (sound_bytes other s) p 0 (omega (arith, past, sound_long other s in_other)) ∙ sym (get_or_past (sound_bytes file s) p 0 (omega (arith, past, sound_long file s in_file)))
]

-- ---- what is kept of a file but for bytes that hold no bit of the range
module _ (prefix rest : List ℕ) (range : BitRange) (gaps : Gaps) (o : Surroundings) (stated : AreStated o) (states : LeadsToSound prefix o.sound) (in_sound : LieInSound o.sound gaps) (unkept : HoldNoBitIn o.sound range gaps) (kept : List (List (List Bool))) where
  kept_own : IsKeptOf o (range ∷ []) kept (filled prefix rest gaps) → IsKeptOf o (range ∷ []) kept (own prefix rest gaps)
  kept_own (sound, placed, is) =
      let s = o.sound in
      let file = filled prefix rest gaps in
      let twin = own prefix rest gaps in
      let but = same_but prefix rest gaps (λ place. LiesInGap gaps place 1) (λ place within. within) in
      let around = around_other prefix (zeroed gaps (length prefix) rest) rest s states (same_but prefix rest gaps (IsOfSound s) in_sound) o stated (sound, placed) in
      let in_file = placed_inside o stated file sound placed in
      let in_twin = placed_inside o stated twin around.0 around.1 in
      let bytes = placed_bytes o stated file sound placed in
      let others = placed_bytes o stated twin around.0 around.1 in
      let alike = stretch_same s stated.is_sound stated.whole (sound_bytes file s) (sound_bytes twin s) (sound_long file s in_file) (sound_long twin s in_twin) range
      (λ i c from to low few. same_byte file twin s (place_in s.interleaving s.channels c (i / 8)) in_file in_twin (but.same (s.start + place_in s.interleaving s.channels c (i / 8)) (λ gap. unkept i c from to low few gap))) in
      let channels : List ℕ → List (List Bool) = sound_channels s.interleaving s.channels s.count in (
        around.0,
        around.1,
        is ∙ ap (λ zs. stretch_of (channels zs) range ∷ []) (sym bytes) ∙ ap (λ z. z ∷ []) (sym alike) ∙ ap (λ zs. stretch_of (channels zs) range ∷ []) others,
      )

pub kept_without : (prefix : List ℕ) (s : Sound) (range : BitRange) (gaps : Gaps) → LeadsToSound prefix s → LieInSound s gaps → HoldNoBitIn s range gaps → (left : Option (List ℕ)) (k : Kept) → KeepsLeft (prepend_known prefix (zeroed_known gaps (length prefix) left)) range k → KeepsLeft (prepend_known prefix left) range k
kept_without prefix s range gaps states in_sound unkept None k h = h
kept_without prefix s range gaps states in_sound unkept (Some rest) k h =
    let o = around_of k.outline in
    let placed = h.known.1 in
    let sound_is : o.sound ≡ s = stated_same prefix o.head (zeroed gaps (length prefix) rest) (h.known.0 ++ (placed.gap ++ (o.back ++ placed.rest))) placed.file_is s o.sound states h.keeps.stated.states in
    let back = sym sound_is in
    record {
      keeps = h.keeps;
      known = kept_own prefix rest range gaps o h.keeps.stated (subst (LeadsToSound prefix) back states) (subst (λ (t : Sound). LieInSound t gaps) back in_sound) (subst (λ (t : Sound). HoldNoBitIn t range gaps) back unkept) (stretches_in k) h.known;
    }
