-- A sound that is joined to others, and the sink that plays it.
use Rattle.std.proofs.Common.{◌≡◌, ℕ, ◌+◌, ◌-◌, ◌*◌, ◌/◌, ◌%◌, ◌<◌, ◌≤◌, Bool, true, false, List, [], ◌++◌, length, map, get_or, take, drop, Option, None, Some, Result, Ok, Err, OnOk, IfOk, refl, sym, subst, ap, ap₂, ◌∙◌, arith, append_assoc, append-nil, length-append, inl, inr, true≢false, zero-mul}
use Rattle.std.specs.Io.KnownBytes.{Appends}
use Rattle.std.specs.List.{range_with_len}
use Rattle.std.proofs.Math.Nat.{add-mul, mul-le-mul_right}
use Rattle.std.proofs.lemmas.Bool.{cases_lt}
use Rattle.std.proofs.lemmas.List.{nil_from_length, take_all}
use Rattle.std.proofs.lemmas.List.FromFn.{length-map-range_with_len, get_or-map-range_with_len}
use Rattle.chunk_core.specs.Outlets.{outlet_failures, outlet_writer}
use Rattle.chunk_core.specs.declared.inlet.Inlet.{Inlet}
use Rattle.dsd_bits.specs.declared.interleaving.Interleaving.{Interleaving}
use Rattle.dsd_bits.specs.declared.interleaving.Interleaving.TheVariants.{Bytes, Blocks}
use Rattle.dsd_bits.specs.declared.sound.Sound.{Sound}
use Rattle.dsd_bits.specs.Blocks.{unblocked, unblocked_all}
use Rattle.dsd_bits.specs.Channels.{count_of}
use Rattle.dsd_bits.specs.Contents.{Content}
use Rattle.dsd_bits.specs.Lacing.{frame_number, laced, laced_byte, unlaced, unlaced_all}
use Rattle.dsd_bits.specs.Sounds.{HasSound, IsSound, has_blocks, sound_bytes, sound_channels, sound_size}
use Rattle.dsd_bits.proofs.BlockLemmas.{unblocked_count, unblocked_level}
use Rattle.dsd_bits.proofs.LacingLemmas.{map_range_same, unlaced_all-laced}
use Rattle.interleave_core.specs.Reinterleaving.{reinterleaved}
use Rattle.interleave_core.proofs.JoinLaws.{groups_join}
use Rattle.interleave_core.proofs.PlaceLaws.{unlaced_join}
use Rattle.interleave_core.proofs.TakenLaws.{unlaced_count, unlaced_number}
use Rattle.fir_core.specs.Decimator.{Decimator}
use Rattle.sound_core.specs.Files.{HoldsRecording}
use Rattle.sound_core.specs.Outlines.{AreStated, IsPlacedIn, Surroundings, with_sound}
use Rattle.sound_core.specs.Sinks.{IsFed, TakesFile, TakesGiven}
use Rattle.sound_core.specs.declared.part.SoundPart.{SoundPart}
use Rattle.sound_core.proofs.SameLaws.{holds_in}
use Rattle.wave_core.specs.Heads.{FitsIn, limit_of, size_in, text_in}
use Rattle.wave_core.specs.declared.head.WaveHead.{WaveHead}
use Rattle.player_core.specs.Between.{IsJoined, IsJoining, bits_after, bits_before, channels_after, channels_before, frame_after, framed, in_frames, joined, own_range, with_range}
use Rattle.player_core.specs.Joining.{EndsJoined, HasAllOfJoined, IsSameOutlet, MayTake, PlaysAround, PushesOn}
use Rattle.player_core.specs.Laws.{total_frames}
use Rattle.player_core.specs.Parts.{part_file}
use Rattle.player_core.specs.Ranges.{IsInside, number_of}
use Rattle.player_core.specs.Playing.{PartIsPlayed, PlaysFile, PlaysGiven, part_pcm}
use Rattle.player_core.specs.Sinks.{IsPlaying, range_file}
use Rattle.player_core.specs.declared.joining.JoiningSink.{JoiningSink}
use Rattle.player_core.specs.declared.joining.Neighbours.{Neighbours}
use Rattle.player_core.specs.declared.range.WaveRange.{WaveRange}
use Rattle.player_core.specs.declared.sink.PlayingSink.{PlayingSink}
use Rattle.player_core.proofs.PlayLaws.{part_size}

-- what holds at an answer holds of what follows from it
pub on_ok : {T E : Type 0} (r : Result T E) (P Q : Type 0) → (P → Q) → OnOk r P → OnOk r Q
on_ok (Ok x) P Q f p = f p
on_ok (Err e) P Q f p = tt

-- ---- sound bytes with a byte of each channel in turn
pub framed_bytes : (from : Interleaving) (n count : ℕ) (bytes : List ℕ) → has_blocks from ≡ false → framed from n count bytes ≡ bytes
framed_bytes Bytes n count bytes is = refl
framed_bytes (Blocks order) n count bytes is = absurd (true≢false is)

pub framed_blocks : (from : Interleaving) (n count : ℕ) (bytes : List ℕ) → has_blocks from ≡ true → framed from n count bytes ≡ reinterleaved from Bytes n count bytes
framed_blocks Bytes n count bytes is = absurd (true≢false (sym is))
framed_blocks (Blocks order) n count bytes is = refl

pub framed_join : (from : Interleaving) (n a b : ℕ) (first more : List ℕ) → a % 32768 ≡ 0 → length first ≡ sound_size from n a → length more ≡ sound_size from n b
    → framed from n (a + b) (first ++ more) ≡ framed from n a first ++ framed from n b more
framed_join Bytes n a b first more whole long also = refl
framed_join (Blocks order) n a b first more whole long also = groups_join (Blocks order) Bytes n a b first more whole long also

pub framed_long : (from : Interleaving) (n count : ℕ) (bytes : List ℕ) → 1 ≤ n → length bytes ≡ sound_size from n count → length (framed from n count bytes) ≡ count / 8 * n
framed_long Bytes n count bytes some long = long
framed_long (Blocks order) n count bytes some long =
    let all = unblocked_all order bytes n count in
    length-map-range_with_len (laced_byte all) 0 (frame_number all * length all)
    ∙ ap₂ (λ (k m : ℕ). k / 8 * m) (unblocked_count order bytes n count some) (length-map-range_with_len (unblocked order bytes n count) 0 n)

pub framed_none : (from : Interleaving) (n : ℕ) → 1 ≤ n → (let none : List ℕ = [] in length none) ≡ sound_size from n 0 → framed from n 0 [] ≡ []
framed_none from n some none = nil_from_length (framed from n 0 []) (framed_long from n 0 [] some none ∙ zero-mul n)

pub framed_channels : (from : Interleaving) (n count : ℕ) (bytes : List ℕ) → 1 ≤ n → count % 8 ≡ 0 → unlaced_all (framed from n count bytes) n ≡ sound_channels from n count bytes
framed_channels Bytes n count bytes some whole = refl
framed_channels (Blocks order) n count bytes some whole =
    let all = unblocked_all order bytes n count in
    let long : length all ≡ n = length-map-range_with_len (unblocked order bytes n count) 0 n in
    let number : count_of all ≡ count = unblocked_count order bytes n count some in
    subst (λ m. unlaced_all (laced all) m ≡ all) long
    (unlaced_all-laced all (unblocked_level order bytes n count some) (ap (λ k. k % 8) number ∙ whole) (subst (λ m. 1 ≤ m) (sym long) some))

-- ---- the channels of three sounds in turn
module _ (b m a : List ℕ) (n kb km ka : ℕ) (before_long : length b ≡ kb * n) (own_long : length m ≡ km * n) (after_long : length a ≡ ka * n) where
  eight : (k : ℕ) → 8 * k / 8 ≡ k
  eight k = omega arith

  rest_long : length (m ++ a) ≡ (km + ka) * n
  rest_long = omega (arith, length-append m a, own_long, after_long, add-mul km ka n)

  one_channel : (c : ℕ) → c < n → unlaced (b ++ (m ++ a)) n c ≡ unlaced b n c ++ (unlaced m n c ++ unlaced a n c)
  one_channel c less =
      unlaced_join b (m ++ a) n c (8 * kb) (km + ka) less (omega arith) (before_long ∙ ap (λ k. k * n) (sym (eight kb))) rest_long
      ∙ ap (λ xs. unlaced b n c ++ xs) (unlaced_join m a n c (8 * km) ka less (omega arith) (own_long ∙ ap (λ k. k * n) (sym (eight km))) after_long)

  pub all_joined : unlaced_all (b ++ (m ++ a)) n ≡ joined (unlaced_all b n) (unlaced_all m n) (unlaced_all a n)
  all_joined =
      let long : length (unlaced_all m n) ≡ n = length-map-range_with_len (unlaced m n) 0 n in
      let at : (bytes : List ℕ) (c : ℕ) → c < n → get_or (unlaced_all bytes n) c [] ≡ unlaced bytes n c = λ bytes c less. get_or-map-range_with_len (unlaced bytes n) 0 n c c [] less (omega arith) in
      map_range_same n (unlaced (b ++ (m ++ a)) n) (λ c. get_or (unlaced_all b n) c [] ++ (get_or (unlaced_all m n) c [] ++ get_or (unlaced_all a n) c []))
      (λ c less. one_channel c less ∙ sym (ap₂ (λ (x y : List Bool). x ++ y) (at b c less) (ap₂ (λ (x y : List Bool). x ++ y) (at m c less) (at a c less))))
      ∙ ap (λ k. map (λ c. get_or (unlaced_all b n) c [] ++ (get_or (unlaced_all m n) c [] ++ get_or (unlaced_all a n) c [])) (range_with_len 0 k)) (sym long)

-- ---- the joined sound
module _ (around : Neighbours) (s j : Sound) (is : IsJoined around s j) (is_sound : IsSound s) where
  ch : ℕ
  ch = s.channels

  sizes : length around.before.now + (s.count / 8 * s.channels + length around.after.now) ≡ (bits_before around + (s.count + bits_after around)) / 8 * s.channels
  sizes =
      let kb = length around.before.now / around.channels in
      let ka = length around.after.now / around.channels in
      let before : length around.before.now ≡ kb * s.channels = is.before_whole ∙ ap (λ n. kb * n) (sym is.channels) in
      let after : length around.after.now ≡ ka * s.channels = is.after_whole ∙ ap (λ n. ka * n) (sym is.channels) in
      let whole = is.whole in
      let frames : (8 * kb + (s.count + 8 * ka)) / 8 ≡ kb + (s.count / 8 + ka) = omega (arith, whole) in
      let spread : (kb + (s.count / 8 + ka)) * s.channels ≡ kb * s.channels + (s.count / 8 * s.channels + ka * s.channels) = add-mul kb (s.count / 8 + ka) s.channels ∙ ap (λ x. kb * s.channels + x) (add-mul (s.count / 8) ka s.channels) in
      let both : (8 * kb + (s.count + 8 * ka)) / 8 * s.channels ≡ (kb + (s.count / 8 + ka)) * s.channels = ap (λ k. k * s.channels) frames in
      omega (arith, before, after, spread, both)

  pub joined_sound_is : IsSound j
  joined_sound_is = subst IsSound (sym is.is) (record {
    rate_low = is_sound.rate_low;
    rate_high = is_sound.rate_high;
    some_channel = is_sound.some_channel;
    six_channels = is_sound.six_channels;
    in_limit = is.few;
    size = sizes;
  })

  pub joined_whole : j.count % 8 ≡ 0
  joined_whole = ap (λ (t : Sound). t.count % 8) is.is ∙ omega (arith, is.whole)

  pub joined_fed : IsFed j 0 []
  joined_fed = record {
    is_sound = joined_sound_is;
    whole = λ bytes. joined_whole;
    within = omega arith;
    groups = λ some. omega arith;
    size = sym (ap (λ (t : Sound). sound_size t.interleaving t.channels 0) is.is ∙ zero-mul s.channels);
  }

pub joined_same : (around : Neighbours) (s j k : Sound) → IsJoined around s j → IsJoined around s k → j ≡ k
joined_same around s j k is also = is.is ∙ sym also.is

-- whole bytes of a part
pub bits_whole : (count done bits : ℕ) → count % 8 ≡ 0 → done % 32768 ≡ 0 → done + bits ≤ count → (done + bits < count → bits % 32768 ≡ 0) → bits % 8 ≡ 0
bits_whole count done bits whole before within groups = elim (cases_lt (done + bits) count) [
  | inl less ↦ (let g = groups less in omega (arith, g))
  | inr all ↦ omega (arith, all, within, whole, before)
]

-- ---- the sink of the joined sound
module _ {W : Type 0} (held : W → Option (List ℕ)) (first old new : JoiningSink W) (part : SoundPart) (before bytes : List ℕ) (fed : IsFed part.sound part.done before) (is : IsJoining held first old part.sound part.done before)
    (long : length bytes ≡ sound_size part.sound.interleaving part.sound.channels part.bits) where
  abbrev s : Sound
  s = part.sound

  abbrev so_far : List ℕ
  so_far = first.around.before.now ++ in_frames s part.done before

  groups_before : part.done % 32768 ≡ 0
  groups_before = fed.groups (omega (arith, part.within, part.some))

  pub part_whole : part.bits % 8 ≡ 0
  part_whole = bits_whole s.count part.done part.bits is.is_joined.whole groups_before part.within part.groups

  abbrev piece : List ℕ
  piece = framed s.interleaving s.channels part.bits bytes

  piece_long : length piece ≡ part.bits / 8 * s.channels
  piece_long = framed_long s.interleaving s.channels part.bits bytes part.is_sound.some_channel long

  pub room : MayTake held old.playing.now (length piece)
  room =
      let came = framed_long s.interleaving s.channels part.done before part.is_sound.some_channel fed.size in
      let sum : (part.done / 8 + part.bits / 8) * s.channels ≡ part.done / 8 * s.channels + part.bits / 8 * s.channels = add-mul (part.done / 8) (part.bits / 8) s.channels in
      let most : (part.done / 8 + part.bits / 8) * s.channels ≤ s.count / 8 * s.channels = mul-le-mul_right s.channels (omega (arith, part.within)) in
      let size : is.joined.size ≡ length first.around.before.now + (s.count / 8 * s.channels + length first.around.after.now) = ap (λ (t : Sound). t.size) is.is_joined.is in (
        with_range first.playing.now (own_range first.playing.now.range.head first.playing.now.taps.now first.around s),
        is.joined,
        so_far,
        is.playing,
        omega (arith, came, piece_long, sum, most, size, length-append first.around.before.now (in_frames s part.done before)),
      )

  pub takes_on : new.around ≡ old.around → new.playing.ghost_name ≡ old.playing.ghost_name → PushesOn held old.playing.now new.playing.now piece → IsJoining held first new s (part.done + part.bits) (before ++ bytes)
  takes_on around reference pushes = record {
    around = around ∙ is.around;
    reference = reference ∙ is.reference;
    joined = is.joined;
    is_joined = is.is_joined;
    playing = subst (IsPlaying held (with_range first.playing.now (own_range first.playing.now.range.head first.playing.now.taps.now first.around s)) new.playing.now is.joined)
        (append_assoc first.around.before.now (in_frames s part.done before) piece
        ∙ ap (λ xs. first.around.before.now ++ xs) (sym (framed_join s.interleaving s.channels part.done part.bits before bytes groups_before fed.size long)))
        (pushes (with_range first.playing.now (own_range first.playing.now.range.head first.playing.now.taps.now first.around s)) is.joined so_far is.playing);
  }

-- before the first byte
pub begun : {W : Type 0} (held : W → Option (List ℕ)) (first now : JoiningSink W) (s j : Sound) → IsJoined first.around s j → IsFed s 0 [] → now.around ≡ first.around → now.playing.ghost_name ≡ first.playing.ghost_name → (range : WaveRange) → range ≡ own_range first.playing.now.range.head first.playing.now.taps.now first.around s
    → IsPlaying held (with_range first.playing.now range) now.playing.now j first.around.before.now → IsJoining held first now s 0 []
begun held first now s j is fed around reference range range_is playing = record {
  around = around;
  reference = reference;
  joined = j;
  is_joined = is;
  playing = subst (λ m. IsPlaying held (with_range first.playing.now m) now.playing.now j (first.around.before.now ++ in_frames s 0 [])) range_is
      (subst (IsPlaying held (with_range first.playing.now range) now.playing.now j)
      (sym (append-nil first.around.before.now) ∙ ap (λ xs. first.around.before.now ++ xs) (sym (framed_none s.interleaving s.channels fed.is_sound.some_channel fed.size))) playing);
}

-- after the last
module _ {W : Type 0} (held : W → Option (List ℕ)) (first now : JoiningSink W) (s : Sound) (bytes : List ℕ) (is_sound : IsSound s) (is : IsJoining held first now s s.count bytes) (long : length bytes ≡ s.size) where
  came_long : length (in_frames s s.count bytes) ≡ s.count / 8 * s.channels
  came_long = framed_long s.interleaving s.channels s.count bytes is_sound.some_channel (long ∙ is_sound.size)

  abbrev came : List ℕ
  came = first.around.before.now ++ in_frames s s.count bytes

  abbrev whole : List ℕ
  whole = first.around.before.now ++ (in_frames s s.count bytes ++ first.around.after.now)

  size_is : is.joined.size ≡ length first.around.before.now + (s.count / 8 * s.channels + length first.around.after.now)
  size_is = ap (λ (t : Sound). t.size) is.is_joined.is

  pub room_after : MayTake held now.playing.now (length now.around.after.now)
  room_after = (
    with_range first.playing.now (own_range first.playing.now.range.head first.playing.now.taps.now first.around s),
    is.joined,
    came,
    is.playing,
    omega (arith, came_long, size_is, length-append first.around.before.now (in_frames s s.count bytes), ap (λ (a : Neighbours). length a.after.now) is.around),
  )

  module _ (new : PlayingSink W) (j : Sound) (also : IsJoined now.around s j) where
    pub first_joined : IsJoined first.around s j
    first_joined = subst (λ (a : Neighbours). IsJoined a s j) is.around also

    pub all_came : PushesOn held now.playing.now new now.around.after.now → IsPlaying held (with_range first.playing.now (own_range first.playing.now.range.head first.playing.now.taps.now first.around s)) new j whole
    all_came pushes =
        subst (λ t. IsPlaying held (with_range first.playing.now (own_range first.playing.now.range.head first.playing.now.taps.now first.around s)) new t whole) (joined_same first.around s is.joined j is.is_joined first_joined)
        (subst (IsPlaying held (with_range first.playing.now (own_range first.playing.now.range.head first.playing.now.taps.now first.around s)) new is.joined)
        (ap (λ (a : Neighbours). came ++ a.after.now) is.around ∙ append_assoc first.around.before.now (in_frames s s.count bytes) first.around.after.now)
        (pushes (with_range first.playing.now (own_range first.playing.now.range.head first.playing.now.taps.now first.around s)) is.joined came is.playing))

    pub whole_long : length whole ≡ j.size
    whole_long = omega (arith, came_long, length-append first.around.before.now (in_frames s s.count bytes ++ first.around.after.now), length-append (in_frames s s.count bytes) first.around.after.now, ap (λ (t : Sound). t.size) first_joined.is)

-- what holds of an answer holds of what follows from it
pub on_value : {T E : Type 0} (r : Result T E) (P Q : T → Type 0) → ((x : T) → P x → Q x) → IfOk r P → IfOk r Q
on_value (Ok x) P Q f p = f x p
on_value (Err e) P Q f p = tt

-- ---- what is played of a file
-- how many bits each channel before or after has
pub neighbour_count : (bytes : List ℕ) (n : ℕ) → 1 ≤ n → length bytes ≡ length bytes / n * n → count_of (unlaced_all bytes n) ≡ 8 * (length bytes / n)
neighbour_count bytes n some whole =
    let k = length bytes / n in
    let eight : 8 * k / 8 ≡ k = omega arith in
    unlaced_count bytes n (8 * k) some (omega arith) (whole ∙ ap (λ m. m * n) (sym eight))

-- the joined channels are those of the joined sound
module _ (around : Neighbours) (s j : Sound) (is : IsJoined around s j) (is_sound : IsSound s) (sound : List ℕ) (long : length sound ≡ s.size)
    (r : Content) (rate : r.rate ≡ s.rate) (channels : r.channels ≡ sound_channels s.interleaving s.channels s.count sound) where
  abbrev all : List ℕ
  all = around.before.now ++ (in_frames s s.count sound ++ around.after.now)

  abbrev both : List (List Bool)
  both = joined (channels_before around) r.channels (channels_after around)

  own_size : length (in_frames s s.count sound) ≡ s.count / 8 * s.channels
  own_size = framed_long s.interleaving s.channels s.count sound is_sound.some_channel (long ∙ is_sound.size)

  pub all_long : length all ≡ j.size
  all_long = omega (arith, length-append around.before.now (in_frames s s.count sound ++ around.after.now), length-append (in_frames s s.count sound) around.after.now, own_size, ap (λ (t : Sound). t.size) is.is)

  both_is : both ≡ unlaced_all all s.channels
  both_is =
      let n = s.channels in
      let kb = length around.before.now / around.channels in
      let ka = length around.after.now / around.channels in
      let before : length around.before.now ≡ kb * n = is.before_whole ∙ ap (λ m. kb * m) (sym is.channels) in
      let after : length around.after.now ≡ ka * n = is.after_whole ∙ ap (λ m. ka * m) (sym is.channels) in
      let own : r.channels ≡ unlaced_all (in_frames s s.count sound) n = channels ∙ sym (framed_channels s.interleaving n s.count sound is_sound.some_channel is.whole) in
      ap (λ m. joined (unlaced_all around.before.now m) r.channels (unlaced_all around.after.now m)) (sym is.channels)
      ∙ ap (λ xs. joined (unlaced_all around.before.now n) xs (unlaced_all around.after.now n)) own
      ∙ sym (all_joined around.before.now (in_frames s s.count sound) around.after.now n kb (s.count / 8) ka before own_size after)

  bytes_are : sound_bytes all j ≡ all
  bytes_are = ap (λ k. take j.size (drop k all)) (ap (λ (t : Sound). t.start) is.is) ∙ take_all j.size all (omega (arith, all_long))

  pub has_joined : HasSound all (record r { channels = both }) j
  has_joined =
      let some = is_sound.some_channel in
      let size : length all ≡ j.count / 8 * s.channels = all_long ∙ (joined_sound_is around s j is is_sound).size ∙ ap (λ (t : Sound). sound_size t.interleaving t.channels t.count) is.is ∙ sym (ap (λ (t : Sound). t.count / 8 * s.channels) is.is) in
      let whole = joined_whole around s j is is_sound in
      record {
        rate = rate ∙ sym (ap (λ (t : Sound). t.rate) is.is);
        number = ap length both_is ∙ unlaced_number all s.channels j.count some whole size ∙ sym (ap (λ (t : Sound). t.channels) is.is);
        count = ap count_of both_is ∙ unlaced_count all s.channels j.count some whole size;
        in_file = omega (arith, all_long, ap (λ (t : Sound). t.start) is.is);
        channels = both_is ∙ ap (unlaced_all all) (sym (ap (λ (t : Sound). t.channels) is.is)) ∙ ap (λ bytes. unlaced_all bytes j.channels) (sym bytes_are)
            ∙ ap (λ o. sound_channels o j.channels j.count (sound_bytes all j)) (sym (ap (λ (t : Sound). t.interleaving) is.is));
      }

  pub text_is : PartIsPlayed → (head : WaveHead) (d : Decimator) → 8 ≤ d.factor → (start stop : ℕ) → start ≤ stop → stop ≤ total_frames d j → FitsIn head j.channels d.width (stop - start)
      → text_in head (part_pcm (record r { channels = both }) d start stop) ≡ Some (part_file head d j start stop all)
  text_is law head d least start stop ordered inside fits =
      (law all (record r { channels = both }) j head d start stop has_joined (joined_sound_is around s j is is_sound) (λ bytes. joined_whole around s j is is_sound) least ordered inside).whole fits
      ∙ ap (λ bytes. Some (part_file head d j start stop bytes)) bytes_are

  pub text_none : PartIsPlayed → (head : WaveHead) (d : Decimator) → 8 ≤ d.factor → (start stop : ℕ) → start ≤ stop → stop ≤ total_frames d j → limit_of head ≤ size_in head j.channels d.width (stop - start)
      → text_in head (part_pcm (record r { channels = both }) d start stop) ≡ None
  text_none law head d least start stop ordered inside large =
      (law all (record r { channels = both }) j head d start stop has_joined (joined_sound_is around s j is is_sound) (λ bytes. joined_whole around s j is is_sound) least ordered inside).too_large large

-- a file was read into a sink, which ended
module _ {W : Type 0} (held : W → Option (List ℕ)) (old mid new : JoiningSink W) (o : Surroundings) (stated : AreStated o) where
  abbrev has : Sound → ℕ → List ℕ → Type 0
  has s done bytes = IsJoining held old mid s done bytes

  abbrev all_played : List ℕ → ℕ → Type 0
  all_played file n = (bytes : List ℕ) × PlaysAround old file bytes × (n ≡ length bytes) × Appends (held (outlet_writer old.playing.now.outlet.now)) (held (outlet_writer new.playing.now.outlet.now)) bytes

  module _ (law : PartIsPlayed) (least : 8 ≤ old.playing.now.taps.now.factor) (n : ℕ) (ends : EndsJoined held mid new o.sound n) where
    held_played : (file sound : List ℕ) → IsPlacedIn o file sound → IsJoining held old mid o.sound o.sound.count sound → all_played file n
    held_played file sound stands is =
        let s = o.sound in
        let d = old.playing.now.taps.now in
        let head = old.playing.now.range.head in
        let around = old.around in
        let (j, isj, reference, fin) = ends old sound is stands.sound_long in
        let same : is.joined ≡ j = joined_same around s is.joined j is.is_joined isj in
        let range = own_range head d around s in
        let feeding = is.playing.feeding in
        let inside : IsInside range (total_frames d j) = subst (λ (t : Sound). IsInside range (total_frames d t)) same feeding.inside in
        let fits : FitsIn head j.channels d.width (number_of range (total_frames d j)) = subst (λ (t : Sound). FitsIn head t.channels d.width (number_of range (total_frames d t))) same feeding.fits in
        let divided : j.rate % d.factor ≡ 0 = subst (λ (t : Sound). t.rate % d.factor ≡ 0) same feeding.divided in
        let r = with_sound o.recording s sound in
        let holds : HoldsRecording file r = holds_in s.interleaving file r (stated.holds file sound stands) in
        let after = sound ++ (stands.gap ++ (o.back ++ stands.rest)) in
        let has : HasSound file r s = subst (λ f. HasSound f r s) (sym stands.file_is) (stated.states.has after r (subst (λ f. HoldsRecording f r) stands.file_is holds)) in
        let start = frame_after d (bits_before around) in
        let stop = frame_after d (bits_before around + s.count) in
        let bytes = around.before.now ++ (in_frames s s.count sound ++ around.after.now) in
        let text = text_is around s j isj stated.is_sound sound stands.sound_long r has.rate refl law head d least start stop inside.0 inside.1 fits in
        let n_before = isj.channels in
        let before_count : count_of (channels_before around) ≡ bits_before around = neighbour_count around.before.now around.channels (subst (λ m. 1 ≤ m) isj.channels stated.is_sound.some_channel) isj.before_whole in
        let number : length r.channels ≡ around.channels = has.number ∙ isj.channels in (
          range_file d j range bytes,
          record {
            recording = r;
            file_holds = holds;
            rate_same = has.rate ∙ isj.rate;
            number_before = length-map-range_with_len (unlaced around.before.now around.channels) 0 around.channels ∙ sym number;
            number_after = length-map-range_with_len (unlaced around.after.now around.channels) 0 around.channels ∙ sym number;
            whole = ap (λ k. k % 8) has.count ∙ isj.whole;
            rate_divided = ap (λ k. k % d.factor) (has.rate ∙ sym (ap (λ (t : Sound). t.rate) isj.is)) ∙ divided;
            text = ap₂ (λ a b. text_in head (part_pcm (record r { channels = joined (channels_before around) r.channels (channels_after around) }) d (frame_after d a) (frame_after d b))) before_count (ap₂ (λ a b. a + b) before_count has.count) ∙ text;
          },
          fin.size ∙ sym (part_size d start stop inside.0 j (joined_sound_is around s j isj stated.is_sound) (λ b. joined_whole around s j isj stated.is_sound) inside.1 bytes (all_long around s j isj stated.is_sound sound stands.sound_long r has.rate refl) head (omega (arith, least))),
          fin.written,
        )

    pub file_played : (left : Option (List ℕ)) → TakesFile has left o → PlaysFile left (PlaysAround old) (held (outlet_writer old.playing.now.outlet.now)) (held (outlet_writer new.playing.now.outlet.now)) n
    file_played None (taken, h) = tt
    file_played (Some file) (taken, h) = held_played file h.0 h.1 h.2

    pub given_played : {R : Type 0} (left : R → Option (List ℕ)) (i j : Inlet R) → TakesGiven has left i j o → PlaysGiven left i j (PlaysAround old) (held (outlet_writer old.playing.now.outlet.now)) (held (outlet_writer new.playing.now.outlet.now)) n
    given_played left i j (read, reads, h) = (let all = held_played read h.0 h.1 h.2 in (read, all.0, reads, all.1, all.2, all.3))

  -- there is a sound to be ended
  pub end_requires : {R : Type 0} (left : R → Option (List ℕ)) (i j : Inlet R) → TakesGiven has left i j o → HasAllOfJoined held mid o.sound
  end_requires left i j (read, reads, taken) = (stated.is_sound, (old, taken.0, taken.2, taken.1.sound_long))

  -- it has the same outlet, which has failed no more often
  pub same_end : {R : Type 0} (left : R → Option (List ℕ)) (i j : Inlet R) → TakesGiven has left i j o → (n : ℕ) → EndsJoined held mid new o.sound n → IsSameOutlet old new × (outlet_failures new.playing.now.outlet.now ≡ outlet_failures old.playing.now.outlet.now)
  same_end left i j (read, reads, taken) n ends = (let end = ends old taken.0 taken.2 taken.1.sound_long in ((end.2, end.3.same), end.3.failures))
