-- Parts of channels that are written one after the other, and the room that they are written through.
use Rattle.std.proofs.Common.{◌≡◌, ℕ, ◌+◌, ◌-◌, ◌*◌, ◌/◌, ◌%◌, ◌<◌, ◌≤◌, ◌⊎◌, inl, inr, min, Bool, List, [], ◌∷◌, ◌++◌, Option, length, map, get_or, slice_range, set, append_assoc, zero-mul, sym, ap, subst, ◌∙◌, arith}
use Rattle.std.specs.List.{All, AllZip, range_with_len}
use Rattle.std.specs.Int.{div_ceil}
use Rattle.std.specs.Io.KnownBytes.{Appends}
use Rattle.std.proofs.KnownBytes.{Appends-nil, Appends-trans}
use Rattle.std.proofs.lemmas.Bool.{cases_lt}
use Rattle.std.proofs.lemmas.List.{ext_get_or, get_or-map, get_or-set_other, get_or-set_same, get_or_append_left, get_or_push, length-append, length-map, map-set}
use Rattle.std.proofs.lemmas.List.Elements.{All-append, All-cons, All-nil}
use Rattle.std.proofs.Math.Seq.{map-set_same}
use Rattle.chunk_core.specs.Outlets.{AppendsPart}
use Rattle.dsd_bits.specs.declared.interleaving.Interleaving.{Interleaving}
use Rattle.dsd_bits.specs.declared.interleaving.Interleaving.TheVariants.{Bytes, Blocks}
use Rattle.dsd_bits.specs.declared.stretches.BitRange.{BitRange}
use Rattle.dsd_bits.specs.Blocks.{block_byte}
use Rattle.dsd_bits.specs.Channels.{IsLevel, count_of}
use Rattle.dsd_bits.specs.Lacing.{laced_byte}
use Rattle.dsd_bits.specs.Rooms.{RoomContent, rooms_bits}
use Rattle.dsd_bits.proofs.RoomLemmas.{length-rooms_bits}
use Rattle.interleave_core.proofs.JoinLaws.{Appended, written}
use Rattle.interleave_core.specs.Reinterleaving.{laced_in}
use Rattle.cut_core.specs.Cuts.{CutContent, master_length, take_channels}
use Rattle.cut_core.proofs.BridgeLaws.{range_more}
use Rattle.cut_core.proofs.ZipLaws.{zip_more, zip_numbers_long}
use Rattle.master_core.specs.Best.{AreBestChannels, IsBestChannel}
use Rattle.master_core.specs.Parting.{AreBestParts, IsBestPart, within}
use Rattle.master_core.specs.Writing.{AreRooms, HasOneBest, WritesBest, WritesBestPrefix, WritesPart, WritesPartPrefix}
use Rattle.cut_core.proofs.SliceLaws.{length-slice, slice_all, slice_join}

-- ---- prefixes of what is written
pub prefix_more : (a b : Option (List ℕ)) (xs ys : List ℕ) → AppendsPart a b xs → AppendsPart a b (xs ++ ys)
prefix_more a b xs ys f = (f.0, f.1 ++ ys, ap (λ zs. zs ++ ys) f.2 ∙ append_assoc f.0 f.1 ys, omega (arith, length-append f.1 ys, f.3), f.4)

pub prefix_on : (a b c : Option (List ℕ)) (xs ys : List ℕ) → Appends a b xs → AppendsPart b c ys → AppendsPart a c (xs ++ ys)
prefix_on a b c xs ys p q = (xs ++ q.0, q.1, ap (λ zs. xs ++ zs) q.2 ∙ sym (append_assoc xs q.0 q.1), q.3, Appends-trans a b c xs q.0 p q.4)

-- ---- parts of channels, as many and each as long
abbrev pub from_to : ℕ → ℕ → BitRange
from_to a b = record { start = a; stop = b }

-- their sound bytes
abbrev pub sound_of : Interleaving → List (List Bool) → ℕ → ℕ → List ℕ
sound_of to zs a b = laced_in to (map (within (from_to a b)) zs)

-- no bits have no sound bytes
none_laced : (to : Interleaving) (zs : List (List Bool)) → count_of zs ≡ 0 → laced_in to zs ≡ []
none_laced Bytes zs none =
    let e : count_of zs / 8 * length zs ≡ 0 = ap (λ k. k / 8 * length zs) none ∙ zero-mul (length zs) in
    ap (λ k. map (laced_byte zs) (range_with_len 0 k)) e
none_laced (Blocks order) zs none =
    let e : div_ceil (count_of zs) 32768 * length zs * 4096 ≡ 0 = ap (λ k. div_ceil k 32768 * length zs * 4096) none ∙ ap (λ m. m * 4096) (zero-mul (length zs)) in
    ap (λ k. map (block_byte order zs) (range_with_len 0 k)) e

module _ (to : Interleaving) (zs : List (List Bool)) (long : ℕ) (some : 1 ≤ length zs) (each : All (λ z. length z ≡ long) zs) where
  part_at : (a b c : ℕ) → c < length zs → get_or (map (within (from_to a b)) zs) c [] ≡ within (from_to a b) (get_or zs c [])
  part_at a b c lt = get_or-map (within (from_to a b)) zs c [] [] lt

  part_long : (a b c : ℕ) → c < length zs → b ≤ long → length (get_or (map (within (from_to a b)) zs) c []) ≡ b - a
  part_long a b c lt inside = ap length (part_at a b c lt) ∙ omega (arith, length-slice (get_or zs c []) a b, each c [] lt, inside)

  pub nothing_yet : sound_of to zs 0 0 ≡ []
  nothing_yet = none_laced to (map (within (from_to 0 0)) zs) (part_long 0 0 0 some (omega arith))

  -- whole groups, and what comes after them
  pub sound_join : (a b : ℕ) → a % 32768 ≡ 0 → a ≤ b → b ≤ long → sound_of to zs 0 b ≡ sound_of to zs 0 a ++ sound_of to zs a b
  sound_join a b groups order inside =
      let n = length zs in
      let first = map (within (from_to 0 a)) zs in
      let more = map (within (from_to a b)) zs in
      let all = map (within (from_to 0 b)) zs in
      let appended : Appended all first more n a = record {
        all_long = length-map zs (within (from_to 0 b));
        first_long = length-map zs (within (from_to 0 a));
        more_long = length-map zs (within (from_to a b));
        each = λ c h. (let joined = slice_join (get_or zs c []) a b order in part_at 0 b c h ∙ joined ∙ sym (ap (λ l. l ++ get_or more c []) (part_at 0 a c h) ∙ ap (λ l. within (from_to 0 a) (get_or zs c []) ++ l) (part_at a b c h)));
        bits = λ c h. (let e = part_long 0 a c h (omega arith) in omega (arith, e));
      } in
      written to all first more n a some groups appended

  pub sound_whole : sound_of to zs 0 long ≡ laced_in to zs
  sound_whole =
      let parts = map (within (from_to 0 long)) zs in
      let many = length-map zs (within (from_to 0 long)) in
      let same : parts ≡ zs = ext_get_or [] parts zs many (λ c lt.
      let below : c < length zs = omega (arith, many) in
      part_at 0 long c below ∙ ap (λ (k : ℕ). slice_range (get_or zs c []) 0 k) (sym (each c [] below)) ∙ slice_all (get_or zs c [])) in
      ap (laced_in to) same

  -- a prefix of some groups is one of all
  pub prefix_of_all : (old new : Option (List ℕ)) (b : ℕ) → b ≤ long → (b % 32768 ≡ 0) ⊎ (b ≡ long) → AppendsPart old new (sound_of to zs 0 b) → AppendsPart old new (laced_in to zs)
  prefix_of_all old new b inside (inl groups) prefix =
      subst (AppendsPart old new) (sym (sound_join b long groups inside (omega arith)) ∙ sound_whole) (prefix_more old new (sound_of to zs 0 b) (sound_of to zs b long) prefix)
  prefix_of_all old new b inside (inr all) prefix = subst (AppendsPart old new) (ap (sound_of to zs 0) all ∙ sound_whole) prefix

-- ---- stretch by stretch
-- n bits of each best channel were written
abbrev pub HasWritten : CutContent → Interleaving → ℕ → Option (List ℕ) → Option (List ℕ) → Type 0
HasWritten cut to done old new = (zs : List (List Bool)) → AreBestChannels cut zs → Appends old new (sound_of to zs 0 done)

module _ (cut : CutContent) (to : Interleaving) (one : HasOneBest cut) (some : 1 ≤ take_channels cut) where
  some_best : 1 ≤ length one.channels
  some_best = omega (arith, some, zip_numbers_long (IsBestChannel cut) (take_channels cut) one.channels one.best)

  pub written_nothing : (old : Option (List ℕ)) → HasWritten cut to 0 old old
  written_nothing old zs best =
      let same = one.only zs best in
      subst (λ l. Appends old old (sound_of to l 0 0)) (sym same) (subst (Appends old old) (sym (nothing_yet to one.channels (master_length cut.splice.cues) some_best one.long)) (Appends-nil old))

  pub written_more : (a b : ℕ) (old mid new : Option (List ℕ)) → a % 32768 ≡ 0 → a ≤ b → b ≤ master_length cut.splice.cues → HasWritten cut to a old mid → WritesPart cut to (from_to a b) mid new → HasWritten cut to b old new
  written_more a b old mid new groups order inside before part zs best =
      let ws = one.channels in
      let same = one.only zs best in
      let here : Appends mid new (sound_of to ws a b) = subst (λ l. Appends mid new (sound_of to l a b)) (one.only part.channels part.best) part.written in
      let all : Appends old new (sound_of to ws 0 a ++ sound_of to ws a b) = Appends-trans old mid new (sound_of to ws 0 a) (sound_of to ws a b) (before ws one.best) here in
      subst (λ l. Appends old new (sound_of to l 0 b)) (sym same) (subst (Appends old new) (sym (sound_join to ws (master_length cut.splice.cues) some_best one.long a b groups order inside)) all)

  pub written_prefix : (a b : ℕ) (old mid new : Option (List ℕ)) → a % 32768 ≡ 0 → a ≤ b → b ≤ master_length cut.splice.cues → (b % 32768 ≡ 0) ⊎ (b ≡ master_length cut.splice.cues) → HasWritten cut to a old mid → WritesPartPrefix cut to (from_to a b) mid new → WritesBestPrefix cut to old new
  written_prefix a b old mid new groups order inside last before part =
      let ws = one.channels in
      let here : AppendsPart mid new (sound_of to ws a b) = subst (λ l. AppendsPart mid new (sound_of to l a b)) (one.only part.channels part.best) part.written in
      let all : AppendsPart old new (sound_of to ws 0 a ++ sound_of to ws a b) = prefix_on old mid new (sound_of to ws 0 a) (sound_of to ws a b) (before ws one.best) here in
      record {
        channels = ws;
        best = one.best;
        written = prefix_of_all to ws (master_length cut.splice.cues) some_best one.long old new b inside last (subst (AppendsPart old new) (sym (sound_join to ws (master_length cut.splice.cues) some_best one.long a b groups order inside)) all);
      }

  pub written_whole : (old new : Option (List ℕ)) → HasWritten cut to (master_length cut.splice.cues) old new → WritesBest cut to old new
  written_whole old new all = record {
    channels = one.channels;
    best = one.best;
    written = subst (Appends old new) (sound_whole to one.channels (master_length cut.splice.cues) some_best one.long) (all one.channels one.best);
  }

-- the next place: whole groups, or the end
pub next_place : (from stretch long stop : ℕ) → from % 32768 ≡ 0 → stretch % 32768 ≡ 0 → from < long → stop ≡ from + min stretch (long - from) → (stop % 32768 ≡ 0) ⊎ (stop ≡ long)
next_place from stretch long stop groups whole less is = elim (cases_lt stretch (long - from)) [
  | inl more ↦ inl (let e : stop ≡ from + stretch = omega (arith, is, more) in omega (arith, e, groups, whole))
  | inr last ↦ inr (omega (arith, is, last, less))
]

-- ---- the parts of all channels
module _ (cut : CutContent) (some : 1 ≤ take_channels cut) (range : BitRange) (parts : List (List Bool)) (are : AreBestParts cut range parts) where
  pub parts_number : length parts ≡ take_channels cut
  parts_number = ap length are.parts_are ∙ length-map are.wholes (within range) ∙ zip_numbers_long (IsBestChannel cut) (take_channels cut) are.wholes are.best

  part_length : range.stop ≤ master_length cut.splice.cues → (c : ℕ) (d : List Bool) → c < length parts → length (get_or parts c d) ≡ range.stop - range.start
  part_length inside c d lt =
      let many : length are.wholes ≡ take_channels cut = zip_numbers_long (IsBestChannel cut) (take_channels cut) are.wholes are.best in
      let there : c < length are.wholes = omega (arith, parts_number, many) in
      let z = get_or are.wholes c [] in
      let long : length z ≡ master_length cut.splice.cues = are.long c [] there in
      ap (λ l. length (get_or l c d)) are.parts_are ∙ ap length (get_or-map (within range) are.wholes c [] d there) ∙ omega (arith, length-slice z range.start range.stop, long, inside)

  pub parts_count : range.stop ≤ master_length cut.splice.cues → count_of parts ≡ range.stop - range.start
  parts_count inside = part_length inside 0 [] (omega (arith, parts_number, some))

  pub parts_level : range.stop ≤ master_length cut.splice.cues → IsLevel parts
  parts_level inside = record { same = λ c d lt. part_length inside c d lt ∙ sym (parts_count inside) }

-- channel by channel
pub record ArePartsUpTo (cut : CutContent) (range : BitRange) (number : ℕ) (parts : List (List Bool)) : Type 0 where
  pub wholes : List (List Bool)
  pub best : AllZip (IsBestChannel cut) (range_with_len 0 number) wholes
  pub long : All (λ z. length z ≡ master_length cut.splice.cues) wholes
  pub at : (c : ℕ) → c < number → get_or parts c [] ≡ within range (get_or wholes c [])

pub no_parts : (cut : CutContent) (range : BitRange) (parts : List (List Bool)) → ArePartsUpTo cut range 0 parts
no_parts cut range parts = record { wholes = []; best = tt; long = All-nil (λ z. length z ≡ master_length cut.splice.cues); at = λ c lt. absurd (omega arith) }

pub parts_more : (cut : CutContent) (range : BitRange) (i : ℕ) (rooms : List RoomContent) (room : RoomContent) → i < length rooms → ArePartsUpTo cut range i (rooms_bits rooms) → IsBestPart cut i range room.bits → ArePartsUpTo cut range (i + 1) (rooms_bits (set rooms i room))
parts_more cut range i rooms room lt so_far part =
    let ws = so_far.wholes in
    let many : length ws ≡ i = zip_numbers_long (IsBestChannel cut) i ws so_far.best in
    let zero : 0 + i ≡ i = omega arith in
    let bits = rooms_bits rooms in
    let all = ws ++ part.whole ∷ [] in
    let Long : List Bool → Type 0 = λ z. length z ≡ master_length cut.splice.cues in
    let set_is : rooms_bits (set rooms i room) ≡ set bits i room.bits = map-set (λ (r : RoomContent). r.bits) rooms i room in
    record {
      wholes = all;
      best = rw (range_more 0 i, zero) (zip_more (IsBestChannel cut) (range_with_len 0 i) ws i part.whole so_far.best part.best);
      long = All-append Long ws (part.whole ∷ []) so_far.long (All-cons Long part.whole [] part.long (All-nil Long));
      at = λ c below. ap (λ l. get_or l c []) set_is ∙ elim (cases_lt c i) [
        | inl low ↦ (let apart : c ≡ i → ⊥ = λ e. omega arith in get_or-set_other bits i c room.bits [] apart ∙ so_far.at c low ∙ ap (within range) (sym (get_or_append_left ws (part.whole ∷ []) [] c (omega (arith, many)))))
        | inr high ↦
            let e : c ≡ i = omega arith in
            let there : i < length bits = omega (arith, length-rooms_bits rooms) in
            ap (λ k. get_or (set bits i room.bits) k []) e ∙ get_or-set_same bits i room.bits [] there ∙ part.part_is ∙ ap (within range) (sym (ap (λ k. get_or all k []) e ∙ get_or_push ws part.whole [] i many))
      ];
    }

pub parts_all : (cut : CutContent) (range : BitRange) (parts : List (List Bool)) → length parts ≡ take_channels cut → ArePartsUpTo cut range (take_channels cut) parts → AreBestParts cut range parts
parts_all cut range parts number up_to =
    let many : length up_to.wholes ≡ take_channels cut = zip_numbers_long (IsBestChannel cut) (take_channels cut) up_to.wholes up_to.best in
    record {
      wholes = up_to.wholes;
      best = up_to.best;
      long = up_to.long;
      parts_are = ext_get_or [] parts (map (within range) up_to.wholes) (number ∙ sym many ∙ sym (length-map up_to.wholes (within range))) (λ c lt.
          let below : c < take_channels cut = omega (arith, number) in
          let there : c < length up_to.wholes = omega (arith, many) in
          up_to.at c below ∙ sym (get_or-map (within range) up_to.wholes c [] [] there));
    }

-- the rooms stay as large
abbrev pub room_most : RoomContent → ℕ
room_most room = room.most

pub same_long : (old new : List RoomContent) → map room_most new ≡ map room_most old → length new ≡ length old
same_long old new same = sym (length-map new room_most) ∙ ap length same ∙ length-map old room_most

-- and so is each
pub most_at : (old new : List RoomContent) (i : ℕ) (room : RoomContent) (least : ℕ) → map room_most new ≡ map room_most old → i < length new → room ≡ get_or new i room → All (λ r. least ≤ r.most) old → least ≤ room.most
most_at old new i room least same lt is large =
    let there : i < length old = omega (arith, same_long old new same) in
    let equal : room.most ≡ (get_or old i room).most = ap room_most is ∙ sym (get_or-map room_most new i room 0 lt) ∙ ap (λ l. get_or l i 0) same ∙ get_or-map room_most old i room 0 there in
    let here : least ≤ (get_or old i room).most = large i room there in
    omega (arith, equal, here)

pub most_kept : (rooms : List RoomContent) (i : ℕ) (room old : RoomContent) → i < length rooms → old ≡ get_or rooms i old → room.most ≡ old.most → map room_most (set rooms i room) ≡ map room_most rooms
most_kept rooms i room old lt is same = map-set_same room_most rooms i room old (same ∙ ap room_most is)

pub rooms_kept : (number most : ℕ) (old new : List RoomContent) → map room_most new ≡ map room_most old → AreRooms number most old → AreRooms number most new
rooms_kept number most old new same are =
    let many : length new ≡ length old = same_long old new same in
    record {
      as_many = many ∙ are.as_many;
      large = λ i d lt.
          let there : i < length old = omega (arith, many) in
          let equal : (get_or new i d).most ≡ (get_or old i d).most = sym (get_or-map room_most new i d 0 lt) ∙ ap (λ l. get_or l i 0) same ∙ get_or-map room_most old i d 0 there in
          let large : most ≤ (get_or old i d).most = are.large i d there in
          omega (arith, equal, large);
    }
