-- What a digester holds of a sound that comes group by group.
use Rattle.std.proofs.Common.{◌≡◌, ℕ, ◌+◌, ◌-◌, ◌*◌, ◌/◌, ◌%◌, ◌<◌, ◌≤◌, Bool, false, cond, List, [], ◌∷◌, ◌++◌, map, length, get_or, set, refl, sym, subst, ap, ◌∙◌, inl, inr, arith, length-append}
use Rattle.std.proofs.lemmas.Bool.{cases_lt}
use Rattle.std.proofs.lemmas.Grind.{same_number_lists}
use Rattle.std.proofs.lemmas.List.{ext_get_or, get_or_append_left, get_or-append_right, get_or-map, get_or-set_other, get_or-set_same, get_or_default, get_or_push, length-map, length-set, length_push}
use Rattle.std.proofs.lemmas.List.FromFn.{length-map-range_with_len}
use Rattle.std.specs.Int.{div_ceil}
use Rattle.sha2.specs.Hashers.{Holds256}
use Rattle.sha2.specs.Sha256.{sha256}
use Rattle.sha2.specs.declared.Sha256.{Sha256}
use Rattle.dsd_bits.specs.Packing.{bit_worth, packed, packed_byte}
use Rattle.dsd_bits.specs.Sounds.{sound_channels, sound_size}
use Rattle.dsd_bits.specs.declared.interleaving.Interleaving.TheVariants.{Bytes}
use Rattle.dsd_bits.specs.declared.sound.Sound.{Sound}
use Rattle.dsd_bits.proofs.BlockLemmas.{packed_at}
use Rattle.interleave_core.proofs.JoinLaws.{Appended, taken}
use Rattle.sound_core.proofs.HeldLaws.{channels_number}
use Rattle.sound_core.proofs.KeeperLaws.{no_size}
use Rattle.sound_core.specs.Sinks.{IsFed}
use Rattle.sound_core.specs.declared.part.SoundPart.{SoundPart}
use Rattle.transfer_commands.specs.Digesting.{AreUpdated, HoldEach, HoldNothing}
use Rattle.transfer_commands.specs.Summing.{digests_of}

-- ---- packed bits after whole bytes
module _ (xs ys : List Bool) where
  worth_left : (i w : ℕ) → i < length xs → bit_worth (xs ++ ys) i w ≡ bit_worth xs i w
  worth_left i w h = ap (λ b. cond b w 0) (get_or_append_left xs ys false i h)

  worth_right : (i k w : ℕ) → i ≡ length xs + k → bit_worth (xs ++ ys) i w ≡ bit_worth ys k w
  worth_right i k w at =
      let low : length xs ≤ i = omega (arith, at) in
      let same : i - length xs ≡ k = omega (arith, at) in
      ap (λ b. cond b w 0) (get_or-append_right xs ys (length xs) i false refl low ∙ ap (λ n. get_or ys n false) same)

  module _ (whole : length xs % 8 ≡ 0) where
    byte_left : (j : ℕ) → j < length xs / 8 → packed_byte (xs ++ ys) j ≡ packed_byte xs j
    byte_left j h =
        let i = 8 * j in
        omega (arith, worth_left i 128 (omega (arith, h)), worth_left (i + 1) 64 (omega (arith, h)), worth_left (i + 2) 32 (omega (arith, h)), worth_left (i + 3) 16 (omega (arith, h)), worth_left (i + 4) 8 (omega (arith, h)), worth_left (i + 5) 4 (omega (arith, h)), worth_left (i + 6) 2 (omega (arith, h)), worth_left (i + 7) 1 (omega (arith, h)))

    byte_right : (j k : ℕ) → j ≡ length xs / 8 + k → packed_byte (xs ++ ys) j ≡ packed_byte ys k
    byte_right j k at =
        let i = 8 * j in
        let n = 8 * k in
        omega (arith, worth_right i n 128 (omega (arith, at, whole)), worth_right (i + 1) (n + 1) 64 (omega (arith, at, whole)), worth_right (i + 2) (n + 2) 32 (omega (arith, at, whole)), worth_right (i + 3) (n + 3) 16 (omega (arith, at, whole)), worth_right (i + 4) (n + 4) 8 (omega (arith, at, whole)), worth_right (i + 5) (n + 5) 4 (omega (arith, at, whole)), worth_right (i + 6) (n + 6) 2 (omega (arith, at, whole)), worth_right (i + 7) (n + 7) 1 (omega (arith, at, whole)))

    packed_long : (zs : List Bool) → length (packed zs) ≡ div_ceil (length zs) 8
    packed_long zs = length-map-range_with_len (packed_byte zs) 0 (div_ceil (length zs) 8)

    -- the bytes of both, one after the other
    pub packed_append : packed (xs ++ ys) ≡ packed xs ++ packed ys
    packed_append =
        let size : length (packed (xs ++ ys)) ≡ length (packed xs ++ packed ys) = omega (arith, whole, packed_long (xs ++ ys), packed_long xs, packed_long ys, length-append xs ys, length-append (packed xs) (packed ys)) in
        let prefix : length (packed xs) ≡ length xs / 8 = omega (arith, whole, packed_long xs) in
        same_number_lists (packed (xs ++ ys)) (packed xs ++ packed ys) size (λ j h. packed_at (xs ++ ys) j ∙ elim (cases_lt j (length xs / 8)) [
          | inl low ↦ byte_left j low ∙ sym (get_or_append_left (packed xs) (packed ys) 0 j (omega (arith, low, prefix)) ∙ packed_at xs j)
          | inr high ↦
              let k = j - length xs / 8 in
              byte_right j k (omega (arith, high)) ∙ sym (get_or-append_right (packed xs) (packed ys) (length xs / 8) j 0 prefix high ∙ packed_at ys k)
        ])

-- ---- hashers that go on
-- channels that hold nothing yet
pub hold_none : (hashers : List Sha256) (channels : List (List Bool)) (number : ℕ) → HoldNothing hashers number → length channels ≡ number → ((c : ℕ) → c < number → length (get_or channels c []) ≡ 0) → HoldEach hashers channels
hold_none hashers channels number none many empty = record {
  number = none.long ∙ sym many;
  each = λ c h below.
      let within : c < number = omega (arith, below, many) in
      subst (Holds256 (get_or hashers c h)) (sym (no_bytes (get_or channels c []) (empty c within))) (none.each c h within);
}
  where
    no_bytes : (xs : List Bool) → length xs ≡ 0 → packed xs ≡ []
    no_bytes [] is = refl
    no_bytes (x ∷ xs) is = absurd (omega (arith, is))

-- those of the next group
pub hold_on : (old new : List Sha256) (all first more : List (List Bool)) (n a : ℕ) → Appended all first more n a → a % 8 ≡ 0 → HoldEach old first → AreUpdated more old new → HoldEach new all
hold_on old new all first more n a joined whole held updated = record {
  number = updated.number ∙ held.number ∙ joined.first_long ∙ sym joined.all_long;
  each = λ c h below.
      let within : c < n = omega (arith, below, joined.all_long) in
      let own = get_or first c [] in
      let rest = get_or more c [] in
      let bytes = packed_append own rest (omega (arith, whole, joined.bits c within)) in
      subst (Holds256 (get_or new c h)) (sym (ap packed (joined.each c within) ∙ bytes))
      (updated.each c h (packed own) (omega (arith, within, held.number, joined.first_long)) (held.each c h (omega (arith, within, joined.first_long))));
}

-- ---- a sound that comes
-- before the first byte
pub digests_none : (s : Sound) (hashers : List Sha256) → HoldNothing hashers s.channels → HoldEach hashers (sound_channels s.interleaving s.channels 0 [])
digests_none s hashers none =
    let size : 0 ≡ sound_size s.interleaving s.channels 0 = sym (no_size s.interleaving s.channels) in
    let joined = taken s.interleaving s.channels 0 0 [] [] refl size size in
    hold_none hashers _ s.channels none joined.first_long joined.bits

-- after some bytes
pub digests_more : (part : SoundPart) (old new : List Sha256) (before bytes : List ℕ) → IsFed part.sound part.done before → length bytes ≡ sound_size part.sound.interleaving part.sound.channels part.bits
    → HoldEach old (sound_channels part.sound.interleaving part.sound.channels part.done before)
    → AreUpdated (sound_channels part.sound.interleaving part.sound.channels part.bits bytes) old new
    → HoldEach new (sound_channels part.sound.interleaving part.sound.channels (part.done + part.bits) (before ++ bytes))
digests_more part old new before bytes fed size held updated =
    let groups : part.done % 32768 ≡ 0 = fed.groups (omega (arith, part.within, part.some)) in
    hold_on old new _ _ _ part.sound.channels part.done (taken part.sound.interleaving part.sound.channels part.done part.bits before bytes groups fed.size size) (omega (arith, groups)) held updated

-- a part of frames is whole bytes
pub from_whole : (part : SoundPart) (before : List ℕ) → IsFed part.sound part.done before → part.sound.interleaving ≡ Bytes → part.bits % 8 ≡ 0
from_whole part before fed is = elim (cases_lt (part.done + part.bits) part.sound.count) [
  | inl less ↦ omega (arith, part.groups less)
  | inr all ↦ omega (arith, all, part.within, fed.groups (omega (arith, part.within, part.some)), fed.whole is)
]

-- ---- one after the other
-- the first hashers hold the bits of their channels after what they held, and the others are unchanged
pub record UpdatedUpTo (channels : List (List Bool)) (old now : List Sha256) (c : ℕ) : Type 0 where
  pub number : length now ≡ length old
  pub later : (k : ℕ) (h : Sha256) → c ≤ k → get_or now k h ≡ get_or old k h
  pub updated : (k : ℕ) (h : Sha256) (m : List ℕ) → k < c → Holds256 (get_or old k h) m → Holds256 (get_or now k h) (m ++ packed (get_or channels k []))

pub updated_next : (channels : List (List Bool)) (old now : List Sha256) (c : ℕ) (h new : Sha256) (bytes : List ℕ) → UpdatedUpTo channels old now c → c < length now → bytes ≡ packed (get_or channels c [])
    → ((m : List ℕ) → Holds256 (get_or now c h) m → Holds256 new (m ++ bytes)) → UpdatedUpTo channels old (set now c new) (c + 1)
updated_next channels old now c h new bytes so_far low are on = record {
  number = length-set now c new ∙ so_far.number;
  later = λ k d above. get_or-set_other now c k new d (λ same. omega (arith, above, same)) ∙ so_far.later k d (omega (arith, above));
  updated = λ k d m below held. elim (cases_lt k c) [
    | inl before ↦ subst (λ (x : Sha256). Holds256 x (m ++ packed (get_or channels k []))) (sym (get_or-set_other now c k new d (λ same. omega (arith, before, same)))) (so_far.updated k d m before held)
    | inr at ↦
        let same : k ≡ c = omega (arith, below, at) in
        let was : Holds256 (get_or now c h) m = subst (λ (x : Sha256). Holds256 x m) (get_or_default old c d h (omega (arith, low, so_far.number)) ∙ sym (so_far.later c h (omega arith))) (subst (λ (i : ℕ). Holds256 (get_or old i d) m) same held) in
        subst (λ (i : ℕ). Holds256 (get_or (set now c new) i d) (m ++ packed (get_or channels i []))) (sym same)
        (subst (λ (x : Sha256). Holds256 x (m ++ packed (get_or channels c []))) (sym (get_or-set_same now c new d low)) (subst (λ (ys : List ℕ). Holds256 new (m ++ ys)) are (on m was)))
  ];
}

pub all_updated : (channels : List (List Bool)) (old now : List Sha256) (c : ℕ) → UpdatedUpTo channels old now c → length old ≤ c → AreUpdated channels old now
all_updated channels old now c so_far enough = record { number = so_far.number; each = λ k h m below held. so_far.updated k h m (omega (arith, below, enough)) held }

-- no hashers
pub no_hashers : (hashers : List Sha256) → hashers ≡ [] → HoldNothing hashers 0
no_hashers hashers is = record { long = ap length is; each = λ c h below. absurd (omega (arith, below)) }

-- one more hasher of no bytes
pub nothing_more : (hashers new : List Sha256) (n : ℕ) (h : Sha256) → HoldNothing hashers n → Holds256 h [] → new ≡ hashers ++ h ∷ [] → HoldNothing new (n + 1)
nothing_more hashers new n h none empty is = subst (λ xs. HoldNothing xs (n + 1)) (sym is) (record {
  long = length_push hashers h ∙ ap (λ k. k + 1) none.long;
  each = λ c d below. elim (cases_lt c n) [
    | inl before ↦ subst (λ (x : Sha256). Holds256 x []) (sym (get_or_append_left hashers (h ∷ []) d c (omega (arith, before, none.long)))) (none.each c d before)
    | inr at ↦
        let same : length hashers ≡ c = omega (arith, below, at, none.long) in
        subst (λ (x : Sha256). Holds256 x []) (sym (get_or_push hashers h d c same)) empty
  ];
})

-- ---- the digests at the end
-- each hasher has given the digest of what it holds
pub record AllDigested (hashers : List Sha256) (made : List (List ℕ)) : Type 0 where
  pub long : length made ≡ length hashers
  pub digests : (c : ℕ) (h : Sha256) (m : List ℕ) → c < length hashers → Holds256 (get_or hashers c h) m → get_or made c [] ≡ sha256 m

pub digested_none : (hashers : List Sha256) (made : List (List ℕ)) → hashers ≡ [] → made ≡ [] → AllDigested hashers made
digested_none hashers made none is = record { long = ap length is ∙ sym (ap length none); digests = λ c h m below held. absurd (omega (arith, below, ap length none)) }

pub digested_next : (hashers : List Sha256) (made new : List (List ℕ)) (h : Sha256) (digest : List ℕ) → AllDigested hashers made
    → ((m : List ℕ) → Holds256 h m → digest ≡ sha256 m) → new ≡ made ++ digest ∷ [] → AllDigested (hashers ++ h ∷ []) new
digested_next hashers made new h digest so_far gives is = subst (AllDigested (hashers ++ h ∷ [])) (sym is) (record {
  long = length_push made digest ∙ ap (λ k. k + 1) so_far.long ∙ sym (length_push hashers h);
  digests = λ c d m below held. elim (cases_lt c (length hashers)) [
    | inl before ↦ get_or_append_left made (digest ∷ []) [] c (omega (arith, before, so_far.long)) ∙ so_far.digests c d m before (subst (λ (x : Sha256). Holds256 x m) (get_or_append_left hashers (h ∷ []) d c before) held)
    | inr at ↦
        let same : length hashers ≡ c = omega (arith, below, at, length_push hashers h) in
        get_or_push made digest [] c (so_far.long ∙ same)
        ∙ gives m (subst (λ (x : Sha256). Holds256 x m) (get_or_push hashers h d c same) held)
  ];
})

-- some hasher of those that there are
some_hasher : (hashers : List Sha256) (c : ℕ) → c < length hashers → Sha256
some_hasher [] c below = absurd (omega (arith, below))
some_hasher (h ∷ hashers) c below = h

-- of what was taken out one after the other
pub as_they_are : {X : Type 0} (xs : List X) → map (λ x. x) xs ≡ xs
as_they_are [] = refl
as_they_are (x ∷ xs) = ap (λ ys. x ∷ ys) (as_they_are xs)

pub all_digested : (hashers : List Sha256) (made : List (List ℕ)) → AllDigested hashers made → (channels : List (List Bool)) → HoldEach hashers channels → made ≡ digests_of channels
all_digested hashers made all channels held =
    let f : List Bool → List ℕ = λ bits. sha256 (packed bits) in
    let long : length made ≡ length (map f channels) = all.long ∙ held.number ∙ sym (length-map channels f) in
    ext_get_or [] made (map f channels) long (λ c below.
    let within : c < length channels = omega (arith, below, all.long, held.number) in
    let h = some_hasher hashers c (omega (arith, below, all.long)) in
    all.digests c h (packed (get_or channels c [])) (omega (arith, within, held.number)) (held.each c h within)
    ∙ sym (get_or-map f channels c [] [] within))

-- the channels of what came are as many as the sound's
pub channels_long : (part : SoundPart) (before : List ℕ) → length (sound_channels part.sound.interleaving part.sound.channels part.done before) ≡ part.sound.channels
channels_long part before = channels_number part.sound.interleaving part.sound.channels part.done before
