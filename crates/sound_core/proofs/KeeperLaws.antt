-- What is kept of a sound that comes group by group.
use Rattle.std.proofs.Common.{◌≡◌, ℕ, ◌+◌, ◌-◌, ◌%◌, ◌<◌, ◌≤◌, ◌^◌, ◌⊎◌, inl, inr, min, Bool, List, [], ◌∷◌, ◌++◌, map, length, get_or, set, take, drop, replicate, refl, sym, subst, ap, ap₂, ◌∙◌, arith, append-nil, length-append, length-take, length-drop}
use Rattle.std.specs.Prelude.{slice_range}
use Rattle.std.proofs.lemmas.Bool.{cases_lt}
use Rattle.std.proofs.lemmas.List.{drop-append-le, drop-drop, drop_at, ext_get_or, get_or-map, get_or-replicate, get_or-set_other, get_or-set_same, length-map, length-replicate, length-set, nil_from_length, replicate_more}
use Rattle.std.proofs.lemmas.List.FromFn.{get_or-map-range_with_len, length-map-range_with_len}
use Rattle.dsd_bits.specs.declared.interleaving.Interleaving.{Interleaving}
use Rattle.dsd_bits.specs.declared.interleaving.Interleaving.TheVariants.{Bytes, Blocks}
use Rattle.dsd_bits.specs.declared.sound.Sound.{Sound}
use Rattle.dsd_bits.specs.Blocks.{block_bit, unblocked}
use Rattle.dsd_bits.specs.Lacing.{unlaced}
use Rattle.dsd_bits.specs.Sounds.{IsSound, sound_channels, sound_size}
use Rattle.interleave_core.proofs.GroupLaws.{size_on}
use Rattle.interleave_core.proofs.JoinLaws.{Appended, taken}
use Rattle.interleave_core.proofs.TakenLaws.{channel_long}
use Rattle.sound_core.specs.Keepers.{Keeps}
use Rattle.sound_core.specs.declared.part.SoundPart.{SoundPart}
use Rattle.dsd_bits.specs.Stretches.{stretch_of, stretches_of}
use Rattle.sound_core.specs.Stretches.{AreApart, AreGrown, AreRoomy, AreStretches, IsGrown}
use Rattle.dsd_bits.specs.declared.stretches.BitRange.{BitRange}
use Rattle.sound_core.proofs.ReadLaws.{whole_is}

-- ---- parts of a channel
long_slice : (xs : List Bool) (a b : ℕ) → length (slice_range xs a b) ≡ min (b - a) (length xs - a)
long_slice xs a b = omega (arith, length-take (b - a) (drop a xs), length-drop a xs)

-- no bit is there
pub slice_none : (xs : List Bool) (a b : ℕ) → (b ≤ a) ⊎ (length xs ≤ a) → slice_range xs a b ≡ []
slice_none xs a b (inl before) = nil_from_length (slice_range xs a b) (omega (arith, long_slice xs a b, before))
slice_none xs a b (inr after) = nil_from_length (slice_range xs a b) (omega (arith, long_slice xs a b, after))

-- of two parts of a channel
pub slice_join : (xs ys : List Bool) (a b : ℕ) → slice_range (xs ++ ys) a b ≡ slice_range xs a b ++ slice_range ys (a - length xs) (b - length xs)
slice_join xs ys a b = elim (cases_lt (length xs) a) [
  | inl after ↦ (
      let n = length xs in
      let rest = drop (a - n) ys in
      let parts : n + (a - n) ≡ a = omega (arith, after) in
      let on : drop a (xs ++ ys) ≡ rest = ap (λ k. drop k (xs ++ ys)) (sym parts) ∙ sym (drop-drop (a - n) n (xs ++ ys)) ∙ ap (drop (a - n)) (drop_at xs ys n refl) in
      let size : b - a ≡ b - n - (a - n) = omega (arith, after) in
      ap₂ (λ k zs. take k zs) size on ∙ ap (λ zs. zs ++ take (b - n - (a - n)) rest) (sym (slice_none xs a b (inr (omega (arith, after))))))
  | inr before ↦ (
      let n = length xs in
      let own = drop a xs in
      let none : a - n ≡ 0 = omega (arith, before) in
      let size : b - a - length (take (b - a) own) ≡ b - n - (a - n) = omega (arith, before, length-take (b - a) own, length-drop a xs) in
      ap (take (b - a)) (drop-append-le a xs ys before) ∙ bits_are (b - a) own ys ∙ ap₂ (λ k m. take (b - a) own ++ take k (drop m ys)) size (sym none))
]
  where
    bits_are : (size : ℕ) (us vs : List Bool) → take size (us ++ vs) ≡ take size us ++ take (size - length (take size us)) vs
    bits_are size us vs = whole_is size us vs

-- ---- channels of a sound
-- how many bits a channel has
pub channel_bits : (interleaving : Interleaving) (n bits : ℕ) (bytes : List ℕ) (c : ℕ) → 1 ≤ n → (interleaving ≡ Bytes → bits % 8 ≡ 0) → length bytes ≡ sound_size interleaving n bits → c < n → length (get_or (sound_channels interleaving n bits bytes) c []) ≡ bits
channel_bits Bytes n bits bytes c some whole size below =
    ap length (get_or-map-range_with_len (unlaced bytes n) 0 n c c [] below (omega arith)) ∙ channel_long bytes n bits some (whole refl) size c
channel_bits (Blocks order) n bits bytes c some whole size below =
    ap length (get_or-map-range_with_len (unblocked order bytes n bits) 0 n c c [] below (omega arith)) ∙ length-map-range_with_len (block_bit order bytes n c) 0 bits

pub no_size : (interleaving : Interleaving) (n : ℕ) → sound_size interleaving n 0 ≡ 0
no_size Bytes n = omega arith
no_size (Blocks order) n = omega arith

-- ---- stretches that grow
module _ (all first more : List (List Bool)) (n a : ℕ) (joined : Appended all first more n a) (ranges : List BitRange) (old : List (List (List Bool))) (are : AreStretches first ranges old) where
  old_long : (i : ℕ) (r : BitRange) → i < length ranges → length (get_or old i []) ≡ n
  old_long i r h = ap length (are.each i r h) ∙ length-map first (λ bits. slice_range bits (get_or ranges i r).start (get_or ranges i r).stop) ∙ joined.first_long

  stretch_on : (r : BitRange) (stretch new : List (List Bool)) → stretch ≡ stretch_of first r → IsGrown r more a stretch new → new ≡ stretch_of all r
  stretch_on r stretch new is grown =
      let f : List Bool → List Bool = λ bits. slice_range bits r.start r.stop in
      let size : length stretch ≡ n = ap length is ∙ length-map first f ∙ joined.first_long in
      let long : length new ≡ length (map f all) = grown.number ∙ size ∙ sym (length-map all f ∙ joined.all_long) in
      ext_get_or [] new (map f all) long (λ c h.
      let below : c < n = omega (arith, h, grown.number, size) in
      let own = get_or first c [] in
      let rest = get_or more c [] in
      let before : get_or stretch c [] ≡ f own = ap (λ zs. get_or zs c []) is ∙ get_or-map f first c [] [] (omega (arith, below, joined.first_long)) in
      let bits = joined.bits c below in
      grown.each c (omega (arith, below, size))
      ∙ ap₂ (λ us k. us ++ slice_range rest (r.start - k) (r.stop - k)) before (sym bits)
      ∙ sym (slice_join own rest r.start r.stop)
      ∙ ap f (sym (joined.each c below))
      ∙ sym (get_or-map f all c [] [] (omega (arith, below, joined.all_long))))

  pub grown_on : (new : List (List (List Bool))) → AreGrown ranges more a old new → AreStretches all ranges new
  grown_on new grown = record {
    number = grown.number ∙ are.number;
    each = λ i r h. stretch_on (get_or ranges i r) (get_or old i []) (get_or new i []) (are.each i r h) (grown.each i r (omega (arith, h, are.number)));
  }

  module _ (m : ℕ) (bits : (c : ℕ) → c < n → length (get_or more c []) ≤ m) where
    -- of ranges that have no bit of the others
    pub apart_on : AreApart ranges a (a + m) → AreStretches all ranges old
    apart_on apart = grown_on old (record {
      number = refl;
      each = λ i r h. record {
        number = refl;
        each = λ c k.
            let s = get_or ranges i r in
            let below : c < n = omega (arith, k, old_long i r (omega (arith, h, are.number))) in
            let none : slice_range (get_or more c []) (s.start - a) (s.stop - a) ≡ [] = slice_none (get_or more c []) (s.start - a) (s.stop - a) (elim (apart i r (omega (arith, h, are.number))) [
              | inl after ↦ inr (omega (arith, after, bits c below))
              | inr before ↦ inl (omega (arith, before))
            ]) in
            sym (append-nil (get_or (get_or old i []) c [])) ∙ ap (λ zs. get_or (get_or old i []) c [] ++ zs) (sym none);
      };
    })

    -- there is room for them
    pub roomy : BitRange → a + m ≤ 2 ^ 36 → length more ≡ n → AreRoomy more old
    roomy d room more_long = λ i h.
        let within : i < length ranges = omega (arith, h, are.number) in
        let r = get_or ranges i d in
        let f : List Bool → List Bool = λ bits. slice_range bits r.start r.stop in
        let size = old_long i d within in
        record {
          number = size ∙ sym more_long;
          room = λ c k.
              let below : c < n = omega (arith, k, size) in
              let own : get_or (get_or old i []) c [] ≡ f (get_or first c []) = ap (λ zs. get_or zs c []) (are.each i d within) ∙ get_or-map f first c [] [] (omega (arith, below, joined.first_long)) in
              omega (arith, room, ap length own, long_slice (get_or first c []) r.start r.stop, joined.bits c below, bits c below);
        }

-- ---- one after the other
-- the first channels of a stretch have grown, and the others are as they were
pub record GrownUpTo (range : BitRange) (channels : List (List Bool)) (done : ℕ) (old now : List (List Bool)) (c : ℕ) : Type 0 where
  pub number : length now ≡ length old
  pub later : (k : ℕ) → c ≤ k → get_or now k [] ≡ get_or old k []
  pub grown : (k : ℕ) → k < c → get_or now k [] ≡ get_or old k [] ++ slice_range (get_or channels k []) (range.start - done) (range.stop - done)

-- the first stretches have grown, and the others are as they were
pub record AllGrownUpTo (ranges : List BitRange) (channels : List (List Bool)) (done : ℕ) (old now : List (List (List Bool))) (i : ℕ) : Type 0 where
  pub number : length now ≡ length old
  pub later : (k : ℕ) → i ≤ k → get_or now k [] ≡ get_or old k []
  pub grown : (k : ℕ) (r : BitRange) → k < i → IsGrown (get_or ranges k r) channels done (get_or old k []) (get_or now k [])

pub grown_next : (range : BitRange) (channels : List (List Bool)) (done : ℕ) (old now : List (List Bool)) (c : ℕ) (new : List Bool) → GrownUpTo range channels done old now c → c < length now
    → new ≡ get_or now c [] ++ slice_range (get_or channels c []) (range.start - done) (range.stop - done) → GrownUpTo range channels done old (set now c new) (c + 1)
grown_next range channels done old now c new so_far low is = record {
  number = length-set now c new ∙ so_far.number;
  later = λ k h. get_or-set_other now c k new [] (λ same. omega (arith, h, same)) ∙ so_far.later k (omega (arith, h));
  grown = λ k h. elim (cases_lt k c) [
    | inl before ↦ get_or-set_other now c k new [] (λ same. omega (arith, before, same)) ∙ so_far.grown k before
    | inr at ↦ (
        let same : k ≡ c = omega (arith, h, at) in
        let part : ℕ → List Bool = λ j. slice_range (get_or channels j []) (range.start - done) (range.stop - done) in
        subst (λ (j : ℕ). get_or (set now c new) j [] ≡ get_or old j [] ++ part j) (sym same)
        (get_or-set_same now c new [] low ∙ is ∙ ap (λ xs. xs ++ part c) (so_far.later c (omega arith))))
  ];
}

pub all_next : (ranges : List BitRange) (channels : List (List Bool)) (done : ℕ) (old now : List (List (List Bool))) (i : ℕ) (new : List (List Bool)) → AllGrownUpTo ranges channels done old now i → i < length now
    → ((r : BitRange) → IsGrown (get_or ranges i r) channels done (get_or now i []) new) → AllGrownUpTo ranges channels done old (set now i new) (i + 1)
all_next ranges channels done old now i new so_far low is = record {
  number = length-set now i new ∙ so_far.number;
  later = λ k h. get_or-set_other now i k new [] (λ same. omega (arith, h, same)) ∙ so_far.later k (omega (arith, h));
  grown = λ k r h. elim (cases_lt k i) [
    | inl before ↦ subst (IsGrown (get_or ranges k r) channels done (get_or old k [])) (sym (get_or-set_other now i k new [] (λ same. omega (arith, before, same)))) (so_far.grown k r before)
    | inr at ↦ (
        let same : k ≡ i = omega (arith, h, at) in
        subst (λ (j : ℕ). IsGrown (get_or ranges j r) channels done (get_or old j []) (get_or (set now i new) j [])) (sym same)
        (subst (IsGrown (get_or ranges i r) channels done (get_or old i [])) (sym (get_or-set_same now i new [] low))
        (subst (λ xs. IsGrown (get_or ranges i r) channels done xs new) (so_far.later i (omega arith)) (is r))))
  ];
}

pub all_grown : (ranges : List BitRange) (channels : List (List Bool)) (done : ℕ) (old now : List (List (List Bool))) (i : ℕ) → AllGrownUpTo ranges channels done old now i → length old ≤ i → AreGrown ranges channels done old now
all_grown ranges channels done old now i so_far enough = record { number = so_far.number; each = λ k r h. so_far.grown k r (omega (arith, h, enough)) }

-- ---- a sound that comes
module _ (part : SoundPart) (ranges : List BitRange) (old : List (List (List Bool))) (before bytes : List ℕ) (keeps : Keeps part.sound ranges part.done old before)
    (size : length bytes ≡ sound_size part.sound.interleaving part.sound.channels part.bits) where
  abbrev s : Sound
  s = part.sound

  abbrev done : ℕ
  done = part.done

  abbrev bits : ℕ
  bits = part.bits

  groups : done % 32768 ≡ 0
  groups = keeps.groups (omega (arith, part.within, part.some))

  pub from_whole : s.interleaving ≡ Bytes → bits % 8 ≡ 0
  from_whole is = elim (cases_lt (done + bits) s.count) [
    | inl less ↦ omega (arith, part.groups less)
    | inr all ↦ omega (arith, all, part.within, groups, keeps.whole is)
  ]

  abbrev more : List (List Bool)
  more = sound_channels s.interleaving s.channels bits bytes

  joined : Appended (sound_channels s.interleaving s.channels (done + bits) (before ++ bytes)) (sound_channels s.interleaving s.channels done before) more s.channels done
  joined = taken s.interleaving s.channels done bits before bytes groups keeps.size size

  few : (c : ℕ) → c < s.channels → length (get_or more c []) ≤ bits
  few c below = omega (arith, channel_bits s.interleaving s.channels bits bytes c keeps.is_sound.some_channel from_whole size below)

  now_keeps : (new : List (List (List Bool))) → AreStretches (sound_channels s.interleaving s.channels (done + bits) (before ++ bytes)) ranges new → Keeps s ranges (done + bits) new (before ++ bytes)
  now_keeps new are = record {
    is_sound = keeps.is_sound;
    whole = keeps.whole;
    within = part.within;
    groups = λ rest. omega (arith, part.groups rest, groups);
    size = omega (arith, length-append before bytes, keeps.size, size, size_on s.interleaving s.channels done bits groups);
    kept = are;
  }

  pub keeps_grown : (new : List (List (List Bool))) → AreGrown ranges more done old new → Keeps s ranges (done + bits) new (before ++ bytes)
  keeps_grown new grown = now_keeps new (grown_on _ _ more s.channels done joined ranges old keeps.kept new grown)

  pub keeps_apart : AreApart ranges done (done + bits) → Keeps s ranges (done + bits) old (before ++ bytes)
  keeps_apart apart = now_keeps old (apart_on _ _ more s.channels done joined ranges old keeps.kept bits few apart)

  pub keeps_roomy : AreRoomy more old
  keeps_roomy = roomy _ _ more s.channels done joined ranges old keeps.kept bits few (record { start = 0; stop = 0 }) (omega (arith, part.within, keeps.is_sound.in_limit)) joined.more_long

-- before the first byte
pub keeps_none : (s : Sound) (ranges : List BitRange) (number : ℕ) → IsSound s → (s.interleaving ≡ Bytes → s.count % 8 ≡ 0) → number ≡ length ranges → Keeps s ranges 0 (replicate number (replicate s.channels [])) []
keeps_none s ranges number is_sound whole is =
    let none = sound_channels s.interleaving s.channels 0 [] in
    let joined = taken s.interleaving s.channels 0 0 [] [] refl (sym (no_size s.interleaving s.channels)) (sym (no_size s.interleaving s.channels)) in
    let all : List (List Bool) = replicate s.channels [] in
    record {
      is_sound = is_sound;
      whole = whole;
      within = omega arith;
      groups = λ rest. refl;
      size = sym (no_size s.interleaving s.channels);
      kept = record {
        number = length-replicate number all ∙ is;
        each = λ i r h.
            let f : List Bool → List Bool = λ bits. slice_range bits (get_or ranges i r).start (get_or ranges i r).stop in
            let long : length all ≡ length (map f none) = length-replicate {A = List Bool} s.channels [] ∙ sym (length-map none f ∙ joined.first_long) in
            get_or-replicate number i all [] (omega (arith, h, is))
            ∙ ext_get_or [] all (map f none) long (λ c k.
            let below : c < s.channels = omega (arith, k, length-replicate {A = List Bool} s.channels []) in
            get_or-replicate {A = List Bool} s.channels c [] [] below
            ∙ sym (get_or-map f none c [] [] (omega (arith, below, joined.first_long)) ∙ slice_none (get_or none c []) (get_or ranges i r).start (get_or ranges i r).stop (inr (omega (arith, joined.bits c below)))));
      };
    }

-- ---- all that was kept
pub same_stretches : (channels : List (List Bool)) (ranges : List BitRange) (kept : List (List (List Bool))) → AreStretches channels ranges kept → kept ≡ stretches_of channels ranges
same_stretches channels ranges kept are =
    let d : BitRange = record { start = 0; stop = 0 } in
    let long : length kept ≡ length (map (stretch_of channels) ranges) = are.number ∙ sym (length-map ranges (stretch_of channels)) in
    ext_get_or [] kept (map (stretch_of channels) ranges) long (λ i h. (let within : i < length ranges = omega (arith, h, are.number) in are.each i d within ∙ sym (get_or-map (stretch_of channels) ranges i d [] within)))

-- one more of the same
pub one_more : {X : Type 0} (n : ℕ) (x : X) (xs : List X) (y : X) (ys : List X) → xs ≡ replicate n x → y ≡ x → ys ≡ xs ++ (y ∷ []) → ys ≡ replicate (n + 1) x
one_more n x xs y ys are same on = on ∙ ap₂ (λ us z. us ++ (z ∷ [])) are same ∙ replicate_more n x
