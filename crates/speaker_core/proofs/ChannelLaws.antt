-- The channels of sound bytes whose groups come in an order.
use Rattle.std.proofs.Common.{◌≡◌, ℕ, zero, suc, ◌+◌, ◌-◌, ◌*◌, ◌/◌, ◌%◌, ◌<◌, ◌≤◌, Bool, eqb, List, [], ◌∷◌, ◌++◌, All, flat_map, length, map, take, drop, true, false, ◌⊎◌, inl, inr, take-append-drop, get_or, slice_index, refl, sym, ap, subst, ◌∙◌, arith, add-zero}
use Rattle.std.proofs.lemmas.List.{drop_more, ext_get_or, get_or-map, get_or-take, get_or-drop, get_or_append_left, get_or-append_right, length-append, length-drop, length-map, length-take-le}
use Rattle.std.proofs.lemmas.Bool.{cases_lt}
use Rattle.std.proofs.lemmas.List.Elements.{All-get_or}
use Rattle.std.proofs.lemmas.List.FromFn.{length-map-range_with_len, get_or-map-range_with_len}
use Rattle.std.proofs.lemmas.Nat.{div-mul-add}
use Rattle.std.specs.Int.{bit_at}
use Rattle.std.specs.List.{range_with_len}
use Rattle.dsd_bits.specs.Lacing.{laced_bit, unlaced, unlaced_all}
use Rattle.dsd_bits.proofs.LacingLemmas.{map_range_same}
use Rattle.speaker_core.specs.Laws.{ReorderedHoldChannels}
use Rattle.std.specs.Prelude.{if◌then◌else◌, nat_eq}
use Rattle.std.proofs.lemmas.Bool.{eqb-true}
use lib.Seq.{take-append_seam, drop-append_seam}
use Rattle.speaker_core.specs.Reordering.{NamesChannels, channels_in, group_in, groups_in}
use Rattle.speaker_core.specs.Speakers.{is_moved, moved_groups}
use Rattle.speaker_core.proofs.GroupLaws.{groups_join, groups_short, groups_step}

next_group : (k n : ℕ) → suc k * n ≡ n + k * n
next_group k n = grind arith

one_each : (n : ℕ) → n * 1 ≡ n
one_each n = omega arith

-- the byte of each channel that is named
each_byte : (group order : List ℕ) → All (λ c. c < length group) order → flat_map (λ c. take 1 (drop (c * 1) group)) order ≡ map (slice_index group) order
each_byte group [] inside = refl
each_byte group (c ∷ cs) inside =
    let first : c < length group = inside zero c (omega arith) in
    let one : take 1 (drop (c * 1) group) ≡ slice_index group c ∷ [] = ap (λ m. take 1 (drop m group)) (one_each c) ∙ ap (take 1) (drop_more group c 0 first) in
    ap (λ l. l ++ flat_map (λ d. take 1 (drop (d * 1) group)) cs) one ∙ ap (λ l. slice_index group c ∷ l) (each_byte group cs (λ k d h. inside (suc k) d (omega (arith, h))))

module _ (order : List ℕ) (channels : NamesChannels order) where
  abbrev n : ℕ
  n = length order

  -- a group in the order
  one_group : (group : List ℕ) → length group ≡ n → group_in order 1 group ≡ map (slice_index group) order
  one_group group whole = each_byte group order (subst (λ m. All (λ c. c < m) order) (sym whole) channels)

  named : (j : ℕ) → j < n → get_or order j 0 < n
  named j low = All-get_or (λ c. c < n) order j 0 low channels

  -- the first of several groups, and the others
  stepped : (g : ℕ) (bytes : List ℕ) → n ≤ length bytes → groups_in order 1 (suc g) bytes ≡ map (slice_index (take n bytes)) order ++ groups_in order 1 g (drop n bytes)
  stepped g bytes long =
      let all : n * 1 ≤ length bytes = omega (arith, long) in
      let less : suc g - 1 ≡ g = omega arith in
      groups_step order 1 (suc g) bytes (omega arith) all
      ∙ ap (λ m. group_in order 1 (take m bytes) ++ groups_in order 1 (suc g - 1) (drop m bytes)) (one_each n)
      ∙ ap (λ m. group_in order 1 (take n bytes) ++ groups_in order 1 m (drop n bytes)) less
      ∙ ap (λ l. l ++ groups_in order 1 g (drop n bytes)) (one_group (take n bytes) (length-take-le n bytes long))

  fewer : (g : ℕ) (bytes : List ℕ) → length bytes ≡ suc g * n → length (drop n bytes) ≡ g * n
  fewer g bytes whole = omega (arith, length-drop n bytes, whole, next_group g n)

  -- no byte is lost
  pub kept_length : (g : ℕ) (bytes : List ℕ) → length (groups_in order 1 g bytes) ≡ length bytes
  kept_length zero bytes = refl
  kept_length (suc g) bytes = elim (cases_lt (length bytes) (n * 1)) [
    | inl short ↦ ap length (groups_short order 1 (suc g) bytes short)
    | inr all ↦
        let long : n ≤ length bytes = omega (arith, all) in
        let first = map (slice_index (take n bytes)) order in
        let rest = groups_in order 1 g (drop n bytes) in
        ap length (stepped g bytes long) ∙ omega (arith, length-append first rest, length-map order (slice_index (take n bytes)), kept_length g (drop n bytes), length-drop n bytes, long)
  ]

  -- the byte of a place comes from the channel that the order names there
  placed : (g : ℕ) (bytes : List ℕ) → length bytes ≡ g * n → (k j : ℕ) → k < g → j < n → slice_index (groups_in order 1 g bytes) (k * n + j) ≡ slice_index bytes (k * n + get_or order j 0)
  placed zero bytes whole k j few low = absurd (omega (arith, few))
  placed (suc g) bytes whole zero j few low =
      let first = map (slice_index (take n bytes)) order in
      let all : n ≤ length bytes = omega (arith, whole, next_group g n) in
      let inside : j < length first = omega (arith, low, length-map order (slice_index (take n bytes))) in
      let at : zero * n + j ≡ j = grind arith in
      let from : zero * n + get_or order j 0 ≡ get_or order j 0 = grind arith in
      ap (slice_index (groups_in order 1 (suc g) bytes)) at
      ∙ ap (λ l. slice_index l j) (stepped g bytes all)
      ∙ get_or_append_left first (groups_in order 1 g (drop n bytes)) 0 j inside
      ∙ get_or-map (slice_index (take n bytes)) order j 0 0 low
      ∙ get_or-take n bytes (get_or order j 0) 0 (named j low)
      ∙ ap (slice_index bytes) (sym from)
  placed (suc g) bytes whole (suc k) j few low =
      let first = map (slice_index (take n bytes)) order in
      let rest = groups_in order 1 g (drop n bytes) in
      let all : n ≤ length bytes = omega (arith, whole, next_group g n) in
      let long : length first ≡ n = length-map order (slice_index (take n bytes)) in
      let after : n ≤ suc k * n + j = omega (arith, next_group k n) in
      let back : suc k * n + j - n ≡ k * n + j = omega (arith, next_group k n) in
      let on : n + (k * n + get_or order j 0) ≡ suc k * n + get_or order j 0 = omega (arith, next_group k n) in
      ap (λ l. slice_index l (suc k * n + j)) (stepped g bytes all)
      ∙ get_or-append_right first rest n (suc k * n + j) 0 long after
      ∙ ap (slice_index rest) back
      ∙ placed g (drop n bytes) (fewer g bytes whole) k j (omega (arith, few)) low
      ∙ get_or-drop n bytes (k * n + get_or order j 0) 0
      ∙ ap (slice_index bytes) on

  module _ (some : 1 ≤ length order) (g : ℕ) (bytes : List ℕ) (whole : length bytes ≡ g * n) where
    abbrev moved : List ℕ
    moved = groups_in order 1 g bytes

    frames : length bytes / n ≡ g
    frames = ap (λ m. m / n) (whole ∙ sym (add-zero (g * n))) ∙ div-mul-add g n 0 some

    -- a channel
    channel_moved : (j : ℕ) → j < n → unlaced moved n j ≡ unlaced bytes n (get_or order j 0)
    channel_moved j low =
        let c = get_or order j 0 in
        ap (λ m. map (laced_bit moved n j) (range_with_len 0 (8 * (m / n)))) (kept_length g bytes)
        ∙ map_range_same (8 * (length bytes / n)) (laced_bit moved n j) (laced_bit bytes n c) (λ i below.
        let few : i / 8 < g = omega (arith, below, frames) in
        ap (λ b. eqb (bit_at b (7 - i % 8)) 1) (placed g bytes whole (i / 8) j few low))

    all_moved : unlaced_all moved n ≡ channels_in order (unlaced_all bytes n)
    all_moved =
        let own = unlaced bytes n in
        let pick : ℕ → List Bool = λ c. get_or (unlaced_all bytes n) c [] in
        let size = length-map-range_with_len (unlaced moved n) 0 n ∙ sym (length-map order pick) in
        ext_get_or [] (unlaced_all moved n) (map pick order) size (λ j h.
        let low : j < n = omega (arith, h, length-map-range_with_len (unlaced moved n) 0 n) in
        let c = get_or order j 0 in
        get_or-map-range_with_len (unlaced moved n) 0 n j j [] low (omega arith)
        ∙ channel_moved j low
        ∙ sym (get_or-map-range_with_len own 0 n c c [] (named j low) (omega arith))
        ∙ sym (get_or-map pick order j 0 [] low))

pub reordered_hold : ReorderedHoldChannels
reordered_hold order groups bytes channels some whole = all_moved order channels some groups bytes whole

-- ---- channels that stay where they are
stays : (order : List ℕ) (place : ℕ) → is_moved order place ≡ false → order ≡ range_with_len place (length order)
stays [] place is = refl
stays (c ∷ cs) place is = by (stays cs (place + 1)) (nat_eq c place) refl is
  where
    by : (is_moved cs (place + 1) ≡ false → cs ≡ range_with_len (place + 1) (length cs)) → (same : Bool) → nat_eq c place ≡ same → (if same then is_moved cs (place + 1) else true) ≡ false → c ∷ cs ≡ range_with_len place (length (c ∷ cs))
    by later true same rest = ap (λ m. m ∷ cs) (eqb-true c place same) ∙ ap (λ l. place ∷ l) (later rest)
    by later false same rest = absurd cc

same_channels : (channels : List (List Bool)) → channels_in (range_with_len 0 (length channels)) channels ≡ channels
same_channels channels =
    let pick : ℕ → List Bool = λ c. get_or channels c [] in
    let size = length-map-range_with_len pick 0 (length channels) in
    ext_get_or [] (map pick (range_with_len 0 (length channels))) channels size (λ j h.
    let low : j < length channels = omega (arith, h, size) in
    get_or-map-range_with_len pick 0 (length channels) j j [] low (omega arith))

-- whether they are moved or not, sound bytes hold the channels in the order
pub moved_hold : (order : List ℕ) (frames : ℕ) (bytes : List ℕ) → NamesChannels order → 1 ≤ length order → length bytes ≡ frames * length order
    → unlaced_all (groups_in order 1 (moved_groups order frames) bytes) (length order) ≡ channels_in order (unlaced_all bytes (length order))
moved_hold order frames bytes channels some whole = by (is_moved order 0) refl
  where
    by : (moved : Bool) → is_moved order 0 ≡ moved → unlaced_all (groups_in order 1 (moved_groups order frames) bytes) (length order) ≡ channels_in order (unlaced_all bytes (length order))
    by true moved = ap (λ b. unlaced_all (groups_in order 1 (if b then frames else 0) bytes) (length order)) moved ∙ reordered_hold order frames bytes channels some whole
    by false moved =
        let all = unlaced_all bytes (length order) in
        let number = length-map-range_with_len (unlaced bytes (length order)) 0 (length order) in
        ap (λ b. unlaced_all (groups_in order 1 (if b then frames else 0) bytes) (length order)) moved
        ∙ sym (same_channels all)
        ∙ ap (λ m. channels_in (range_with_len 0 m) all) number
        ∙ ap (λ o. channels_in o all) (sym (stays order 0 moved))

-- ---- sound bytes that others follow
-- whole groups, and what follows them
pub placed_after : (order : List ℕ) (size g : ℕ) (sound rest : List ℕ) → (g ≡ 0) ⊎ (length sound ≡ g * (length order * size)) → groups_in order size g (sound ++ rest) ≡ groups_in order size g sound ++ rest
placed_after order size g sound rest (inl none) = ap (λ m. groups_in order size m (sound ++ rest)) none ∙ ap (λ m. groups_in order size m sound ++ rest) (sym none)
placed_after order size g sound rest (inr whole) =
    let all : g + 0 ≡ g = omega arith in
    ap (λ m. groups_in order size m (sound ++ rest)) (sym all) ∙ groups_join order size g 0 sound rest whole

-- bytes that were reordered to a sound and others begin with the sound before
pub placed_before : (order : List ℕ) (g : ℕ) (bytes sound rest : List ℕ) → (g ≡ 0) ⊎ (NamesChannels order × (length sound ≡ g * (length order * 1))) → groups_in order 1 g bytes ≡ sound ++ rest
    → (before : List ℕ) × (bytes ≡ before ++ rest) × (groups_in order 1 g before ≡ sound) × (length before ≡ length sound)
placed_before order g bytes sound rest (inl none) is =
    (sound, ap (λ m. groups_in order 1 m bytes) (sym none) ∙ is, ap (λ m. groups_in order 1 m sound) none, refl)
placed_before order g bytes sound rest (inr (channels, whole)) is =
    let long = length sound in
    let before = take long bytes in
    let after = drop long bytes in
    let all : length bytes ≡ long + length rest = sym (kept_length order channels g bytes) ∙ ap length is ∙ length-append sound rest in
    let size : length before ≡ long = length-take-le long bytes (omega (arith, all)) in
    let moved = groups_in order 1 g before in
    let moved_size : length moved ≡ long = kept_length order channels g before ∙ size in
    let parts : moved ++ after ≡ sound ++ rest = sym (placed_after order 1 g before after (inr (size ∙ whole))) ∙ ap (groups_in order 1 g) (take-append-drop long bytes) ∙ is in
    let front : moved ≡ sound =
    sym (take-append_seam moved after) ∙ ap (λ m. take m (moved ++ after)) moved_size ∙ ap (take long) parts ∙ take-append_seam sound rest in
    let back : after ≡ rest =
    sym (drop-append_seam moved after) ∙ ap (λ m. drop m (moved ++ after)) moved_size ∙ ap (drop long) parts ∙ drop-append_seam sound rest in
    (before, sym (take-append-drop long bytes) ∙ ap (λ l. before ++ l) back, front, size)
