-- What is played of a recording doesn't depend on what lies far before or after it.
use Rattle.std.proofs.Common.{◌≡◌, ℕ, ◌+◌, ◌-◌, ◌*◌, ◌/◌, ◌<◌, ◌≤◌, ◌⊎◌, ℤ, pos, ◌-ℤ◌, ◌*ℤ◌, Bool, false, List, [], ◌++◌, length, get_or, take, drop, slice_range, inl, inr, refl, sym, subst, ap, ap₂, ◌∙◌, arith, append_assoc, length-append, length-take, length-drop}
use Rattle.std.specs.List.{flat_map, range_with_len}
use Rattle.std.specs.Int.{div_ceil}
use Rattle.std.proofs.Math.Nat.{add-mul, mul-le-mul_right}
use Rattle.std.proofs.lemmas.Bool.{cases_lt}
use Rattle.std.proofs.lemmas.Grind.{div_ceil_times}
use Rattle.std.proofs.lemmas.List.{drop-append-le, get_or-map, get_or_append_left, length-map, take-append-drop, take_all}
use Rattle.std.proofs.lemmas.Simd.{map-map}
use Rattle.std.proofs.lemmas.List.FromFn.{length-map-range_with_len, get_or-map-range_with_len}
use Rattle.dsd_bits.specs.Channels.{IsLevel, count_of}
use Rattle.dsd_bits.specs.Contents.{Content}
use Rattle.dsd_bits.specs.Sums.{sign}
use Rattle.dsd_bits.proofs.LacingLemmas.{map_range_same}
use Rattle.fir_core.specs.Convolution.{conv, signal}
use Rattle.fir_core.specs.Decimator.{Decimator, sample_at}
use Rattle.fir_core.specs.Rounding.{round_clip}
use Rattle.fir_core.proofs.RestLaws.{rest_is_played}
use Rattle.fir_core.proofs.SumOrder.{sum_below_same}
use Rattle.fir_core.proofs.Sums.{signal_before, signal_inside, term}
use Rattle.fir_core.proofs.TileLaws.{below_ceil}
use Rattle.wave_core.specs.Contents.{Pcm}
use Rattle.player_core.specs.Between.{between_pcm, frame_after, joined}
use Rattle.player_core.specs.Frames.{frame, frame_count, frames}
use Rattle.player_core.specs.Reaches.{HeadIsEnough, TailIsEnough, TracksMeet, first_bits, from_frame}
use Rattle.player_core.proofs.FrameLaws.{moved}
use Rattle.player_core.proofs.SliceLaws.{slice_flat, slice_of_range, slices_meet}

-- ---- rows of frames
-- the same lists in two places
same_rows : {X : Type 0} (f g : ℕ → List X) (a b n : ℕ) → ((i : ℕ) → i < n → f (a + i) ≡ g (b + i)) → flat_map f (range_with_len a n) ≡ flat_map g (range_with_len b n)
same_rows f g a b n same = sym (moved (λ i. f (a + i)) f a n (λ i h. refl)) ∙ moved (λ i. f (a + i)) g b n same

-- some of the frames of channels
frames_from : (d : Decimator) (channels : List (List Bool)) (a b : ℕ) → a ≤ b → b ≤ frame_count d channels
    → slice_range (frames d channels) (a * length channels) (b * length channels) ≡ flat_map (frame d channels) (range_with_len a (b - a))
frames_from d channels a b ordered within =
    slice_flat (frame d channels) (length channels) (λ j. length-map channels (λ bits. sample_at d bits j)) (range_with_len 0 (frame_count d channels)) a b ordered
    ∙ ap (flat_map (frame d channels)) (slice_of_range (frame_count d channels) a b within)

-- ---- numbers of frames
ceil_more : (a b f : ℕ) → 1 ≤ f → a ≤ b → div_ceil a f ≤ div_ceil b f
ceil_more a b f some ordered = elim (cases_lt (div_ceil b f) (div_ceil a f)) [
  | inl turned ↦ (let below : div_ceil b f * f < a = below_ceil (div_ceil b f) a f (omega (arith, some)) turned in absurd (omega (arith, below, ordered, (div_ceil_times b f (omega (arith, some))).0)))
  | inr is ↦ is
]

ceil_less : (n m f : ℕ) → 1 ≤ f → m * f ≤ n → div_ceil (n - m * f) f + m ≡ div_ceil n f
ceil_less n m f some few =
    let low = div_ceil_times (n - m * f) f (omega (arith, some)) in
    let all = div_ceil_times n f (omega (arith, some)) in
    let a = div_ceil (n - m * f) f in
    let b = div_ceil n f in
    let sum : (a + m) * f ≡ a * f + m * f = add-mul a m f in
    elim (cases_lt (a + m) b) [
      | inl less ↦ (let most : (a + m + 1) * f ≤ b * f = mul-le-mul_right f (omega (arith, less)) in let more : (a + m + 1) * f ≡ (a + m) * f + f = grind arith in absurd (omega (arith, most, more, sum, low, all, few)))
      | inr enough ↦ elim (cases_lt b (a + m)) [
        | inl above ↦ (let most : (b + 1) * f ≤ (a + m) * f = mul-le-mul_right f (omega (arith, above)) in let more : (b + 1) * f ≡ b * f + f = grind arith in absurd (omega (arith, most, more, sum, low, all, few)))
        | inr few_too ↦ omega (arith, enough, few_too)
      ]
    ]

-- ---- the channels
module _ (before own after : List (List Bool)) where
  abbrev n : ℕ
  n = length own

  abbrev channel : ℕ → List Bool
  channel c = get_or before c [] ++ (get_or own c [] ++ get_or after c [])

  joined_long : length (joined before own after) ≡ n
  joined_long = length-map-range_with_len channel 0 n

  joined_count : 1 ≤ n → count_of (joined before own after) ≡ count_of before + (count_of own + count_of after)
  joined_count some =
      ap length (get_or-map-range_with_len channel 0 n 0 0 [] (omega (arith, some)) refl)
      ∙ length-append (get_or before 0 []) (get_or own 0 [] ++ get_or after 0 []) ∙ ap (λ k. count_of before + k) (length-append (get_or own 0 []) (get_or after 0 []))

-- a channel of level ones is as long as the first
level_long : (channels : List (List Bool)) → IsLevel channels → (c : ℕ) → c < length channels → length (get_or channels c []) ≡ count_of channels
level_long channels level c less = level.same c [] less

-- ---- the samples of joined channels that differ only far away
-- frames are the same where each channel's sample is
same_frame : (d : Decimator) (before own after before' after' : List (List Bool)) (i j : ℕ)
    → ((c : ℕ) → c < length own → sample_at d (get_or before c [] ++ (get_or own c [] ++ get_or after c [])) i ≡ sample_at d (get_or before' c [] ++ (get_or own c [] ++ get_or after' c [])) j)
    → frame d (joined before own after) i ≡ frame d (joined before' own after') j
same_frame d before own after before' after' i j same =
    map-map (λ bits. sample_at d bits i) (λ c. get_or before c [] ++ (get_or own c [] ++ get_or after c [])) (range_with_len 0 (length own))
    ∙ map_range_same (length own) (λ c. sample_at d (get_or before c [] ++ (get_or own c [] ++ get_or after c [])) i) (λ c. sample_at d (get_or before' c [] ++ (get_or own c [] ++ get_or after' c [])) j) same
    ∙ sym (map-map (λ bits. sample_at d bits j) (λ c. get_or before' c [] ++ (get_or own c [] ++ get_or after' c [])) (range_with_len 0 (length own)))

-- the samples of a part between others, frame by frame
between_samples : (r : Content) (d : Decimator) (before after : List (List Bool)) → 1 ≤ d.factor → 1 ≤ length r.channels
    → between_pcm r d before after ≡ (let p : Pcm = record {
      channels = length (joined before r.channels after);
      rate = r.rate / d.factor;
      width = d.width;
      samples = flat_map (frame d (joined before r.channels after)) (range_with_len (frame_after d (count_of before)) (frame_after d (count_of before + count_of r.channels) - frame_after d (count_of before)));
    } in p)
between_samples r d before after some channels =
    let all = joined before r.channels after in
    let p = count_of before in
    let c = count_of r.channels in
    let ordered = ceil_more p (p + c) d.factor some (omega arith) in
    let within : frame_after d (p + c) ≤ frame_count d all = ceil_more (p + c) (count_of all) d.factor some (omega (arith, joined_count before r.channels after channels)) in
    ap (λ (zs : List ℤ). (let q : Pcm = record { channels = length all; rate = r.rate / d.factor; width = d.width; samples = zs } in q))
    (frames_from d all (frame_after d p) (frame_after d (p + c)) ordered within)

-- ---- before
pub tail_is_enough : TailIsEnough
tail_is_enough d r before after m some channels level number own_level few far =
    let cut = from_frame d m before in
    let own = r.channels in
    let f = d.factor in
    let p = count_of before in
    let c = count_of own in
    let shorter : count_of cut ≡ p - m * f = ap length (get_or-map (drop (m * f)) before 0 [] [] (omega (arith, number, channels))) ∙ length-drop (m * f) (get_or before 0 []) in
    let start : frame_after d (count_of cut) + m ≡ frame_after d p = ap (λ k. div_ceil k f + m) shorter ∙ ceil_less p m f some few in
    let sum : count_of cut + c ≡ p + c - m * f = omega (arith, shorter, few) in
    let stop : frame_after d (count_of cut + c) + m ≡ frame_after d (p + c) = ap (λ k. div_ceil k f + m) sum ∙ ceil_less (p + c) m f some (omega (arith, few)) in
    let a = frame_after d (count_of cut) in
    let b = frame_after d p in
    let rows = frame_after d (count_of cut + c) - a in
    let rows_are : rows ≡ frame_after d (p + c) - b = omega (arith, start, stop) in
    let same : (i : ℕ) → i < rows → frame d (joined cut own after) (a + i) ≡ frame d (joined before own after) (b + i) = λ i h.
    same_frame d cut own after before after (a + i) (b + i) (λ k less.
    let xs = get_or before k [] in
    let rest = get_or own k [] ++ get_or after k [] in
    let long : m * f ≤ length xs = omega (arith, level_long before level k (omega (arith, less, number)), few) in
    let front : get_or cut k [] ++ rest ≡ drop (m * f) (xs ++ rest) = ap (λ ys. ys ++ rest) (get_or-map (drop (m * f)) before k [] [] (omega (arith, less, number))) ∙ sym (drop-append-le (m * f) xs rest long) in
    let place : m + (a + i) ≡ b + i = omega (arith, start) in
    let reads : (m ≡ 0) ⊎ (length d.taps ≤ (a + i) * f + d.delay + 1) = elim far [
      | inl none ↦ inl none
      | inr enough ↦ (
          let same_start : frame_after d p - m ≡ a = omega (arith, start) in
          let later : a * f ≤ (a + i) * f = mul-le-mul_right f (omega arith) in
          let here : length d.taps ≤ a * f + d.delay + 1 = subst (λ k. length d.taps ≤ k * f + d.delay + 1) same_start enough in
          inr (omega (arith, here, later)))
    ] in
    ap (λ bits. sample_at d bits (a + i)) front ∙ rest_is_played d (xs ++ rest) m (a + i) reads ∙ ap (sample_at d (xs ++ rest)) place) in
    between_samples r d cut after some channels
    ∙ ap₂ (λ k (zs : List ℤ). (let q : Pcm = record { channels = k; rate = r.rate / d.factor; width = d.width; samples = zs } in q))
    (joined_long cut own after ∙ sym (joined_long before own after))
    (same_rows (frame d (joined cut own after)) (frame d (joined before own after)) a b rows same ∙ ap (λ k. flat_map (frame d (joined before own after)) (range_with_len b k)) rows_are)
    ∙ sym (between_samples r d before after some channels)

-- ---- after
-- the convolution reads no bit after its place
module _ (h : List ℤ) (xs ys : List Bool) (count n : ℕ) (inside : n < length xs + count) where
  taken_signal : (k : ℕ) → count < length ys → signal (xs ++ take count ys) (pos n -ℤ pos k) ≡ signal (xs ++ ys) (pos n -ℤ pos k)
  taken_signal k less = elim (cases_lt n k) [
    | inl before ↦ signal_before (xs ++ take count ys) n k before ∙ sym (signal_before (xs ++ ys) n k before)
    | inr within ↦
        let short : length (xs ++ take count ys) ≡ length xs + count = omega (arith, length-append xs (take count ys), length-take count ys, less) in
        let on : xs ++ ys ≡ (xs ++ take count ys) ++ drop count ys = ap (λ zs. xs ++ zs) (sym (take-append-drop count ys)) ∙ sym (append_assoc xs (take count ys) (drop count ys)) in
        signal_inside (xs ++ take count ys) n k within (omega (arith, short, inside))
        ∙ ap sign (sym (get_or_append_left (xs ++ take count ys) (drop count ys) false (n - k) (omega (arith, short, inside))) ∙ ap (λ zs. get_or zs (n - k) false) (sym on))
        ∙ sym (signal_inside (xs ++ ys) n k within (omega (arith, length-append xs ys, inside, less)))
  ]

  conv_of_taken : conv h (xs ++ take count ys) n ≡ conv h (xs ++ ys) n
  conv_of_taken = elim (cases_lt count (length ys)) [
    | inl less ↦ sum_below_same (length h) (term h (xs ++ take count ys) n) (term h (xs ++ ys) n) (λ k l. ap (λ z. get_or h k (pos 0) *ℤ z) (taken_signal k less))
    | inr all ↦ ap (λ zs. conv h (xs ++ zs) n) (take_all count ys all)
  ]

pub head_is_enough : HeadIsEnough
head_is_enough d r before after count some channels level number own_level after_number enough =
    let cut = first_bits count after in
    let own = r.channels in
    let p = count_of before in
    let c = count_of own in
    let a = frame_after d p in
    let rows = frame_after d (p + c) - a in
    let same : (i : ℕ) → i < rows → frame d (joined before own cut) (a + i) ≡ frame d (joined before own after) (a + i) = λ i h.
    same_frame d before own cut before after (a + i) (a + i) (λ k less.
    let xs = get_or before k [] ++ get_or own k [] in
    let ys = get_or after k [] in
    let long : length xs ≡ p + c = length-append (get_or before k []) (get_or own k []) ∙ ap₂ (λ x y. x + y) (level_long before level k (omega (arith, less, number))) (level_long own own_level k less) in
    let place : (a + i) * d.factor < p + c = below_ceil (a + i) (p + c) d.factor (omega (arith, some)) (omega (arith, h)) in
    ap (λ zs. sample_at d (get_or before k [] ++ (get_or own k [] ++ zs)) (a + i)) (get_or-map (take count) after k [] [] (omega (arith, less, after_number)))
    ∙ ap (λ bits. sample_at d bits (a + i)) (sym (append_assoc (get_or before k []) (get_or own k []) (take count ys)))
    ∙ ap (λ z. round_clip z d.shift d.width) (conv_of_taken d.taps xs ys count ((a + i) * d.factor + d.delay) (omega (arith, long, place, enough)))
    ∙ ap (λ bits. sample_at d bits (a + i)) (append_assoc (get_or before k []) (get_or own k []) ys)) in
    between_samples r d before cut some channels
    ∙ ap₂ (λ k (zs : List ℤ). (let q : Pcm = record { channels = k; rate = r.rate / d.factor; width = d.width; samples = zs } in q))
    (joined_long before own cut ∙ sym (joined_long before own after))
    (same_rows (frame d (joined before own cut)) (frame d (joined before own after)) a a rows same)
    ∙ sym (between_samples r d before after some channels)

-- ---- tracks that follow each other
-- frames of joined channels, by the frames of all
slice_is : (d : Decimator) (channels all : List (List Bool)) (a b : ℕ) → channels ≡ all
    → slice_range (frames d channels) (a * length channels) (b * length channels) ≡ slice_range (frames d all) (a * length all) (b * length all)
slice_is d channels all a b is = ap (λ (cs : List (List Bool)). slice_range (frames d cs) (a * length cs) (b * length cs)) is

pub tracks_meet : TracksMeet
tracks_meet d r next before after before_next after_next all some are =
    let p = count_of before in
    let c = count_of r.channels in
    let q = count_of next.channels in
    let a = frame_after d p in
    let b = frame_after d (p + c) in
    let e = frame_after d (count_of before_next + q) in
    let n = length all in
    let same : frame_after d (count_of before_next) ≡ b = ap (frame_after d) are.meets in
    let first : a ≤ b = ceil_more p (p + c) d.factor some (omega arith) in
    let second : b ≤ e = ceil_more (p + c) (count_of before_next + q) d.factor some (omega (arith, are.meets)) in
    ap₂ (λ (xs ys : List ℤ). xs ++ ys) (slice_is d (joined before r.channels after) all a b are.own)
    (slice_is d (joined before_next next.channels after_next) all (frame_after d (count_of before_next)) e are.own_next ∙ ap (λ k. slice_range (frames d all) (k * n) (e * n)) same)
    ∙ slices_meet (frames d all) (a * n) (b * n) (e * n) (mul-le-mul_right n first) (mul-le-mul_right n second)
