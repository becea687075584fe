-- Frames by a filter of a recording whose end isn't known.
use Rattle.std.proofs.Common.{◌≡◌, inl, inr, ℕ, ◌+◌, ◌-◌, ◌*◌, ◌/◌, ◌%◌, ◌^◌, ◌<◌, ◌≤◌, zero, suc, Bool, if◌then◌else◌, nat_eq, min, List, [], ◌++◌, length, map, take, drop, slice_range, sym, refl, subst, ap, ap₂, ◌∙◌, arith, length-append, length-drop, zero-mul, mul-one}
use Rattle.std.specs.Int.{div_ceil}
use Rattle.std.specs.List.{flat_map, range_with_len}
use lib.Dec.{eqb-suc-zero}
use Rattle.std.proofs.Math.Nat.{div-one, mod-eq_of_lt, mul-le-mul_right, zero-div}
use Rattle.std.proofs.Math.Seq.{drop-nil}
use Rattle.std.proofs.lemmas.Bool.{cases_lt}
use Rattle.std.proofs.lemmas.List.{take-append-le, take_all}
use Rattle.dsd_bits.specs.declared.interleaving.Interleaving.TheVariants.{Bytes}
use Rattle.dsd_bits.specs.declared.sound.Sound.{Sound}
use Rattle.dsd_bits.specs.Limits.{IsRate}
use Rattle.dsd_bits.specs.Packing.{unpacked}
use Rattle.dsd_bits.specs.Sounds.{IsSound}
use Rattle.fir_core.specs.Decimator.{Decimator, IsWithinLimits}
use Rattle.fir_core.specs.Rests.{first_whole}
use Rattle.fir_core.specs.Streams.{bits_held}
use Rattle.fir_core.proofs.TileLaws.{below_ceil}
use Rattle.wave_core.specs.Sizes.{block_align}
use Rattle.wave_core.specs.Texts.{sample_bytes}
use Rattle.player_core.specs.Due.{all_bytes, bytes_known, due_bytes, frames_due}
use Rattle.player_core.specs.Frames.{frames_below}
use Rattle.player_core.specs.Groups.{channel_part}
use Rattle.player_core.specs.Laws.{total_frames}
use Rattle.player_core.specs.Parts.{frames_apart, frames_before, groups_apart, groups_before, part_bytes, rest_of}
use Rattle.player_core.specs.PartView.{IsPartFed, IsPartOf, IsPartPlayer, IsSamePart, part_all, part_due, part_fed, part_filter, part_rest, part_start}
use Rattle.player_core.specs.PausedView.{IsPausedPart, IsSamePlace}
use Rattle.player_core.specs.declared.parts.PartPlayer.{PartPlayer}
use Rattle.player_core.specs.declared.pausing.PausedPart.{PausedPart}
use Rattle.player_core.proofs.FinishLaws.{rest_of_all}
use Rattle.player_core.proofs.PartLaws.{less_times, parts_meet, total_few, whole_is_part}
use Rattle.player_core.proofs.PieceLaws.{all_same, due_same}
use Rattle.player_core.proofs.PieceLaws.{plays_on as part_on}
use Rattle.player_core.proofs.PlaceLaws.{length-due}
use Rattle.player_core.proofs.PrefixLaws.{prefix_of_all}
use Rattle.player_core.proofs.SinkLaws.{due_at_first}
use Rattle.joined_core.specs.Frames.{HasGivenFrames, HasPlayedOn, IsFrameGiver, joined_frames, joined_sound, longest}
use Rattle.joined_core.specs.declared.frames.FrameGiver.{FrameGiver}
use Rattle.joined_core.proofs.BitLaws.{times_div}
use Rattle.joined_core.proofs.FrameNumbers.{ceil_more, div_less, div_more, few_each, kept_on, number_on}

abbrev Bytes' : Type 0
Bytes' = List ℕ

-- ---- the player that goes on is the one that paused
pub record Resumed (d : Decimator) (q : PausedPart) (r : PartPlayer) : Type 0 where
  pub filter : part_filter r ≡ d
  pub same : (p : PartPlayer) → IsPausedPart p q → IsSamePlace p r
  pub ready : (p : PartPlayer) → IsPausedPart p q → part_filter p ≡ d → IsPartPlayer p → IsPartPlayer r
  pub fed : (p : PartPlayer) (bytes : Bytes') → IsPausedPart p q → part_filter p ≡ d → IsPartFed p bytes → IsPartFed r bytes

module _ (d : Decimator) (s : Sound) (before given : Bytes') (p : PartPlayer) (q : PausedPart) (r : PartPlayer) (is : Resumed d q r) (h : HasPlayedOn d s before given p q) where
  pub ready_on : IsPartPlayer r
  ready_on = is.ready p h.paused h.part.filter_is h.ready

  pub fed_on : IsPartFed r before
  fed_on = is.fed p before h.paused h.part.filter_is h.fed

  same_on : IsSamePart p r
  same_on = let e = is.same p h.paused in record { filter = is.filter ∙ sym h.part.filter_is; rest = e.rest; start = e.start; skip = e.skip; stop = e.stop }

  pub few_on : (n : ℕ) → length before + n ≤ (part_rest p).size → part_fed r + n ≤ (part_rest r).size
  few_on n few = omega (arith, few, fed_on.fed.fed, ap (λ (t : Sound). t.size) same_on.rest)

  module _ (new : PartPlayer) (same : IsSamePart r new) (bytes more : Bytes') (gives : (before : Bytes') → IsPartFed r before → IsPartFed new (before ++ bytes) × (part_due r (before ++ bytes) ≡ part_due r before ++ more)) where
    all_on : IsSamePart p new
    all_on = record { filter = same.filter ∙ same_on.filter; rest = same.rest ∙ same_on.rest; start = same.start ∙ same_on.start; skip = same.skip ∙ same_on.skip; stop = same.stop ∙ same_on.stop }

    due_on : part_due new (before ++ bytes) ≡ given ++ more
    due_on = due_same r new same (before ++ bytes) ∙ (gives before fed_on).1 ∙ ap (λ xs. xs ++ more) (due_same p r same_on before ∙ h.due)

    pub plays_on : (t : PausedPart) → IsPausedPart new t → IsPartPlayer new → HasPlayedOn d s (before ++ bytes) (given ++ more) new t
    plays_on t paused ready = record { paused = paused; part = part_on d s 0 (total_frames d s) p new all_on h.part; ready = ready; fed = (gives before fed_on).0; due = due_on }

-- ---- the first frame is played from the first byte on
pub no_groups : (d : Decimator) → groups_before d Bytes 0 ≡ 0
no_groups d =
    let none : 0 - first_whole d ≡ 0 = omega arith in
    ap (λ n. n / frames_apart d Bytes * groups_apart d Bytes) none ∙ ap (λ n. n * groups_apart d Bytes) (zero-div (frames_apart d Bytes)) ∙ zero-mul (groups_apart d Bytes)

no_frames : (d : Decimator) → frames_before d Bytes 0 ≡ 0
no_frames d =
    let none : 0 - first_whole d ≡ 0 = omega arith in
    ap (λ n. n / frames_apart d Bytes * frames_apart d Bytes) none ∙ ap (λ n. n * frames_apart d Bytes) (zero-div (frames_apart d Bytes)) ∙ zero-mul (frames_apart d Bytes)

rest_same : (rate n bytes : ℕ) → rest_of (joined_sound rate n bytes) 0 ≡ joined_sound rate n bytes
rest_same rate n bytes =
    let count : bytes * 8 - 8 * (0 * 1) ≡ bytes * 8 = omega arith in
    let size : bytes * n - 0 * (n * 1) ≡ bytes * n = omega (arith, zero-mul (n * 1)) in
    ap₂ (λ (c z : ℕ). (let t : Sound = record { rate = rate; channels = n; count = c; start = 0; size = z; interleaving = Bytes } in t)) count size

-- ---- what is due of recordings that begin so doesn't depend on where they end
module _ (d : Decimator) (rate n : ℕ) (bytes : Bytes') where
  made : ℕ → ℕ → Bytes'
  made known held = flat_map (sample_bytes d.width) (frames_below d (map (λ c. unpacked (channel_part Bytes n bytes c 0 known) held) (range_with_len 0 n)) (div_ceil (held - d.delay) d.factor))

  known_is : (all : ℕ) → length bytes / n ≤ all → bytes_known (joined_sound rate n all) (length bytes) ≡ length bytes / n
  known_is all few =
      let one : length bytes / (n * 1) * 1 ≡ length bytes / n = mul-one (length bytes / (n * 1)) ∙ ap (λ k. length bytes / k) (mul-one n) in
      omega (arith, few, one)

  held_is : (all known : ℕ) → known ≡ length bytes / n → length bytes / n ≤ all → bits_held (all * 8) known ≡ length bytes / n * 8
  held_is all known is few = omega (arith, is, few)

  due_is : (all : ℕ) → length bytes / n ≤ all → due_bytes d (joined_sound rate n all) bytes ≡ made (length bytes / n) (length bytes / n * 8)
  unfolding made
  due_is all few =
      let known = known_is all few in
      ap₂ made known (held_is all (bytes_known (joined_sound rate n all) (length bytes)) known few)

  pub same_due : (a b : ℕ) → length bytes / n ≤ a → length bytes / n ≤ b → due_bytes d (joined_sound rate n a) bytes ≡ due_bytes d (joined_sound rate n b) bytes
  same_due a b few_a few_b = due_is a few_a ∙ sym (due_is b few_b)

  pub number_is : (all : ℕ) → length bytes / n ≤ all → frames_due d (joined_sound rate n all) (length bytes) ≡ div_ceil (length bytes / n * 8 - d.delay) d.factor
  number_is all few =
      let known = known_is all few in
      ap (λ k. div_ceil (k - d.delay) d.factor) (held_is all (bytes_known (joined_sound rate n all) (length bytes)) known few)

-- a recording of whole bytes is a sound
pub is_sound : (rate n bytes : ℕ) → IsRate rate → 1 ≤ n → n ≤ 6 → bytes ≤ 2 ^ 33 → IsSound (joined_sound rate n bytes)
is_sound rate n bytes is some six few = record {
  rate_low = is.0;
  rate_high = is.1;
  some_channel = some;
  six_channels = six;
  in_limit = omega (arith, few);
  size = (let e : bytes ≡ bytes * 8 / 8 = omega arith in ap (λ k. k * n) e);
}

-- a frame has bytes
pub some_align : (d : Decimator) → IsWithinLimits d → (n : ℕ) → 1 ≤ n → 1 ≤ block_align n d.width
some_align d limits n some =
    let w = d.width / 8 in
    let two : 2 ≤ w = elim limits.known_width [
      | inl sixteen ↦ omega (arith, sixteen)
      | inr more ↦ omega (arith, more)
    ] in
    let product : 1 * w ≤ n * w = mul-le-mul_right w some in
    omega (arith, product, two)

-- ---- the first byte that a frame reads
module _ (d : Decimator) (limits : IsWithinLimits d) where
  each_group : groups_apart d Bytes ≡ d.factor / 8
  each_group = by (8 % d.factor) refl
    where
      by : (n : ℕ) → 8 % d.factor ≡ n → groups_apart d Bytes ≡ d.factor / 8
      by zero e =
          let one : groups_apart d Bytes ≡ 1 = ap (λ n. if nat_eq n 0 then 1 else d.factor / 8) e in
          elim (cases_lt 8 d.factor) [
            | inl more ↦ (let rest : 8 % d.factor ≡ 8 = mod-eq_of_lt more in absurd (omega (arith, e, rest)))
            | inr least ↦ (let eight : 1 ≡ d.factor / 8 = omega (arith, least, limits.least_factor) in one ∙ eight)
          ]
      by (suc n) e = ap (λ n. if nat_eq n 0 then 1 else d.factor / 8) e ∙ ap (λ (b : Bool). if b then 1 else d.factor / 8) (eqb-suc-zero n)

  one_frame : frames_apart d Bytes ≡ 1
  one_frame =
      let eights : d.factor / 8 * 8 ≡ 1 * d.factor = omega (arith, limits.whole_bytes) in
      ap (λ g. g * 8 / d.factor) each_group ∙ ap (λ n. n / d.factor) eights ∙ times_div 1 d.factor (omega (arith, limits.least_factor))

  pub read_is : (a : ℕ) → groups_before d Bytes a ≡ (a - first_whole d) * (d.factor / 8)
  read_is a = ap₂ (λ k g. (a - first_whole d) / k * g) one_frame each_group ∙ ap (λ m. m * (d.factor / 8)) (div-one (a - first_whole d))

  pub read_small : (a : ℕ) → a ≤ 2 ^ 36 → groups_before d Bytes a ≤ 2 ^ 43
  read_small a few =
      let product : (a - first_whole d) * (d.factor / 8) ≤ 2 ^ 36 * (d.factor / 8) = mul-le-mul_right (d.factor / 8) (omega (arith, few)) in
      omega (arith, read_is a, product, limits.greatest_factor)

  -- a later frame reads from a later byte on
  pub first_more : (a b : ℕ) → a ≤ b → groups_before d Bytes a ≤ groups_before d Bytes b
  first_more a b ordered =
      let product : (a - first_whole d) * (d.factor / 8) ≤ (b - first_whole d) * (d.factor / 8) = mul-le-mul_right (d.factor / 8) (omega (arith, ordered)) in
      omega (arith, read_is a, read_is b, product)

  -- so far into the bytes of n channels
  pub read_times : (x a n : ℕ) → x ≡ groups_before d Bytes a → a ≤ 2 ^ 36 → n ≤ 6 → x * n ≤ 2 ^ 46
  read_times x a n is few six =
      let product : x * n ≤ 2 ^ 43 * n = mul-le-mul_right n (omega (arith, is, read_small a few)) in
      omega (arith, product, six)

-- ---- what is given of the longest recording is what is due
module _ (d : Decimator) (limits : IsWithinLimits d) (rate n : ℕ) (some : 1 ≤ n) (before given : Bytes') (p : PartPlayer) (q : PausedPart) (h : HasPlayedOn d (longest rate n) before given p q) where
  abbrev align : ℕ
  align = block_align n d.width

  pub number_few : frames_due d (longest rate n) (length before) ≤ total_frames d (longest rate n)
  number_few = ceil_more (bits_held (2 ^ 33 * 8) (bytes_known (longest rate n) (length before)) - d.delay) (2 ^ 33 * 8) d.factor (omega (arith, limits.least_factor)) (omega arith)

  long_due : length (due_bytes d (longest rate n) before) ≡ frames_due d (longest rate n) (length before) * align
  long_due = length-due d (longest rate n) before

  pub rest_size : (part_rest p).size ≡ 2 ^ 33 * n
  rest_size = ap (λ (t : Sound). t.size) (h.part.rest_is ∙ ap (rest_of (longest rate n)) (no_groups d) ∙ rest_same rate n (2 ^ 33))

  pub given_due : given ≡ due_bytes d (longest rate n) before
  given_due =
      let total = total_frames d (longest rate n) in
      let due = due_bytes d (longest rate n) before in
      let rest = h.part.rest_is ∙ ap (rest_of (longest rate n)) (no_groups d) ∙ rest_same rate n (2 ^ 33) in
      let first : p.skip ≡ 0 = h.part.skip_is ∙ ap (λ k. (0 - k) * align) (no_frames d) ∙ zero-mul align in
      let less : total - 0 ≡ total = omega arith in
      let last : p.stop ≡ total * align = h.part.stop_is ∙ ap (λ k. (total - k) * align) (no_frames d) ∙ ap (λ k. k * align) less in
      let enough : frames_due d (longest rate n) (length before) * align ≤ total * align = mul-le-mul_right align number_few in
      let all : total * align - 0 ≡ total * align = omega arith in
      sym h.due
      ∙ ap₂ (λ (f : Decimator) (t : Sound). slice_range (due_bytes f t before) p.skip p.stop) h.part.filter_is rest
      ∙ ap₂ (λ (a b : ℕ). slice_range due a b) first last
      ∙ ap (λ k. take k due) all ∙ take_all (total * align) due (omega (arith, long_due, enough))

-- ---- the end
module _ (d : Decimator) (limits : IsWithinLimits d) (rate n : ℕ) (is_rate : IsRate rate) (some : 1 ≤ n) (six : n ≤ 6) (frames number : ℕ) (few : frames < 2 ^ 33) where
  abbrev sound : Sound
  sound = joined_sound rate n frames

  abbrev total : ℕ
  total = total_frames d sound

  is : IsSound sound
  is = is_sound rate n frames is_rate some six (omega (arith, few))

  whole : sound.interleaving ≡ Bytes → sound.count % 8 ≡ 0
  whole _ = omega arith

  module _ (bytes : Bytes') (long : length bytes ≡ frames * n) (number_is_due : number ≡ frames_due d (longest rate n) (length bytes)) where
    known : length bytes / n ≡ frames
    known = ap (λ k. k / n) long ∙ times_div frames n some

    same : due_bytes d (longest rate n) bytes ≡ due_bytes d sound bytes
    same = same_due d rate n bytes (2 ^ 33) frames (omega (arith, known, few)) (omega (arith, known))

    due_here : number ≡ frames_due d sound (length bytes)
    due_here = number_is_due ∙ number_is d rate n bytes (2 ^ 33) (omega (arith, known, few)) ∙ sym (number_is d rate n bytes frames (omega (arith, known)))

    -- what was due is the part up to the next frame
    pub given_part : due_bytes d (longest rate n) bytes ≡ part_bytes d sound bytes 0 number
    given_part =
        let align = block_align n d.width in
        let rest = rest_of_all sound is whole bytes long d limits.least_factor in
        let due = due_bytes d sound bytes in
        let size : length due ≡ number * align = length-due d sound bytes ∙ ap (λ k. k * align) (sym due_here) in
        let none : 0 * align ≡ 0 = zero-mul align in
        let all : number * align - 0 * align ≡ length due = omega (arith, none, size) in
        same ∙ sym (
        ap₂ (λ (a b : ℕ). take a (drop b (all_bytes d sound bytes))) all none
        ∙ ap (take (length due)) rest.1
        ∙ take-append-le (length due) due rest.0 (omega arith)
        ∙ take_all (length due) due (omega arith)
        )

    pub all_is : (more : Bytes') → number ≤ total → more ≡ part_bytes d sound bytes number total → due_bytes d (longest rate n) bytes ++ more ≡ joined_frames d rate n bytes
    all_is more inside is_more =
        ap₂ (λ (xs ys : Bytes'). xs ++ ys) given_part is_more
        ∙ parts_meet d sound bytes 0 number total (omega arith) inside
        ∙ whole_is_part d sound bytes is whole long
        ∙ ap (λ k. all_bytes d (joined_sound rate n k) bytes) (sym known)

-- what was given comes first
pub frames_first : (d : Decimator) → IsWithinLimits d → (rate n : ℕ) → IsRate rate → 1 ≤ n → n ≤ 6 → (before rest : Bytes') (frames : ℕ) → length (before ++ rest) ≡ frames * n → frames < 2 ^ 33
    → (more : Bytes') × (joined_frames d rate n (before ++ rest) ≡ due_bytes d (longest rate n) before ++ more)
frames_first d limits rate n is_rate some six before rest frames long few =
    let sound = joined_sound rate n frames in
    let known : length (before ++ rest) / n ≡ frames = ap (λ k. k / n) long ∙ times_div frames n some in
    let part : length before / n ≤ frames = omega (arith, known, div_more (length before) (length (before ++ rest)) n some (omega (arith, length-append before rest))) in
    let prefix = prefix_of_all d sound before rest (is_sound rate n frames is_rate some six (omega (arith, few))) (λ _. omega arith) limits.least_factor long in (
      prefix.0,
      ap (λ k. all_bytes d (joined_sound rate n k) (before ++ rest)) known ∙ prefix.1
          ∙ ap (λ xs. xs ++ prefix.0) (same_due d rate n before frames (2 ^ 33) part (omega (arith, part, few))),
    )

-- what a player of the rest gives
pub rest_given : (d : Decimator) (s : Sound) (number stop : ℕ) (p after : PartPlayer) (bytes tail more last : Bytes') → IsPartOf d s number stop p → length bytes ≡ s.size → IsPartFed p [] → tail ≡ drop (part_start p) bytes → IsSamePart p after
    → ((before : Bytes') → IsPartFed p before → IsPartFed after (before ++ tail) × (part_due p (before ++ tail) ≡ part_due p before ++ more))
    → ((before : Bytes') → IsPartFed after before → part_all after before ≡ part_due after before ++ last) → more ++ last ≡ part_bytes d s bytes number stop
rest_given d s number stop p after bytes tail more last part long fed tail_is same feeds finishes =
    let on = feeds [] fed in
    let due : part_due after tail ≡ more = due_same p after same tail ∙ on.1 ∙ ap (λ xs. xs ++ more) (due_at_first p) in
    sym (
    sym (part.gives bytes long)
    ∙ ap (part_all p) (sym tail_is)
    ∙ sym (all_same p after same tail)
    ∙ finishes tail on.0
    ∙ ap (λ xs. xs ++ last) due
    )

-- ---- what gives frames
module _ (g : FrameGiver) (ready : IsFrameGiver g) (before given : Bytes') (h : HasGivenFrames before given g) where
  abbrev filter : Decimator
  filter = g.taps

  abbrev rate' : ℕ
  rate' = g.sound.rate

  abbrev n' : ℕ
  n' = g.sound.channels

  abbrev size' : ℕ
  size' = block_align n' filter.width

  on_longest : HasPlayedOn filter (longest rate' n') before given h.player g.paused
  on_longest = subst (λ (s : Sound). HasPlayedOn filter s before given h.player g.paused) ready.longest_is h.played

  pub number_now : g.number ≡ frames_due filter (longest rate' n') (length before)
  number_now = h.number ∙ ap (λ (s : Sound). frames_due filter s (length before)) ready.longest_is

  pub given_now : given ≡ due_bytes filter (longest rate' n') before
  given_now = given_due filter ready.limits rate' n' ready.some before given h.player g.paused on_longest

  -- the longest recording has room for more
  pub room_now : (more : ℕ) → g.fed + more < 2 ^ 33 * n' → length before + more ≤ (part_rest h.player).size
  room_now more few = omega (arith, few, h.fed, rest_size filter ready.limits rate' n' ready.some before given h.player g.paused on_longest)

  pub number_small : g.number ≤ 2 ^ 34
  number_small =
      let most = number_few filter ready.limits rate' n' ready.some before given h.player g.paused on_longest in
      omega (arith, number_now, most, total_few (2 ^ 33 * 8) filter.factor (omega arith) ready.limits.least_factor ready.limits.greatest_factor)

  -- what was given comes first
  pub given_first : (rest : Bytes') (frames : ℕ) → length (before ++ rest) ≡ frames * n' → frames < 2 ^ 33 → (more : Bytes') × (joined_frames filter rate' n' (before ++ rest) ≡ given ++ more)
  given_first rest frames long few =
      let first = frames_first filter ready.limits rate' n' ready.rate ready.some ready.six before rest frames long few in
      (first.0, first.1 ∙ ap (λ xs. xs ++ first.0) (sym given_now))

  -- after more bytes
  module _ (bytes more : Bytes') (p : PartPlayer) (q : PausedPart) (on : HasPlayedOn filter g.sound (before ++ bytes) (given ++ more) p q) where
    abbrev due_then : ℕ
    due_then = frames_due filter (longest rate' n') (length (before ++ bytes))

    then_longest : HasPlayedOn filter (longest rate' n') (before ++ bytes) (given ++ more) p q
    then_longest = subst (λ (s : Sound). HasPlayedOn filter s (before ++ bytes) (given ++ more) p q) ready.longest_is on

    first_long : length given ≡ g.number * size'
    first_long = ap length given_now ∙ length-due filter (longest rate' n') before ∙ ap (λ k. k * size') (sym number_now)

    then_long : length (given ++ more) ≡ due_then * size'
    then_long =
        ap length (given_due filter ready.limits rate' n' ready.some (before ++ bytes) (given ++ more) p q then_longest)
        ∙ length-due filter (longest rate' n') (before ++ bytes)

    number_longest : g.number + length more / size' ≡ due_then
    number_longest = number_on g.number due_then (length more) size' (some_align filter ready.limits n' ready.some) (omega (arith, first_long, then_long, length-append given more))

    pub number_then : g.number + length more / size' ≡ frames_due filter g.sound (length (before ++ bytes))
    number_then = number_longest ∙ sym (ap (λ (s : Sound). frames_due filter s (length (before ++ bytes))) ready.longest_is)

    pub then_small : g.number + length more / size' ≤ 2 ^ 34
    then_small =
        let most = number_few filter ready.limits rate' n' ready.some (before ++ bytes) (given ++ more) p q then_longest in
        omega (arith, number_longest, most, total_few (2 ^ 33 * 8) filter.factor (omega arith) ready.limits.least_factor ready.limits.greatest_factor)

    abbrev read_from : ℕ → ℕ
    read_from number = groups_before filter Bytes number * n'

    pub given_on : (now : FrameGiver) → now.taps ≡ g.taps → now.sound ≡ g.sound → now.paused ≡ q → now.fed ≡ g.fed + length bytes → now.number ≡ g.number + length more / size'
        → now.tail.items ≡ drop (read_from now.number - min (read_from g.number) g.fed) (g.tail.items ++ bytes) → HasGivenFrames (before ++ bytes) (given ++ more) now
    given_on now taps sound paused fed number tail =
        let more_read = mul-le-mul_right n' (first_more filter ready.limits g.number now.number (omega (arith, number))) in
        let kept = kept_on (read_from g.number) (read_from now.number) g.fed before bytes g.tail.items h.fed h.tail more_read in
        record {
          player = p;
          played = subst (λ (t : PausedPart). HasPlayedOn now.taps now.sound (before ++ bytes) (given ++ more) p t) (sym paused)
              (subst (λ (s : Sound). HasPlayedOn now.taps s (before ++ bytes) (given ++ more) p q) (sym sound)
              (subst (λ (d : Decimator). HasPlayedOn d g.sound (before ++ bytes) (given ++ more) p q) (sym taps) on));
          fed = omega (arith, fed, h.fed, length-append before bytes);
          number = number ∙ number_then ∙ ap₂ (λ (d : Decimator) (s : Sound). frames_due d s (length (before ++ bytes))) (sym taps) (sym sound);
          tail = tail ∙ kept ∙ ap₂ (λ (d : Decimator) (s : Sound). drop (groups_before d Bytes now.number * s.channels) (before ++ bytes)) (sym taps) (sym sound);
        }

  -- ---- the end
  abbrev each : ℕ
  each = g.fed / n'

  abbrev groups : ℕ
  groups = groups_before filter Bytes g.number

  pub each_few : each < 2 ^ 33
  each_few = few_each g.fed n' (2 ^ 33) ready.few

  pub number_inside : g.number ≤ total_frames filter (joined_sound rate' n' each)
  number_inside =
      let due = number_is filter rate' n' before (2 ^ 33) (omega (arith, each_few, ap (λ k. k / n') h.fed)) in
      let less = ceil_more (length before / n' * 8 - filter.delay) (each * 8) filter.factor (omega (arith, ready.limits.least_factor)) (omega (arith, ap (λ k. k / n') h.fed)) in
      omega (arith, number_now, due, less)

  pub rest_long : (stop : ℕ) (p : PartPlayer) → IsPartOf filter (joined_sound rate' n' each) g.number stop p → (part_rest p).size ≡ each * n' - groups * (n' * 1)
  rest_long stop p part = ap (λ (s : Sound). s.size) part.rest_is

  pub tail_long : length g.tail.items / n' * n' ≡ each * n' - groups * (n' * 1)
  tail_long =
      let long : length g.tail.items ≡ g.fed - groups * n' = omega (arith, ap length h.tail, length-drop (groups * n') before, h.fed) in
      let one : groups * (n' * 1) ≡ groups * n' = ap (λ k. groups * k) (mul-one n') in
      ap (λ k. k / n' * n') long ∙ ap (λ k. k * n') (div_less g.fed groups n' ready.some) ∙ less_times each groups n' ∙ ap (λ k. each * n' - k) (sym one)

  module _ (frames : ℕ) (long : length before ≡ frames * n') where
    whole_is : each ≡ frames
    whole_is = ap (λ k. k / n') (h.fed ∙ long) ∙ times_div frames n' ready.some

    long_each : length before ≡ each * n'
    long_each = long ∙ ap (λ k. k * n') (sym whole_is)

    -- the whole tail is played
    tail_whole : (last : Bytes') → last ≡ take (length g.tail.items / n' * n') g.tail.items → (p : PartPlayer) → IsPartOf filter (joined_sound rate' n' each) g.number (total_frames filter (joined_sound rate' n' each)) p → last ≡ drop (part_start p) before
    tail_whole last is p part =
        let one : groups * (n' * 1) ≡ groups * n' = ap (λ k. groups * k) (mul-one n') in
        let size : length g.tail.items ≡ each * n' - groups * (n' * 1) = omega (arith, ap length h.tail, length-drop (groups * n') before, long_each, one) in
        is ∙ take_all (length g.tail.items / n' * n') g.tail.items (omega (arith, tail_long, size)) ∙ h.tail ∙ ap (λ k. drop k before) (sym one ∙ sym part.start_is)

    pub all_given : (last : Bytes') → last ≡ take (length g.tail.items / n' * n') g.tail.items
        → (p after : PartPlayer) → IsPartOf filter (joined_sound rate' n' each) g.number (total_frames filter (joined_sound rate' n' each)) p → IsPartFed p [] → IsSamePart p after → (more rest : Bytes')
        → ((xs : Bytes') → IsPartFed p xs → IsPartFed after (xs ++ last) × (part_due p (xs ++ last) ≡ part_due p xs ++ more)) → ((xs : Bytes') → IsPartFed after xs → part_all after xs ≡ part_due after xs ++ rest)
        → given ++ (more ++ rest) ≡ joined_frames filter rate' n' before
    all_given last is p after part fed same more rest feeds finishes =
        let s = joined_sound rate' n' each in
        let played = rest_given filter s g.number (total_frames filter s) p after before last more rest part long_each fed (tail_whole last is p part) same feeds finishes in
        ap (λ xs. xs ++ (more ++ rest)) given_now
        ∙ all_is filter ready.limits rate' n' ready.rate ready.some ready.six each g.number each_few before long_each number_now (more ++ rest) number_inside played

-- before the first byte nothing is given
pub none_due : (d : Decimator) → 1 ≤ d.factor → (rate n all : ℕ) → frames_due d (joined_sound rate n all) 0 ≡ 0
none_due d some rate n all =
    let none : 0 / n ≡ 0 = zero-div n in
    let bits : 0 / n * 8 - d.delay ≡ 0 = omega (arith, none) in
    let due : frames_due d (joined_sound rate n all) 0 ≡ div_ceil (0 / n * 8 - d.delay) d.factor = number_is d rate n [] all (omega (arith, none)) in
    let zero_is : div_ceil 0 d.factor ≡ 0 = elim (cases_lt 0 (div_ceil 0 d.factor)) [
      | inl more ↦ absurd (omega (arith, below_ceil 0 0 d.factor (omega (arith, some)) more))
      | inr is ↦ omega (arith, is)
    ] in
    due ∙ ap (λ k. div_ceil k d.factor) bits ∙ zero_is

pub nothing_given : (g : FrameGiver) (p : PartPlayer) → IsWithinLimits g.taps → g.sound ≡ longest g.sound.rate g.sound.channels → g.fed ≡ 0 → g.number ≡ 0 → g.tail.items ≡ []
    → IsPausedPart p g.paused → IsPartOf g.taps g.sound 0 (total_frames g.taps g.sound) p → IsPartPlayer p → IsPartFed p [] → HasGivenFrames [] [] g
nothing_given g p limits is fed number tail paused part ready came = record {
  player = p;
  played = record { paused = paused; part = part; ready = ready; fed = came; due = due_at_first p };
  fed = fed;
  number = number ∙ sym (ap (λ (s : Sound). frames_due g.taps s 0) is ∙ none_due g.taps (omega (arith, limits.least_factor)) g.sound.rate g.sound.channels (2 ^ 33));
  tail = tail ∙ sym (drop-nil (groups_before g.taps Bytes g.number * g.sound.channels));
}
