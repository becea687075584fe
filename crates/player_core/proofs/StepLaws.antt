-- A player that takes the next sound bytes.
use Rattle.std.proofs.Common.{◌≡◌, ℕ, ◌+◌, ◌-◌, ◌*◌, ◌/◌, ◌%◌, ◌<◌, ◌≤◌, ◌⊎◌, ℤ, List, [], ◌∷◌, ◌++◌, All, take, drop, length, get_or, refl, sym, subst, ap, ap₂, ◌∙◌, arith, append_assoc, length-append, length-drop}
use Rattle.std.specs.List.{flat_map, range_with_len}
use Rattle.std.specs.Int.{div_ceil}
use Rattle.std.proofs.Math.Nat.{add-mul, div-mul-le_self, mul-add-div_right, mul-le-mul_right, mul-div_cancel, mul-div_cancel_left}
use Rattle.std.proofs.Math.Seq.{drop-append_seam}
use Rattle.std.proofs.lemmas.Nat.{div-add-mod', mod_below, le-div}
use Rattle.std.proofs.lemmas.List.{length-take, take-append-drop}
use Rattle.std.proofs.lemmas.List.FromFn.{length-map-range_with_len}
use Rattle.dsd_bits.specs.declared.sound.Sound.{Sound}
use Rattle.fir_core.specs.Decimator.{Decimator, IsWithinLimits}
use Rattle.fir_core.specs.Streams.{Fits}
use Rattle.fir_core.specs.StreamView.{state_of}
use Rattle.fir_core.specs.declared.stream.Stream.{Stream}
use Rattle.wave_core.specs.Contents.{IsSample}
use Rattle.wave_core.specs.Frames.{frames_of}
use Rattle.wave_core.specs.Texts.{sample_bytes}
use Rattle.player_core.specs.Due.{bytes_known, channel_bytes, channels_known, due_bytes, frames_due}
use Rattle.player_core.specs.Frames.{frame, tile_of}
use Rattle.player_core.specs.Groups.{group_size, part_size}
use Rattle.player_core.specs.PlayerView.{AllFit, AreChannels, AreReady, AreWhole, FeedAll}
use Rattle.player_core.proofs.DueLaws.{bytes_of_prefix, due_next, due_of_prefix, read_of_prefix, whole}
use Rattle.player_core.proofs.FeedLaws.{due_grows, mul_some, some_part}
use Rattle.player_core.proofs.FrameLaws.{all_samples, frames_are, length-tile}

-- ---- how many bytes a channel gets
pub known_grows : (s : Sound) (a b : ℕ) → 1 ≤ s.channels → a ≤ b → bytes_known s a ≤ bytes_known s b
known_grows s a b some h =
    let gs = s.channels * part_size s.interleaving in
    let whole : a / gs ≤ b / gs = le-div (a / gs) b gs (mul_some s.channels (part_size s.interleaving) some (some_part s.interleaving)) (omega (arith, div-mul-le_self a gs)) in
    let parts : a / gs * part_size s.interleaving ≤ b / gs * part_size s.interleaving = mul-le-mul_right (part_size s.interleaving) whole in
    omega (arith, parts)

-- ---- the next bytes
module _ (s : Sound) (before bytes : List ℕ) (some : 1 ≤ s.channels) where
  gs : ℕ
  gs = group_size s.interleaving s.channels

  positive : 0 < gs
  unfolding gs
  positive = mul_some s.channels (part_size s.interleaving) some (some_part s.interleaving)

  -- the whole groups before, and what follows them
  k : ℕ
  k = length before / gs

  prefix : List ℕ
  prefix = take (k * gs) before

  rest : List ℕ
  rest = drop (k * gs) before

  -- the whole groups of what follows them and the next bytes
  more : ℕ
  more = length (rest ++ bytes) / gs

  groups : List ℕ
  groups = take (more * gs) (rest ++ bytes)

  left : List ℕ
  left = drop (more * gs) (rest ++ bytes)

  parted : prefix ++ rest ≡ before
  unfolding prefix rest
  parted = take-append-drop (k * gs) before

  parted_next : (prefix ++ groups) ++ left ≡ before ++ bytes
  unfolding groups left
  parted_next =
      append_assoc prefix groups left ∙ ap (λ xs. prefix ++ xs) (take-append-drop (more * gs) (rest ++ bytes))
      ∙ sym (append_assoc prefix rest bytes) ∙ ap (λ xs. xs ++ bytes) parted

  long : length prefix ≡ k * gs
  unfolding prefix k
  long = omega (arith, length-take (length before / gs * gs) before, div-mul-le_self (length before) gs)

  part : length rest < gs
  unfolding rest k
  part = omega (arith, length-drop (length before / gs * gs) before, div-add-mod' (length before) gs, mod_below (length before) gs positive)

  long_groups : length groups ≡ more * gs
  unfolding groups more
  long_groups = omega (arith, length-take (length (rest ++ bytes) / gs * gs) (rest ++ bytes), div-mul-le_self (length (rest ++ bytes)) gs)

  part_left : length left < gs
  unfolding left more
  part_left = omega (arith, length-drop (length (rest ++ bytes) / gs * gs) (rest ++ bytes), div-add-mod' (length (rest ++ bytes)) gs, mod_below (length (rest ++ bytes)) gs positive)

  long_next : length (prefix ++ groups) ≡ (k + more) * gs
  long_next = let spread : (k + more) * gs ≡ k * gs + more * gs = grind arith in omega (arith, length-append prefix groups, long, long_groups, spread)

  known_before : bytes_known s (length before) ≡ bytes_known s (length prefix)
  unfolding gs
  known_before = ap (λ xs. bytes_known s (length xs)) (sym parted) ∙ read_of_prefix s prefix rest k long part

  known_next : bytes_known s (length (before ++ bytes)) ≡ bytes_known s (length (prefix ++ groups))
  unfolding gs
  known_next = ap (λ xs. bytes_known s (length xs)) (sym parted_next) ∙ read_of_prefix s (prefix ++ groups) left (k + more) long_next part_left

  pub held_next : (held : List ℕ) → held ≡ drop (length before / group_size s.interleaving s.channels * group_size s.interleaving s.channels) before
      → drop (length (held ++ bytes) / group_size s.interleaving s.channels * group_size s.interleaving s.channels) (held ++ bytes)
      ≡ drop (length (before ++ bytes) / group_size s.interleaving s.channels * group_size s.interleaving s.channels) (before ++ bytes)
  unfolding gs k rest more left
  held_next held is =
      let all : length (before ++ bytes) / gs ≡ k + more = ap (λ xs. length xs / gs) (sym parted_next) ∙ whole s (prefix ++ groups) left (k + more) long_next part_left in
      ap (λ (xs : List ℕ). drop (length (xs ++ bytes) / gs * gs) (xs ++ bytes)) is
      ∙ sym (drop-append_seam (prefix ++ groups) left)
      ∙ ap (λ n. drop n ((prefix ++ groups) ++ left)) (long_next ∙ ap (λ n. n * gs) (sym all))
      ∙ ap (drop (length (before ++ bytes) / gs * gs)) parted_next

  fit_prefix : (streams : List Stream) → length streams ≤ s.channels → AllFit s streams before → AllFit s streams prefix
  unfolding gs
  fit_prefix streams few all = λ c t low. subst (Fits (state_of (get_or streams c t))) (ap (λ xs. channel_bytes s xs c) (sym parted) ∙ bytes_of_prefix s prefix rest k long part c (omega arith)) (all c t low)

  fit_next : (streams : List Stream) → length streams ≤ s.channels → AllFit s streams (prefix ++ groups) → AllFit s streams (before ++ bytes)
  unfolding gs
  fit_next streams few all = λ c t low. subst (Fits (state_of (get_or streams c t))) (sym (ap (λ xs. channel_bytes s xs c) (sym parted_next) ∙ bytes_of_prefix s (prefix ++ groups) left (k + more) long_next part_left c (omega arith))) (all c t low)

  pub due_step : (d : Decimator) → 8 ≤ d.factor → (given : List ℕ) × (due_bytes d s (before ++ bytes) ≡ due_bytes d s before ++ given)
  unfolding gs
  due_step d least =
      let n = frames_due d s (length prefix) in
      let grown = known_grows s (length prefix) (length (prefix ++ groups)) some (omega (arith, length-append prefix groups)) in
      let grows : n ≤ frames_due d s (length (prefix ++ groups)) = due_grows d s.count (bytes_known s (length prefix)) (bytes_known s (length (prefix ++ groups))) (omega (arith, least)) grown in
      let m = frames_due d s (length (prefix ++ groups)) - n in
      let number = bytes_known s (length (prefix ++ groups)) - bytes_known s (length prefix) in (
        flat_map (sample_bytes d.width) (flat_map (frame d (channels_known s (prefix ++ groups))) (range_with_len n m)),
        ap (due_bytes d s) (sym parted_next) ∙ due_of_prefix s (prefix ++ groups) left (k + more) long_next part_left d
            ∙ due_next d s (bytes_known s (length prefix)) number prefix groups k long refl (omega (arith, grown)) least n m refl (omega (arith, grows))
            ∙ ap (λ xs. xs ++ flat_map (sample_bytes d.width) (flat_map (frame d (channels_known s (prefix ++ groups))) (range_with_len n m))) (sym (due_of_prefix s prefix rest k long part d) ∙ ap (due_bytes d s) parted),
      )

  -- what the next bytes give
  module _ (d : Decimator) (old new : List Stream) (tile : List ℤ) (fed number : ℕ) (all_old : length old ≡ s.channels) (all_new : length new ≡ s.channels) (least : 8 ≤ d.factor)
      (was : bytes_known s (length before) ≡ fed) (is : bytes_known s (length (before ++ bytes)) ≡ fed + number) (fits : AllFit s old before)
      (held given : List ℕ) (held_is : held ≡ drop (length before / group_size s.interleaving s.channels * group_size s.interleaving s.channels) before)
      (given_is : given ≡ take (length (held ++ bytes) / group_size s.interleaving s.channels * group_size s.interleaving s.channels) (held ++ bytes))
      (feeds_given : FeedAll d s fed number old new given tile) where
    feeds : FeedAll d s fed number old new groups tile
    unfolding gs k rest more groups
    feeds = subst (λ (xs : List ℕ). FeedAll d s fed number old new xs tile) (given_is ∙ ap (λ (xs : List ℕ). take (length (xs ++ bytes) / group_size s.interleaving s.channels * group_size s.interleaving s.channels) (xs ++ bytes)) held_is) feeds_given

    was_prefix : bytes_known s (length prefix) ≡ fed
    was_prefix = sym known_before ∙ was

    is_next : bytes_known s (length (prefix ++ groups)) ≡ fed + number
    is_next = sym known_next ∙ is

    n : ℕ
    n = frames_due d s (length prefix)

    m : ℕ
    m = frames_due d s (length (prefix ++ groups)) - n

    fed_all : AllFit s new (prefix ++ groups) × (tile ≡ tile_of d (channels_known s (prefix ++ groups)) n m)
    unfolding gs n m
    fed_all = feeds prefix k long was_prefix is_next (fit_prefix old (omega (arith, all_old)) fits)

    pub all_fit : AllFit s new (before ++ bytes)
    all_fit = fit_next new (omega (arith, all_new)) fed_all.0

    pub in_range : (width : ℕ) → width ≡ d.width → (d.width ≡ 16) ⊎ (d.width ≡ 24) → All (IsSample width) tile
    in_range width same known = subst (All (IsSample width)) (sym fed_all.1) (all_samples d (channels_known s (prefix ++ groups)) n m width same known)

    columns : length tile / s.channels ≡ m
    columns =
        let number_of : length (channels_known s (prefix ++ groups)) ≡ s.channels = length-map-range_with_len _ 0 s.channels in
        let size : length tile ≡ s.channels * m = ap length fed_all.1 ∙ length-tile d (channels_known s (prefix ++ groups)) n m ∙ ap (λ c. c * m) number_of in
        ap (λ l. l / s.channels) size ∙ mul-div_cancel_left m some

    pub gives_due : due_bytes d s (before ++ bytes) ≡ due_bytes d s before ++ flat_map (sample_bytes d.width) (frames_of tile (length tile / s.channels))
    unfolding gs n m
    gives_due =
        let grows : frames_due d s (length prefix) ≤ frames_due d s (length (prefix ++ groups)) = due_grows d s.count (bytes_known s (length prefix)) (bytes_known s (length (prefix ++ groups))) (omega (arith, least)) (omega (arith, was_prefix, is_next)) in
        ap (due_bytes d s) (sym parted_next) ∙ due_of_prefix s (prefix ++ groups) left (k + more) long_next part_left d
        ∙ due_next d s fed number prefix groups k long was_prefix is_next least (frames_due d s (length prefix)) (frames_due d s (length (prefix ++ groups)) - frames_due d s (length prefix)) refl (omega arith)
        ∙ ap₂ (λ xs ys. xs ++ flat_map (sample_bytes d.width) ys) (sym (due_of_prefix s prefix rest k long part d) ∙ ap (due_bytes d s) parted)
        (sym (frames_are d (channels_known s (prefix ++ groups)) n m) ∙ ap₂ (λ xs (l : ℕ). frames_of xs l) (sym fed_all.1) (sym columns))

pub known_more : (s : Sound) (fed size held whole : ℕ) → 1 ≤ s.channels → held ≡ fed % group_size s.interleaving s.channels → whole ≡ (held + size) / group_size s.interleaving s.channels * group_size s.interleaving s.channels
    → bytes_known s (fed + size) - bytes_known s fed ≤ whole / group_size s.interleaving s.channels * part_size s.interleaving
known_more s fed size held whole some rest is =
    let gs = s.channels * part_size s.interleaving in
    let ps = part_size s.interleaving in
    let positive : 0 < gs = mul_some s.channels ps some (some_part s.interleaving) in
    let spelled : fed + size ≡ fed / gs * gs + (held + size) = omega (arith, rest, div-add-mod' fed gs) in
    let next : (fed + size) / gs ≡ fed / gs + (held + size) / gs = ap (λ n. n / gs) spelled ∙ mul-add-div_right positive (fed / gs) (held + size) in
    let both : (fed + size) / gs * ps ≡ fed / gs * ps + (held + size) / gs * ps = ap (λ n. n * ps) next ∙ add-mul (fed / gs) ((held + size) / gs) ps in
    let back : whole / gs ≡ (held + size) / gs = ap (λ n. n / gs) is ∙ mul-div_cancel ((held + size) / gs) positive in
    let parts : whole / gs * ps ≡ (held + size) / gs * ps = ap (λ n. n * ps) back in
    omega (arith, both, parts)

-- what follows the whole groups
pub held_size : (before held : List ℕ) (gs : ℕ) → held ≡ drop (length before / gs * gs) before → length held ≡ length before % gs
held_size before held gs is = omega (arith, ap length is ∙ length-drop (length before / gs * gs) before, div-add-mod' (length before) gs)

-- streams that can take what comes next
pub ready_more : (d : Decimator) (s : Sound) (streams : List Stream) (a b number : ℕ) → 1 ≤ s.channels → a ≤ b → number ≡ bytes_known s b - bytes_known s a → AreChannels d s.count (bytes_known s a) streams → AreReady number streams
ready_more d s streams a b number some h is are = λ i t low.
    let chan = are i t low in
    let grows = known_grows s a b some h in
    let bits : div_ceil (get_or streams i t).count 8 ≡ div_ceil s.count 8 = ap (λ n. div_ceil n 8) chan.bits in
    (chan.ready, omega (arith, is, grows, bits, chan.bytes))

-- how many bytes whole groups have
pub groups_size : (held bytes : List ℕ) (gs : ℕ) → length (take (length (held ++ bytes) / gs * gs) (held ++ bytes)) ≡ (length held + length bytes) / gs * gs
groups_size held bytes gs =
    let size = length-append held bytes in
    let within = div-mul-le_self (length (held ++ bytes)) gs in
    let e : length (take (length (held ++ bytes) / gs * gs) (held ++ bytes)) ≡ length (held ++ bytes) / gs * gs = omega (arith, length-take (length (held ++ bytes) / gs * gs) (held ++ bytes), within) in
    e ∙ ap (λ n. n / gs * gs) size

-- a filter, of which one channel knows
pub filter_known : (d : Decimator) (count fed : ℕ) (streams : List Stream) → 1 ≤ length streams → AreChannels d count fed streams → IsWithinLimits d
filter_known d count fed [] some are = absurd (omega arith)
filter_known d count fed (t ∷ ts) some are = let chan = are 0 t some in subst IsWithinLimits chan.filter chan.ready.limits

-- streams of which all is known
pub all_whole : (d : Decimator) (s : Sound) (streams : List Stream) (size : ℕ) → bytes_known s size ≡ div_ceil s.count 8 → AreChannels d s.count (bytes_known s size) streams → AreWhole streams
all_whole d s streams size all are = λ i t low.
    let chan = are i t low in
    (chan.ready, chan.bytes ∙ all ∙ ap (λ n. div_ceil n 8) (sym chan.bits))
