-- Bytes of whole frames, and those that wait.
use Rattle.std.proofs.Common.{◌≡◌, ℕ, ◌+◌, ◌-◌, ◌*◌, ◌/◌, ◌≤◌, min, inl, inr, List, [], ◌++◌, length, drop, slice_range, Option, None, Some, refl, sym, subst, ap, ap₂, ◌∙◌, arith, length-append, length-drop, length-take, zero-mul}
use Rattle.std.proofs.Math.Nat.{mul-div_cancel, mul-le-mul_right, mul_assoc}
use Rattle.std.proofs.lemmas.Bool.{cases_lt}
use Rattle.dsd_bits.specs.declared.sound.Sound.{Sound}
use Rattle.fir_core.specs.Decimator.{Decimator}
use Rattle.wave_core.specs.Sizes.{block_align}
use Rattle.player_core.specs.Due.{all_bytes, due_bytes, frames_due}
use Rattle.player_core.specs.Laws.{total_frames}
use Rattle.player_core.specs.PartView.{IsPartOf, IsPartPlayer, part_all, part_due, part_filter, part_rest}
use Rattle.player_core.specs.Parts.{frames_before}
use Rattle.player_core.specs.declared.parts.PartPlayer.{PartPlayer}
use Rattle.player_core.specs.declared.pausing.PausedPart.{PausedPart}
use Rattle.player_core.proofs.PartLaws.{less_times}
use Rattle.player_core.proofs.PlaceLaws.{length-due}
use Rattle.player_core.proofs.SoundLaws.{frames_fill}
use Rattle.dsdarc_c.specs.Numbers.{AreWholeSamples}
use Rattle.dsdarc_c.specs.Playing.{HasPlayed, PlaysOn}
use Rattle.dsdarc_c.specs.Pushing.{AreWholeFrames}
use Rattle.dsdarc_c.specs.Whole.{WaitsWhole, waiting}
use Rattle.dsdarc_c.specs.declared.pushing.Pushing.{Pushing}

-- ---- numbers
min_times : (a b c : ℕ) → min a b * c ≡ min (a * c) (b * c)
min_times a b c = elim (cases_lt a b) [
  | inl less ↦
      let first : min a b ≡ a = omega arith in
      let most : a * c ≤ b * c = mul-le-mul_right c (omega arith) in
      ap (λ n. n * c) first ∙ omega (arith, most)
  | inr more ↦
      let second : min a b ≡ b = omega arith in
      let most : b * c ≤ a * c = mul-le-mul_right c more in
      ap (λ n. n * c) second ∙ omega (arith, most)
]

-- ---- whole frames
pub none_whole : (d : Decimator) (o : Option Sound) → AreWholeFrames d o 0
none_whole d None = refl
none_whole d (Some s) = (0, sym (zero-mul (block_align s.channels d.width)))

pub min_whole : (d : Decimator) (o : Option Sound) (a b : ℕ) → AreWholeFrames d o a → AreWholeFrames d o b → AreWholeFrames d o (min a b)
min_whole d None a b first second = omega (arith, first, second)
min_whole d (Some s) a b (k, first) (n, second) = (min k n, ap₂ min first second ∙ sym (min_times k n (block_align s.channels d.width)))

pub less_whole : (d : Decimator) (o : Option Sound) (a b : ℕ) → AreWholeFrames d o a → AreWholeFrames d o b → AreWholeFrames d o (a - b)
less_whole d None a b first second = omega (arith, first)
less_whole d (Some s) a b (k, first) (n, second) = (k - n, ap₂ (λ x y. x - y) first second ∙ sym (less_times k n (block_align s.channels d.width)))

-- ---- what a player of a part gives
module _ (d : Decimator) (s : Sound) (start stop : ℕ) (p : PartPlayer) (is : IsPartOf d s start stop p) where
  abbrev Whole : ℕ → Type 0
  Whole n = AreWholeFrames d (Some s) n

  slice_whole : (xs : List ℕ) → Whole (length xs) → Whole (length (slice_range xs p.skip p.stop))
  slice_whole xs all =
      let skip : Whole p.skip = (start - frames_before d s.interleaving start, is.skip_is) in
      let last : Whole p.stop = (stop - frames_before d s.interleaving start, is.stop_is) in
      let long : min (p.stop - p.skip) (length xs - p.skip) ≡ length (slice_range xs p.skip p.stop) = sym (length-take (p.stop - p.skip) (drop p.skip xs) ∙ ap (min (p.stop - p.skip)) (length-drop p.skip xs)) in
      subst Whole long (min_whole d (Some s) _ _ (less_whole d (Some s) _ _ last skip) (less_whole d (Some s) _ _ all skip))

  align_is : block_align (part_rest p).channels (part_filter p).width ≡ block_align s.channels d.width
  align_is = ap₂ (λ (t : Sound) (e : Decimator). block_align t.channels e.width) is.rest_is is.filter_is

  pub due_whole : (bytes : List ℕ) → Whole (length (part_due p bytes))
  due_whole bytes =
      let n = frames_due (part_filter p) (part_rest p) (length bytes) in
      slice_whole (due_bytes (part_filter p) (part_rest p) bytes) (n, length-due (part_filter p) (part_rest p) bytes ∙ ap (λ m. n * m) align_is)

  pub all_whole : IsPartPlayer p → (bytes : List ℕ) → length bytes ≡ (part_rest p).size → Whole (length (part_all p bytes))
  all_whole ready bytes all =
      let n = total_frames (part_filter p) (part_rest p) in
      slice_whole (all_bytes (part_filter p) (part_rest p) bytes) (n, frames_fill (part_filter p) (part_rest p) bytes ready.player.sound ready.player.whole all ∙ ap (λ m. n * m) align_is)

-- of what was given more of a whole number of frames, more was given
rest_whole : (d : Decimator) (s : Sound) (given more all : List ℕ) → given ++ more ≡ all → AreWholeFrames d (Some s) (length given) → AreWholeFrames d (Some s) (length all) → AreWholeFrames d (Some s) (length more)
rest_whole d s given more all is first whole =
    let long : length all - length given ≡ length more = omega (arith, ap length is, length-append given more) in
    subst (AreWholeFrames d (Some s)) long (less_whole d (Some s) (length all) (length given) whole first)

-- what is given after more bytes is whole frames
pub more_whole : (d : Decimator) (s : Sound) (start : ℕ) (before bytes given old new : List ℕ) (p : PartPlayer) (q : PausedPart) (o : Option PausedPart) → HasPlayed d s start before given p q → old ≡ [] → PlaysOn d s start before bytes given old new p o
    → AreWholeFrames d (Some s) (length new)
more_whole d s start before bytes given old new p q None played none on =
    let first = subst (λ xs. AreWholeFrames d (Some s) (length xs)) played.due (due_whole d s start (total_frames d s) p played.part before) in
    let all = all_whole d s start (total_frames d s) p played.part played.ready (before ++ bytes) on.2 in
    let is : new ≡ on.0 = on.1 ∙ ap (λ xs. xs ++ on.0) none in
    subst (λ xs. AreWholeFrames d (Some s) (length xs)) (sym is) (rest_whole d s given on.0 _ on.3 first all)
more_whole d s start before bytes given old new p q (Some r) played none on =
    let first = subst (λ xs. AreWholeFrames d (Some s) (length xs)) played.due (due_whole d s start (total_frames d s) p played.part before) in
    let all = due_whole d s start (total_frames d s) on.3.0 on.3.3.part (before ++ bytes) in
    let is : new ≡ on.0 = on.1 ∙ ap (λ xs. xs ++ on.0) none in
    subst (λ xs. AreWholeFrames d (Some s) (length xs)) (sym is) (rest_whole d s given on.0 _ (sym on.3.3.due) first all)

-- ---- what waits
-- nothing
pub nothing_whole : (p : Pushing) → waiting p ≡ [] → WaitsWhole p
nothing_whole p none = subst (λ xs. AreWholeFrames p.taps p.stated (length xs)) (sym none) (none_whole p.taps p.stated)

-- what is left after whole frames were pulled
pub left_whole : (p : Pushing) (n : ℕ) → WaitsWhole p → AreWholeFrames p.taps p.stated n → AreWholeFrames p.taps p.stated (length (drop (p.pulled + n) p.pending.items))
left_whole p n waits given =
    let left : length (waiting p) - n ≡ length (drop (p.pulled + n) p.pending.items) = omega (arith, length-drop p.pulled p.pending.items, length-drop (p.pulled + n) p.pending.items) in
    subst (AreWholeFrames p.taps p.stated) left (less_whole p.taps p.stated (length (waiting p)) n waits given)

-- ---- samples
-- as many samples of whole frames as fit, and their bytes
pub samples_whole : (d : Decimator) (o : Option Sound) (room left size : ℕ) → 1 ≤ size → d.width / 8 ≡ size → AreWholeSamples o room → AreWholeFrames d o left → AreWholeSamples o (min room (left / size)) × AreWholeFrames d o (min room (left / size) * size)
samples_whole d None room left size some width fits waits =
    let none : min room (left / size) ≡ 0 = omega (arith, fits) in
    (none, ap (λ n. n * size) none ∙ zero-mul size)
samples_whole d (Some s) room left size some width (k, fits) (n, waits) =
    let parts : left ≡ n * s.channels * size = waits ∙ sym (mul_assoc n s.channels (d.width / 8)) ∙ ap (λ w. n * s.channels * w) width in
    let number : left / size ≡ n * s.channels = ap (λ m. m / size) parts ∙ mul-div_cancel (n * s.channels) some in
    let all : min room (left / size) ≡ min k n * s.channels = ap₂ min fits number ∙ sym (min_times k n s.channels) in (
      (min k n, all),
      (min k n, ap (λ m. m * size) all ∙ mul_assoc (min k n) s.channels size ∙ ap (λ w. min k n * (s.channels * w)) (sym width)),
    )
