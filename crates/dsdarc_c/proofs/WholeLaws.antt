-- A whole file that is pushed piece by piece, and what was pulled of its frames.
use Rattle.std.proofs.Common.{◌≡◌, ℕ, ◌+◌, ◌-◌, ◌*◌, ◌/◌, ◌<◌, ◌≤◌, ◌⊎◌, inl, inr, min, List, [], ◌∷◌, ◌++◌, length, take, drop, slice_range, Option, None, Some, refl, sym, subst, ap, ap₂, ◌∙◌, arith, append_assoc, append-nil, length-append, length-take, length-drop, zero-mul}
use Rattle.std.proofs.lemmas.Bool.{cases_lt}
use Rattle.std.proofs.Math.Nat.{zero-div}
use Rattle.std.proofs.Math.Seq.{take-add}
use Rattle.std.proofs.lemmas.List.{drop-drop, drop-take, drop_all, take-take, take_min}
use Rattle.dsd_bits.specs.declared.interleaving.Interleaving.{Interleaving}
use Rattle.dsd_bits.specs.declared.sound.Sound.{Sound}
use Rattle.dsd_bits.specs.Sounds.{sound_bytes}
use Rattle.fir_core.specs.Decimator.{Decimator}
use Rattle.fir_core.specs.Rests.{first_whole}
use Rattle.player_core.specs.Laws.{total_frames}
use Rattle.player_core.specs.PartView.{IsPartFed, IsPartOf, IsPartPlayer, part_all, part_rest, part_start}
use Rattle.player_core.specs.PausedView.{IsPausedPart}
use Rattle.player_core.specs.Parts.{frames_apart, groups_apart, groups_before}
use Rattle.player_core.specs.declared.parts.PartPlayer.{PartPlayer}
use Rattle.player_core.specs.declared.pausing.PausedPart.{PausedPart}
use Rattle.player_core.proofs.PieceLaws.{due_first}
use Rattle.player_core.proofs.SinkLaws.{due_at_first}
use Rattle.player_core.proofs.SliceLaws.{slices_meet}
use Rattle.dsdarc_c.specs.Playing.{HasPlayed, PlaysOn}
use Rattle.dsdarc_c.specs.Pushing.{IsAtStage, IsPushedHeader, IsPushing, IsWithinSound}
use Rattle.dsdarc_c.specs.Whole.{BeginsWith, ComeFirst, HasAt, IsPrefixOfFrames, PlaysPushedFile, PlaysRestOf, PlaysSoundOf, PlaysStageOf, frames_from, waiting}
use Rattle.dsdarc_c.specs.declared.pushing.Pushing.{Pushing}
use Rattle.dsdarc_c.specs.declared.pushing.Stage.{Stage}
use Rattle.dsdarc_c.specs.declared.pushing.Stage.TheVariants as stages
use Rattle.dsdarc_c.proofs.EndingLaws.{keeps_none}

-- ---- bytes at a place
-- the first of them are there, too
pub fewer_at : (file : List ℕ) (place : ℕ) (bytes : List ℕ) (n : ℕ) → n ≤ length bytes → HasAt file place bytes → HasAt file place (take n bytes)
fewer_at file place bytes n few at =
    let rest = drop place file in
    let all : (place + length bytes) - place ≡ length bytes = omega arith in
    let some : n ≡ (place + length (take n bytes)) - place = omega (arith, few, length-take n bytes) in
    ap (take n) (at ∙ ap (λ k. take k rest) all) ∙ take-take n (length bytes) rest few ∙ ap (λ k. take k rest) some

-- those from an earlier place on reach to their end
pub slice_on : (file : List ℕ) (from place : ℕ) (bytes : List ℕ) (left : ℕ) → (from ≤ place) ⊎ (left ≡ 0) → length bytes ≤ left → HasAt file place bytes → slice_range file from place ++ bytes ≡ slice_range file from (place + length bytes)
slice_on file from place bytes left (inl ordered) few at = ap (λ xs. slice_range file from place ++ xs) at ∙ slices_meet file from place (place + length bytes) ordered (omega arith)
slice_on file from place bytes left (inr none) few at =
    let here : place ≡ place + length bytes = omega (arith, few, none) in
    let same : place + length bytes ≡ place = sym here in
    let nothing : bytes ≡ [] = at ∙ ap (slice_range file place) same ∙ empty file place in
    ap (λ xs. slice_range file from place ++ xs) nothing ∙ append-nil (slice_range file from place) ∙ ap (slice_range file from) here
  where
    empty : (file : List ℕ) (place : ℕ) → slice_range file place place ≡ []
    empty file place = let none : place - place ≡ 0 = omega arith in ap (λ k. take k (drop place file)) none

-- those of a sound from one of its bytes on
pub sound_from : (file : List ℕ) (s : Sound) (n : ℕ) → slice_range file (s.start + n) (s.start + s.size) ≡ drop n (sound_bytes file s)
sound_from file s n = by (cases_lt s.size n)
  where
    left : (s.start + s.size) - (s.start + n) ≡ s.size - n
    left = omega arith

    by : (s.size < n) ⊎ (n ≤ s.size) → slice_range file (s.start + n) (s.start + s.size) ≡ drop n (sound_bytes file s)
    by (inl past) =
        let none : (s.start + s.size) - (s.start + n) ≡ 0 = omega (arith, past) in
        ap (λ k. take k (drop (s.start + n) file)) none ∙ sym (drop_all n (sound_bytes file s) (omega (arith, past, length-take s.size (drop s.start file))))
    by (inr within) =
        let parts : n + (s.size - n) ≡ s.size = omega (arith, within) in
        ap₂ take left (sym (drop-drop n s.start file))
        ∙ sym (drop-take n (s.size - n) (drop s.start file))
        ∙ ap (λ k. drop n (take k (drop s.start file))) parts

sound_long : (file : List ℕ) (s : Sound) → s.start + s.size ≤ length file → length (sound_bytes file s) ≡ s.size
sound_long file s whole = omega (arith, whole, length-take s.size (drop s.start file), length-drop s.start file)

-- ---- headers
-- the header of a sound with which the file begins
pub header_of : (file header : List ℕ) (s : Sound) → BeginsWith file header → IsPushedHeader header s → IsPushedHeader (take s.start file) s
header_of file header s begins is = subst (λ xs. IsPushedHeader xs s) (begins ∙ ap (λ k. take k file) (sym is.ends.start)) is

-- ---- a piece more
module _ (d : Decimator) (file : List ℕ) (start : ℕ) (out header : List ℕ) (place : ℕ) (s : Sound) (q : PausedPart) (left : ℕ) (is : PlaysSoundOf d file start out header place s q left) (stands : place + left ≡ s.start + s.size) where
  abbrev from : ℕ
  from = s.start + part_start is.player

  abbrev before : List ℕ
  before = slice_range file from place

  -- all frames are those of all bytes that the player gets
  all_frames : s.start + s.size ≤ length file → frames_from d s file start ≡ part_all is.player (slice_range file from (s.start + s.size))
  all_frames whole =
      sym (is.played.part.gives (sound_bytes file s) (sound_long file s whole))
      ∙ ap (part_all is.player) (sym (sound_from file s (part_start is.player)))

  -- what was given comes first
  pub given_first : ComeFirst d s file start out
  given_first whole =
      let rest = slice_range file place (s.start + s.size) in
      let on : before ++ rest ≡ slice_range file from (s.start + s.size) = joined is.after in
      let long : length (before ++ rest) ≡ (part_rest is.player).size = omega (arith, is.long, stands, whole, length-append before rest, length-take ((s.start + s.size) - place) (drop place file), length-drop place file) in
      let more = due_first is.player is.played.ready before rest long in
      (more.0, all_frames whole ∙ ap (part_all is.player) (sym on) ∙ more.1 ∙ ap (λ xs. xs ++ more.0) is.played.due)
    where
      joined : (from ≤ place) ⊎ (left ≡ 0) → before ++ slice_range file place (s.start + s.size) ≡ slice_range file from (s.start + s.size)
      joined (inl ordered) = slices_meet file from place (s.start + s.size) ordered (omega (arith, stands))
      joined (inr none) =
          let here : s.start + s.size ≡ place = omega (arith, stands, none) in
          let empty : (s.start + s.size) - place ≡ 0 = omega (arith, here) in
          ap (λ k. before ++ take k (drop place file)) empty ∙ append-nil before ∙ ap (slice_range file from) (sym here)

  -- after more bytes
  module _ (bytes old new : List ℕ) (few : length bytes ≤ left) (at : HasAt file place bytes) where
    joined_on : before ++ bytes ≡ slice_range file from (place + length bytes)
    joined_on = slice_on file from place bytes left is.after few at

    pub plays_on_of : (o : Option PausedPart) (more : List ℕ) → new ≡ more → old ≡ [] → PlaysOn d s start before bytes out old new is.player o → PlaysRestOf d file start (out ++ more) header (place + length bytes) s o (left - length bytes)
    plays_on_of None more is_new none on = (
      is.begins,
      λ whole.
          let ends : place + length bytes ≡ s.start + s.size = omega (arith, stands, on.2, is.long, few, length-append before bytes) in
          ap (λ xs. out ++ xs) (sym is_new ∙ on.1 ∙ ap (λ xs. xs ++ on.0) none) ∙ on.3 ∙ ap (part_all is.player) (joined_on ∙ ap (slice_range file from) ends) ∙ sym (all_frames whole),
      keeps_none file header s (place + length bytes) (omega (arith, stands, on.2, is.long, few, length-append before bytes)),
    )
    plays_on_of (Some r) more is_new none on =
        let p = on.3.0 in
        let start_same : part_start p ≡ part_start is.player = on.3.2 in
        let here : before ++ bytes ≡ slice_range file (s.start + part_start p) (place + length bytes) = joined_on ∙ ap (λ k. slice_range file (s.start + k) (place + length bytes)) (sym start_same) in
        let gave : out ++ on.0 ≡ out ++ more = ap (λ xs. out ++ xs) (sym (sym is_new ∙ on.1 ∙ ap (λ xs. xs ++ on.0) none)) in
        record {
          begins = is.begins;
          player = p;
          played = subst (λ xs. HasPlayed d s start xs (out ++ more) p r) here (subst (λ xs. HasPlayed d s start (before ++ bytes) xs p r) gave on.3.3);
          long = omega (arith, ap length (sym here), length-append before bytes, is.long, few, ap (λ (t : Sound). t.size) on.3.1);
          after = later is.after;
        }
      where
        later : (from ≤ place) ⊎ (left ≡ 0) → (s.start + part_start on.3.0 ≤ place + length bytes) ⊎ (left - length bytes ≡ 0)
        later (inl ordered) = inl (omega (arith, ordered, on.3.2))
        later (inr none) = inr (omega (arith, none))

-- ---- at any time
pub prefix_in : (d : Decimator) (file : List ℕ) (start : ℕ) (out header : List ℕ) (place : ℕ) (s : Sound) (q : PausedPart) (left : ℕ) → IsWithinSound d header place s q left → PlaysSoundOf d file start out header place s q left → IsPrefixOfFrames d file start out
prefix_in d file start out header place s q left keeps is = inr (s, header_of file header s is.begins keeps.header, given_first d file start out header place s q left is keeps.place_is)

pub prefix_of : (d : Decimator) (file : List ℕ) (start : ℕ) (out header : List ℕ) (place : ℕ) (stage : Stage) → IsAtStage d header place stage → PlaysStageOf d file start out header place stage → IsPrefixOfFrames d file start out
prefix_of d file start out header place (stages.Header walked) keeps is = inl is.2
prefix_of d file start out header place (stages.Sound s q left) keeps is = prefix_in d file start out header place s q left keeps.0 is
prefix_of d file start out header place (stages.After s back) keeps is = inr (s, header_of file header s is.0 keeps.header, λ whole. ([], sym (is.1 whole) ∙ sym (append-nil out)))
prefix_of d file start out header place stages.Failed keeps is = is

no_prefix : (xs ys : List ℕ) → xs ++ ys ≡ [] → xs ≡ []
no_prefix [] ys e = refl
no_prefix (x ∷ xs) ys e = absurd cc

-- fewer bytes come first as well
pub fewer_first : (d : Decimator) (file : List ℕ) (start : ℕ) (out rest : List ℕ) → IsPrefixOfFrames d file start (out ++ rest) → IsPrefixOfFrames d file start out
fewer_first d file start out rest (inl none) = inl (no_prefix out rest none)
fewer_first d file start out rest (inr (s, header, first)) = inr (s, header, λ whole. let more = first whole in (rest ++ more.0, more.1 ∙ append_assoc out rest more.0))

-- ---- before the first byte of a sound
-- a player that was made for a frame reads on from its first byte
pub plays_at_first : (d : Decimator) (file : List ℕ) (start : ℕ) (header : List ℕ) (s : Sound) (p : PartPlayer) (q : PausedPart) (left : ℕ) → BeginsWith file header → IsPausedPart p q → IsPartOf d s start (total_frames d s) p → IsPartPlayer p → IsPartFed p [] → left ≡ s.size - part_start p
    → PlaysSoundOf d file start [] header (s.start + (s.size - left)) s q left
plays_at_first d file start header s p q left begins paused part ready fed left_is = record {
  begins = begins;
  player = p;
  played = subst (λ xs. HasPlayed d s start xs [] p q) (sym nothing) (record { paused = paused; part = part; ready = ready; fed = fed; due = due_at_first p });
  long = omega (arith, ap length nothing, left_is, part.start_is, ap (λ (t : Sound). t.size) part.rest_is);
  after = by (cases_lt s.size (part_start p));
}
  where
    place : ℕ
    place = s.start + (s.size - left)

    nothing : slice_range file (s.start + part_start p) place ≡ []
    nothing = let none : place - (s.start + part_start p) ≡ 0 = omega (arith, left_is) in ap (λ k. take k (drop (s.start + part_start p) file)) none

    by : (s.size < part_start p) ⊎ (part_start p ≤ s.size) → (s.start + part_start p ≤ place) ⊎ (left ≡ 0)
    by (inl past) = inr (omega (arith, past, left_is))
    by (inr within) = inl (omega (arith, within, left_is))

-- the first frame is played from the first byte of the sound on
pub none_before : (d : Decimator) (o : Interleaving) → groups_before d o 0 ≡ 0
none_before d o =
    let none : 0 - first_whole d ≡ 0 = omega arith in
    ap (λ n. n / frames_apart d o * groups_apart d o) none ∙ ap (λ n. n * groups_apart d o) (zero-div (frames_apart d o)) ∙ zero-mul (groups_apart d o)

-- no bytes are at any place
pub nothing_at : (file : List ℕ) (place : ℕ) → HasAt file place []
nothing_at file place = let none : (place + length {A = ℕ} []) - place ≡ 0 = omega arith in ap (λ k. take k (drop place file)) (sym none)

-- ---- headers
pub begins_more : (file header bytes : List ℕ) (place : ℕ) → length header ≡ place → BeginsWith file header → HasAt file place bytes → BeginsWith file (header ++ bytes)
begins_more file header bytes place long begins at =
    let n = length header in
    let m = length bytes in
    let piece : bytes ≡ take m (drop n file) = at ∙ ap₂ (λ k l. take k (drop l file)) (let same : (place + m) - place ≡ m = omega arith in same) (sym long) in
    let all : n + m ≡ length (header ++ bytes) = sym (length-append header bytes) in
    ap₂ (λ xs ys. xs ++ ys) begins piece ∙ sym (take-add n m file) ∙ ap (λ k. take k file) all

pub begins_fewer : (file header : List ℕ) (n : ℕ) → BeginsWith file header → BeginsWith file (take n header)
begins_fewer file header n begins =
    let m = length (take n header) in
    let m_is : m ≡ min n (length header) = length-take n header in
    sym (take_min n header) ∙ ap (λ k. take k header) (sym m_is) ∙ ap (take m) begins ∙ take-take m (length header) file (omega (arith, m_is))

-- ---- a player
-- where all was pulled nothing waits
pub nothing_waits : (p : Pushing) → length p.pending.items ≤ p.pulled → waiting p ≡ []
nothing_waits p few = drop_all p.pulled p.pending.items few

pub stage_is : (p : Pushing) (file : List ℕ) (start : ℕ) (pulled : List ℕ) (stage : Stage) → p.stage ≡ stage → PlaysPushedFile file start pulled p → PlaysStageOf p.taps file start (pulled ++ waiting p) p.header.items p.place stage
stage_is p file start pulled stage is plays = subst (PlaysStageOf p.taps file start (pulled ++ waiting p) p.header.items p.place) is plays.stage

-- before the sound is known nothing was given
pub plays_anew : (p new : Pushing) (file : List ℕ) (start : ℕ) (pulled : List ℕ) (walked : ℕ) → p.stage ≡ stages.Header walked → PlaysPushedFile file start pulled p → PlaysPushedFile file 0 [] new → PlaysPushedFile file start pulled new
plays_anew p new file start pulled walked is plays then =
    let w = stage_is p file start pulled (stages.Header walked) is plays in
    subst (λ k. PlaysPushedFile file k pulled new) (sym w.1) (subst (λ xs. PlaysPushedFile file 0 xs new) (sym (no_prefix pulled (waiting p) w.2)) then)

-- a player that failed, and of which nothing waits, gave what it gave before
pub failed_plays : (p new : Pushing) (file : List ℕ) (start : ℕ) (pulled : List ℕ) → IsPushing p → PlaysPushedFile file start pulled p → new.taps ≡ p.taps → new.stage ≡ stages.Failed → waiting new ≡ [] → PlaysPushedFile file start pulled new
failed_plays p new file start pulled keeps plays taps failed none =
    let first = fewer_first p.taps file start pulled (waiting p) (prefix_of p.taps file start (pulled ++ waiting p) p.header.items p.place p.stage keeps.stage plays.stage) in
    let all : pulled ≡ pulled ++ waiting new = sym (ap (λ xs. pulled ++ xs) none ∙ append-nil pulled) in
    let now = subst (λ d. IsPrefixOfFrames d file start (pulled ++ waiting new)) (sym taps) (subst (IsPrefixOfFrames p.taps file start) all first) in
    record { stage = subst (PlaysStageOf new.taps file start (pulled ++ waiting new) new.header.items new.place) (sym failed) now }
