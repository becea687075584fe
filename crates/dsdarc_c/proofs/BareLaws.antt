-- A player without a filter and a whole file: what it gave, and what it goes on to.
use Rattle.std.proofs.Common.{◌≡◌, ℕ, ◌+◌, ◌-◌, ◌*◌, ◌≤◌, inl, inr, List, [], ◌∷◌, ◌++◌, length, take, drop, slice_range, Option, None, Some, refl, sym, subst, ap, ap₂, ◌∙◌, arith, append_assoc, append-nil, length-take, length-drop}
use Rattle.std.proofs.lemmas.List.{drop_all}
use Rattle.dsd_bits.specs.declared.sound.Sound.{Sound}
use Rattle.dsd_bits.specs.Sounds.{sound_bytes}
use Rattle.native_core.specs.declared.layout.Layout.{Layout}
use Rattle.native_core.specs.declared.run.BitRun.{BitRun}
use Rattle.native_core.specs.Runs.{GivesMore, IsGiven, IsReady, frames_from, run_fed}
use Rattle.native_core.proofs.FeedLaws.{gives_last, made_of}
use Rattle.player_core.proofs.SliceLaws.{slices_meet}
use Rattle.dsdarc_c.specs.Bare.{IsAtBareStage, IsBare, IsRunAt, IsRunOrDone, bare_waiting}
use Rattle.dsdarc_c.specs.BareWhole.{IsPrefixOfBits, PlaysBareStage, PlaysBits, PlaysRun, PlaysRunOrAll, bits_from}
use Rattle.dsdarc_c.specs.Pushing.{IsPushedHeader}
use Rattle.dsdarc_c.specs.Whole.{BeginsWith, HasAt, IsPrefixOf}
use Rattle.dsdarc_c.specs.declared.bare.Bare.{Bare}
use Rattle.dsdarc_c.specs.declared.bare.BareStage.{BareStage}
use Rattle.dsdarc_c.specs.declared.bare.BareStage.TheVariants as stages
use Rattle.dsdarc_c.proofs.EndingLaws.{keeps_none}
use Rattle.dsdarc_c.proofs.WholeLaws.{header_of, slice_on}

-- ---- the bytes of a sound in a file
all_sound : (file : List ℕ) (s : Sound) → slice_range file s.start (s.start + s.size) ≡ sound_bytes file s
all_sound file s = let size : (s.start + s.size) - s.start ≡ s.size = omega arith in ap (λ k. take k (drop s.start file)) size

long_slice : (file : List ℕ) (a b : ℕ) → a ≤ b → b ≤ length file → length (slice_range file a b) ≡ b - a
long_slice file a b ordered inside = omega (arith, length-take (b - a) (drop a file), length-drop a file, ordered, inside)

-- ---- a run
module _ (layout : Layout) (file : List ℕ) (start : ℕ) (out header : List ℕ) (place : ℕ) (s : Sound) (r : BitRun) (at : IsRunAt layout place s r) (is : PlaysRun file start out header place s r) where
  abbrev came : List ℕ
  came = slice_range file s.start place

  after : s.start ≤ place
  after = omega (arith, at.place_is)

  -- the frames of all bytes
  all_frames : (bytes : List ℕ) → bytes ≡ sound_bytes file s → frames_from r.layout r.sound bytes start ≡ bits_from layout s file start
  all_frames bytes all =
      ap (λ xs. frames_from r.layout r.sound xs start) all ∙ ap₂ (λ (l : Layout) (t : Sound). frames_from l t (sound_bytes file s) start) at.layout_is at.sound

  -- what was given comes first
  pub run_first : IsPushedHeader header s → IsPrefixOfBits layout file start out
  run_first pushed = inr (s, header_of file header s is.begins pushed, first)
    where
      first : s.start + s.size ≤ length file → IsPrefixOf out (bits_from layout s file start)
      first whole =
          let rest = slice_range file place (s.start + s.size) in
          let size = ap (λ (t : Sound). t.size) at.sound in
          let fits = at.ready.fits in
          let long = long_slice file place (s.start + s.size) (omega (arith, at.place_is, fits, size)) whole in
          let more = drop r.skip (made_of r at.ready rest (r.sound.count - r.group * 32768)) in
          let gives = gives_last r at.ready rest more (omega (arith, at.place_is, long, size, fits)) refl in
          let joined : came ++ rest ≡ sound_bytes file s = slices_meet file s.start place (s.start + s.size) after (omega (arith, at.place_is, fits, size)) ∙ all_sound file s in
          (more, sym (gives.1 start came out (is.given whole) ∙ all_frames (came ++ rest) joined))

  -- after more bytes
  module _ (bytes more : List ℕ) (few : length bytes ≤ s.size - run_fed r) (here : HasAt file place bytes) where
    joined_on : came ++ bytes ≡ slice_range file s.start (place + length bytes)
    joined_on = slice_on file s.start place bytes (s.size - run_fed r) (inl after) few here

    pub run_on : (next : Option BitRun) → GivesMore r bytes more next → PlaysRunOrAll layout file start (out ++ more) header (place + length bytes) s next
    run_on None gives = (
      is.begins,
      λ whole. gives.1 start came out (is.given whole) ∙ all_frames (came ++ bytes) (joined_on ∙ ap (slice_range file s.start) ends ∙ all_sound file s),
      keeps_none file header s (place + length bytes) ends,
    )
      where
        ends : place + length bytes ≡ s.start + s.size
        ends = omega (arith, at.place_is, gives.0, ap (λ (t : Sound). t.size) at.sound)
    run_on (Some q) gives = record {
      begins = is.begins;
      given = λ whole. subst (λ xs. IsGiven start xs (out ++ more) q) joined_on (gives.4 start came out (is.given whole));
    }

-- what holds of the run after more bytes
pub done_on : (layout : Layout) (place : ℕ) (s : Sound) (r : BitRun) (bytes more : List ℕ) (next : Option BitRun) → IsRunAt layout place s r → GivesMore r bytes more next → IsRunOrDone layout (place + length bytes) s next
done_on layout place s r bytes more None at gives = omega (arith, at.place_is, gives.0, ap (λ (t : Sound). t.size) at.sound)
done_on layout place s r bytes more (Some q) at gives = (
  record {
    ready = gives.0;
    sound = gives.1.sound ∙ at.sound;
    layout_is = gives.1.layout ∙ at.layout_is;
    place_is = omega (arith, at.place_is, gives.2);
  },
  omega (arith, at.place_is, gives.2, gives.3, ap (λ (t : Sound). t.size) at.sound),
)

-- a new run gives nothing before the first byte that it takes
pub plays_at_start : (file : List ℕ) (frame : ℕ) (header : List ℕ) (s : Sound) (r : BitRun) → BeginsWith file header → IsReady r → r.sound ≡ s → ((came : List ℕ) → length came ≡ run_fed r → IsGiven frame came [] r) → PlaysRun file frame [] header (s.start + run_fed r) s r
plays_at_start file frame header s r begins ready sound given = record {
  begins = begins;
  given = λ whole. given (slice_range file s.start (s.start + run_fed r)) (omega (arith, long_slice file s.start (s.start + run_fed r) (omega arith) (omega (arith, whole, ready.fits, ap (λ (t : Sound). t.size) sound))));
}

-- ---- at any time
pub bits_prefix : (layout : Layout) (file : List ℕ) (start : ℕ) (out header : List ℕ) (place : ℕ) (stage : BareStage) → IsAtBareStage layout header place stage → PlaysBareStage layout file start out header place stage → IsPrefixOfBits layout file start out
bits_prefix layout file start out header place (stages.Header walked) keeps is = inl is.2
bits_prefix layout file start out header place (stages.Open s) keeps is = inl is.2
bits_prefix layout file start out header place (stages.Sound s r) keeps is = run_first layout file start out header place s r keeps.1 is keeps.0
bits_prefix layout file start out header place (stages.After s back) keeps is = inr (s, header_of file header s is.0 keeps.header, λ whole. ([], sym (is.1 whole) ∙ sym (append-nil out)))
bits_prefix layout file start out header place stages.Failed keeps is = is

no_prefix : (xs ys : List ℕ) → xs ++ ys ≡ [] → xs ≡ []
no_prefix [] ys e = refl
no_prefix (x ∷ xs) ys e = absurd cc

-- fewer bytes come first as well
pub fewer_bits : (layout : Layout) (file : List ℕ) (start : ℕ) (out rest : List ℕ) → IsPrefixOfBits layout file start (out ++ rest) → IsPrefixOfBits layout file start out
fewer_bits layout file start out rest (inl none) = inl (no_prefix out rest none)
fewer_bits layout file start out rest (inr (s, header, first)) = inr (s, header, λ whole. let more = first whole in (rest ++ more.0, more.1 ∙ append_assoc out rest more.0))

-- ---- a player
pub none_waits : (p : Bare) → length p.pending.items ≤ p.pulled → bare_waiting p ≡ []
none_waits p few = drop_all p.pulled p.pending.items few

pub bare_stage_is : (p : Bare) (file : List ℕ) (start : ℕ) (pulled : List ℕ) (stage : BareStage) → p.stage ≡ stage → PlaysBits file start pulled p → PlaysBareStage p.layout file start (pulled ++ bare_waiting p) p.header.items p.place stage
bare_stage_is p file start pulled stage is plays = subst (PlaysBareStage p.layout file start (pulled ++ bare_waiting p) p.header.items p.place) is plays.stage

-- before the choice nothing was given
pub bits_anew : (new : Bare) (file : List ℕ) (start : ℕ) (pulled waits : List ℕ) → start ≡ 0 → pulled ++ waits ≡ [] → PlaysBits file 0 [] new → PlaysBits file start pulled new
bits_anew new file start pulled waits first none then =
    subst (λ k. PlaysBits file k pulled new) (sym first) (subst (λ xs. PlaysBits file 0 xs new) (sym (no_prefix pulled waits none)) then)

-- a player that failed, and of which nothing waits, gave what it gave before
pub failed_bits : (p new : Bare) (file : List ℕ) (start : ℕ) (pulled : List ℕ) → IsBare p → PlaysBits file start pulled p → new.layout ≡ p.layout → new.stage ≡ stages.Failed → bare_waiting new ≡ [] → PlaysBits file start pulled new
failed_bits p new file start pulled keeps plays layout failed none =
    let first = fewer_bits p.layout file start pulled (bare_waiting p) (bits_prefix p.layout file start (pulled ++ bare_waiting p) p.header.items p.place p.stage keeps.stage plays.stage) in
    let all : pulled ≡ pulled ++ bare_waiting new = sym (ap (λ xs. pulled ++ xs) none ∙ append-nil pulled) in
    let now = subst (λ l. IsPrefixOfBits l file start (pulled ++ bare_waiting new)) (sym layout) (subst (IsPrefixOfBits p.layout file start) all first) in
    record { stage = subst (PlaysBareStage new.layout file start (pulled ++ bare_waiting new) new.header.items new.place) (sym failed) now }
