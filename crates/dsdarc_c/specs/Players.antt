-- A player with a filter, or one without: what holds of either.
use Rattle.std.specs.Prelude.{◌≡◌, ◌/◌, ℕ, ℤ, Bool, true, false, List, [], Option, drop, length, min, take}
use Rattle.dsd_bits.specs.declared.sound.Sound.{Sound}
use Rattle.native_core.specs.declared.layout.Layout.{Layout}
use Rattle.dsdarc_c.specs.Bare.{bare_waiting}
use Rattle.dsdarc_c.specs.BareMoves.{IsFiltered}
use Rattle.dsdarc_c.specs.Joined.{joined_waiting}
use Rattle.dsdarc_c.specs.JoinedMoves.{IsJoinFiltered}
use Rattle.dsdarc_c.specs.Numbers.{AreSamplesIn, AreWholeSamples, first_samples}
use Rattle.dsdarc_c.specs.Whole.{WaitsWhole, waiting}
use Rattle.dsdarc_c.specs.declared.bare.Bare.{Bare}
use Rattle.dsdarc_c.specs.declared.bare.BareStage.{BareStage}
use Rattle.dsdarc_c.specs.declared.bare.BareStage.TheVariants as bare
use Rattle.dsdarc_c.specs.declared.joined.Joined.{Joined}
use Rattle.dsdarc_c.specs.declared.player.Player.{Player}
use Rattle.dsdarc_c.specs.declared.player.Player.TheVariants as players
use Rattle.dsdarc_c.specs.declared.pushing.Pushing.{Pushing}
use Rattle.dsdarc_c.specs.declared.pushing.Stage.{Stage}
use Rattle.dsdarc_c.specs.declared.pushing.Stage.TheVariants as stages

-- what holds of the player with a filter, of the one without, or of the one of files that follow each other
abbrev pub ByKind : Player → (Pushing → Type 0) → (Bare → Type 0) → (Joined → Type 0) → Type 0
ByKind (players.Frames p) P Q R = P p
ByKind (players.Bits p) P Q R = Q p
ByKind (players.Joined p) P Q R = R p

-- the sound that is kept as stated
abbrev pub stated_of : Player → Option Sound
stated_of (players.Frames p) = p.stated
stated_of (players.Bits p) = p.stated
stated_of (players.Joined p) = p.bare.stated

-- the bytes of frames that can be pulled
abbrev pub waits_of : Player → List ℕ
waits_of (players.Frames p) = waiting p
waits_of (players.Bits p) = bare_waiting p
waits_of (players.Joined p) = joined_waiting p

-- the bytes that are kept after the sound
abbrev pub back_of : Stage → List ℕ
back_of (stages.After s back) = back.items
back_of _ = []

-- the same without a filter
abbrev pub bare_back_of : BareStage → List ℕ
bare_back_of (bare.After s back) = back.items
bare_back_of _ = []

-- the bytes that are kept before the sound, or after it
abbrev pub kept_of : Player → Bool → List ℕ
kept_of (players.Frames p) false = p.header.items
kept_of (players.Frames p) true = back_of p.stage
kept_of (players.Bits p) false = p.header.items
kept_of (players.Bits p) true = bare_back_of p.stage
kept_of (players.Joined p) false = p.bare.header.items
kept_of (players.Joined p) true = bare_back_of p.bare.stage

-- the player gives bits in this layout
abbrev pub IsLaidOut : Player → Layout → Type 0
IsLaidOut (players.Frames p) layout = ⊥
IsLaidOut (players.Bits p) layout = p.layout ≡ layout
IsLaidOut (players.Joined p) layout = ⊥

-- the player has the filter that the project text states, and goes on with the file of the one before
abbrev pub HasFilterOf : Player → Bare → List ℕ → Type 0
HasFilterOf (players.Frames p) old text = IsFiltered old text p
HasFilterOf (players.Bits p) old text = ⊥
HasFilterOf (players.Joined p) old text = ⊥

-- the player gives frames of the recording by the filter that the project text states, and goes on with the files of the
-- one before
abbrev pub IsJoinedByFilter : Player → Joined → List ℕ → Type 0
IsJoinedByFilter (players.Joined p) old text = IsJoinFiltered old p text
IsJoinedByFilter _ old text = ⊥

-- n numbers were given, as many as fit of those that wait whole: the samples that the first of the waiting bytes hold; if
-- whole frames wait and fit, the samples of whole frames
pub record GivesNumbers (p : Pushing) (out_old out_new : List ℤ) (n : ℕ) : Type 0 where
  pub count : n ≡ min (length out_old) (length (waiting p) / (p.taps.width / 8))
  pub given : AreSamplesIn p.taps.width (first_samples p n) (take n out_new)
  pub others : drop n out_new ≡ drop n out_old
  pub whole : WaitsWhole p → AreWholeSamples p.stated (length out_old) → AreWholeSamples p.stated n
