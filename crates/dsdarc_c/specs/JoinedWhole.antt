-- Whole files that are pushed one after the other, and what was pulled of the recording that they make.
use Rattle.std.specs.Prelude.{◌≡◌, ◌⊎◌, ◌≤◌, ◌+◌, ◌*◌, ℕ, List, [], ◌++◌, length, take}
use Rattle.dsd_bits.specs.declared.sound.Sound.{Sound}
use Rattle.joined_core.specs.Givers.{ComesFirst, HasGiven, Way, way_of}
use Rattle.dsdarc_c.specs.BareWhole.{IsPrefixOfBits, PlaysBits, bits_from}
use Rattle.dsdarc_c.specs.Joined.{IsBeforeOwn, joined_waiting, own_layout}
use Rattle.dsdarc_c.specs.Pushing.{IsPushedHeader}
use Rattle.dsdarc_c.specs.declared.bare.Bare.{Bare}
use Rattle.dsdarc_c.specs.declared.bare.BareStage.{BareStage}
use Rattle.dsdarc_c.specs.declared.joined.JoinStage.{JoinStage}
use Rattle.dsdarc_c.specs.declared.joined.JoinStage.TheVariants as joins
use Rattle.dsdarc_c.specs.declared.joined.Joined.{Joined}

-- these are the bytes of all frames of the recording with these sound bytes, if they are whole bytes of each channel
abbrev pub AreAllOf : Way → List ℕ → List ℕ → Type 0
AreAllOf way bytes out = (frames : ℕ) → length bytes ≡ frames * way.channels → out ≡ way.frames bytes

-- these bytes come first among them
abbrev pub AreFirstOf : Way → List ℕ → List ℕ → Type 0
AreFirstOf way bytes out = (frames : ℕ) → length bytes ≡ frames * way.channels → (more : List ℕ) × (way.frames bytes ≡ out ++ more)

-- what each stage says of the sound bytes that came of all files, and of the bytes of frames that were given
abbrev pub PlaysJoinStage : Way → JoinStage → List ℕ → List ℕ → Type 0
PlaysJoinStage way joins.Choosing bytes out = (bytes ≡ []) × (out ≡ [])
PlaysJoinStage way (joins.Giving g) bytes out = (way_of g ≡ way) × HasGiven bytes out g
PlaysJoinStage way (joins.Ended g) bytes out = (way_of g ≡ way) × AreAllOf way bytes out
PlaysJoinStage way joins.Failed bytes out = ComesFirst way bytes out

-- what is known of the file: the player goes on with it, or these bits come first in its sound
abbrev pub PlaysFile : JoinStage → List ℕ → List ℕ → Bare → Type 0
PlaysFile joins.Choosing file bits bare = PlaysBits file 0 bits bare
PlaysFile (joins.Giving g) file bits bare = PlaysBits file 0 bits bare
PlaysFile (joins.Ended g) file bits bare = IsPrefixOfBits own_layout file 0 bits
PlaysFile joins.Failed file bits bare = IsPrefixOfBits own_layout file 0 bits

-- the files before have these sound bytes, a byte of each channel in turn, and the player was pushed bytes of this file
-- after them; these bytes of frames were pulled of the recording that they make
pub record PlaysJoined (way : Way) (before file pulled : List ℕ) (p : Joined) : Type 0 where
  pub bits : List ℕ
  pub plays : PlaysFile p.stage file bits p.bare
  pub stage : PlaysJoinStage way p.stage (before ++ bits) (pulled ++ joined_waiting p)

-- these are all sound bytes of a file, a byte of each channel in turn, its earliest bit the most significant
pub record AreSoundOf (file own : List ℕ) : Type 0 where
  pub sound : Sound
  pub header : IsPushedHeader (take sound.start file) sound
  pub in_file : sound.start + sound.size ≤ length file
  pub own_is : own ≡ bits_from own_layout sound file 0

-- a file that ends here adds these sound bytes to the recording: all of them, or none if its sound has not started
abbrev pub AddsOwn : BareStage → List ℕ → List ℕ → Type 0
AddsOwn stage file own = (IsBeforeOwn stage × (own ≡ [])) ⊎ AreSoundOf file own

-- what was pulled comes first among the frames of each recording of whole bytes that begins with the sound bytes of the
-- files before and those that came of this file, which are the first of its sound; or, if the recording has ended, among
-- the frames of the recording of these bytes
pub record GaveFirst (way : Way) (before file pulled : List ℕ) : Type 0 where
  pub bits : List ℕ
  pub own : IsPrefixOfBits own_layout file 0 bits
  pub first : ComesFirst way (before ++ bits) pulled ⊎ AreFirstOf way (before ++ bits) pulled

-- the recording ends: what was pulled and what can be pulled are all frames of the recording with these sound bytes, if
-- they are whole bytes of each channel
abbrev pub EndsRecording : Way → List ℕ → List ℕ → Joined → Type 0
EndsRecording way bytes pulled p = AreAllOf way bytes (pulled ++ joined_waiting p)
