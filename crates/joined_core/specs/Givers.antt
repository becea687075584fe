-- What is given of a recording that comes as a byte of each channel in turn, however it is given.
use Rattle.std.specs.Prelude.{◌≡◌, ◌<◌, ℕ, ◌+◌, ◌*◌, ◌^◌, List, ◌++◌, length}
use Rattle.fir_core.specs.Decimator.{Decimator}
use Rattle.native_core.specs.declared.layout.Layout.{Layout}
use Rattle.joined_core.specs.Bits.{HasGivenBits, IsBitGiver, joined_bits}
use Rattle.joined_core.specs.Frames.{HasGivenFrames, IsFrameGiver, joined_frames}
use Rattle.joined_core.specs.declared.giver.Giver.{Giver}
use Rattle.joined_core.specs.declared.giver.Giver.TheVariants as givers

-- how recordings are given: the bytes of all frames of one with these sound bytes, and how many channels it has
pub record Way : Type 0 where
  pub frames : List ℕ → List ℕ
  pub channels : ℕ

-- the bits of n channels in a layout
abbrev pub bits_way : Layout → ℕ → Way
bits_way layout n = record { frames = joined_bits layout n; channels = n }

-- the frames of n channels at this rate, in hertz, by a filter
abbrev pub frames_way : Decimator → ℕ → ℕ → Way
frames_way d rate n = record { frames = joined_frames d rate n; channels = n }

-- how this gives them
abbrev pub way_of : Giver → Way
way_of (givers.Bits g) = bits_way g.layout g.channels
way_of (givers.Frames g) = frames_way g.taps g.sound.rate g.sound.channels

-- how many bytes came
abbrev pub fed_of : Giver → ℕ
fed_of (givers.Bits g) = g.fed
fed_of (givers.Frames g) = g.fed

-- a recording has fewer bytes
abbrev pub room : Giver → ℕ
room g = 2 ^ 33 * (way_of g).channels

-- what holds of each that gives frames
abbrev pub IsGiver : Giver → Type 0
IsGiver (givers.Bits g) = IsBitGiver g
IsGiver (givers.Frames g) = IsFrameGiver g

-- after these bytes, the bytes of these frames were given
abbrev pub HasGiven : List ℕ → List ℕ → Giver → Type 0
HasGiven bytes given (givers.Bits g) = HasGivenBits bytes given g
HasGiven bytes given (givers.Frames g) = HasGivenFrames bytes given g

-- these bytes come first among those of the frames of each recording of whole bytes that begins with these
abbrev pub ComesFirst : Way → List ℕ → List ℕ → Type 0
ComesFirst way bytes out = (rest : List ℕ) (frames : ℕ) → length (bytes ++ rest) ≡ frames * way.channels → frames < 2 ^ 33
    → (more : List ℕ) × (way.frames (bytes ++ rest) ≡ out ++ more)

-- after these bytes more was given, in the same way
pub record Takes (old : Giver) (bytes out_old out_new : List ℕ) (new : Giver) : Type 0 where
  pub ready : IsGiver new
  pub way : way_of new ≡ way_of old
  pub fed : fed_of new ≡ fed_of old + length bytes
  pub more : List ℕ
  pub appends : out_new ≡ out_old ++ more
  pub gives : (before given : List ℕ) → HasGiven before given old → HasGiven (before ++ bytes) (given ++ more) new

-- if the recording ends with a whole byte of each channel, all its frames were given
pub record Finishes (g : Giver) (out_old out_new : List ℕ) : Type 0 where
  pub more : List ℕ
  pub appends : out_new ≡ out_old ++ more
  pub all : (bytes given : List ℕ) (frames : ℕ) → length bytes ≡ frames * (way_of g).channels → HasGiven bytes given g → given ++ more ≡ (way_of g).frames bytes

-- law: what was given comes first
abbrev pub GivenComesFirst : Type 0
GivenComesFirst = (g : Giver) (bytes given : List ℕ) → IsGiver g → HasGiven bytes given g → ComesFirst (way_of g) bytes given
