-- What is given by a filter of a recording that comes as a byte of each channel in turn, and whose end isn't known before.
use Rattle.std.specs.Prelude.{◌≡◌, ◌<◌, ◌≤◌, ℕ, ◌+◌, ◌*◌, ◌/◌, ◌^◌, List, ◌++◌, drop, length}
use Rattle.dsd_bits.specs.declared.interleaving.Interleaving.TheVariants.{Bytes}
use Rattle.dsd_bits.specs.declared.sound.Sound.{Sound}
use Rattle.dsd_bits.specs.Limits.{IsRate}
use Rattle.fir_core.specs.Decimator.{Decimator, IsWithinLimits}
use Rattle.player_core.specs.Due.{all_bytes, frames_due}
use Rattle.player_core.specs.Laws.{total_frames}
use Rattle.player_core.specs.Parts.{groups_before}
use Rattle.player_core.specs.PartView.{IsPartFed, IsPartOf, IsPartPlayer, part_due}
use Rattle.player_core.specs.PausedView.{IsPausedPart}
use Rattle.player_core.specs.declared.parts.PartPlayer.{PartPlayer}
use Rattle.player_core.specs.declared.pausing.PausedPart.{PausedPart}
use Rattle.joined_core.specs.declared.frames.FrameGiver.{FrameGiver}

-- a sound of n channels, each of this many bytes, with a byte of each channel in turn
abbrev pub joined_sound : ℕ → ℕ → ℕ → Sound
joined_sound rate n bytes = record {
  rate = rate;
  channels = n;
  count = bytes * 8;
  start = 0;
  size = bytes * n;
  interleaving = Bytes;
}

-- the longest recording: 2 ^ 36 bits of each channel
abbrev pub longest : ℕ → ℕ → Sound
longest rate n = joined_sound rate n (2 ^ 33)

-- the bytes of all frames of a recording of n channels with these sound bytes, by a filter: the whole-number convolution
-- of its bits, rounded and clipped
abbrev pub joined_frames : Decimator → ℕ → ℕ → List ℕ → List ℕ
joined_frames d rate n bytes = all_bytes d (joined_sound rate n (length bytes / n)) bytes

-- a player of all frames of this sound pauses: it was fed these bytes, and gave the bytes of the frames that were due
pub record HasPlayedOn (d : Decimator) (s : Sound) (before given : List ℕ) (p : PartPlayer) (q : PausedPart) : Type 0 where
  pub paused : IsPausedPart p q
  pub part : IsPartOf d s 0 (total_frames d s) p
  pub ready : IsPartPlayer p
  pub fed : IsPartFed p before
  pub due : part_due p before ≡ given

-- whatever the player was fed that paused, it was fed these bytes after it, gave more, and pauses again
pub record PlaysMore (d : Decimator) (old : PausedPart) (bytes out_old out_new : List ℕ) (new : PausedPart) : Type 0 where
  pub more : List ℕ
  pub appends : out_new ≡ out_old ++ more
  pub plays : (s : Sound) (before given : List ℕ) (p : PartPlayer) → HasPlayedOn d s before given p old
      → (player : PartPlayer) × HasPlayedOn d s (before ++ bytes) (given ++ more) player new

-- after these bytes, these frames were given: those of the longest recording that were due; the bytes from the first one
-- on that the next frame reads are kept
pub record HasGivenFrames (bytes given : List ℕ) (g : FrameGiver) : Type 0 where
  pub player : PartPlayer
  pub played : HasPlayedOn g.taps g.sound bytes given player g.paused
  pub fed : g.fed ≡ length bytes
  pub number : g.number ≡ frames_due g.taps g.sound (length bytes)
  pub tail : g.tail.items ≡ drop (groups_before g.taps Bytes g.number * g.sound.channels) bytes

-- what holds of each that gives frames
pub record IsFrameGiver (g : FrameGiver) : Type 0 where
  pub limits : IsWithinLimits g.taps
  pub some : 1 ≤ g.sound.channels
  pub six : g.sound.channels ≤ 6
  pub rate : IsRate g.sound.rate
  pub longest_is : g.sound ≡ longest g.sound.rate g.sound.channels
  pub few : g.fed < 2 ^ 33 * g.sound.channels
  pub history : (bytes : List ℕ) × (given : List ℕ) × HasGivenFrames bytes given g

-- after these bytes more was given, by the same filter
pub record TakesFrames (old : FrameGiver) (bytes out_old out_new : List ℕ) (new : FrameGiver) : Type 0 where
  pub ready : IsFrameGiver new
  pub taps : new.taps ≡ old.taps
  pub sound : new.sound ≡ old.sound
  pub fed : new.fed ≡ old.fed + length bytes
  pub more : List ℕ
  pub appends : out_new ≡ out_old ++ more
  pub gives : (before given : List ℕ) → HasGivenFrames before given old → HasGivenFrames (before ++ bytes) (given ++ more) new

-- if the recording ends with a whole byte of each channel, all its frames were given
pub record FinishesFrames (g : FrameGiver) (out_old out_new : List ℕ) : Type 0 where
  pub more : List ℕ
  pub appends : out_new ≡ out_old ++ more
  pub all : (bytes given : List ℕ) (frames : ℕ) → length bytes ≡ frames * g.sound.channels → HasGivenFrames bytes given g
      → given ++ more ≡ joined_frames g.taps g.sound.rate g.sound.channels bytes
