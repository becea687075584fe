-- The bits of a sound that are given while its bytes come, from a frame on.
use Rattle.std.specs.Prelude.{◌≡◌, ◌<◌, ◌≤◌, ℕ, ◌+◌, ◌-◌, ◌*◌, ◌%◌, List, ◌++◌, drop, length, take, Option, None, Some}
use Rattle.dsd_bits.specs.declared.interleaving.Interleaving.TheVariants.{Bytes}
use Rattle.dsd_bits.specs.declared.sound.Sound.{Sound}
use Rattle.dsd_bits.specs.Sounds.{IsSound}
use Rattle.native_core.specs.Native.{frame_number, frame_size, native_of}
use Rattle.native_core.specs.declared.layout.Layout.{Layout}
use Rattle.native_core.specs.declared.run.BitRun.{BitRun}

-- how many bytes of a sound hold 32768 bits of each channel
abbrev pub group_size : Sound → ℕ
group_size s = s.channels * 4096

-- how many bytes n frames of a sound have
abbrev pub frames_size : Layout → Sound → ℕ → ℕ
frames_size layout s n = n * frame_size layout s.channels

-- the frames of the first groups of these bytes of a sound
abbrev pub group_frames : Layout → Sound → List ℕ → ℕ → List ℕ
group_frames layout s bytes groups =
    native_of layout s.interleaving s.channels (groups * 32768) (take (groups * group_size s) bytes)

-- the frames of a sound with these bytes, from one on to the last
abbrev pub frames_from : Layout → Sound → List ℕ → ℕ → List ℕ
frames_from layout s bytes start =
    drop (frames_size layout s start) (native_of layout s.interleaving s.channels s.count bytes)

-- the number of frames of a sound
abbrev pub total_frames : Layout → Sound → ℕ
total_frames layout s = frame_number layout s.count

-- how many bytes of the sound came
abbrev pub run_fed : BitRun → ℕ
run_fed r = r.group * group_size r.sound + length r.part.items

-- what holds of each run: it keeps what came of its sound since a group, and leaves out whole frames
pub record IsReady (r : BitRun) : Type 0 where
  pub sound : IsSound r.sound
  pub whole : r.sound.interleaving ≡ Bytes → r.sound.count % 8 ≡ 0
  pub some : r.group * 32768 ≤ r.sound.count
  pub fits : run_fed r ≤ r.sound.size
  pub skips : (frames : ℕ) × (r.skip ≡ frames_size r.layout r.sound frames)

-- of the sound whose first bytes these are, the run gave these bytes of the frames from one on: those of the groups
-- before the one that it keeps bytes of
pub record IsGiven (start : ℕ) (came given : List ℕ) (r : BitRun) : Type 0 where
  pub long : length came ≡ run_fed r
  pub part : r.part.items ≡ drop (r.group * group_size r.sound) came
  pub skip : r.skip ≡ frames_size r.layout r.sound start - frames_size r.layout r.sound (frame_number r.layout (r.group * 32768))
  pub given_is : given ≡ drop (frames_size r.layout r.sound start) (group_frames r.layout r.sound came r.group)

-- a run is of the same sound and layout as another
pub record IsSameRun (r q : BitRun) : Type 0 where
  pub layout : q.layout ≡ r.layout
  pub sound : q.sound ≡ r.sound

-- after these bytes a run gave this more, and goes on; if the sound ends there, it gave all frames from the first one on
abbrev pub GivesMore : BitRun → List ℕ → List ℕ → Option BitRun → Type 0
GivesMore r bytes more None =
    (run_fed r + length bytes ≡ r.sound.size)
    × ((start : ℕ) (came given : List ℕ) → IsGiven start came given r → given ++ more ≡ frames_from r.layout r.sound (came ++ bytes) start)
GivesMore r bytes more (Some q) =
    IsReady q × IsSameRun r q × (run_fed q ≡ run_fed r + length bytes) × (run_fed q < r.sound.size)
    × ((start : ℕ) (came given : List ℕ) → IsGiven start came given r → IsGiven start (came ++ bytes) (given ++ more) q)

-- more bytes were appended, those of whole frames
pub record FeedsRun (r : BitRun) (bytes old new : List ℕ) (next : Option BitRun) : Type 0 where
  pub more : List ℕ
  pub appends : new ≡ old ++ more
  pub frames : (n : ℕ) × (length more ≡ frames_size r.layout r.sound n)
  pub gives : GivesMore r bytes more next
