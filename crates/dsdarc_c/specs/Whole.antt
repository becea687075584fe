-- A whole file that is pushed piece by piece, and what was pulled of its frames.
use Rattle.std.specs.Prelude.{◌≡◌, ℕ, ◌+◌, ◌-◌, ◌≤◌, ◌⊎◌, List, [], ◌++◌, drop, length, slice_range, take, Option, None, Some}
use Rattle.dsd_bits.specs.declared.interleaving.Interleaving.{Interleaving}
use Rattle.dsd_bits.specs.declared.interleaving.Interleaving.TheVariants.{Blocks, Bytes}
use Rattle.dsd_bits.specs.declared.sound.Sound.{Sound}
use Rattle.dsd_bits.specs.Sounds.{sound_bytes}
use Rattle.dsdiff_core.specs.Headers.{left_after}
use Rattle.fir_core.specs.Decimator.{Decimator}
use Rattle.player_core.specs.Laws.{total_frames}
use Rattle.player_core.specs.Parts.{part_bytes}
use Rattle.player_core.specs.PartView.{part_rest, part_start}
use Rattle.player_core.specs.declared.parts.PartPlayer.{PartPlayer}
use Rattle.player_core.specs.declared.pausing.PausedPart.{PausedPart}
use Rattle.dsdarc_c.specs.Playing.{HasPlayed}
use Rattle.dsdarc_c.specs.Pushing.{AreWholeFrames, IsPushedHeader}
use Rattle.dsdarc_c.specs.declared.pushing.Pushing.{Pushing}
use Rattle.dsdarc_c.specs.declared.pushing.Stage.{Stage}
use Rattle.dsdarc_c.specs.declared.pushing.Stage.TheVariants as stages

-- the file has these bytes at this place
abbrev pub HasAt : List ℕ → ℕ → List ℕ → Type 0
HasAt file place bytes = bytes ≡ slice_range file place (place + length bytes)

-- the file begins with these bytes
abbrev pub BeginsWith : List ℕ → List ℕ → Type 0
BeginsWith file header = header ≡ take (length header) file

-- the bytes of the frames of a file's sound, from this frame to the last
abbrev pub frames_from : Decimator → Sound → List ℕ → ℕ → List ℕ
frames_from d s file start = part_bytes d s (sound_bytes file s) start (total_frames d s)

-- these bytes are a prefix of those
abbrev pub IsPrefixOf : List ℕ → List ℕ → Type 0
IsPrefixOf out whole = (more : List ℕ) × (whole ≡ out ++ more)

-- if the file has all bytes of the sound, its frames from this one on begin with these bytes
abbrev pub ComeFirst : Decimator → Sound → List ℕ → ℕ → List ℕ → Type 0
ComeFirst d s file start out = s.start + s.size ≤ length file → IsPrefixOf out (frames_from d s file start)

-- these bytes come first among the frames of the sound that the file's header states
abbrev pub ComeFirstInFile : Decimator → List ℕ → ℕ → List ℕ → Type 0
ComeFirstInFile d file start out = (s : Sound) × IsPushedHeader (take s.start file) s × ComeFirst d s file start out

-- there are no bytes, or they come first among the frames of the sound that the file's header states
abbrev pub IsPrefixOfFrames : Decimator → List ℕ → ℕ → List ℕ → Type 0
IsPrefixOfFrames d file start out = (out ≡ []) ⊎ ComeFirstInFile d file start out

-- if the file has all bytes of the sound, these are the bytes of its frames from this one on
abbrev pub AreAllFrames : Decimator → Sound → List ℕ → ℕ → List ℕ → Type 0
AreAllFrames d s file start out = s.start + s.size ≤ length file → out ≡ frames_from d s file start

-- how many bytes are kept of so many after a sound: all of those of a DSDIFF form, and none of a DSF file
abbrev pub kept_in : Interleaving → ℕ → ℕ
kept_in Bytes left = left
kept_in (Blocks order) left = 0

-- how many more bytes after a sound are kept, where n are kept already
abbrev pub still_kept : List ℕ → Sound → ℕ → ℕ
still_kept header s n = kept_in s.interleaving (left_after header s.size - n)

-- the bytes of a file from the end of its sound up to this place, as far as they are in the DSDIFF form
abbrev pub form_bytes : List ℕ → List ℕ → Sound → ℕ → List ℕ
form_bytes file header s place = take (left_after header s.size) (slice_range file (s.start + s.size) place)

-- these bytes of a DSDIFF file are kept after its sound: those up to this place, as far as they are in the form
abbrev pub KeepsForm : List ℕ → List ℕ → Sound → ℕ → List ℕ → Type 0
KeepsForm file header s place back = s.interleaving ≡ Bytes → back ≡ form_bytes file header s place

-- the file has come to the end of its sound
abbrev pub IsPastSound : Stage → Type 0
IsPastSound stage = (s : Sound) × (back : _) × (stage ≡ stages.After s back)

-- ---- a player and a file
-- a player that pauses got the bytes of the file's sound that it reads, up to this place, and gave these bytes of
-- frames
pub record PlaysSoundOf (d : Decimator) (file : List ℕ) (start : ℕ) (out header : List ℕ) (place : ℕ) (s : Sound) (q : PausedPart) (left : ℕ) : Type 0 where
  pub begins : BeginsWith file header
  pub player : PartPlayer
  pub played : HasPlayed d s start (slice_range file (s.start + part_start player) place) out player q
  pub long : length (slice_range file (s.start + part_start player) place) + left ≡ (part_rest player).size
  pub after : (s.start + part_start player ≤ place) ⊎ (left ≡ 0)

-- the whole sound was pushed: all frames were given, and these bytes of the form after it are kept
abbrev pub PlaysAllOf : Decimator → List ℕ → ℕ → List ℕ → List ℕ → ℕ → Sound → List ℕ → Type 0
PlaysAllOf d file start out header place s back =
    BeginsWith file header × AreAllFrames d s file start out × KeepsForm file header s place back

-- the same of a player that pauses; without one, all frames were given, and nothing after the sound was pushed
abbrev pub PlaysRestOf : Decimator → List ℕ → ℕ → List ℕ → List ℕ → ℕ → Sound → Option PausedPart → ℕ → Type 0
PlaysRestOf d file start out header place s None left = PlaysAllOf d file start out header place s []
PlaysRestOf d file start out header place s (Some q) left = PlaysSoundOf d file start out header place s q left

-- what each stage says of the file's bytes before this place, and of the bytes of frames that were given since the
-- frame that was sought
abbrev pub PlaysStageOf : Decimator → List ℕ → ℕ → List ℕ → List ℕ → ℕ → Stage → Type 0
PlaysStageOf d file start out header place (stages.Header walked) = BeginsWith file header × (start ≡ 0) × (out ≡ [])
PlaysStageOf d file start out header place (stages.Sound s q left) = PlaysSoundOf d file start out header place s q left
PlaysStageOf d file start out header place (stages.After s back) = PlaysAllOf d file start out header place s back.items
PlaysStageOf d file start out header place stages.Failed = IsPrefixOfFrames d file start out

-- the bytes of frames that can be pulled
abbrev pub waiting : Pushing → List ℕ
waiting p = drop p.pulled p.pending.items

-- what waits are the bytes of whole frames
abbrev pub WaitsWhole : Pushing → Type 0
WaitsWhole p = AreWholeFrames p.taps p.stated (length (waiting p))

-- the player was pushed the bytes of this file, and these bytes of its frames were pulled since this frame was sought,
-- or since the file's first byte
pub record PlaysPushedFile (file : List ℕ) (start : ℕ) (pulled : List ℕ) (p : Pushing) : Type 0 where
  pub stage : PlaysStageOf p.taps file start (pulled ++ waiting p) p.header.items p.place p.stage

-- the file ends here: what was pulled and what can be pulled are all its frames from this one on
pub record EndsFile (file : List ℕ) (start : ℕ) (pulled : List ℕ) (p : Pushing) : Type 0 where
  pub sound : Sound
  pub header : IsPushedHeader (take sound.start file) sound
  pub in_file : sound.start + sound.size ≤ length file
  pub all : pulled ++ waiting p ≡ frames_from p.taps sound file start
