-- What is played from a reader to a writer, and which faults apply.
use Rattle.std.specs.Prelude.{◌≡◌, ℕ, ◌-◌, ◌%◌, ◌<◌, ◌⊎◌, List, Option, Some, IfSome, Err, ⊤}
use Rattle.dsd_bits.specs.Contents.{Content}
use Rattle.dsd_bits.specs.declared.sound.Sound.{Sound}
use Rattle.fir_core.specs.Decimator.{Decimator}
use Rattle.wave_core.specs.Heads.{text_in}
use Rattle.wave_core.specs.declared.head.WaveHead.{WaveHead}
use Rattle.form_core.specs.declared.form.Form.{Form}
use Rattle.form_core.specs.Forms.{HoldsAs}
use Rattle.form_core.specs.Opening.{opened_of}
use Rattle.form_core.specs.Steps.{FailsUnless}
use Rattle.sound_core.specs.Faults as streams
use Rattle.sound_core.specs.Files.{LeadsToSound}
use Rattle.sound_core.specs.Naming.{IfRefusedAs, IsExactUnless, plain}
use Rattle.sound_core.specs.Sinks.{sound_given}
use Rattle.sound_core.specs.declared.fault.Unread.{Unread}
use Rattle.player_core.specs.Frames.{frame_count}
use Rattle.player_core.specs.Pace.{WritesFrames}
use Rattle.player_core.specs.Playing.{Applies, IsLackedBySome, range_pcm}
use Rattle.player_core.specs.Ranges.{IsInside}
use Rattle.player_core.specs.declared.range.WaveRange.{WaveRange}
use Rattle.request_core.specs.declared.fault.Fault.{Fault}
use Rattle.request_core.specs.declared.fault.Fault.TheVariants.{Project, NoDecimation, Memory}
use Rattle.request_core.specs.Faults.{OfStream, OfUnread}
use Rattle.request_core.specs.Projects.{SaysDecimator, decimator_of_text}

-- the frames from one on, up to another that is not among them, in a file whose header is written so
abbrev pub part_range : WaveHead → ℕ → ℕ → WaveRange
part_range head start stop = record { start = start; stop = Some stop; head = head }

-- the project's text says a decimator, the file holds a recording that has these frames, the factor divides its rate,
-- and these bytes are the text of a WAVE file of their samples
pub record PlaysRange (project : List ℕ) (range : WaveRange) (file bytes : List ℕ) : Type 0 where
  pub decimator : Decimator
  pub form : Form
  pub recording : Content
  pub project_says : SaysDecimator project decimator
  pub file_holds : HoldsAs file form recording
  pub rate_divided : recording.rate % decimator.factor ≡ 0
  pub inside : IsInside range (frame_count decimator recording.channels)
  pub text : text_in range.head (range_pcm recording decimator range) ≡ Some bytes

-- a file that can be played is refused only for memory, a device or the number of reads
abbrev pub OnlyFromOutside : Option (List ℕ) → List ℕ → WaveRange → Fault → Type 0
OnlyFromOutside left project range fault = IfSome left (λ file. (bytes : List ℕ) → PlaysRange project range file bytes → OfStream streams.IsFromOutside fault)

-- if more than 131,072 bytes of the sound of a file that can be played were read, what was written lags by at most that
-- many: it holds the header, and each frame of the range whose place is in the bytes before
abbrev pub KeepsUp : Option (List ℕ) → List ℕ → WaveRange → ℕ → Option (List ℕ) → Option (List ℕ) → Type 0
KeepsUp left project range given held_old held_new = IfSome left (λ file. (bytes : List ℕ) (s : Sound) (plays : PlaysRange project range file bytes) → LeadsToSound file s → 131072 < sound_given s given
    → WritesFrames plays.decimator s range (sound_given s given - 131072) bytes held_old held_new)

-- an answer is right for a reader's file, if that is known: its fault applies, and one that is named is the file's first;
-- none is missing, but where a sound may lack frames of the range
pub record UnreadApplies (left : Option (List ℕ)) (d : Decimator) (range : WaveRange) (u : Unread) : Type 0 where
  pub applies : IfSome left (λ file. Applies d range file (plain u))
  pub first : IfSome left (λ file. IfRefusedAs u (λ fault. opened_of file ≡ Err fault))
  pub exact : IsExactUnless (IsLackedBySome d range) u

-- this fault applies: it is the first of the project and its decimator, or is right for a file that is played by that
abbrev pub StreamApplies : Option (List ℕ) → List ℕ → WaveRange → Fault → Type 0
StreamApplies left project range fault = FailsUnless Memory fault (decimator_of_text project) ⊎ ((d : Decimator) × SaysDecimator project d × OfUnread (UnreadApplies left d range) fault)

-- a fault that comes before the first write
abbrev pub FailsBeforeWriting : Fault → Type 0
FailsBeforeWriting (Project fault) = ⊤
FailsBeforeWriting NoDecimation = ⊤
FailsBeforeWriting fault = OfStream streams.IsBeforeWriting fault

-- the project describes no decimator: it is refused, or has none
abbrev pub SaysNone : List ℕ → Type 0
SaysNone project = (d : Decimator) → SaysDecimator project d → ⊥
