-- What a folder comes to where a part of one of its files is played to another.
use Rattle.std.specs.Prelude.{◌≡◌, ℕ, List, ◌++◌, length, IsTrue, Option, None, Some, ◌⊎◌, Result, Ok, Err, ⊤}
use Rattle.dsd_bits.specs.Contents.{MarkContent}
use Rattle.dsd_bits.specs.declared.sound.Sound.{Sound}
use Rattle.sound_core.specs.Files.{LeadsToSound}
use Rattle.request_core.specs.declared.fault.Fault as calls
use Rattle.request_core.specs.declared.fault.Fault.TheVariants.{Memory}
use Rattle.transfer_core.specs.declared.frames.PlayedFrames.{PlayedFrames}
use Rattle.place_core.specs.declared.place.Place.{Place}
use Rattle.place_core.specs.declared.place.Place.TheVariants.{Time, Frame, Mark}
use Rattle.transfer_core.specs.declared.spans.Span.{Span}
use Rattle.request_core.specs.declared.span_fault.SpanFault.{SpanFault}
use Rattle.transfer_core.specs.Spans.{AreFramesOf, FramesRefused, IsSpanOf, SpanRefused}
use Rattle.transfer_core.specs.Streaming.{PlaysRange, part_range}
use Rattle.wave_core.specs.declared.head.WaveHead.{WaveHead}
use Rattle.folder_core.specs.Files.{OpensAs, IsPut, IsReadOf, KeepsOthers, View}
use Rattle.transfer_commands.specs.Gaps.{IsFactorOf}
use Rattle.transfer_commands.specs.Playing.{EndsPlaying, NamesRead}
use Rattle.transfer_commands.specs.Reporting.{IsReportOf, IsUnreported}
use Rattle.transfer_commands.specs.declared.fault.CommandFault.TheVariants.{Call, ReadFailed, WriteFailed}
use Rattle.transfer_commands.specs.declared.parts.Part.{Part}
use Rattle.transfer_commands.specs.declared.parts.PartFault.{PartFault}
use Rattle.transfer_commands.specs.declared.parts.PartFault.TheVariants.{Command, Span as Spans}
use Rattle.transfer_commands.specs.declared.reporting.Reported.{Reported}

-- bytes that were read of the file hold what is reported
pub record ReportsRead (file_name : List ℕ) (old : View) (reported : Reported) : Type 0 where
  pub file : List ℕ
  pub file_read : IsReadOf old file_name file
  pub is_known : IsReportOf file reported

-- the first of some bytes that were read of the file describe a sound
pub record DescribesRead (file_name : List ℕ) (old : View) (sound : Sound) : Type 0 where
  pub prefix : List ℕ
  pub rest : List ℕ
  pub file_read : IsReadOf old file_name (prefix ++ rest)
  pub states : LeadsToSound prefix sound

-- P holds of the rate, the number of bits of a channel and the marks of a recording that was read of the file; or,
-- whichever marks there are, of a sound that the first bytes describe
abbrev pub HoldsOfRead : List ℕ → View → (ℕ → ℕ → List MarkContent → Type 0) → Type 0
HoldsOfRead file_name old P = ((reported : Reported) × ReportsRead file_name old reported × P reported.description.rate reported.description.count reported.description.marks)
    ⊎ ((sound : Sound) × DescribesRead file_name old sound × ((marks : List MarkContent) → P sound.rate sound.count marks))

-- a span has these frames in a recording with this rate, number of bits and marks, by a project
pub record HasSpan (project : List ℕ) (span : Span) (start stop rate count : ℕ) (marks : List MarkContent) : Type 0 where
  pub frames : PlayedFrames
  pub frames_are : AreFramesOf project rate count frames
  pub span_is : IsSpanOf frames rate marks span start stop

-- a project plays frames of such a recording, but a span has none of them: its fault is so
pub record LacksSpan (project : List ℕ) (span : Span) (fault : SpanFault) (rate count : ℕ) (marks : List MarkContent) : Type 0 where
  pub frames : PlayedFrames
  pub frames_are : AreFramesOf project rate count frames
  pub refused : SpanRefused frames rate marks span fault
  pub none : (start stop : ℕ) → IsSpanOf frames rate marks span start stop → ⊥

-- a span has these frames in bytes that were read of the file: by all that they hold, or by the sound that the first of
-- them describe
abbrev pub FindsSpan : List ℕ → List ℕ → View → Span → ℕ → ℕ → Type 0
FindsSpan project file_name old span start stop = HoldsOfRead file_name old (HasSpan project span start stop)

-- a part was found: it is played by this project, whose filter has its factor, and its frames are those of the span
abbrev pub IsFound : List ℕ → List ℕ → View → Span → Part → Type 0
IsFound project file_name old span part = (part.project.now ≡ project) × IsFactorOf part.project.now part.factor × FindsSpan project file_name old span part.start part.stop

-- the project plays no frames of a recording with this rate, for this fault
abbrev pub PlaysNone : List ℕ → calls.Fault → ℕ → ℕ → List MarkContent → Type 0
PlaysNone project fault rate count marks = FramesRefused project rate fault

-- why a part is not found by a project's text: memory ran out, the file was not read or holds no recording, the project
-- plays none of it, or the span has no frames in it
abbrev pub IsUnfound : List ℕ → List ℕ → View → Span → PartFault → Type 0
IsUnfound project file_name old span (Command (Call fault)) = (fault ≡ Memory) ⊎ (IsUnreported file_name old fault ⊎ HoldsOfRead file_name old (PlaysNone project fault))
IsUnfound project file_name old span (Command ReadFailed) = ⊤
IsUnfound project file_name old span (Command WriteFailed) = ⊥
IsUnfound project file_name old span (Spans fault) = HoldsOfRead file_name old (LacksSpan project span fault)

-- ---- a part that is found by what is reported
-- a span has these frames in what is reported of a file
abbrev pub HasSpanInReport : List ℕ → Reported → Span → ℕ → ℕ → Type 0
HasSpanInReport project reported span start stop = HasSpan project span start stop reported.description.rate reported.description.count reported.description.marks

-- why a part is not found by what is reported of a file: memory ran out, the project plays none of it, or the span has no
-- frames in it
abbrev pub IsNotInReport : List ℕ → Reported → Span → PartFault → Type 0
IsNotInReport project reported span (Command (Call fault)) = FramesRefused project reported.description.rate fault
IsNotInReport project reported span (Command ReadFailed) = ⊥
IsNotInReport project reported span (Command WriteFailed) = ⊥
IsNotInReport project reported span (Spans fault) = LacksSpan project span fault reported.description.rate reported.description.count reported.description.marks

-- ---- a part that is found by a sound
-- a span has these frames in a sound, whichever marks there are
abbrev pub HasSpanInSound : List ℕ → Sound → Span → ℕ → ℕ → Type 0
HasSpanInSound project sound span start stop = (marks : List MarkContent) → HasSpan project span start stop sound.rate sound.count marks

-- a span's place is a mark
abbrev pub IsMark : Option Place → Type 0
IsMark (Some (Mark number)) = ⊤
IsMark (Some (Time nanoseconds)) = ⊥
IsMark (Some (Frame number)) = ⊥
IsMark None = ⊥

-- a span begins or ends at a mark
abbrev pub NamesMark : Span → Type 0
NamesMark span = IsMark span.from ⊎ IsMark span.to

-- why a span that names no mark has no frames in a sound, whichever marks there are
abbrev pub IsNotInSound : List ℕ → Sound → Span → PartFault → Type 0
IsNotInSound project sound span (Command (Call fault)) = FramesRefused project sound.rate fault
IsNotInSound project sound span (Command ReadFailed) = ⊥
IsNotInSound project sound span (Command WriteFailed) = ⊥
IsNotInSound project sound span (Spans fault) = (NamesMark span → ⊥) → (marks : List MarkContent) → LacksSpan project span fault sound.rate sound.count marks

-- ---- the files
-- the output holds `count` bytes now: the WAVE file of the span's part of the recording that was read, as the project
-- that was read plays it; no other file changed
pub record PlaysPartFiles (head : WaveHead) (project_name file_name output_name : List ℕ) (span : Span) (old new : View) (count : ℕ) : Type 0 where
  pub project : List ℕ
  pub file : List ℕ
  pub bytes : List ℕ
  pub start : ℕ
  pub stop : ℕ
  pub project_read : IsReadOf old project_name project
  pub file_read : IsReadOf old file_name file
  pub has_span : FindsSpan project file_name old span start stop
  pub output_put : IsPut new output_name bytes
  pub others : KeepsOthers output_name old new
  pub plays : PlaysRange project (part_range head start stop) file bytes
  pub counted : count ≡ length bytes

-- the same of bytes that openings of the project and of a file give, where the folder has known bytes
pub record LeavesPart (head : WaveHead) (project_name file_name output_name : List ℕ) (span : Span) (old new : View) (fault : calls.Fault) : Type 0 where
  pub project : List ℕ
  pub start : ℕ
  pub stop : ℕ
  pub project_read : IsReadOf old project_name project
  pub has_span : FindsSpan project file_name old span start stop
  pub ended : IsTrue old.is_known → (file : List ℕ) × OpensAs old file_name file × EndsPlaying project (part_range head start stop) file output_name old new fault
  pub named : NamesRead file_name old fault
  pub others : KeepsOthers output_name old new

-- a text was read of the project by which the span's part of the file is not found, for this fault; nothing changed
pub record IsPartRefused (project_name file_name : List ℕ) (span : Span) (old new : View) (fault : PartFault) : Type 0 where
  pub project : List ℕ
  pub project_read : IsReadOf old project_name project
  pub unfound : IsUnfound project file_name old span fault
  pub same : new ≡ old

-- the span's part was found, but the output was not created, written or kept: it is as it was, and so is each other
-- file
pub record IsPartUnwritten (project_name file_name output_name : List ℕ) (span : Span) (old new : View) : Type 0 where
  pub project : List ℕ
  pub start : ℕ
  pub stop : ℕ
  pub project_read : IsReadOf old project_name project
  pub has_span : FindsSpan project file_name old span start stop
  pub same : new.file output_name ≡ old.file output_name
  pub others : KeepsOthers output_name old new

-- the folder before and after a part of the input was played to the output, whose header is written so, by the project
-- came to this
abbrev pub PlayPartComesTo : WaveHead → List ℕ → List ℕ → List ℕ → Span → View → View → Result ℕ PartFault → Type 0
PlayPartComesTo head project input output span old new (Ok count) = PlaysPartFiles head project input output span old new count
PlayPartComesTo head project input output span old new (Err (Command (Call fault))) = ((new ≡ old) × (fault ≡ Memory)) ⊎ (IsPartRefused project input span old new (Command (Call fault)) ⊎ LeavesPart head project input output span old new fault)
PlayPartComesTo head project input output span old new (Err (Command ReadFailed)) = new ≡ old
PlayPartComesTo head project input output span old new (Err (Command WriteFailed)) = IsPartUnwritten project input output span old new
PlayPartComesTo head project input output span old new (Err (Spans fault)) = IsPartRefused project input span old new (Spans fault)
