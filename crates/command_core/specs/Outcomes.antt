-- What is printed of an outcome, and the status that the program ends with.
use Rattle.std.specs.Prelude.{◌≡◌, ℕ, List, [], ◌++◌, codes, Result, Ok, Err}
use Rattle.std.specs.Fmt.{decimal}
use Rattle.command_core.specs.declared.outcome.Outcome.{Outcome}
use Rattle.command_core.specs.declared.sum_status.SumStatus.{SumStatus}
use Rattle.command_core.specs.declared.sum_status.SumStatus.TheVariants as sums
use Rattle.command_core.specs.Texts.{dop_text, fault_text, neighbour_text, reason_text, span_text}
use Rattle.form_core.specs.Infos.{info_text}
use Rattle.form_core.specs.declared.fault.ReadFault.{ReadFault}
use Rattle.judge_core.specs.declared.verdict.Verdict.{Verdict}
use Rattle.judge_core.specs.declared.verdict.Verdict.TheVariants as verdicts
use Rattle.null_core.specs.declared.verdict.Heard.{Heard}
use Rattle.null_core.specs.declared.verdict.Verdict as nulling
use Rattle.null_core.specs.declared.verdict.Verdict.TheVariants as nulls
use Rattle.null_commands.specs.Lines.{ShowsTested}
use Rattle.null_commands.specs.declared.fault.TestFault.{TestFault}
use Rattle.null_commands.specs.declared.fault.TestFault.TheVariants as tests
use Rattle.null_commands.specs.declared.tested.Tested.{Tested}
use Rattle.transfer_commands.specs.declared.between.BetweenFault.{BetweenFault}
use Rattle.transfer_commands.specs.declared.between.BetweenFault.TheVariants as betweens
use Rattle.transfer_commands.specs.declared.convert_dop.DopConvertFault.{DopConvertFault}
use Rattle.transfer_commands.specs.declared.convert_dop.DopConvertFault.TheVariants as dops
use Rattle.transfer_commands.specs.declared.convert_speakers.SpeakersFault.{SpeakersFault}
use Rattle.transfer_commands.specs.declared.convert_speakers.SpeakersFault.TheVariants as speaking
use Rattle.transfer_commands.specs.declared.fault.CommandFault.{CommandFault}
use Rattle.transfer_commands.specs.declared.fault.CommandFault.TheVariants as faults
use Rattle.transfer_commands.specs.declared.parts.PartFault.{PartFault}
use Rattle.transfer_commands.specs.declared.parts.PartFault.TheVariants as parts
use Rattle.transfer_commands.specs.declared.speaking.PlayedSpeakers.{PlayedSpeakers}
use Rattle.words_core.specs.declared.fault.WordsFault.{WordsFault}
use Rattle.words_core.specs.declared.fault.WordsFault.TheVariants as words
use Rattle.request_core.specs.declared.fault.Fault.TheVariants.{Memory}
use Rattle.command_core.specs.declared.outcome.Outcome.TheVariants.{Played, Spoken, Converted, Edited, Accepted, Rejected, NullTested, Info, Summed, Fault, NoPart, NoPrevious, NoNext, DopUnread, NoChannelType, ReadFailed, WriteFailed, WrongWords, UnknownFormName}

-- the printed line, without its end: for a file that was played its number of bytes, for one that was converted what
-- was dropped, for a master that was cut or accepted its cost, for one that was rejected the text of the reason, for one
-- that was compared with a mix the lines of what was heard, for a file that was read the lines that describe its
-- recording, for `sum` nothing more than its lines, and for a fault its text
abbrev pub ShowsOutcome : Outcome → List ℕ → Type 0
ShowsOutcome (Played n) line = line ≡ codes "played " ++ decimal n ++ codes " bytes"
ShowsOutcome (Spoken played) line = line ≡ codes "played " ++ decimal played.size ++ codes " bytes"
ShowsOutcome (Converted n) line = line ≡ codes "converted dropped " ++ decimal n
ShowsOutcome (Edited n) line = line ≡ codes "edited total " ++ decimal n
ShowsOutcome (Accepted n) line = line ≡ codes "accepted total " ++ decimal n
ShowsOutcome (Rejected reason) line = line ≡ codes "rejected " ++ reason_text reason
ShowsOutcome (NullTested tested) line = ShowsTested tested line
ShowsOutcome (Info reported) line = line ≡ info_text reported.form reported.description
ShowsOutcome (Summed status) line = line ≡ []
ShowsOutcome (Fault fault) line = line ≡ codes "fault: " ++ fault_text fault
ShowsOutcome (NoPart fault) line = line ≡ codes "fault: " ++ span_text fault
ShowsOutcome (NoPrevious fault) line = line ≡ codes "fault: Previous " ++ neighbour_text fault
ShowsOutcome (NoNext fault) line = line ≡ codes "fault: Next " ++ neighbour_text fault
ShowsOutcome (DopUnread fault) line = line ≡ codes "fault: FileUnread Dop " ++ dop_text fault
ShowsOutcome NoChannelType line = line ≡ codes "fault: NoChannelType"
ShowsOutcome ReadFailed line = line ≡ codes "fault: ReadFailed"
ShowsOutcome WriteFailed line = line ≡ codes "fault: WriteFailed"
ShowsOutcome WrongWords line = line ≡ codes "fault: WrongWords"
ShowsOutcome UnknownFormName line = line ≡ codes "fault: UnknownFormName"

-- the number of a status of `sum`
abbrev pub sum_number : SumStatus → ℕ
sum_number sums.Done = 0
sum_number sums.NotAsListed = 1
sum_number sums.Failed = 2

-- the number of a verdict of a null test: 0 for a master that is accepted, 1 for one that is rejected
abbrev pub null_number : nulling.Verdict → ℕ
null_number (nulls.Accepted residual) = 0
null_number (nulls.MasterShape found wanted) = 1
null_number (nulls.MasterLength found wanted) = 1
null_number (nulls.TooLoud channel place) = 1
null_number (nulls.Residual channel place) = 1

-- the same of a file that may hold no recording, for which it is 1
abbrev pub tested_status : Result Heard ReadFault → ℕ
tested_status (Ok heard) = null_number heard.verdict
tested_status (Err fault) = 1

-- done: 0; a master that is rejected, also by a null test, or a file that isn't as listed: 1; a fault: 2; words that are
-- no command or name no form: 3
abbrev pub status_of : Outcome → ℕ
status_of (Played n) = 0
status_of (Spoken played) = 0
status_of (Converted n) = 0
status_of (Edited n) = 0
status_of (Accepted n) = 0
status_of (Rejected reason) = 1
status_of (NullTested tested) = tested_status tested.heard
status_of (Info reported) = 0
status_of (Summed status) = sum_number status
status_of (Fault f) = 2
status_of (NoPart f) = 2
status_of (NoPrevious f) = 2
status_of (NoNext f) = 2
status_of (DopUnread f) = 2
status_of NoChannelType = 2
status_of ReadFailed = 2
status_of WriteFailed = 2
status_of WrongWords = 3
status_of UnknownFormName = 3

-- the outcome of a master that is judged
abbrev pub verdict_of : Verdict → Outcome
verdict_of (verdicts.Accepted total) = Accepted total
verdict_of (verdicts.Rejected reason) = Rejected reason

-- the outcome of a command that was refused
abbrev pub of_command : CommandFault → Outcome
of_command (faults.Call fault) = Fault fault
of_command faults.ReadFailed = ReadFailed
of_command faults.WriteFailed = WriteFailed

-- the outcome of a command that came to this: what was done, or the fault
abbrev pub outcome_of : {T : Type 0} → (T → Outcome) → Result T CommandFault → Outcome
outcome_of done (Ok x) = done x
outcome_of done (Err fault) = of_command fault

-- the outcome of a command that plays a part and was refused
abbrev pub of_part : PartFault → Outcome
of_part (parts.Command fault) = of_command fault
of_part (parts.Span fault) = NoPart fault

-- the outcome of a command that plays a part and came to this
abbrev pub part_outcome_of : Result ℕ PartFault → Outcome
part_outcome_of (Ok n) = Played n
part_outcome_of (Err fault) = of_part fault

-- the outcome of a command that plays between neighbours and was refused
abbrev pub of_between : BetweenFault → Outcome
of_between (betweens.Command fault) = of_command fault
of_between (betweens.Previous fault) = NoPrevious fault
of_between (betweens.Next fault) = NoNext fault

-- the outcome of a command that plays between neighbours and came to this
abbrev pub between_outcome_of : Result ℕ BetweenFault → Outcome
between_outcome_of (Ok n) = Played n
between_outcome_of (Err fault) = of_between fault

-- the outcome of a command that plays between neighbours with loudspeakers and came to this
abbrev pub spoken_between_outcome_of : Result PlayedSpeakers BetweenFault → Outcome
spoken_between_outcome_of (Ok played) = Spoken played
spoken_between_outcome_of (Err fault) = of_between fault

-- the outcome of a command that plays with loudspeakers and came to this
abbrev pub spoken_outcome_of : Result PlayedSpeakers PartFault → Outcome
spoken_outcome_of (Ok played) = Spoken played
spoken_outcome_of (Err fault) = of_part fault

-- the outcome of a command that converts with loudspeakers and was refused
abbrev pub of_speakers : SpeakersFault → Outcome
of_speakers (speaking.Command fault) = of_command fault
of_speakers speaking.NoChannelType = NoChannelType

-- the outcome of a command that converts with loudspeakers and came to this
abbrev pub speakers_outcome_of : Result ℕ SpeakersFault → Outcome
speakers_outcome_of (Ok dropped) = Converted dropped
speakers_outcome_of (Err fault) = of_speakers fault

-- the outcome of a command that converts DoP samples and was refused
abbrev pub of_dop : DopConvertFault → Outcome
of_dop (dops.Command fault) = of_command fault
of_dop (dops.Refused fault) = DopUnread fault

-- the outcome of a command that converts DoP samples and came to this; of their recording nothing is dropped
abbrev pub dop_outcome_of : Result (Unit {0}) DopConvertFault → Outcome
dop_outcome_of (Ok u) = Converted 0
dop_outcome_of (Err fault) = of_dop fault

-- the outcome of a null test that was refused
abbrev pub of_test : TestFault → Outcome
of_test (tests.Call fault) = Fault fault
of_test tests.ReadFailed = ReadFailed

-- the outcome of a null test that came to this: what was heard, or the fault
abbrev pub tested_outcome : Result Tested TestFault → Outcome
tested_outcome (Ok tested) = NullTested tested
tested_outcome (Err fault) = of_test fault

-- the outcome of words that ask for nothing
abbrev pub of_words : WordsFault → Outcome
of_words words.NoCommand = WrongWords
of_words (words.UnknownCommand word) = WrongWords
of_words (words.WrongUsage command misfit) = WrongWords
of_words (words.NoText word) = WrongWords
of_words (words.UnknownForm command form) = UnknownFormName
of_words words.Memory = Fault Memory
