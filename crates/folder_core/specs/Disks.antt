-- What contracts see of the folder of the operating system: what it remembers of its calls.
use Rattle.std.specs.Prelude.{◌≡◌, ◌≢◌, ◌⊎◌, true, false, Option, None, Some, if◌then◌else◌}
use Rattle.std.specs.Option.{option_or}
use Rattle.std.specs.IoError.{error_kind}
use Rattle.std.specs.declared.io.Error.{Error}
use Rattle.std.specs.declared.io.ErrorKind.{ErrorKind}
use Rattle.std.specs.declared.io.ErrorKind.TheVariants.{OutOfMemory}
use Rattle.folder_core.specs.declared.disk.Disk.{Disk}
use Rattle.folder_core.specs.declared.notes.Failure.{Failure}
use Rattle.folder_core.specs.declared.notes.Notes.{Notes}
use Rattle.folder_core.specs.declared.notes.Step.{Step}
use Rattle.folder_core.specs.declared.notes.Step.TheVariants.{First, Second}

-- what a disk remembers of its calls
abbrev pub notes_of : {R F D : Type 0} → Disk R F D → Notes
notes_of disk = disk.notes

-- no memory was wanted, no output was used, no file was kept, and nothing failed
abbrev pub IsFresh : Notes → Type 0
IsFresh notes = notes ≡ record notes { wanted_memory = false; used_output = false; has_kept = false; failure = None }

-- which file is being made: the first, until one is kept
abbrev pub next_step : Notes → Step
next_step notes = if notes.has_kept then Second else First

-- a file was kept
abbrev pub kept_notes : Notes → Notes
kept_notes notes = record notes { has_kept = true }

-- the failure of a file by an error
abbrev pub failure_by : Step → Error → Failure
failure_by step error = record { step = step; error = error }

-- a file failed by this, which is remembered if nothing failed before
abbrev pub noting : Failure → Notes → Notes
noting failure notes = record notes { failure = option_or notes.failure (Some failure) }

-- an error of this kind came: that memory ran out is remembered, and nothing else is
abbrev pub RunsOut : ErrorKind → Notes → Notes → Type 0
RunsOut kind old new = (kind ≡ OutOfMemory → new ≡ record old { wanted_memory = true }) × (kind ≢ OutOfMemory → new ≡ old)

-- some error came
abbrev pub IsRefused : Notes → Notes → Type 0
IsRefused old new = (kind : ErrorKind) × RunsOut kind old new

-- some failure of this file is remembered if nothing failed before, and nothing else is
abbrev pub NotesFailure : Step → Notes → Notes → Type 0
NotesFailure step old new = (failure : Failure) × (failure.step ≡ step) × (new ≡ noting failure old)

-- some failure of this file is remembered if nothing failed before, and that memory ran out if it says so
abbrev pub MakingFailed : Step → Notes → Notes → Type 0
MakingFailed step old new = (failure : Failure) × (failure.step ≡ step) × RunsOut (error_kind failure.error) (noting failure old) new

-- nothing is remembered but whether the output is used: it is if it was
abbrev pub MayUseOutput : Notes → Notes → Type 0
MayUseOutput old new = (new ≡ old) ⊎ (new ≡ record old { used_output = true })

-- the file that is being made could not be created, with the output used or not
abbrev pub CreatingFailed : Notes → Notes → Type 0
CreatingFailed old new = (between : Notes) × MayUseOutput old between × MakingFailed (next_step old) between new

-- why the first write of the file that is being made failed is remembered, if one did and nothing failed before
abbrev pub noting_write : Option Error → Notes → Notes
noting_write None notes = notes
noting_write (Some error) notes = noting (failure_by (next_step notes) error) notes
