-- What the program's status says of a command whose outcome was printed.
use Rattle.std.specs.Prelude.{◌≡◌, ◌<◌, ◌⊎◌, ◌&&◌, ℕ, List, [], ◌∷◌, ◌++◌, Result, if◌then◌else◌, length, nat_lt}
use Rattle.request_core.specs.declared.fault.Fault.TheVariants.{Memory}
use Rattle.words_core.specs.Asked.{IsAskedBy}
use Rattle.words_core.specs.declared.fault.WordsFault.{WordsFault}
use Rattle.words_core.specs.declared.task.Task.{Task}
use Rattle.command_core.specs.Commands.{AskedComesTo}
use Rattle.command_core.specs.Hosts.{Prints, PrintsPrefix, State, unknown_state}
use Rattle.command_core.specs.Outcomes.{ShowsOutcome, status_of}
use Rattle.command_core.specs.declared.outcome.Outcome.{Outcome}
use Rattle.command_core.specs.declared.outcome.Outcome.TheVariants.{Fault, WriteFailed}

-- what is printed to standard output of a line: all of it and its end for what was done or judged, nothing for a fault,
-- which is printed elsewhere, and nothing if it is empty
abbrev pub answer_text : Outcome → List ℕ → List ℕ
answer_text outcome line = if nat_lt (status_of outcome) 2 && nat_lt 0 (length line) then line ++ 10 ∷ [] else []

-- the line of an outcome was printed
abbrev pub PrintsOutcome : Outcome → State → State → Type 0
PrintsOutcome outcome old new = (line : List ℕ) × ShowsOutcome outcome line × Prints old new (answer_text outcome line)

-- standard output took a part of the line of an outcome at most
abbrev pub PrintsInPart : Outcome → State → State → Type 0
PrintsInPart outcome old new = (line : List ℕ) × ShowsOutcome outcome line × PrintsPrefix old new (answer_text outcome line)

-- the outcome once it was printed: it is the same, or memory for its line ran out and nothing was printed, or standard
-- output didn't take the line of what was done or judged
abbrev pub IsReportedAs : Outcome → Outcome → State → State → Type 0
IsReportedAs outcome reported old new = ((reported ≡ outcome) × PrintsOutcome outcome old new)
    ⊎ (((reported ≡ Fault Memory) × (new ≡ old)) ⊎ ((reported ≡ WriteFailed) × (status_of outcome < 2) × PrintsInPart outcome old new))

-- what was asked for came to an outcome, it was printed, and the status is that of the outcome that it was printed as
pub record EndsAsked (asked : Result Task WordsFault) (old new : State) (status : ℕ) : Type 0 where
  pub outcome : Outcome
  pub reported : Outcome
  pub between : State
  pub comes : AskedComesTo asked old between outcome
  pub printed : IsReportedAs outcome reported between new
  pub status_is : status ≡ status_of reported

-- the same for what words ask for
abbrev pub EndsWords : List (List ℕ) → State → State → ℕ → Type 0
EndsWords words old new status = (asked : Result Task WordsFault) × IsAskedBy words asked × EndsAsked asked old new status

-- the same for some words, over a disk and an output of which nothing is known: little more than which statuses there
-- are
abbrev pub EndsWith : ℕ → Type 0
EndsWith status = (words : List (List ℕ)) × EndsWords words unknown_state unknown_state status
