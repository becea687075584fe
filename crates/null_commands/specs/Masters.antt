-- What is read and heard of a master's file.
use Rattle.std.specs.Prelude.{ℕ, List, Result}
use Rattle.form_core.specs.declared.fault.ReadFault.{ReadFault}
use Rattle.folder_core.specs.Files.{IsReadOf, View}
use Rattle.null_core.specs.declared.master_reading.Candidate.{Candidate}
use Rattle.null_core.specs.declared.verdict.Heard.{Heard}
use Rattle.null_core.specs.Asking.{IsFullScale}
use Rattle.null_core.specs.Candidates.{HoldsCandidate, IsHeardOf}
use Rattle.null_core.specs.Files.{IsReadIn}
use Rattle.null_core.specs.Reading.{MixedContent}
use Rattle.null_commands.specs.declared.tested.Tested.{Tested}

-- some bytes hold what was read of a master's file, or have this fault
abbrev pub ReadsSome : MixedContent → Result Candidate ReadFault → Type 0
ReadsSome mixed found = (file : List ℕ) × IsReadIn (HoldsCandidate mixed) file found

-- this was read of bytes of a name, a master's file, or is their first fault
pub record ReadsMaster (old : View) (mixed : MixedContent) (name : List ℕ) (found : Result Candidate ReadFault) : Type 0 where
  pub file : List ℕ
  pub file_read : IsReadOf old name file
  pub found_in : IsReadIn (HoldsCandidate mixed) file found

-- this was heard of bytes of a name, a master's file, or is their first fault
pub record HearsMaster (old : View) (mixed : MixedContent) (name : List ℕ) (heard : Result Heard ReadFault) : Type 0 where
  pub file : List ℕ
  pub file_read : IsReadOf old name file
  pub heard_in : IsReadIn (IsHeardOf mixed) file heard

-- the same, and this is full scale of residuals
pub record TestsMaster (old : View) (mixed : MixedContent) (name : List ℕ) (tested : Tested) : Type 0 where
  pub hears : HearsMaster old mixed name tested.heard
  pub scale : IsFullScale mixed.mix tested.full
