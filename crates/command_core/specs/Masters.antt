-- What is found of a master's file that is read to be judged.
use Rattle.std.specs.Prelude.{ℕ, List, IfOk, IsTrue, Result}
use Rattle.cut_core.specs.Cuts.{CutContent}
use Rattle.form_core.specs.declared.fault.ReadFault.{ReadFault}
use Rattle.judge_core.specs.declared.finding.Found.{Found}
use Rattle.judge_core.specs.Finding.{FindsHeld, IsFoundHeld}
use Rattle.folder_core.specs.Files.{IsReadOf, View}

-- what was found, if anything, was found of the recording in bytes that were read of a name; if they hold none and the
-- folder's bytes are known, it is their first fault
pub record FindsMaster (old : View) (cut : CutContent) (name : List ℕ) (found : Result Found ReadFault) : Type 0 where
  pub file : List ℕ
  pub file_read : IsReadOf old name file
  pub held : IfOk found (FindsHeld cut file)
  pub is_found : IsTrue old.is_known → IsFoundHeld cut file found
