-- What words are read as, and what a command over a folder of a host came to.
use Rattle.std.proofs.Common.{◌≡◌, ◌∙◌, ℕ, List, inl, inr, Bool, true, false, IfErr, IfOk, IsTrue, Result, Ok, Err, ap, refl, subst, sym}
use Rattle.folder_core.specs.Files.{View}
use Rattle.request_core.specs.declared.fault.Fault.TheVariants.{Memory}
use Rattle.command_core.specs.Commands.{FolderComesTo, IsOrMemory, TaskComesTo}
use Rattle.command_core.specs.Hosts.{State, TakesBack}
use Rattle.command_core.specs.declared.outcome.Outcome.{Outcome}
use Rattle.command_core.specs.declared.outcome.Outcome.TheVariants.{Fault}
use Rattle.words_core.specs.Asked.{IsAskedBy, IsUnasked, LineAsks}
use Rattle.words_core.specs.Lines.{IsLineOf, Line}
use Rattle.words_core.specs.declared.fault.WordsFault.{WordsFault}
use Rattle.words_core.specs.declared.task.Task.{Task}

-- words that are a command line ask for what is read of it
pub asked_by : (words : List (List ℕ)) (line : Line) → IsLineOf words line → (came : Result Task WordsFault) → IfOk came (LineAsks line) → IfErr came (IsUnasked line) → IsAskedBy words came
asked_by words line is (Ok task) asks unasked = (line, is, asks)
asked_by words line is (Err fault) asks unasked = inr (line, is, unasked)

-- a folder was opened, a task was done there or memory ran out, and it was taken back
module _ (old opened new : State) (before after : View) (came outcome : Outcome) where
  or_memory : (wanted : Bool) → TakesBack after opened new → (wanted ≡ false → outcome ≡ came) → (wanted ≡ true → outcome ≡ Fault Memory) → (IsTrue after.is_known → wanted ≡ false) → IsOrMemory new.view came outcome
  or_memory false back same memory known = inl (same refl)
  or_memory true back same memory known = inr (memory refl, λ is. let no : true ≡ false = known (subst IsTrue (ap (λ (v : View). v.is_known) back.0) is) in absurd cc)

  pub done_there : (task : Task) (wanted : Bool) → before ≡ old.view → opened.printed ≡ old.printed → TakesBack after opened new → TaskComesTo task before after came
      → (wanted ≡ false → outcome ≡ came) → (wanted ≡ true → outcome ≡ Fault Memory) → (IsTrue after.is_known → wanted ≡ false) → FolderComesTo task old new outcome
  done_there task wanted files printed back comes same memory known = (
    came,
    subst (λ (v : View). TaskComesTo task old.view v came) (sym back.0) (subst (λ (v : View). TaskComesTo task v after came) files comes),
    back.1 ∙ printed,
    or_memory wanted back same memory known,
  )
