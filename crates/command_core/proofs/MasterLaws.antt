-- What was found of a master, and the verdict on it.
use Rattle.std.proofs.Common.{◌≡◌, ℕ, [], Bool, List, IfOk, IfSome, Option, Result, Ok, Err, false, refl, subst, true}
use Rattle.cut_core.specs.Cuts.{CutContent}
use Rattle.form_core.specs.declared.fault.ReadFault.{ReadFault}
use Rattle.transfer_commands.proofs.ReadLaws.{known_or_some, unknown_view}
use Rattle.judge_core.specs.Finding.{FindsHeld, IsFoundHeld, IsFoundInSome}
use Rattle.folder_core.specs.Files.{IsGiven, View}
use Rattle.transfer_commands.specs.declared.fault.CommandFault.{CommandFault}
use Rattle.judge_core.specs.declared.finding.Found.{Found}
use Rattle.command_core.specs.Masters.{FindsMaster}

-- it was found of the bytes that were read of its name
found_of : (view : View) (cut : CutContent) (name : List ℕ) (left : Option (List ℕ)) → IsGiven view name left → (found : Result Found ReadFault) → IfSome left (λ bytes. IsFoundHeld cut bytes found) → IsFoundInSome cut found → FindsMaster view cut name found
found_of view cut name left given (Ok found) known some =
    let read = known_or_some view name left (λ file. FindsHeld cut file found) given known some in
    record { file = read.0; file_read = read.1; held = read.2; is_found = λ reported. read.2 }
found_of view cut name left given (Err e) known some = by view.is_known refl
  where
    by : (reported : Bool) → view.is_known ≡ reported → FindsMaster view cut name (Err e)
    by true is =
        let h = given is in
        record { file = h.0; file_read = λ reported. h.1; held = tt; is_found = λ reported. subst (λ o. IfSome o (λ bytes. IsFoundHeld cut bytes (Err e))) h.2 known }
    by false is = record { file = []; file_read = unknown_view view.is_known is; held = tt; is_found = unknown_view view.is_known is }

-- the same for an answer
pub found_there : (view : View) (cut : CutContent) (name : List ℕ) (left : Option (List ℕ)) → IsGiven view name left
    → (r : Result (Result Found ReadFault) CommandFault) → IfOk r (λ found. IfSome left (λ bytes. IsFoundHeld cut bytes found)) → IfOk r (IsFoundInSome cut) → IfOk r (FindsMaster view cut name)
found_there view cut name left given (Ok found) known some = found_of view cut name left given found known some
found_there view cut name left given (Err fault) known some = tt
