-- What is found of a master's file that is read to be judged.
use Rattle.std.specs.Prelude.{◌≡◌, ℕ, List, IfOk, IfSome, None, Option, Result, Ok, Err, ⊤}
use Rattle.chunk_core.specs.Inlets.{inlet_reader}
use Rattle.chunk_core.specs.declared.inlet.Inlet.{Inlet}
use Rattle.dsd_bits.specs.Contents.{Content}
use Rattle.form_core.specs.declared.form.Form.{Form}
use Rattle.form_core.specs.Forms.{HoldsAs}
use Rattle.form_core.specs.Opening.{opened_of}
use Rattle.form_core.specs.declared.fault.ReadFault.{ReadFault}
use Rattle.cut_core.specs.Cuts.{CutContent}
use Rattle.sound_core.specs.Naming.{NamesFault}
use Rattle.sound_core.specs.Reads.{Reads}
use Rattle.judge_core.specs.declared.finding.Found.{Found}
use Rattle.request_core.specs.Cutting.{SaysCut}
use Rattle.judge_core.specs.Kept.{IsFoundOf}

-- the file isn't of any form
abbrev pub HoldsNothing : List ℕ → Type 0
HoldsNothing file = (form : Form) (r : Content) → HoldsAs file form r → ⊥

-- the file isn't of any form, and this is its first fault
pub record IsRefusedFor (file : List ℕ) (fault : ReadFault) : Type 0 where
  pub nothing : HoldsNothing file
  pub first : opened_of file ≡ Err fault

-- this was found of the recording that the file holds
pub record FindsHeld (cut : CutContent) (file : List ℕ) (found : Found) : Type 0 where
  pub recording : Content
  pub master_holds : HoldsAs file found.form recording
  pub found_of : IsFoundOf cut found recording

-- this was found of the recording that the file holds; or it holds none, for this fault, its first
abbrev pub IsFoundHeld : CutContent → List ℕ → Result Found ReadFault → Type 0
IsFoundHeld cut file (Ok found) = FindsHeld cut file found
IsFoundHeld cut file (Err fault) = IsRefusedFor file fault

-- the same of the file that an inlet has left, if its bytes are known
abbrev pub IsFoundLeft : {R : Type 0} → (R → Option (List ℕ)) → Inlet R → CutContent → Result Found ReadFault → Type 0
IsFoundLeft left inlet cut found = IfSome (left (inlet_reader inlet)) (λ file. IsFoundHeld cut file found)

-- the reader returned some bytes, as many as were counted, and this was found of the recording that they hold, or is
-- their first fault; this also holds if its bytes aren't known
abbrev pub IsFoundGiven : {R : Type 0} → (R → Option (List ℕ)) → Inlet R → Inlet R → CutContent → Result Found ReadFault → Type 0
IsFoundGiven left old new cut (Ok found) = (read : List ℕ) × Reads left old new read × FindsHeld cut read found
IsFoundGiven left old new cut (Err fault) = NamesFault left old new fault

-- this was found of the recording that some bytes hold, or there was a fault
abbrev pub IsFoundInSome : CutContent → Result Found ReadFault → Type 0
IsFoundInSome cut (Ok found) = (file : List ℕ) × FindsHeld cut file found
IsFoundInSome cut (Err fault) = ⊤

-- this is the cut of project and files, and what was found, if anything, was found of the recording that the master's
-- file holds
pub record IsFoundIn (project : List ℕ) (files : List (List ℕ)) (cut : CutContent) (found : Result Found ReadFault) (master : List ℕ) : Type 0 where
  pub says : SaysCut project files None cut
  pub held : IfOk found (FindsHeld cut master)
