-- What is read of takes' and masters' files.
use Rattle.std.proofs.Common.{◌≡◌, ℕ, Err, IfOk, IfSome, List, Ok, Option, Result, subst, sym}
use Rattle.chunk_core.specs.declared.inlet.Inlet.{Inlet}
use Rattle.form_core.specs.declared.fault.ReadFault.{ReadFault}
use Rattle.clip_core.specs.Mixes.{MixContent}
use Rattle.cut_core.specs.declared.excerpts.Excerpts.{Excerpts}
use Rattle.folder_core.specs.Files.{IsGiven, IsReadOf, View}
use Rattle.null_core.specs.declared.fault.NullFault.{NullFault}
use Rattle.null_core.specs.declared.master_reading.Candidate.{Candidate}
use Rattle.null_core.specs.Calling.{ReadsTake}
use Rattle.null_core.specs.Asking.{IsFullScale}
use Rattle.null_core.specs.Candidates.{HoldsCandidate, IsHeardOf}
use Rattle.null_core.specs.Files.{IsReadGiven, IsReadIn}
use Rattle.null_core.specs.Reading.{MixedContent}
use Rattle.null_commands.specs.declared.fault.TestFault.{TestFault}
use Rattle.null_commands.specs.declared.tested.Tested.{Tested}
use Rattle.null_commands.specs.Masters.{ReadsMaster, ReadsSome, TestsMaster}
use Rattle.null_commands.specs.Sources.{ReadsNamed, ReadsSomeTake}
use Rattle.null_commands.proofs.ReadLaws.{found_read}

-- ---- files
-- some bytes hold what was read, or have this fault
pub given_some : {X R : Type 0} (holds : List ℕ → X → Type 0) (left : R → Option (List ℕ)) (i j : Inlet R) (found : Result X ReadFault) → IsReadGiven holds left i j found → (file : List ℕ) × IsReadIn holds file found
given_some holds left i j (Ok x) given = (given.0, given.2)
given_some holds left i j (Err fault) given = (given.read, given.sure.now)

-- what holds of what was read holds of what is kept of it
pub kept : {X E : Type 0} (P : X → Type 0) (x : X) → P x → (r : Result X E) → IfOk r (λ y. y ≡ x) → IfOk r P
kept P x holds (Ok y) is = subst P (sym is) holds
kept P x holds (Err e) is = tt

-- ---- takes
named_of : (view : View) (mix : MixContent) (number : ℕ) (name : List ℕ) (r : Result (Result Excerpts NullFault) TestFault) → IfOk r (λ found. (file : List ℕ) × IsReadOf view name file × ReadsTake mix number file found) → IfOk r (ReadsNamed view mix number name)
named_of view mix number name (Ok found) (file, read, is) = record { file = file; file_read = read; reads_take = is }
named_of view mix number name (Err fault) is = tt

-- what was read of the file that was opened under a name
pub take_named : (view : View) (mix : MixContent) (number : ℕ) (name : List ℕ) (left : Option (List ℕ)) → IsGiven view name left → (r : Result (Result Excerpts NullFault) TestFault) → IfOk r (λ found. IfSome left (λ file. ReadsTake mix number file found)) → IfOk r (ReadsSomeTake mix number) → IfOk r (ReadsNamed view mix number name)
take_named view mix number name left given r known some = named_of view mix number name r (found_read view name left (λ file found. ReadsTake mix number file found) given r known some)

-- ---- masters
master_of : (view : View) (mixed : MixedContent) (name : List ℕ) (r : Result (Result Candidate ReadFault) TestFault) → IfOk r (λ found. (file : List ℕ) × IsReadOf view name file × IsReadIn (HoldsCandidate mixed) file found) → IfOk r (ReadsMaster view mixed name)
master_of view mixed name (Ok found) (file, read, is) = record { file = file; file_read = read; found_in = is }
master_of view mixed name (Err fault) is = tt

pub master_named : (view : View) (mixed : MixedContent) (name : List ℕ) (left : Option (List ℕ)) → IsGiven view name left → (r : Result (Result Candidate ReadFault) TestFault) → IfOk r (λ found. IfSome left (λ file. IsReadIn (HoldsCandidate mixed) file found)) → IfOk r (ReadsSome mixed) → IfOk r (ReadsMaster view mixed name)
master_named view mixed name left given r known some = master_of view mixed name r (found_read view name left (λ file found. IsReadIn (HoldsCandidate mixed) file found) given r known some)

-- full scale of a master that was compared
pub scaled : (mixed : MixedContent) (full : ℕ) → IsFullScale mixed.mix full → (r : Result Tested TestFault) → IfOk r (λ tested. tested.full ≡ full) → IfOk r (λ tested. IsFullScale mixed.mix tested.full)
scaled mixed full scale (Ok tested) is = subst (IsFullScale mixed.mix) (sym is) scale
scaled mixed full scale (Err fault) is = tt

-- what was heard of what was read of a master's file
pub tested_named : (view : View) (mixed : MixedContent) (name : List ℕ) (found : Result Candidate ReadFault) → ReadsMaster view mixed name found
    → (r : Result Tested TestFault) → ((file : List ℕ) → IsReadIn (HoldsCandidate mixed) file found → IfOk r (λ tested. IsReadIn (IsHeardOf mixed) file tested.heard)) → IfOk r (λ tested. IsFullScale mixed.mix tested.full) → IfOk r (TestsMaster view mixed name)
tested_named view mixed name found read (Ok tested) is scale = record {
  hears = record { file = read.file; file_read = read.file_read; heard_in = is read.file read.found_in };
  scale = scale;
}
tested_named view mixed name found read (Err fault) is scale = tt
