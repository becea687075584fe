-- What is read of files.
use Rattle.std.specs.Prelude.{◌≡◌, ℕ, List, Option, IfSome, Result, Ok, Err}
use Rattle.chunk_core.specs.Inlets.{inlet_reader}
use Rattle.chunk_core.specs.declared.inlet.Inlet.{Inlet}
use Rattle.dsd_bits.specs.Contents.{Content}
use Rattle.dsd_bits.specs.Shape.{HasShape}
use Rattle.form_core.specs.Forms.{HoldsSome}
use Rattle.form_core.specs.Opening.{opened_of}
use Rattle.form_core.specs.declared.fault.ReadFault.{ReadFault}
use Rattle.sound_core.specs.Naming.{NamesFault}
use Rattle.sound_core.specs.Reads.{Reads}
use Rattle.clip_core.specs.Mixes.{MixContent}
use Rattle.cut_core.specs.Excerpts.{excerpts_content}
use Rattle.cut_core.specs.declared.excerpts.Excerpts.{Excerpts}
use Rattle.null_core.specs.Holding.{excerpts_of}

-- the file holds a recording, and this is what the mix reads of it, its take of a number
pub record HoldsExcerpts (mix : MixContent) (number : ℕ) (file : List ℕ) (excerpts : Excerpts) : Type 0 where
  pub recording : Content
  pub holds : HoldsSome file recording
  pub shape : HasShape recording
  pub are_excerpts : excerpts_content excerpts ≡ excerpts_of mix number recording

-- the file holds what was read, as `holds` says; or it holds no recording, for this fault, its first
abbrev pub IsReadIn : {X : Type 0} → (List ℕ → X → Type 0) → List ℕ → Result X ReadFault → Type 0
IsReadIn holds file (Ok x) = holds file x
IsReadIn holds file (Err fault) = opened_of file ≡ Err fault

-- the same of the file that an inlet has left, if its bytes are known
abbrev pub IsReadLeft : {X R : Type 0} → (List ℕ → X → Type 0) → (R → Option (List ℕ)) → Inlet R → Result X ReadFault → Type 0
IsReadLeft holds left inlet found = IfSome (left (inlet_reader inlet)) (λ file. IsReadIn holds file found)

-- the reader returned some bytes, as many as were counted, which hold what was read, or this is their first fault; this
-- also holds if its bytes aren't known
abbrev pub IsReadGiven : {X R : Type 0} → (List ℕ → X → Type 0) → (R → Option (List ℕ)) → Inlet R → Inlet R → Result X ReadFault → Type 0
IsReadGiven holds left old new (Ok x) = (read : List ℕ) × Reads left old new read × holds read x
IsReadGiven holds left old new (Err fault) = NamesFault left old new fault
