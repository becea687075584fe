-- What is held of a master's file.
use Rattle.std.specs.Prelude.{ℕ, List, [], Option, IfSome}
use Rattle.chunk_core.specs.declared.inlet.Inlet.{Inlet}
use Rattle.dsd_bits.specs.Contents.{Content}
use Rattle.form_core.specs.Forms.{HoldsSome}
use Rattle.sound_core.specs.Outlines.{AreStated, around_of}
use Rattle.sound_core.specs.Reads.{Reads}
use Rattle.null_core.specs.declared.master_reading.Candidate.{Candidate}
use Rattle.null_core.specs.declared.master_reading.Candidate.TheVariants.{Fitting, Misfit}
use Rattle.null_core.specs.declared.master_reading.Filled.{Filled}
use Rattle.null_core.specs.declared.verdict.Heard.{Heard}
use Rattle.null_core.specs.Filling.{IsFileOf}
use Rattle.null_core.specs.Reading.{MixedContent}
use Rattle.null_core.specs.Verdicts.{IsHeard, IsVerdictOn}

-- the file holds a recording: this master, or one for which this is the verdict
abbrev pub HoldsCandidate : MixedContent → List ℕ → Candidate → Type 0
HoldsCandidate mixed file (Fitting master) = HoldsSome file master
HoldsCandidate mixed file (Misfit verdict) = (r : Content) × HoldsSome file r × IsVerdictOn mixed r [] verdict

-- the file holds a recording, and this is what is heard of it
abbrev pub IsHeardOf : MixedContent → List ℕ → Heard → Type 0
IsHeardOf mixed file heard = (r : Content) × HoldsSome file r × IsHeard mixed r heard

-- ---- step by step
-- the file is one of which this was held
abbrev pub IsFilledOf : MixedContent → Filled → List ℕ → Type 0
IsFilledOf mixed filled file = IsFileOf mixed filled.outline filled.channels.items file

-- the outline describes what a file holds, and the reader's file, if it is known, is one of which this was held
abbrev pub FillsFile : Option (List ℕ) → MixedContent → Filled → Type 0
FillsFile left mixed filled = AreStated (around_of filled.outline) × IfSome left (IsFilledOf mixed filled)

-- the reader returned some bytes, which are a file of which this was held; this also holds if its bytes aren't known
abbrev pub FillsGiven : {R : Type 0} → (R → Option (List ℕ)) → Inlet R → Inlet R → MixedContent → Filled → Type 0
FillsGiven left old new mixed filled = (read : List ℕ) × Reads left old new read × IsFilledOf mixed filled read

-- the outline describes what a file holds, and there is a file of which this was held
pub record IsOfSome (mixed : MixedContent) (filled : Filled) : Type 0 where
  pub stated : AreStated (around_of filled.outline)
  pub file : List ℕ
  pub is : IsFilledOf mixed filled file

-- every file of which this was held holds the candidate
abbrev pub IsCandidateOf : MixedContent → Filled → Candidate → Type 0
IsCandidateOf mixed filled candidate = (file : List ℕ) → IsFilledOf mixed filled file → HoldsCandidate mixed file candidate
