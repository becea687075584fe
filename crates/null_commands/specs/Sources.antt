-- What is read of a mix and of the files of the takes that it names.
use Rattle.std.specs.Prelude.{◌≡◌, ◌⊎◌, ℕ, List, [], length, Result, Ok, Err, Vec, ⊤}
use Rattle.std.specs.declared.alloc.Global.{Global}
use Rattle.form_core.specs.declared.fault.ReadFault.{ReadFault}
use Rattle.form_core.specs.declared.fault.ReadFault.TheVariants as reads
use Rattle.clip_core.specs.Contents.{mix_content}
use Rattle.clip_core.specs.Mixes.{MixContent}
use Rattle.cut_core.specs.declared.excerpts.Excerpts.{Excerpts}
use Rattle.mix_core.specs.Meaning.{IsMix}
use Rattle.folder_core.specs.Files.{AreReadOf, IsReadOf, View}
use Rattle.null_core.specs.declared.fault.NullFault.{NullFault}
use Rattle.null_core.specs.declared.fault.NullFault.TheVariants as nulls
use Rattle.null_core.specs.Calling.{IsNullFault, IsTakeFault, ReadsTake, ReadsTakes}
use Rattle.null_core.specs.Reading.{AreOfTakes}
use Rattle.request_core.specs.declared.fault.Fault as calls
use Rattle.request_core.specs.declared.fault.Fault.TheVariants.{Memory}
use Rattle.null_commands.specs.declared.fault.TestFault.{TestFault}
use Rattle.null_commands.specs.declared.fault.TestFault.TheVariants.{Call, ReadFailed}
use Rattle.null_commands.specs.declared.sources.Sources.{Sources}
use Rattle.null_commands.specs.Faults.{fault_of_null}

-- this text was read of the mix, which it states, and these bytes of the takes that it names
pub record AreMixSources (mix_name : List ℕ) (old : View) (text : List ℕ) (takes : List (List ℕ)) : Type 0 where
  pub mix : MixContent
  pub text_read : IsReadOf old mix_name text
  pub says : IsMix text mix
  pub takes_read : AreReadOf old mix.takes takes

-- ---- step by step
-- a file was not read: it could not be, or memory ran out
abbrev pub IsUnread : TestFault → Type 0
IsUnread (Call Memory) = ⊤
IsUnread ReadFailed = ⊤
IsUnread _ = ⊥

-- the text states no mix, and this is its first fault
pub record HasTextFault (text : List ℕ) (fault : calls.Fault) : Type 0 where
  pub no_mix : (mix : MixContent) → IsMix text mix → ⊥
  pub named : NullFault
  pub name_is : fault ≡ fault_of_null named
  pub first : IsNullFault text [] named

-- memory ran out, or this is the first fault of a text
abbrev pub IsTextFault : List ℕ → TestFault → Type 0
IsTextFault text (Call fault) = (fault ≡ Memory) ⊎ HasTextFault text fault
IsTextFault text ReadFailed = ⊥

-- a text was read of the mix, which it states
pub record ReadsMix (old : View) (mix_name : List ℕ) (mix : MixContent) : Type 0 where
  pub text : List ℕ
  pub text_read : IsReadOf old mix_name text
  pub says : IsMix text mix

-- a text was read of the mix that states none, and this is its first fault
pub record IsUnstated (old : View) (mix_name : List ℕ) (fault : calls.Fault) : Type 0 where
  pub text : List ℕ
  pub text_read : IsReadOf old mix_name text
  pub refused : HasTextFault text fault

-- the mix or a take was not read, or this is the first fault of a text that was read of the mix
abbrev pub IsUnsourced : View → List ℕ → TestFault → Type 0
IsUnsourced old mix_name (Call fault) = (fault ≡ Memory) ⊎ IsUnstated old mix_name fault
IsUnsourced old mix_name ReadFailed = ⊤

-- the fault of the file of the take of a number
abbrev pub fault_of_take : ℕ → ReadFault → NullFault
fault_of_take number reads.Memory = nulls.Memory
fault_of_take number fault = nulls.TakeUnread number fault

-- some bytes hold what was read of the take of a number, or have this fault
abbrev pub ReadsSomeTake : MixContent → ℕ → Result Excerpts NullFault → Type 0
ReadsSomeTake mix number found = (file : List ℕ) × ReadsTake mix number file found

-- this was read of bytes of a name, the take of a number, or is their fault
pub record ReadsNamed (old : View) (mix : MixContent) (number : ℕ) (name : List ℕ) (found : Result Excerpts NullFault) : Type 0 where
  pub file : List ℕ
  pub file_read : IsReadOf old name file
  pub reads_take : ReadsTake mix number file found

-- this was read of the files of takes, or is their first fault
abbrev pub TakesIn : MixContent → List (List ℕ) → Result (Vec Excerpts Global) NullFault → Type 0
TakesIn mix files (Ok hs) = ReadsTakes mix files hs
TakesIn mix files (Err fault) = IsTakeFault files fault

-- this was read of bytes of these names, the first takes, or is their first fault
pub record ReadsNames (old : View) (mix : MixContent) (names : List (List ℕ)) (found : Result (Vec Excerpts Global) NullFault) : Type 0 where
  pub files : List (List ℕ)
  pub files_read : AreReadOf old names files
  pub takes_in : TakesIn mix files found

-- the text states the mix, and what was read of its takes is that of these files
pub record AreSourcesOf (text : List ℕ) (files : List (List ℕ)) (s : Sources) : Type 0 where
  pub says : IsMix text (mix_content s.mix)
  pub as_many : length files ≡ length (mix_content s.mix).takes
  pub takes_in : TakesIn (mix_content s.mix) files s.takes

-- a mix and its takes were read of a text and files, and these of the mix and of the takes that it names
pub record ReadsSources (old : View) (mix_name : List ℕ) (s : Sources) : Type 0 where
  pub text : List ℕ
  pub files : List (List ℕ)
  pub text_read : IsReadOf old mix_name text
  pub files_read : AreReadOf old (mix_content s.mix).takes files
  pub sources : AreSourcesOf text files s

-- what was read of takes, if anything, is what the mix reads of some recordings, as many as it names
abbrev pub AreOfItsTakes : Sources → Type 0
AreOfItsTakes s = (hs : Vec Excerpts Global) → s.takes ≡ Ok hs → AreOfTakes (mix_content s.mix) hs.items
