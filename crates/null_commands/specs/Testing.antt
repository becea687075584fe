-- What a null test of files comes to.
use Rattle.std.specs.Prelude.{◌≡◌, ◌⊎◌, ◌↔◌, ℕ, List, MatchResult, Result, Ok, Err}
use Rattle.clip_core.specs.Mixes.{MixContent}
use Rattle.mix_core.specs.Meaning.{IsMix}
use Rattle.folder_core.specs.Files.{AreReadOf, IsReadOf, Opens, View}
use Rattle.null_core.specs.declared.fault.NullFault.{NullFault}
use Rattle.null_core.specs.Asking.{IsFullScale}
use Rattle.null_core.specs.Calling.{Accepts, IsAcceptedAt, IsNullFault, NullTests}
use Rattle.null_core.specs.Reading.{MixedContent}
use Rattle.request_core.specs.declared.fault.Fault as calls
use Rattle.request_core.specs.declared.fault.Fault.TheVariants.{Memory}
use Rattle.null_commands.specs.declared.fault.TestFault.{TestFault}
use Rattle.null_commands.specs.declared.fault.TestFault.TheVariants.{Call, ReadFailed}
use Rattle.null_commands.specs.declared.tested.Tested.{Tested}
use Rattle.null_commands.specs.Faults.{fault_of_null}
use Rattle.null_commands.specs.Masters.{TestsMaster}
use Rattle.null_commands.specs.Sources.{AreMixSources, IsUnread}

-- what was heard is that of a mix, takes and a master that were read; the master is accepted exactly if it nulls with
-- the mix's limit and no place is too loud; and nothing changed
pub record TestsFiles (mix_name master_name : List ℕ) (old new : View) (tested : Tested) : Type 0 where
  pub text : List ℕ
  pub takes : List (List ℕ)
  pub master : List ℕ
  pub sources : AreMixSources mix_name old text takes
  pub master_read : IsReadOf old master_name master
  pub tests : NullTests text takes master tested.heard
  pub exact : (residual : ℕ) → IsAcceptedAt residual tested.heard ↔ Accepts text takes master residual
  pub full_scale : (mix : MixContent) → IsMix text mix → IsFullScale mix tested.full
  pub same : new ≡ old

-- this is the first fault of a text that was read of the mix and of bytes of the takes that it names, if it names any;
-- and if it does, the master could be opened
pub record IsRefused (mix_name master_name : List ℕ) (old : View) (fault : calls.Fault) : Type 0 where
  pub text : List ℕ
  pub takes : List (List ℕ)
  pub text_read : IsReadOf old mix_name text
  pub takes_read : (mix : MixContent) → IsMix text mix → AreReadOf old mix.takes takes
  pub master_opened : (mix : MixContent) → IsMix text mix → Opens old master_name
  pub named : NullFault
  pub name_is : fault ≡ fault_of_null named
  pub first : IsNullFault text takes named

-- nothing changed, and memory ran out, or this is the first fault of the mix and its takes
abbrev pub TestRefused : List ℕ → List ℕ → View → View → calls.Fault → Type 0
TestRefused mix_name master_name old new fault = (new ≡ old) × ((fault ≡ Memory) ⊎ IsRefused mix_name master_name old fault)

-- what `nulltest MIX MASTER` comes to
abbrev pub TestComesTo : List ℕ → List ℕ → View → View → Result Tested TestFault → Type 0
TestComesTo mix master old new (Ok tested) = TestsFiles mix master old new tested
TestComesTo mix master old new (Err (Call fault)) = TestRefused mix master old new fault
TestComesTo mix master old new (Err ReadFailed) = new ≡ old

-- ---- step by step
-- a master was compared with a mix; or the master was not read, or this is the mix's fault and the master could be
-- opened
abbrev pub TestsMixed : View → List ℕ → Result MixedContent NullFault → Result Tested TestFault → Type 0
TestsMixed old master (Ok mixed) result = MatchResult result (TestsMaster old mixed master) IsUnread
TestsMixed old master (Err fault) result = (result ≡ Err ReadFailed) ⊎ ((result ≡ Err (Call (fault_of_null fault))) × Opens old master)
