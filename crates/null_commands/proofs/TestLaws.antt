-- What a null test of files comes to.
use Rattle.std.proofs.Common.{◌≡◌, [], ℕ, Err, IfErr, IfOk, List, Ok, Result, ap, inl, inr, refl, subst, sym}
use Rattle.std.specs.Prelude.{◌⊎◌, MatchResult}
use Rattle.clip_core.specs.Contents.{mix_content}
use Rattle.clip_core.specs.Mixes.{MixContent}
use Rattle.mix_core.specs.Laws.{OneMix}
use Rattle.folder_core.specs.Files.{AreReadOf, Opens, View}
use Rattle.null_core.specs.declared.fault.NullFault.{NullFault}
use Rattle.null_core.specs.Asking.{IsFullScale}
use Rattle.null_core.specs.Calling.{IsMixedFrom, IsNullFault}
use Rattle.null_core.specs.Reading.{MixedContent}
use Rattle.null_core.proofs.CallingLaws.{tests_accept, tests_from}
use Rattle.request_core.specs.declared.fault.Fault.TheVariants.{Memory}
use Rattle.null_commands.specs.declared.fault.TestFault.{TestFault}
use Rattle.null_commands.specs.declared.fault.TestFault.TheVariants.{Call, ReadFailed}
use Rattle.null_commands.specs.declared.sources.Sources.{Sources}
use Rattle.null_commands.specs.declared.tested.Tested.{Tested}
use Rattle.null_commands.specs.Faults.{fault_of_null}
use Rattle.null_commands.specs.Masters.{TestsMaster}
use Rattle.null_commands.specs.Sources.{IsUnread, IsUnsourced, ReadsSources}
use Rattle.null_commands.specs.Testing.{IsRefused, TestComesTo, TestsFiles, TestsMixed}

-- what holds of an answer and of a fault holds of whichever was returned
pub whichever : {X E : Type 0} (P : X → Type 0) (Q : E → Type 0) (r : Result X E) → IfOk r P → IfErr r Q → MatchResult r P Q
whichever P Q (Ok x) found refused = found
whichever P Q (Err e) found refused = refused

-- the fault of a mix, which is returned only if the master could be opened
pub after : (old : View) (name : List ℕ) (fault : NullFault) (r : TestFault) → (r ≡ ReadFailed) ⊎ (r ≡ Call (fault_of_null fault)) → (r ≡ Call (fault_of_null fault) → Opens old name) → TestsMixed old name (Err fault) (Err r)
after old name fault r (inl unread) opened = inl (ap Err unread)
after old name fault r (inr is) opened = inr (ap Err is, opened is)

module _ (mix_name master_name : List ℕ) (old new : View) (same : new ≡ old) where
  untested : (fault : TestFault) → IsUnread fault → TestComesTo mix_name master_name old new (Err fault)
  untested (Call Memory) is = (same, inl refl)
  untested ReadFailed is = same
  untested fault is = absurd is

  -- the first fault of a text that states no mix
  pub unsourced : (fault : TestFault) → IsUnsourced old mix_name fault → TestComesTo mix_name master_name old new (Err fault)
  unsourced (Call fault) (inl memory) = (same, inl memory)
  unsourced (Call fault) (inr is) = (
    same,
    inr (record {
      text = is.text;
      takes = [];
      text_read = is.text_read;
      takes_read = λ mix says. absurd (is.refused.no_mix mix says);
      master_opened = λ mix says. absurd (is.refused.no_mix mix says);
      named = is.refused.named;
      name_is = is.refused.name_is;
      first = is.refused.first;
    }),
  )
  unsourced ReadFailed is = same

  module _ (one_mix : OneMix) (s : Sources) (from : ReadsSources old mix_name s) where
    -- the first fault of the mix and its takes, returned after the master was opened
    refused : (fault : NullFault) → IsNullFault from.text from.files fault → Opens old master_name → IsRefused mix_name master_name old (fault_of_null fault)
    refused fault first opened = record {
      text = from.text;
      takes = from.files;
      text_read = from.text_read;
      takes_read = λ mix says. subst (λ (x : MixContent). AreReadOf old x.takes from.files) (one_mix from.text (mix_content s.mix) mix from.sources.says says) from.files_read;
      master_opened = λ mix says. opened;
      named = fault;
      name_is = refl;
      first = first;
    }

    module _ (mixed : MixedContent) (made : IsMixedFrom from.text from.files mixed) where
      tests : (tested : Tested) → TestsMaster old mixed master_name tested → TestsFiles mix_name master_name old new tested
      tests tested is =
          let found = tests_from from.text from.files is.hears.file mixed made tested.heard is.hears.heard_in in
          record {
            text = from.text;
            takes = from.files;
            master = is.hears.file;
            sources = record { mix = mix_content s.mix; text_read = from.text_read; says = from.sources.says; takes_read = from.files_read };
            master_read = is.hears.file_read;
            tests = found;
            exact = tests_accept from.text from.files is.hears.file tested.heard found;
            full_scale = λ mix says. subst (λ (x : MixContent). IsFullScale x tested.full) (one_mix from.text mixed.mix mix made.from.read.says says) is.scale;
            same = same;
          }

    -- the master was compared with the mix, or the fault of the mix and its takes is returned
    pub comes_to : (made : Result MixedContent NullFault) (r : Result Tested TestFault) → IfOk made (IsMixedFrom from.text from.files) → IfErr made (IsNullFault from.text from.files) → TestsMixed old master_name made r
        → TestComesTo mix_name master_name old new r
    comes_to (Ok mixed) (Ok tested) is first tests_master = tests mixed is tested tests_master
    comes_to (Ok mixed) (Err fault) is first unread = untested fault unread
    comes_to (Err fault) r is first (inl unread) = subst (TestComesTo mix_name master_name old new) (sym unread) same
    comes_to (Err fault) r is first (inr (given, opened)) = subst (TestComesTo mix_name master_name old new) (sym given) (same, inr (refused fault first opened))
