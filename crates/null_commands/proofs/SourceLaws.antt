-- A mix text and the files of its takes: what they make, and why they are refused.
use Rattle.std.proofs.Common.{◌≡◌, ◌∙◌, ℕ, [], Err, Global, IfErr, IfOk, List, Ok, Result, Vec, ap, inl, inr, refl, subst, sym}
use Rattle.std.specs.Prelude.{◌⊎◌}
use Rattle.clip_core.specs.Contents.{mix_content}
use Rattle.clip_core.specs.Mixes.{MixContent}
use Rattle.clip_core.specs.declared.mix.Mix.{Mix}
use Rattle.cut_core.specs.declared.excerpts.Excerpts.{Excerpts}
use Rattle.cut_core.proofs.ZipLaws.{zip_long}
use Rattle.project_core.specs.Steps.{Fails}
use Rattle.project_core.specs.declared.fault.ProjectFault.{ProjectFault}
use Rattle.project_core.specs.declared.fault.ProjectFault.TheVariants as texts
use Rattle.mix_core.specs.Meaning.{IsMix}
use Rattle.mix_core.specs.Laws.{ReadAsSaid}
use Rattle.mix_core.specs.ReadingMix.{mix_at}
use Rattle.folder_core.specs.Files.{IsReadOf, View}
use Rattle.null_core.specs.declared.fault.NullFault.{NullFault}
use Rattle.null_core.specs.Calling.{IsMixedFrom, IsNullFault, ReadsTakes, fault_of_text}
use Rattle.null_core.specs.Reading.{MixedContent, TakesFit, mixed_of}
use Rattle.null_core.proofs.CallingLaws.{mixed_from, of_takes, text_fault}
use Rattle.request_core.specs.declared.fault.Fault.{Fault}
use Rattle.request_core.specs.declared.fault.Fault.TheVariants.{Memory}
use Rattle.null_commands.specs.declared.fault.TestFault.{TestFault}
use Rattle.null_commands.specs.declared.fault.TestFault.TheVariants.{Call, ReadFailed}
use Rattle.null_commands.specs.declared.sources.Sources.{Sources}
use Rattle.null_commands.specs.Faults.{fault_of_null}
use Rattle.null_commands.specs.Sources.{AreOfItsTakes, AreSourcesOf, HasTextFault, IsTextFault, IsUnread, IsUnsourced, ReadsMix, ReadsNames, ReadsSources, TakesIn}

-- ---- the text
not_both : {X E : Type 0} (r : Result X E) (x : X) (e : E) → r ≡ Ok x → r ≡ Err e → ⊥
not_both (Ok y) x e is fails = absurd cc
not_both (Err f) x e is fails = absurd cc

pub text_refused : ReadAsSaid → (text : List ℕ) (fault : ProjectFault) (named : NullFault) (call : Fault) → named ≡ fault_of_text fault → call ≡ fault_of_null named → Fails fault (mix_at text) → (call ≡ Memory) ⊎ HasTextFault text call
text_refused law text texts.Memory named call is call_is fails = inl (call_is ∙ ap fault_of_null is)
text_refused law text fault named call is call_is fails = inr (record {
  no_mix = λ mix says. not_both (mix_at text) mix fault ((law text mix).1 says) fails;
  named = named;
  name_is = call_is;
  first = subst (IsNullFault text []) (sym is) (text_fault text [] fault fails);
})

-- ---- the mix and its takes
pub unstated : (old : View) (name text : List ℕ) (fault : TestFault) → IsReadOf old name text → IsTextFault text fault → IsUnsourced old name fault
unstated old name text (Call fault) read (inl memory) = inl memory
unstated old name text (Call fault) read (inr is) = inr (record { text = text; text_read = read; refused = is })
unstated old name text ReadFailed read is = absurd is

-- what a text that was read of the mix states, or its first fault
pub mix_read : (old : View) (name text : List ℕ) (r : Result Mix TestFault) → IsReadOf old name text → IfOk r (λ mix. IsMix text (mix_content mix)) → IfOk r (λ mix. ReadsMix old name (mix_content mix))
mix_read old name text (Ok mix) read says = record { text = text; text_read = read; says = says }
mix_read old name text (Err fault) read says = tt

pub mix_unread : (old : View) (name text : List ℕ) (r : Result Mix TestFault) → IsReadOf old name text → IfErr r (IsTextFault text) → IfErr r (IsUnsourced old name)
mix_unread old name text (Ok mix) read is = tt
mix_unread old name text (Err fault) read is = unstated old name text fault read is

sources_read : (old : View) (name : List ℕ) (s : Sources) → ReadsMix old name (mix_content s.mix) → ReadsNames old (mix_content s.mix) (mix_content s.mix).takes s.takes → ReadsSources old name s
sources_read old name s read named = record {
  text = read.text;
  files = named.files;
  text_read = read.text_read;
  files_read = named.files_read;
  sources = record { says = read.says; as_many = zip_long (IsReadOf old) (mix_content s.mix).takes named.files named.files_read; takes_in = named.takes_in };
}

-- the mix with what was read of its takes
pub with_read : (old : View) (name : List ℕ) (mix : Mix) (takes : Result (Result (Vec Excerpts Global) NullFault) TestFault) (r : Result Sources TestFault) → ReadsMix old name (mix_content mix)
    → IfOk takes (ReadsNames old (mix_content mix) (mix_content mix).takes) → IfOk r (λ s. (s.mix ≡ mix) × (takes ≡ Ok s.takes)) → IfOk r (ReadsSources old name)
with_read old name mix takes (Ok s) read named (same, is) =
    let kept : ReadsNames old (mix_content mix) (mix_content mix).takes s.takes = subst (λ (t : Result (Result (Vec Excerpts Global) NullFault) TestFault). IfOk t (ReadsNames old (mix_content mix) (mix_content mix).takes)) is named in
    sources_read old name s (subst (λ (m : Mix). ReadsMix old name (mix_content m)) (sym same) read) (subst (λ (m : Mix). ReadsNames old (mix_content m) (mix_content m).takes s.takes) (sym same) kept)
with_read old name mix takes (Err fault) read named is = tt

unread : (old : View) (name : List ℕ) (fault : TestFault) → IsUnread fault → IsUnsourced old name fault
unread old name (Call Memory) is = inl refl
unread old name ReadFailed is = tt
unread old name fault is = absurd is

-- its takes were not read
pub with_unread : (old : View) (name : List ℕ) (takes : Result (Result (Vec Excerpts Global) NullFault) TestFault) (r : Result Sources TestFault) → IfErr takes IsUnread → IfErr r (λ fault. takes ≡ Err fault) → IfErr r (IsUnsourced old name)
with_unread old name takes (Ok s) is same = tt
with_unread old name takes (Err fault) is same = unread old name fault (subst (λ (t : Result (Result (Vec Excerpts Global) NullFault) TestFault). IfErr t IsUnread) same is)

module _ (text : List ℕ) (files : List (List ℕ)) (s : Sources) (are : AreSourcesOf text files s) where
  abbrev mix : MixContent
  mix = mix_content s.mix

  of_files : (hs : Vec Excerpts Global) → s.takes ≡ Ok hs → ReadsTakes mix files hs
  of_files hs is = subst (TakesIn mix files) is are.takes_in

  pub are_of_takes : AreOfItsTakes s
  are_of_takes hs is = of_takes text files mix are.says are.as_many hs (of_files hs is)

  pub mixes : (hs : Vec Excerpts Global) → s.takes ≡ Ok hs → (mixed : MixedContent) → mixed ≡ mixed_of mix hs.items → TakesFit mix hs.items → IsMixedFrom text files mixed
  mixes hs is = mixed_from text files mix are.says are.as_many hs (of_files hs is)
