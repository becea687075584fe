-- The excerpts of a project's takes, as a cut takes them.
use Rattle.std.proofs.Common.{◌≡◌, IfErr, List, inl, Ok, Err, Option, Result, Global, Vec, length, subst, ℕ}
use Rattle.splice_core.specs.Splices.{splice_content}
use Rattle.form_core.specs.Steps.{FailsUnless, GivesUnless}
use Rattle.form_core.specs.declared.form.Form.{Form}
use Rattle.cut_core.specs.Cuts.{CutContent}
use Rattle.cut_core.specs.declared.fault.CutFault.{CutFault}
use Rattle.cut_core.specs.declared.excerpts.Excerpts.{Excerpts}
use Rattle.cut_core.specs.Excerpts.{AreOfTakes}
use Rattle.cut_core.specs.Opening.{ReturnsAllExcerpts, IsOfTakes, takes_of}
use Rattle.cut_core.proofs.OpeningLaws.{files_are}
use Rattle.request_core.specs.declared.fault.Fault.{Fault}
use Rattle.request_core.specs.declared.fault.Fault.TheVariants.{Memory}
use Rattle.request_core.specs.Faults.{fault_of_cut}
use Rattle.transfer_commands.specs.declared.sources.Sources.{Sources}
use Rattle.request_core.specs.Cutting.{AreTakes, said_cut}
use Rattle.request_core.proofs.CuttingLaws.{unexcerpted}
use Rattle.command_core.specs.Sources.{AreExcerptsOf}

module _ (s : Sources) where
  pub of_takes : (hs : Vec Excerpts Global) → s.takes ≡ Ok hs → IsOfTakes (splice_content s.splice) (length (splice_content s.splice).takes) s.takes → AreOfTakes (splice_content s.splice) hs.items
  of_takes hs is h =
      let t = subst (IsOfTakes (splice_content s.splice) (length (splice_content s.splice).takes)) is h in
      record { whole = t.0; excerpts = t.1; as_many = t.2 }

  module _ (project : List ℕ) (files : List (List ℕ)) (are : AreExcerptsOf project files s) where
    pub are_takes : (hs : Vec Excerpts Global) → s.takes ≡ Ok hs → AreTakes project files (splice_content s.splice) hs.items
    are_takes hs is =
        let t = subst (λ (h : Result (Vec Excerpts Global) CutFault). ReturnsAllExcerpts (splice_content s.splice) h (takes_of (splice_content s.splice) files)) is are.reads_excerpts in
        record { project_says = are.project_says; whole = t.0; read = files_are (splice_content s.splice) files t.0 t.1; excerpts = t.2 }

    pub not_excerpted : (form : Option Form) (e : CutFault) → s.takes ≡ Err e → FailsUnless Memory (fault_of_cut e) (said_cut project files form)
    not_excerpted form e is = unexcerpted project files (splice_content s.splice) form e are.project_says (subst (λ (h : Result (Vec Excerpts Global) CutFault). ReturnsAllExcerpts (splice_content s.splice) h (takes_of (splice_content s.splice) files)) is are.reads_excerpts)

-- a cut that isn't returned is refused as its reading is
pub gives_refused : (answer : Result CutContent Fault) (steps : Result CutContent Fault) → GivesUnless Memory (λ cut. cut) answer steps → IfErr answer (λ fault. FailsUnless Memory fault steps)
gives_refused (Ok cut) steps h = tt
gives_refused (Err fault) steps h = h

-- `Memory` can take the place of any fault
pub memory_refused : {X : Type 0} (answer : Result X Fault) (steps : Result CutContent Fault) → IfErr answer (λ fault. fault ≡ Memory) → IfErr answer (λ fault. FailsUnless Memory fault steps)
memory_refused (Ok x) steps h = tt
memory_refused (Err fault) steps h = inl h
