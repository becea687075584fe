-- The cut of a project and files, read in order.
use Rattle.std.proofs.Common.{◌≡◌, ℕ, inl, inr, List, Option, Ok, Err, refl, sym, ◌∙◌}
use Rattle.form_core.specs.declared.form.Form.{Form}
use Rattle.form_core.specs.Steps.{FailsUnless, map_err}
use Rattle.splice_core.specs.Splices.{SpliceContent, splice_content}
use Rattle.splice_core.specs.declared.splice.Splice.{Splice}
use Rattle.cut_core.specs.Cuts.{CutContent}
use Rattle.cut_core.specs.declared.fault.CutFault.{CutFault}
use Rattle.cut_core.specs.declared.fault.CutFault.TheVariants as cuts
use Rattle.cut_core.specs.declared.excerpts.Excerpts.{Excerpts}
use Rattle.cut_core.specs.Opening.{cut_from, cut_of, takes_of}
use Rattle.cut_core.proofs.OpeningLaws.{files_met, opens_in_order, read_on}
use Rattle.request_core.specs.declared.fault.Fault.{Fault}
use Rattle.request_core.specs.declared.fault.Fault.TheVariants.{Memory}
use Rattle.request_core.specs.Faults.{fault_of_cut}
use Rattle.request_core.specs.Projects.{SaysSplice, splice_of_text}
use Rattle.request_core.specs.Cutting.{AreTakes, SaysCut, said_cut, SaysCutInOrder}
use Rattle.request_core.proofs.ProjectLaws.{says_splice}

pub says_cut : SaysCutInOrder
unfolding said_cut
says_cut = λ project files form cut is. rw (says_splice project is.splice is.project_says, (opens_in_order is.splice files form cut).0 is.opens) refl

-- where project and files come to a cut
module _ (project : List ℕ) (files : List (List ℕ)) (form : Option Form) (cut : CutContent) (says : SaysCut project files form cut) where
  pub only_memory : (e : Fault) → FailsUnless Memory e (said_cut project files form) → e ≡ Memory
  only_memory e (inl memory) = memory
  only_memory e (inr fails) = let both : Err e ≡ Ok cut = sym fails ∙ says_cut project files form cut says in absurd cc

  pub one_cut : (made : CutContent) → said_cut project files form ≡ Ok made → made ≡ cut
  one_cut made e = let both : Ok made ≡ Ok cut = sym e ∙ says_cut project files form cut says in cc

-- ---- the excerpts of the takes of a project and files
module _ (project : List ℕ) (files : List (List ℕ)) (splice : Splice) (hs : List Excerpts) (form : Option Form) (are : AreTakes project files (splice_content splice) hs) where
  said : said_cut project files form ≡ map_err fault_of_cut (cut_from form (splice_content splice) are.whole)
  unfolding said_cut
  said = rw (says_splice project (splice_content splice) are.project_says, read_on (splice_content splice) files form are.whole (files_met (splice_content splice) files are.whole are.read)) refl

  pub excerpted_fails : (e : CutFault) → FailsUnless cuts.Memory e (cut_from form (splice_content splice) are.whole) → FailsUnless Memory (fault_of_cut e) (said_cut project files form)
  excerpted_fails e (inl memory) = inl (rw memory refl)
  excerpted_fails e (inr fails) = inr (said ∙ rw fails refl)

  pub excerpted_gives : (cut : CutContent) → cut_from form (splice_content splice) are.whole ≡ Ok cut → said_cut project files form ≡ Ok cut
  excerpted_gives cut e = said ∙ rw e refl

  pub excerpted_says : (cut : CutContent) → cut_from form (splice_content splice) are.whole ≡ Ok cut → SaysCut project files form cut
  excerpted_says cut e = record {
    splice = splice_content splice;
    project_says = are.project_says;
    opens = (opens_in_order (splice_content splice) files form cut).1 (read_on (splice_content splice) files form are.whole (files_met (splice_content splice) files are.whole are.read) ∙ e);
  }

-- a project without a splice has no cut
pub unsaid : (project : List ℕ) (files : List (List ℕ)) (form : Option Form) (e : Fault) → FailsUnless Memory e (splice_of_text project) → FailsUnless Memory e (said_cut project files form)
unfolding said_cut
unsaid project files form e (inl memory) = inl memory
unsaid project files form e (inr fails) = inr (rw fails refl)

-- nor does one whose takes are refused
pub unexcerpted : (project : List ℕ) (files : List (List ℕ)) (splice : SpliceContent) (form : Option Form) (e : CutFault) → SaysSplice project splice → FailsUnless cuts.Memory e (takes_of splice files) → FailsUnless Memory (fault_of_cut e) (said_cut project files form)
unfolding said_cut cut_of
unexcerpted project files splice form e says (inl memory) = inl (rw memory refl)
unexcerpted project files splice form e says (inr fails) = inr (rw (says_splice project splice says, fails) refl)
