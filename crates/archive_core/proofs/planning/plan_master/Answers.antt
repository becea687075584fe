use Rattle.std.proofs.Common.{◌≡◌, ◌∙◌, ap, List, Some, refl, subst, ℕ}
use Rattle.std.proofs.lemmas.Result.{err_from_is_err_and}
use Rattle.dsdiff_core.specs.declared.write_fault.WriteFault.TheVariants as writes
use Rattle.form_core.specs.Parts.{FitsIn}
use Rattle.cut_core.specs.Cuts.{CutContent, master_length}
use Rattle.request_core.specs.declared.fault.Fault.TheVariants.{Memory}
use Rattle.master_core.specs.Best.{IsBestMaster, master_of}
use Rattle.master_core.proofs.ChoiceLaws.{cert_holds, cert_is}
use Rattle.request_core.specs.Cutting.{SaysCut}
use Rattle.request_core.specs.Faults.{fault_of_writing}
use Rattle.request_core.proofs.CuttingLaws.{one_cut, says_cut}
use Rattle.archive_core.proofs.EditLaws.{any_form, file_certificate, file_costs, file_is_accepted, file_is_master, file_least, one_answer, one_file, plan_only_memory}
use Rattle.archive_core.proofs.planning.plan_master.Goals as goal
use Rattle.archive_core.proofs.planning.plan_master.Given.{Over}
use Rattle.archive_core.proofs.planning.plan_master.Goals.{In_err-bridges}

-- ---- refusals
-- a master of whole bytes is planned, unless memory runs out
unplanned : (g : Over) (c : In_err-bridges g) (project : List ℕ) (files : List (List ℕ)) → SaysCut project files (Some c.args.form) c.args.cut → fault_of_writing c.in_err-bridges.field-0.0 ≡ Memory
unplanned g c project files says =
    let fault = c.in_err-bridges.field-0.0 in
    let cut_is : master_length c.args.cut.splice.cues ≡ master_length says.splice.cues = ap (λ (k : CutContent). master_length k.splice.cues) says.opens.cut_is in
    ap fault_of_writing (plan_only_memory c.args.form says.splice says.opens.whole fault (subst (λ (n : ℕ). fault ≡ writes.NotWholeBytes → FitsIn c.args.form n → ⊥) cut_is c.in_err-bridges.ensures.not_whole_bytes))

pub returns-in_err-bridges-clause-refused : goal.returns-in_err-bridges-clause-refused
returns-in_err-bridges-clause-refused g c = λ project files says.
    let p = err_from_is_err_and c.from_residual.result c.from_residual.ensures.1 in
    rw (p.1, p.2) (unplanned g (goal.at.returns-in_err-bridges-clause-refused g c).In_err-bridges project files says)

pub returns-in_err-bridges-clause-only : goal.returns-in_err-bridges-clause-only
returns-in_err-bridges-clause-only g c = λ project files says master cost edits.
    let p = err_from_is_err_and c.from_residual.result c.from_residual.ensures.1 in
    rw (p.1, p.2) (unplanned g (goal.at.returns-in_err-bridges-clause-only g c).In_err-bridges project files says)

-- ---- what is answered
pub returns-clause-found : goal.returns-clause-found
returns-clause-found g c = λ project files cut_says.
    let cut = c.args.cut in
    let form = c.args.form in
    let reported = c.in_ok-bridges.ensures.master in
    let total = c.in_ok-bridges.field-0.bridges.total in
    let says = any_form project files form cut cut_says in
    let recording = master_of cut form reported.channels in
    let best : IsBestMaster cut form recording total = record { channels = reported.channels; best = reported.best; recording_is = refl; cost_is = reported.cost_is } in
    record {
      file = reported.file;
      is_file = record { channels = reported.channels; best = reported.best; text = reported.text };
      only = λ other is. one_file cut form is.channels reported.channels other reported.file is.best reported.best is.text reported.text;
      edits = record { cut = cut; says = cut_says; recording = recording; best = best; text = reported.text };
      is_master = file_is_master project files cut says form recording reported.master reported.file reported.read_again reported.whole;
      certificate = λ cert certifies. file_certificate project files cut says form recording reported.master reported.file reported.read_again cert (cert_is cut c.in_ok-bridges.field-0.bridges reported.channels cert reported.shows certifies);
      accepted = λ cert certifies.
          file_is_accepted project files cut says form recording reported.master reported.file reported.read_again cert total (cert_holds cut c.in_ok-bridges.field-0.bridges reported.channels cert reported.shows certifies c.in_ok-bridges.ensures.bridges)
          reported.cost_is;
      joint = file_least project files cut says form recording reported.master reported.file reported.read_again reported.whole total reported.joint;
      windows = file_costs project files cut says form recording reported.master reported.file reported.read_again total reported.windows;
    }

pub returns-clause-file : goal.returns-clause-file
returns-clause-file g c =
    let reported = c.in_ok-bridges.ensures.master in
    (reported.file, record { channels = reported.channels; best = reported.best; text = reported.text })

pub returns-clause-planned : goal.returns-clause-planned
returns-clause-planned g c =
    let made = c.in_ok-bridges.ensures in
    record { bridges_are = made.bridges; ends_are = made.ends; room_fits = made.room; cert_room_fits = made.cert_room }

pub returns-clause-only : goal.returns-clause-only
returns-clause-only g c = λ project files says master cost edits.
    let cut = c.args.cut in
    let form = c.args.form in
    let reported = c.in_ok-bridges.ensures.master in
    let same : cut ≡ edits.cut = one_cut project files (Some form) edits.cut edits.says cut (says_cut project files (Some form) cut says) in
    let both = one_answer cut edits.cut form (master_of cut form reported.channels) edits.recording reported.file master c.in_ok-bridges.field-0.bridges.total cost same
    (record { channels = reported.channels; best = reported.best; recording_is = refl; cost_is = reported.cost_is }) edits.best reported.text edits.text in
    (record { channels = reported.channels; best = reported.best; text = reported.text ∙ ap Some both.0 }, both.1)
