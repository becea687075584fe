use Rattle.std.proofs.Common.{◌∙◌, Err, ap, inr, subst, sym}
use Rattle.std.proofs.lemmas.Result.{err_from_is_err_and}
use Rattle.folder_core.specs.Files.{IsGiven, View}
use Rattle.command_core.specs.Commands.{CheckComesTo}
use Rattle.command_core.specs.Masters.{FindsMaster}
use Rattle.command_core.specs.Sources.{AreExcerptsOf}
use Rattle.command_core.proofs.CommandLaws.{checked, master_unread, sources_unread, uncut}
use Rattle.command_core.proofs.performing.check_files.Goals as goal

pub returns : goal.returns
returns g c =
    let view = g.F.Folder.view in
    let old = view c.args.folder.now in
    let h = c.in_ok-sources.ensures.excerpts in
    let are : AreExcerptsOf h.project h.takes c.in_ok-sources.sources = record { project_says = h.project_says; reads_excerpts = h.reads_excerpts } in
    let says = c.in-Ok.ensures.found h.project h.takes are in
    let read = c.source_excerpts.ensures.same in
    let held = c.find_named.ensures.same ∙ read in
    let master = subst (λ (v : View). FindsMaster v c.in-Ok.cut c.args.master.now c.in_ok-found.found) read c.in_ok-found.ensures.found in
    let given = subst (λ (v : View). IsGiven v c.args.cert.now (g.F.In.Read.remaining c.in-Ok-open.file)) held c.in-Ok-open.ensures.bytes in
    checked c.args.project.now c.args.master.now c.args.cert.now old (view c.open.new.self) h.project h.takes master.file (g.F.In.Read.remaining c.in-Ok-open.file)
    (c.in-Ok-open.ensures.same ∙ held) h.sources master.file_read given c.judge_opened.result
    (c.judge_opened.ensures.least h.project h.takes master.file says master.held)
    (λ reported. c.judge_opened.ensures.judged h.project h.takes master.file says (master.is_found reported))
    c.judge_opened.ensures.fault

pub returns-in_default : goal.returns-in_default
returns-in_default g c = c.open.ensures.same ∙ c.find_named.ensures.same ∙ c.source_excerpts.ensures.same

pub judge_opened-requires : goal.judge_opened-requires
judge_opened-requires g c = c.in_ok-found.ensures.some

pub cut_of-requires : goal.cut_of-requires
cut_of-requires g c = c.in_ok-sources.ensures.of

pub returns-in_err-sources : goal.returns-in_err-sources
returns-in_err-sources g c =
    let view = g.F.Folder.view in
    let e = err_from_is_err_and c.from_residual.result c.from_residual.ensures.1 in
    subst (CheckComesTo c.args.project.now c.args.master.now c.args.cert.now (view c.args.folder.now) (view c.source_excerpts.new.folder)) (sym (e.1 ∙ ap Err e.2)) (sources_unread c.args.project.now c.args.master.now c.args.cert.now (view c.args.folder.now) (view c.source_excerpts.new.folder) c.in_err-sources.field-0.0 c.in_err-sources.ensures.fault)

pub returns-in_err-found : goal.returns-in_err-found
returns-in_err-found g c =
    let view = g.F.Folder.view in
    let e = err_from_is_err_and c.from_residual-in_err-found.result c.from_residual-in_err-found.ensures.1 in
    subst (CheckComesTo c.args.project.now c.args.master.now c.args.cert.now (view c.args.folder.now) (view c.find_named.new.folder)) (sym (e.1 ∙ ap Err e.2)) (master_unread c.args.project.now c.args.master.now c.args.cert.now (view c.args.folder.now) (view c.find_named.new.folder) (c.find_named.ensures.same ∙ c.source_excerpts.ensures.same) c.in_err-found.field-0.0 c.in_err-found.ensures.fault)

pub returns-in-Err : goal.returns-in-Err
returns-in-Err g c =
    let view = g.F.Folder.view in
    let h = c.in_ok-sources.ensures.excerpts in
    let first = c.in-Err.ensures.refused h.project h.takes (record { project_says = h.project_says; reads_excerpts = h.reads_excerpts }) in
    uncut c.args.project.now c.args.master.now c.args.cert.now (view c.args.folder.now) (view c.fault_after.new.folder) c.fault_after.result c.in-Err.fault (c.fault_after.ensures.same ∙ c.source_excerpts.ensures.same, inr (inr (record { project = h.project; takes = h.takes; sources = h.sources; first = first }))) c.fault_after.ensures.fault
