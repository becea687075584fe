use Rattle.std.proofs.Common.{◌∙◌, Err, Ok, ap, inr, subst, sym}
use Rattle.std.proofs.lemmas.Result.{err_from_is_err_and}
use Rattle.archive_core.specs.Planning.{planned_total}
use Rattle.folder_core.specs.Files.{IsPutInPart, KeepsOthers, View}
use Rattle.command_core.specs.Commands.{Cut, EditComesTo}
use Rattle.command_core.proofs.CommandLaws.{both_written, cert_unwritten, cut_unwritten, edit_unread}
use Rattle.command_core.proofs.WritingLaws.{still_certifies}
use Rattle.command_core.proofs.performing.edit_files.Goals as goal

pub returns-in_err-planned : goal.returns-in_err-planned
returns-in_err-planned g c =
    let h = c.in_ok-sources.ensures.excerpts in
    let p = err_from_is_err_and c.from_residual-in_err-planned.result c.from_residual-in_err-planned.ensures.1 in
    let view = g.F.Folder.view in
    subst (EditComesTo (record { form = c.args.form; project_name = c.args.project.now; master_name = c.args.master.now; cert_name = c.args.cert.now }) (view c.args.folder.now) (view c.cut_sources.new.folder)) (sym (p.1 ∙ ap Err p.2)) (c.cut_sources.ensures.same ∙ c.source_excerpts.ensures.same, inr (inr (record { project = h.project; takes = h.takes; sources = h.sources; first = c.in_err-planned.ensures.refused h.project h.takes (record { project_says = h.project_says; reads_excerpts = h.reads_excerpts }) })))

pub returns-in_err-write_master : goal.returns-in_err-write_master
returns-in_err-write_master g c =
    let cut : Cut = record { form = c.args.form; project_name = c.args.project.now; master_name = c.args.master.now; cert_name = c.args.cert.now } in
    let view = g.F.Folder.view in
    let old = view c.args.folder.now in
    let new = view c.write_master.new.folder in
    let h = c.in_ok-sources.ensures.excerpts in
    let plans = c.in_ok-planned.ensures.found h.project h.takes (record { project_says = h.project_says; reads_excerpts = h.reads_excerpts }) in
    let same = c.cut_sources.ensures.same ∙ c.source_excerpts.ensures.same in
    let p = err_from_is_err_and c.from_residual-in_err-write_master.result c.from_residual-in_err-write_master.ensures.1 in
    subst (EditComesTo cut old new) (sym (p.1 ∙ ap Err p.2)) (cut_unwritten cut old new h.project plans.file h.takes (planned_total c.in_ok-planned.planned) c.in_err-write_master.field-0.0
    h.sources plans.edits
    (subst (λ (v : View). KeepsOthers c.args.master.now v new) same c.in_err-write_master.ensures.others)
    (subst (λ (v : View). IsPutInPart c.args.master.now v new plans.file) same (c.in_err-write_master.ensures.refused plans.file plans.is_file))
    c.in_err-write_master.ensures.fault)

pub returns-in_err-write_certificate : goal.returns-in_err-write_certificate
returns-in_err-write_certificate g c =
    let cut : Cut = record { form = c.args.form; project_name = c.args.project.now; master_name = c.args.master.now; cert_name = c.args.cert.now } in
    let view = g.F.Folder.view in
    let old = view c.args.folder.now in
    let written = view c.write_master.new.folder in
    let new = view c.write_certificate.new.folder in
    let h = c.in_ok-sources.ensures.excerpts in
    let plans = c.in_ok-planned.ensures.found h.project h.takes (record { project_says = h.project_says; reads_excerpts = h.reads_excerpts }) in
    let same = c.cut_sources.ensures.same ∙ c.source_excerpts.ensures.same in
    let left = c.in_err-write_certificate.ensures.refused in
    let certifies = still_certifies c.in_ok-planned.planned c.write_master.new.planned left.0 c.write_master.ensures.same left.1 in
    let p = err_from_is_err_and c.from_residual-in_err-write_certificate.result c.from_residual-in_err-write_certificate.ensures.1 in
    subst (EditComesTo cut old new) (sym (p.1 ∙ ap Err p.2)) (cert_unwritten cut old written new h.project plans.file h.takes (planned_total c.in_ok-planned.planned)
    h.sources plans.edits
    (subst (λ (v : View). KeepsOthers c.args.master.now v written) same c.in_ok-write_master.ensures.others)
    (c.in_ok-write_master.ensures.bytes plans.file plans.is_file)
    c.in_err-write_certificate.ensures.others
    left.0 c.in_err-write_certificate.field-0.0 left.2
    (plans.certificate left.0 certifies) (plans.accepted left.0 certifies)
    c.in_err-write_certificate.ensures.fault)

pub returns : goal.returns
returns g c =
    let cut : Cut = record { form = c.args.form; project_name = c.args.project.now; master_name = c.args.master.now; cert_name = c.args.cert.now } in
    let view = g.F.Folder.view in
    let old = view c.args.folder.now in
    let written = view c.write_master.new.folder in
    let new = view c.write_certificate.new.folder in
    let h = c.in_ok-sources.ensures.excerpts in
    let plans = c.in_ok-planned.ensures.found h.project h.takes (record { project_says = h.project_says; reads_excerpts = h.reads_excerpts }) in
    let same = c.cut_sources.ensures.same ∙ c.source_excerpts.ensures.same in
    let whole = c.in_ok-write_certificate.ensures.bytes in
    let certifies = still_certifies c.in_ok-planned.planned c.write_master.new.planned whole.0 c.write_master.ensures.same whole.1 in
    subst (λ n. EditComesTo cut old new (Ok n)) (sym c.total-total.ensures) (both_written cut old written new h.project plans.file h.takes (planned_total c.in_ok-planned.planned)
    h.sources plans.edits
    (subst (λ (v : View). KeepsOthers c.args.master.now v written) same c.in_ok-write_master.ensures.others)
    (c.in_ok-write_master.ensures.bytes plans.file plans.is_file)
    c.in_ok-write_certificate.ensures.others
    whole.0 whole.2 (plans.certificate whole.0 certifies) (plans.accepted whole.0 certifies)
    (record { is_master = plans.is_master; joint = plans.joint; windows = plans.windows }))

pub returns-in_err-sources : goal.returns-in_err-sources
returns-in_err-sources g c =
    let cut : Cut = record { form = c.args.form; project_name = c.args.project.now; master_name = c.args.master.now; cert_name = c.args.cert.now } in
    let e = err_from_is_err_and c.from_residual.result c.from_residual.ensures.1 in
    subst (EditComesTo cut (g.F.Folder.view c.args.folder.now) (g.F.Folder.view c.source_excerpts.new.folder)) (sym (e.1 ∙ ap Err e.2)) (edit_unread cut (g.F.Folder.view c.args.folder.now) (g.F.Folder.view c.source_excerpts.new.folder) c.in_err-sources.field-0.0 c.in_err-sources.ensures.fault)
