use Rattle.std.proofs.Common.{◌∙◌, Err, ap, refl, subst, sym}
use Rattle.std.proofs.lemmas.Result.{err_from_is_err_and}
use Rattle.transfer_commands.specs.Reporting.{ReportComesTo}
use Rattle.transfer_commands.proofs.ReportLaws.{outline_reports, unoutlined_reported}
use Rattle.transfer_commands.proofs.reporting.open_past_sound.Goals as goal

pub reported_by-requires : goal.reported_by-requires
reported_by-requires g c = c.in_ok-outline.ensures.found.is_outline.reported.is_sound.in_limit

pub returns : goal.returns
returns g c =
    let view = g.F.Folder.view in
    outline_reports c.args.file.now (view c.args.folder.now) (view c.args.folder.now) (view c.outline_past_sound.new.folder) c.in_ok-outline.outline c.reported_by.result refl c.outline_past_sound.ensures.same c.in_ok-outline.ensures.found c.reported_by.ensures

pub returns-in_err-outline : goal.returns-in_err-outline
returns-in_err-outline g c =
    let view = g.F.Folder.view in
    let e = err_from_is_err_and c.from_residual.result c.from_residual.ensures.1 in
    subst (ReportComesTo c.args.file.now (view c.args.folder.now) (view c.outline_past_sound.new.folder)) (sym (e.1 ∙ ap Err e.2)) (unoutlined_reported c.args.file.now (view c.args.folder.now) (view c.outline_past_sound.new.folder) c.in_err-outline.field-0.0 c.outline_past_sound.ensures.same c.in_err-outline.ensures.fault)
