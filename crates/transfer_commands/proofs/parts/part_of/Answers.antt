use Rattle.std.proofs.Common.{◌∙◌, Err, ap}
use Rattle.std.proofs.lemmas.Result.{IfErr-weaker, err_from_is_err_and}
use Rattle.transfer_commands.specs.PartPlaying.{ReportsRead}
use Rattle.transfer_commands.proofs.ExcerptLaws.{err_says}
use Rattle.transfer_commands.proofs.FindingLaws.{found_in_report, unfound_in_report, unreported_unfound}
use Rattle.transfer_commands.proofs.parts.part_of.Goals as goal

pub returns-clause-found : goal.returns-clause-found
returns-clause-found g c =
    let states = c.in_ok-reported.ensures in
    let reports : ReportsRead c.args.input.now (g.F.Folder.view c.args.folder.now) c.in_ok-reported.reported = record { file = states.file; file_read = states.file_read; is_known = states.is_known } in
    let by = c.part_by.ensures in
    found_in_report c.args.project.now c.args.input.now (g.F.Folder.view c.args.folder.now) c.in_ok-reported.reported c.args.span reports c.part_by.result by.project by.factor by.found

pub returns-clause-refused : goal.returns-clause-refused
returns-clause-refused g c =
    let states = c.in_ok-reported.ensures in
    let reports : ReportsRead c.args.input.now (g.F.Folder.view c.args.folder.now) c.in_ok-reported.reported = record { file = states.file; file_read = states.file_read; is_known = states.is_known } in
    IfErr-weaker c.part_by.result _ _ (unfound_in_report c.args.project.now c.args.input.now (g.F.Folder.view c.args.folder.now) c.in_ok-reported.reported c.args.span reports) c.part_by.ensures.refused

pub returns-in_err-reported-clause-refused : goal.returns-in_err-reported-clause-refused
returns-in_err-reported-clause-refused g c =
    let view = g.F.Folder.view in
    let r = c.from_residual.result in
    let e = err_from_is_err_and r c.from_residual.ensures.1 in
    err_says r _ _ (e.1 ∙ ap Err e.2) (unreported_unfound c.args.project.now c.args.input.now (view c.args.folder.now) (view c.open_past_sound.new.folder) c.args.span c.in_err-reported.field-0.0 c.in_err-reported.ensures)
