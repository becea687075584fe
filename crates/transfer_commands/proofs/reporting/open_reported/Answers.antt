use Rattle.std.proofs.Common.{◌∙◌, Err, ap, subst}
use Rattle.std.proofs.lemmas.Result.{err_from_is_err_and}
use Rattle.folder_core.specs.Files.{IsGiven, View}
use Rattle.transfer_commands.specs.Opening.{left_of}
use Rattle.transfer_commands.specs.Outlining.{IsUnoutlined}
use Rattle.transfer_commands.proofs.ExcerptLaws.{err_says}
use Rattle.transfer_commands.proofs.HeldLaws.{unreported_same, unreported_unoutlined}
use Rattle.transfer_commands.proofs.OpeningLaws.{prefix_read}
use Rattle.transfer_commands.proofs.reporting.open_reported.Goals as goal

pub returns : goal.returns
returns g c =
    let view = g.F.Folder.view in
    let name = c.args.name.now in
    let opened = c.in_ok-opened.opened in
    let states = c.in_ok-reported.ensures in
    let given : IsGiven (view c.args.folder.now) name (left_of g.F.In.Read.remaining opened) = subst (λ (v : View). IsGiven v name (left_of g.F.In.Read.remaining opened)) states.same c.in_ok-opened.ensures.given in
    let read = prefix_read (view c.args.folder.now) name opened.prefix.items (g.F.In.Read.remaining opened.file) given in
    record {
      same = c.open_prefix.ensures.same ∙ states.same;
      reports = record { file = states.file; file_read = states.file_read; is_known = states.is_known };
      states = c.in_ok-opened.ensures.states;
      given = given;
      described = record { prefix = opened.prefix.items; rest = read.0; file_read = read.1; states = c.in_ok-opened.ensures.states };
      fault = tt;
    }

pub returns-in_err-reported-clause-same : goal.returns-in_err-reported-clause-same
returns-in_err-reported-clause-same g c =
    let view = g.F.Folder.view in
    unreported_same c.args.name.now (view c.args.folder.now) (view c.open_past_sound.new.folder) c.in_err-reported.field-0.0 c.in_err-reported.ensures

pub returns-in_err-reported-clause-fault : goal.returns-in_err-reported-clause-fault
returns-in_err-reported-clause-fault g c =
    let view = g.F.Folder.view in
    let r = c.from_residual.result in
    let e = err_from_is_err_and r c.from_residual.ensures.1 in
    err_says r _ _ (e.1 ∙ ap Err e.2) (unreported_unoutlined c.args.name.now (view c.args.folder.now) (view c.open_past_sound.new.folder) c.in_err-reported.field-0.0 c.in_err-reported.ensures)

pub returns-in_err-opened-clause-fault : goal.returns-in_err-opened-clause-fault
returns-in_err-opened-clause-fault g c =
    let fault = c.in_err-opened.field-0.0 in
    let r = c.from_residual-in_err-opened.result in
    let e = err_from_is_err_and r c.from_residual-in_err-opened.ensures.1 in
    err_says r _ _ (e.1 ∙ ap Err e.2) (subst (λ (v : View). IsUnoutlined c.args.name.now v fault) c.in_ok-reported.ensures.same c.in_err-opened.ensures.fault)
