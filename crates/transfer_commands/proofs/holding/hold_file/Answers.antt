use Rattle.std.proofs.Common.{◌∙◌, Err, ap}
use Rattle.std.proofs.lemmas.Result.{IfErr-weaker, IfOk-weaker, err_from_is_err_and}
use Rattle.dsd_bits.proofs.ExitLaws.{no_value}
use Rattle.transfer_commands.specs.Opening.{left_of}
use Rattle.transfer_commands.proofs.ExcerptLaws.{err_says}
use Rattle.transfer_commands.proofs.ReadLaws.{held_read}
use Rattle.transfer_commands.proofs.ReportLaws.{unread_unoutlined}
use Rattle.transfer_commands.proofs.holding.hold_file.Goals as goal

pub returns-clause-bytes : goal.returns-clause-bytes
returns-clause-bytes g c =
    let view = g.F.Folder.view c.args.folder.now in
    let left = left_of g.F.In.Read.remaining c.in_ok-opened.opened in
    IfOk-weaker c.hold_opened.result _ _ (λ bytes h. held_read view c.args.name.now left bytes.items c.in_ok-opened.ensures.given h) c.hold_opened.ensures.bytes

pub returns-clause-fault : goal.returns-clause-fault
returns-clause-fault g c = IfErr-weaker c.hold_opened.result _ _ (λ f h. unread_unoutlined c.args.name.now (g.F.Folder.view c.args.folder.now) f h) c.hold_opened.ensures.fault

pub returns-in_err-opened : goal.returns-in_err-opened
returns-in_err-opened g c =
    let r = c.from_residual.result in
    let is = c.from_residual.ensures.1 in
    let e = err_from_is_err_and r is in
    record {
      same = c.open_prefix.ensures.same;
      bytes = no_value _ _ r is;
      fault = err_says r _ _ (e.1 ∙ ap Err e.2) c.in_err-opened.ensures.fault;
    }
