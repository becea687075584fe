use Rattle.std.proofs.lemmas.Result.{IfErr-weaker, IfOk-weaker}
use Rattle.transfer_commands.specs.Opening.{left_of}
use Rattle.transfer_commands.proofs.OpeningLaws.{outlined}
use Rattle.transfer_commands.proofs.ReportLaws.{unoutlined_left}
use Rattle.transfer_commands.proofs.opened.outline_past_sound.Goals as goal

pub returns-clause-found : goal.returns-clause-found
returns-clause-found g c = IfOk-weaker c.outline_opened.result _ _ (outlined (g.F.Folder.view c.args.folder.now) c.args.name.now (left_of g.F.In.Read.remaining c.in_ok-opened.opened) c.in_ok-opened.ensures.given) c.outline_opened.ensures.found

pub returns-clause-fault : goal.returns-clause-fault
returns-clause-fault g c = IfErr-weaker c.outline_opened.result _ _ (unoutlined_left (g.F.Folder.view c.args.folder.now) c.args.name.now (left_of g.F.In.Read.remaining c.in_ok-opened.opened) c.in_ok-opened.ensures.given) c.outline_opened.ensures.fault
