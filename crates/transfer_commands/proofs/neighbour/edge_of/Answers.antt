use Rattle.std.proofs.lemmas.Result.{IfErr-weaker, IfOk-weaker}
use Rattle.transfer_commands.specs.Opening.{left_of}
use Rattle.transfer_commands.proofs.BetweenLaws.{unread_left}
use Rattle.transfer_commands.proofs.EdgeLaws.{edge_left}
use Rattle.transfer_commands.proofs.neighbour.edge_of.Goals as goal

pub returns-clause-edge : goal.returns-clause-edge
returns-clause-edge g c = IfOk-weaker c.laced_of.result _ _ (λ bytes h. edge_left (left_of g.F.In.Read.remaining c.args.opened) c.args.range c.in_ok-kept.kept c.in_ok-kept.ensures.kept c.args.opened.sound bytes.items h) c.laced_of.ensures.laced

pub returns-clause-fault : goal.returns-clause-fault
returns-clause-fault g c = IfErr-weaker c.laced_of.result _ _ (λ f h. unread_left (left_of g.F.In.Read.remaining c.args.opened) f h) c.laced_of.ensures.fault
