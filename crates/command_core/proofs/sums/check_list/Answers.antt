use Rattle.std.proofs.Common.{subst, sym}
use Rattle.folder_core.specs.Files.{IsReadOf}
use Rattle.command_core.proofs.SumLaws.{of_list}
use Rattle.command_core.proofs.sums.check_list.Goals as goal

pub returns-in-Ok-clause-comes : goal.returns-in-Ok-clause-comes
returns-in-Ok-clause-comes g c =
    of_list c.args.list.now c.deref.result.now _ _ _ c.check_bytes.result (subst (IsReadOf (g.H.Host.state c.args.host.now).view c.args.list.now) (sym c.deref.ensures.value) c.in-Ok.ensures.read) c.read_list.ensures.same c.check_bytes.ensures.comes
