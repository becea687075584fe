use Rattle.std.proofs.Common.{◌≢◌, [], rules, subst, sym}
use Rattle.command_core.specs.Spelling.{IsSpelled}
use Rattle.command_core.proofs.SumLaws.{of_text}
use Rattle.command_core.proofs.sums.check_bytes.Goals as goal

pub returns-in-Ok-2-clause-comes : goal.returns-in-Ok-2-clause-comes
returns-in-Ok-2-clause-comes g c =
    let some : c.deref.result.now ≢ [] = search rules in
    of_text c.args.bytes.now c.deref.result.now _ _ c.check_lines.result (subst (IsSpelled c.args.bytes.now) (sym c.deref.ensures) c.in-Ok.ensures) some c.check_lines.ensures.comes
