use Rattle.std.proofs.Common.{Err, Result, subst, sym}
use Rattle.null_core.specs.declared.fault.NullFault.{NullFault}
use Rattle.null_core.specs.Reading.{MixedContent}
use Rattle.null_commands.specs.Masters.{TestsMaster}
use Rattle.null_commands.specs.Sources.{IsUnread}
use Rattle.null_commands.specs.Testing.{TestsMixed}
use Rattle.null_commands.proofs.TestLaws.{after, whichever}
use Rattle.null_commands.proofs.testing.test_mixed.Goals as goal

pub returns-in-Ok-clause-tested : goal.returns-in-Ok-clause-tested
returns-in-Ok-clause-tested g c =
    let old = g.F.Folder.view c.args.folder.now in
    subst (λ (made : Result MixedContent NullFault). TestsMixed old c.args.master.now made c.test_master.result) (sym c.in-Ok.is)
    (whichever (TestsMaster old c.in-Ok.mixed c.args.master.now) IsUnread c.test_master.result c.test_master.ensures.tested c.test_master.ensures.fault)

pub returns-in-Err-clause-tested : goal.returns-in-Err-clause-tested
returns-in-Err-clause-tested g c =
    let old = g.F.Folder.view c.args.folder.now in
    subst (λ (made : Result MixedContent NullFault). TestsMixed old c.args.master.now made (Err c.fault_after.result)) (sym c.in-Err.is)
    (after old c.args.master.now c.in-Err.fault c.fault_after.result c.fault_after.ensures.fault c.fault_after.ensures.opened)
