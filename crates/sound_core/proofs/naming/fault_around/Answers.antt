use Rattle.std.proofs.Common.{◌∙◌, Err, Result, ap, sym}
use Rattle.std.proofs.lemmas.Result.{IfOk-weaker}
use Rattle.form_core.specs.declared.fault.ReadFault.{ReadFault}
use Rattle.form_core.specs.declared.opening.Opened.{Opened}
use Rattle.sound_core.proofs.UnsureLaws.{around_named}
use Rattle.sound_core.proofs.naming.fault_around.Goals as goal

pub describe-requires : goal.describe-requires
describe-requires c = c.requires

pub returns-clause-named : goal.returns-clause-named
returns-clause-named c =
    IfOk-weaker c.fault_stated.result _ _ (λ e stated sound long.
    around_named c.args.head.now c.args.back.now c.in-Err.fault c.requires stated.0 c.in-Err.ensures sound long ∙ ap (λ (f : ReadFault). let r : Result Opened ReadFault = Err f in r) (sym stated.1)) c.fault_stated.ensures.stated
