use Rattle.std.proofs.Common.{◌∙◌}
use Rattle.command_core.proofs.SumLaws.{prints_none}
use Rattle.command_core.proofs.sums.check_one.Goals as goal

pub returns-in_default-clause-printed : goal.returns-in_default-clause-printed
returns-in_default-clause-printed g c = prints_none _ _ (c.tell_fault.ensures.same ∙ c.judge_in_folder-came.ensures.same)
