use Rattle.judge_core.proofs.AcceptedLaws.{accepted_costs_least, accepted_costs_windows, accepted_is_least, accepted_is_master}
use Rattle.judge_core.proofs.laws.accepted_is_least.Goals as goal

pub returns : goal.returns
returns c = record { master = accepted_is_master; least = accepted_is_least; joint = accepted_costs_least; windows = accepted_costs_windows }
