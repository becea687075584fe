use Rattle.std.proofs.Common.{subst}
use Rattle.dop_core.specs.Pieces.{IfRefused}
use Rattle.transfer_commands.specs.DopConverting.{IsFirstDopFault}
use Rattle.transfer_commands.proofs.DopFileLaws.{refusal_left}
use Rattle.transfer_commands.proofs.convert_dop.refusal_by.Goals as goal

pub returns-in-Refused : goal.returns-in-Refused
returns-in-Refused c = λ left first. refusal_left c.in-Refused.fault c.refusal_of.result left c.refusal_of.ensures (subst (λ s. IfRefused s (IsFirstDopFault left)) c.in-Refused.is first)
