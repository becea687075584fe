use Rattle.std.proofs.Common.{inl, inr, refl, subst}
use Rattle.sound_core.specs.Naming.{IfRefusedAs}
use Rattle.transfer_commands.specs.Outlining.{IsFirstFault}
use Rattle.transfer_commands.proofs.outlining.refusal_of.Goals as goal

pub returns-in-Refused : goal.returns-in-Refused
returns-in-Refused c = λ left first. inr (record { cause = c.in-Refused.fault; first = subst (λ u. IfRefusedAs u (IsFirstFault left)) c.in-Refused.is first; named = c.from.ensures })

pub returns-in-Stream-Memory : goal.returns-in-Stream-Memory
returns-in-Stream-Memory c = λ left first. inl refl

pub returns-in-Stream : goal.returns-in-Stream
returns-in-Stream c = λ left first. tt
