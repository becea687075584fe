-- Of the first channels it is noted, and of the others it is as it was.
use Rattle.judge_core.proofs.AuditLaws.{AuditedUpTo}
use Rattle.judge_core.proofs.auditor.note_firsts.Given as goal

abbrev pub invariant-loop-c : goal.invariant-loop-c
invariant-loop-c l = AuditedUpTo l.cut l.done l.parts l.initial.firsts l.firsts l.c
