use Rattle.null_commands.proofs.testing.fault_after.Goals as goal

pub returns-then-is_read-clause-opened : goal.returns-then-is_read-clause-opened
returns-then-is_read-clause-opened g c = λ _. c.reads_through-is_read.ensures.opened c.if-is_read.true
