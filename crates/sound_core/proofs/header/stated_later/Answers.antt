use Rattle.std.proofs.Common.{◌++◌}
use Rattle.sound_core.proofs.NamingLaws.{faulty_refuses}
use Rattle.sound_core.proofs.header.stated_later.Goals as goal

pub returns-in-Some-2-clause-refused : goal.returns-in-Some-2-clause-refused
returns-in-Some-2-clause-refused c = λ rest. faulty_refuses (c.args.prefix.now ++ rest) c.in-Some-2.start ((rw c.in-Some-2.is at c.in_ok-start.ensures.faulty) rest)
