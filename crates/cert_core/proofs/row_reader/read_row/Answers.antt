use Rattle.std.proofs.Common.{arith}
use Rattle.cert_core.proofs.row_reader.read_row.Goals as goal

pub read_values-requires : goal.read_values-requires
read_values-requires g c = record { ready = c.requires.ready; room = omega (arith, c.requires.room) }

pub read_raised-requires : goal.read_raised-requires
read_raised-requires g c = c.requires

pub returns-in-One : goal.returns-in-One
returns-in-One g c = rw c.in-One.is c.read_values.ensures

pub returns-in-Two : goal.returns-in-Two
returns-in-Two g c = rw c.in-Two.is c.read_raised.ensures
