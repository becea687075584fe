use Rattle.std.proofs.Common.{rules}
use Rattle.dsd_bits.proofs.ReversingLemmas.{is_reversed}
use Rattle.dsd_bits.proofs.reversing.reverse_byte.Goals as goal

pub returns-clause-bits : goal.returns-clause-bits
returns-clause-bits c = is_reversed c.args.byte _ (search rules)
