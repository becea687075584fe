use Rattle.std.proofs.Common.{◌≤◌, ◌*◌, ◌^◌, arith}
use Rattle.std.proofs.lemmas.Nat.{mul-le}
use Rattle.dsd_bits.proofs.blocks.blocks_size.Goals as goal
use Rattle.dsd_bits.proofs.blocks.blocks_size.Goals.{After-div_ceil}

-- the blocks are few
few : (c : After-div_ceil) → c.div_ceil.result * c.args.channels ≤ 2 ^ 21 * 6
few c = mul-le c.div_ceil.result c.args.channels (2 ^ 21) 6 (omega arith) c.requires.channel_number

pub overflow_mul-result : goal.overflow_mul-result
overflow_mul-result c = omega (arith, few c)

pub overflow_mul-result-2 : goal.overflow_mul-result-2
overflow_mul-result-2 c = omega (arith, few (goal.at.overflow_mul-result-2 c).After-div_ceil)

pub returns-clause-in_limit : goal.returns-clause-in_limit
returns-clause-in_limit c = omega (arith, few (goal.at.returns-clause-in_limit c).After-div_ceil)
