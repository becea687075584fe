use Rattle.std.proofs.Common.{arith}
use Rattle.null_core.proofs.ByteLaws.{across_is}
use Rattle.null_core.proofs.compared.byte_across.Goals as goal

pub returns : goal.returns
returns c = across_is c.args.high c.args.low c.args.shift (omega (arith, c.ranges.low.fits)) c.requires
