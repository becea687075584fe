use Rattle.std.proofs.Common.{arith, rules}
use Rattle.dsdiff_core.proofs.fields.mark_fits.Goals as goal

pub returns : goal.returns
returns c = record {
  hours = omega arith;
  minutes = omega arith;
  seconds = omega arith;
  samples = omega arith;
  offset = search rules;
  kind = omega arith;
  channel = omega arith;
  flags = omega arith;
}
