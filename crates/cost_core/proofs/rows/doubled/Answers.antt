use Rattle.cost_core.proofs.Twice.{woven_prefix, woven_back}
use Rattle.cost_core.proofs.rows.doubled.Goals as goal

pub returns : goal.returns
returns c = record {
  front = woven_prefix c.args.values.now c.told-values;
  back = woven_back c.args.values.now c.told-values;
}
