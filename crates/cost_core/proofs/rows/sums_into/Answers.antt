use Rattle.std.proofs.Common.{◌≡◌, ◌+◌, ◌*◌, take, drop, arith}
use Rattle.cost_core.specs.Rows.{twice}
use Rattle.cost_core.proofs.Twice.{prefix_of, back_of, eight_sums, eight_fit}
use Rattle.cost_core.proofs.rows.sums_into.Goals as goal
use Rattle.cost_core.proofs.rows.sums_into.Goals.{After-doubled}

prefix_is : (c : After-doubled) → c.doubled.result.0 ≡ take 8 (drop (8 * (2 * c.args.chunk)) (twice c.args.values.now))
prefix_is c = prefix_of c.as_chunks.result.0.now c.args.values.now c.doubled.result.0 c.args.chunk c.as_chunks.ensures.front c.requires.inside c.doubled.ensures.front

back_is : (c : After-doubled) → c.doubled.result.1 ≡ take 8 (drop (8 * (2 * c.args.chunk + 1)) (twice c.args.values.now))
back_is c = back_of c.as_chunks.result.0.now c.args.values.now c.doubled.result.1 c.args.chunk c.as_chunks.ensures.front c.requires.inside c.doubled.ensures.back

pub overflow_add-first : goal.overflow_add-first
overflow_add-first c =
    eight_fit c.as_chunks-2.result.0.now c.args.values.now c.args.steps.now c.doubled.result.0 (2 * c.args.chunk) c.as_chunks-2.ensures.front (omega (arith, c.requires.inside, c.requires.as_many))
    (prefix_is (goal.at.overflow_add-first c).After-doubled) c.requires.values c.requires.steps

pub overflow_add-second-2 : goal.overflow_add-second-2
overflow_add-second-2 c =
    eight_fit c.as_chunks-2.result.0.now c.args.values.now c.args.steps.now c.doubled.result.1 (2 * c.args.chunk + 1) c.as_chunks-2.ensures.front (omega (arith, c.requires.inside, c.requires.as_many))
    (back_is (goal.at.overflow_add-second-2 c).After-doubled) c.requires.values c.requires.steps

pub returns : goal.returns
returns c = record {
  front = eight_sums c.as_chunks-2.result.0.now c.args.values.now c.args.steps.now c.doubled.result.0 (2 * c.args.chunk) c.as_chunks-2.ensures.front (omega (arith, c.requires.inside, c.requires.as_many))
      (prefix_is (goal.at.returns c).After-doubled);
  back = eight_sums c.as_chunks-2.result.0.now c.args.values.now c.args.steps.now c.doubled.result.1 (2 * c.args.chunk + 1) c.as_chunks-2.ensures.front (omega (arith, c.requires.inside, c.requires.as_many))
      (back_is (goal.at.returns c).After-doubled);
}
