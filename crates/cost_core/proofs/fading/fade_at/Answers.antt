use Rattle.std.proofs.Common.{arith, rules}
use Rattle.cost_core.proofs.SumLaws.{kept}
use Rattle.cost_core.proofs.fading.fade_at.Goals as goal

pub returns-then-i-levels : goal.returns-then-i-levels
returns-then-i-levels c = search rules

pub weighted_at-requires-clause-weights : goal.weighted_at-requires-clause-weights
weighted_at-requires-clause-weights c = c.requires.room.weights_in

pub weighted_at-requires-clause-enough : goal.weighted_at-requires-clause-enough
weighted_at-requires-clause-enough c = omega arith

pub weighted_at-requires-clause-inside : goal.weighted_at-requires-clause-inside
weighted_at-requires-clause-inside c = omega arith

pub weighted_at-requires-then-i-levels-clause-weights : goal.weighted_at-requires-then-i-levels-clause-weights
weighted_at-requires-then-i-levels-clause-weights c = c.requires.room.weights_in

pub weighted_at-requires-then-i-levels-clause-enough : goal.weighted_at-requires-then-i-levels-clause-enough
weighted_at-requires-then-i-levels-clause-enough c = omega arith

pub weighted_at-requires-then-i-levels-clause-inside : goal.weighted_at-requires-then-i-levels-clause-inside
weighted_at-requires-then-i-levels-clause-inside c = omega arith

pub weighted_at-requires-else-i-levels-clause-weights : goal.weighted_at-requires-else-i-levels-clause-weights
weighted_at-requires-else-i-levels-clause-weights c = c.requires.room.weights_in

pub weighted_at-requires-else-i-levels-clause-enough : goal.weighted_at-requires-else-i-levels-clause-enough
weighted_at-requires-else-i-levels-clause-enough c = omega arith

pub weighted_at-requires-else-i-levels-clause-inside : goal.weighted_at-requires-else-i-levels-clause-inside
weighted_at-requires-else-i-levels-clause-inside c = omega arith

pub blend-requires-clause-parts : goal.blend-requires-clause-parts
blend-requires-clause-parts c = omega arith

pub scale-requires-clause-levels : goal.scale-requires-clause-levels
scale-requires-clause-levels c = c.requires.room.levels_in

pub blend-requires-clause-first : goal.blend-requires-clause-first
blend-requires-clause-first c = rw (kept c.weighted_at.result (omega (arith, c.weighted_at.ensures.bound))) c.weighted_at.ensures.bound

pub blend-requires-clause-last : goal.blend-requires-clause-last
blend-requires-clause-last c = rw (kept c.weighted_at-then-i-levels.result (omega (arith, c.weighted_at-then-i-levels.ensures.bound))) c.weighted_at-then-i-levels.ensures.bound

pub scale-requires-clause-sum : goal.scale-requires-clause-sum
scale-requires-clause-sum c = rw (kept c.weighted_at-else-i-levels.result (omega (arith, c.weighted_at-else-i-levels.ensures.bound))) c.weighted_at-else-i-levels.ensures.bound
