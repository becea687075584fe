use Rattle.std.proofs.Common.{◌+◌, ◌*◌, ◌≤◌, arith}
use Rattle.std.specs.Int.{div_ceil}
use Rattle.std.proofs.Math.Nat.{mul-le-mul_right}
use Rattle.std.proofs.lemmas.Grind.{div_ceil_times}
use Rattle.fir_core.proofs.lookup.span_of.Goals as goal
use Rattle.fir_core.proofs.lookup.span_of.Goals.{After-div_ceil-2, then-step-eq0, else-step-eq0}

covers : (c : After-div_ceil-2) → c.args.size + c.if-step-eq0.more ≤ c.div_ceil-2.result * 8 * c.args.step
covers c =
    let size = c.args.size + c.if-step-eq0.more in
    let steps = div_ceil size c.args.step in
    let whole : size ≤ steps * c.args.step = (div_ceil_times size c.args.step (omega arith)).0 in
    let eights : steps ≤ c.div_ceil-2.result * 8 = omega (arith, c.div_ceil.ensures, c.div_ceil-2.ensures) in
    let more : steps * c.args.step ≤ c.div_ceil-2.result * 8 * c.args.step = mul-le-mul_right c.args.step eights in
    omega (arith, whole, more)

pub returns-clause-loose : goal.returns-clause-loose
returns-clause-loose c = λ odd.
    let all = covers (goal.at.returns-clause-loose c).After-div_ceil-2 in
    elim c.if-step-eq0.branch [ then-step-eq0 w ↦ absurd (omega arith) | else-step-eq0 w ↦ omega (arith, all) ]

pub returns-clause-wide : goal.returns-clause-wide
returns-clause-wide c = omega (arith, covers (goal.at.returns-clause-wide c).After-div_ceil-2)
