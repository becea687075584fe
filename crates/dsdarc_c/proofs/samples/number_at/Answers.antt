use Rattle.std.proofs.Common.{◌+◌, ◌≤◌, arith, length}
use Rattle.dsdarc_c.proofs.NumberLaws.{in_range_high, in_range_low, written_high, written_low}
use Rattle.dsdarc_c.proofs.samples.number_at.Goals as goal

pub returns-then-top-lt128-2-clause-in_range : goal.returns-then-top-lt128-2-clause-in_range
returns-then-top-lt128-2-clause-in_range c =
    let inside : c.args.at + 3 ≤ length c.args.bytes.now = omega arith in
    in_range_low c.args.bytes.now c.args.at c.args.size (omega arith) inside (λ i. omega (arith, c.type_inv.bytes i)) c.from-low.result c.from.result c.from-top.result c.from-low.ensures c.from.ensures c.from-top.ensures c.if-top-lt128-2.true

pub returns-then-top-lt128-2-clause-written : goal.returns-then-top-lt128-2-clause-written
returns-then-top-lt128-2-clause-written c =
    let inside : c.args.at + 3 ≤ length c.args.bytes.now = omega arith in
    written_low c.args.bytes.now c.args.at c.args.size (omega arith) inside (λ i. omega (arith, c.type_inv.bytes i)) c.from-low.result c.from.result c.from-top.result c.from-low.ensures c.from.ensures c.from-top.ensures

pub returns-else-top-lt128-2-clause-in_range : goal.returns-else-top-lt128-2-clause-in_range
returns-else-top-lt128-2-clause-in_range c =
    let inside : c.args.at + 3 ≤ length c.args.bytes.now = omega arith in
    in_range_high c.args.bytes.now c.args.at c.args.size (omega arith) inside (λ i. omega (arith, c.type_inv.bytes i)) c.from-low.result c.from.result c.from-top.result c.from-low.ensures c.from.ensures c.from-top.ensures c.if-top-lt128-2.false

pub returns-else-top-lt128-2-clause-written : goal.returns-else-top-lt128-2-clause-written
returns-else-top-lt128-2-clause-written c =
    let inside : c.args.at + 3 ≤ length c.args.bytes.now = omega arith in
    written_high c.args.bytes.now c.args.at c.args.size (omega arith) inside (λ i. omega (arith, c.type_inv.bytes i)) c.from-low.result c.from.result c.from-top.result c.from-low.ensures c.from.ensures c.from-top.ensures c.if-top-lt128-2.false
