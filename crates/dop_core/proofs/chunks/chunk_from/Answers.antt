use Rattle.std.proofs.Common.{arith, sym, ◌∙◌}
use Rattle.dop_core.proofs.ChunkLaws.{walk_begins, walk_ends, walk_finds, walk_on}
use Rattle.dop_core.proofs.chunks.chunk_from.Goals as goal

pub loop-here-init : goal.loop-here-init
loop-here-init c = walk_begins c.args.id c.args.file.now c.args.at

pub returns-then-has_id-clause-exact : goal.returns-then-has_id-clause-exact
returns-then-has_id-clause-exact c =
    walk_finds c.args.id c.args.file.now c.loop-here.here c.args.at c.loop-here.invariant (omega (arith, c.loop-here-test.true, c.if-file-here-ge-HEAD_SIZE.true)) (sym c.has_id.ensures ∙ c.if-has_id.true)

pub returns-then-has_id-clause-inside : goal.returns-then-has_id-clause-inside
returns-then-has_id-clause-inside c = (c.loop-here.invariant.after, omega (arith, c.loop-here-test.true, c.if-file-here-ge-HEAD_SIZE.true))

pub loop-here-preserved : goal.loop-here-preserved
loop-here-preserved c =
    rw c.next_of-here.ensures (walk_on c.args.id c.args.file.now c.loop-here.here c.args.at c.loop-here.invariant (omega (arith, c.loop-here-test.true, c.if-file-here-ge-HEAD_SIZE.true)) (sym c.has_id.ensures ∙ c.if-has_id.false))

pub returns-else-file-here-ge-HEAD_SIZE-clause-exact : goal.returns-else-file-here-ge-HEAD_SIZE-clause-exact
returns-else-file-here-ge-HEAD_SIZE-clause-exact c =
    walk_ends c.args.id c.args.file.now c.loop-here.here c.args.at c.loop-here.invariant (omega (arith, c.loop-here-test.true, c.if-file-here-ge-HEAD_SIZE.false))

pub returns-after-loop-here-clause-exact : goal.returns-after-loop-here-clause-exact
returns-after-loop-here-clause-exact c =
    walk_ends c.args.id c.args.file.now c.loop-here.here c.args.at c.loop-here.invariant (omega (arith, c.loop-here-test.false))
