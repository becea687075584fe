use Rattle.std.proofs.Common.{arith}
use Rattle.null_core.proofs.BlockLaws.{alike_in_piece}
use Rattle.null_core.proofs.channel.Channel.alike.Goals as goal

pub returns-then-same-size-clause-alike : goal.returns-then-same-size-clause-alike
returns-then-same-size-clause-alike c =
    alike_in_piece c.args.self.now c.args.others.now c.args.at c.args.own c.loop-done.done c.alike_bits-same.result c.piece_at-piece.result c.piece_at-piece.ensures (omega (arith, c.alike_bits-same.ensures.few, c.min-size.ensures)) c.loop-done.invariant.alike c.alike_bits-same.ensures.alike

pub loop-done-preserved : goal.loop-done-preserved
loop-done-preserved c = record {
  few = omega (arith, c.alike_bits-same.ensures.few, c.min-size.ensures);
  alike = alike_in_piece c.args.self.now c.args.others.now c.args.at c.args.own c.loop-done.done c.alike_bits-same.result c.piece_at-piece.result c.piece_at-piece.ensures (omega (arith, c.alike_bits-same.ensures.few, c.min-size.ensures)) c.loop-done.invariant.alike c.alike_bits-same.ensures.alike;
}
