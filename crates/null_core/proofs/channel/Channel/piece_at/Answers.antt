use Rattle.std.proofs.Common.{◌-◌, ◌/◌, ◌%◌, arith, ap, refl}
use Rattle.null_core.proofs.BlockLaws.{last_room, piece_in_block, piece_in_last}
use Rattle.null_core.proofs.channel.Channel.piece_at.Goals as goal

pub returns-then-number-len : goal.returns-then-number-len
returns-then-number-len c =
    rw (← c.self.view_is) (
    piece_in_block c.self.inside.blocks.items c.self.inside.last (c.args.i / 65536) (c.args.i % 65536) c.args.i c.index.result.now c.piece_of.result c.self.invariant.full (omega (arith, c.if-number-len.true, c.len.ensures)) c.index.ensures (omega arith) c.piece_of.ensures
    )

pub overflow_sub-result : goal.overflow_sub-result
overflow_sub-result c = omega (arith, last_room c.self.inside.blocks.items c.self.inside.last c.args.i c.self.invariant.full c.self.invariant.rest (rw c.self.view_is c.requires) (omega (arith, c.if-number-len.false, c.len.ensures)), c.len-2.ensures.value)

pub returns : goal.returns
returns c =
    rw (← c.self.view_is) (
    piece_in_last c.self.inside.blocks.items c.self.inside.last c.args.i c.self.invariant.full c.self.invariant.rest (rw c.self.view_is c.requires) (omega (arith, c.if-number-len.false, c.len.ensures)) _ refl refl (ap (λ n. n - c.args.i % 65536) c.len-2.ensures.value)
    )
