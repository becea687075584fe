use Rattle.std.proofs.Common.{length, ap, subst, sym, ◌∙◌, arith}
use Rattle.dsd_bits.specs.Channels.{IsLevel}
use Rattle.dop_core.proofs.BitLaws.{level_is, number_is}
use Rattle.dop_core.proofs.converting.push_piece.Goals as goal

pub push_blocks-requires-clause-channel_number : goal.push_blocks-requires-clause-channel_number
push_blocks-requires-clause-channel_number c =
    let s = c.args.stretch in
    let long = ap length (c.deref.ensures.value ∙ c.in_ok-bits-in-Blocks.ensures) ∙ number_is s.channels c.args.piece.now s.count in
    (omega (arith, long, s.channel_number.0), omega (arith, long, s.channel_number.1))

pub push_blocks-requires-clause-level : goal.push_blocks-requires-clause-level
push_blocks-requires-clause-level c =
    let s = c.args.stretch in
    subst IsLevel (sym (c.deref.ensures.value ∙ c.in_ok-bits-in-Blocks.ensures)) (level_is s.channels c.args.piece.now s.count s.channel_number.0)
