use Rattle.std.proofs.Common.{◌≡◌, sym, subst, arith}
use Rattle.dsd_bits.specs.Blocks.{AreBlocks, blocked}
use Rattle.dsd_bits.proofs.BlockLemmas.{AreBlocks-blocked}
use Rattle.dsd_bits.proofs.blocks.lace_blocks.Goals as goal

pub returns-clause-places : goal.returns-clause-places
returns-clause-places c =
    let channels = c.args.channels.now in
    let order = c.args.order in
    let text : c.push_blocks.new.out.items ≡ blocked order channels = grind arith in
    subst (AreBlocks order channels) (sym text) (AreBlocks-blocked order channels c.requires.channel_number.0)
