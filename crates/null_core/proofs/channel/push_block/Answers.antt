use Rattle.std.proofs.Common.{◌+◌, ◌∙◌, [], refl, slice_range, sym}
use Rattle.std.proofs.lemmas.List.{append-nil}
use Rattle.dsd_bits.proofs.ExitLaws.{no_ok}
use Rattle.null_core.specs.Channels.{blocks_bits}
use Rattle.null_core.proofs.BlockLaws.{AreSettled-block, AreSettled-lost, range_size, settled_as}
use Rattle.null_core.proofs.channel.push_block.Goals as goal

pub returns-in_err-block : goal.returns-in_err-block
returns-in_err-block c = record {
  added = no_ok _ _ c.from_residual.result c.from_residual.ensures.1;
  settled = AreSettled-lost c.args.blocks.now.items c.args.blocks.now.items (slice_range c.args.bits.now c.args.from (c.args.from + 65536)) [] refl refl;
}

pub returns-in_err-push : goal.returns-in_err-push
returns-in_err-push c = record {
  added = no_ok _ _ c.from_residual-in_err-push.result c.from_residual-in_err-push.ensures.1;
  settled = AreSettled-lost c.args.blocks.now.items c.push.new.self.items (slice_range c.args.bits.now c.args.from (c.args.from + 65536)) [] refl c.in_err-push.ensures.items;
}

pub returns : goal.returns
returns c =
    let more = slice_range c.args.bits.now c.args.from (c.args.from + 65536) in
    record {
      added = sym (append-nil (blocks_bits c.push.new.self.items)) ∙ settled_as c.args.blocks.now.items c.push.new.self.items more [] refl c.in_ok-block.block c.in_ok-push.ensures.items c.in_ok-block.ensures;
      settled = AreSettled-block c.args.blocks.now.items c.push.new.self.items more [] refl c.in_ok-block.block c.in_ok-push.ensures.items c.in_ok-block.ensures (range_size c.args.bits.now c.args.from 65536 c.requires.inside);
    }
