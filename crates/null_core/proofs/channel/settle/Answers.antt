use Rattle.std.proofs.Common.{◌≡◌, ◌∙◌, [], arith, refl}
use Rattle.dsd_bits.proofs.ExitLaws.{no_ok}
use Rattle.null_core.specs.Channels.{block_bits}
use Rattle.null_core.proofs.BlockLaws.{AreSettled-block, AreSettled-lost, AreSettled-same, settled_as}
use Rattle.null_core.proofs.channel.settle.Goals as goal

pub returns-then-len-lt-BLOCK : goal.returns-then-len-lt-BLOCK
returns-then-len-lt-BLOCK c = record {
  same = refl;
  settled = AreSettled-same c.args.blocks.now.items c.args.last.now (omega (arith, c.if-len-lt-BLOCK.true, c.len.ensures.value));
}

pub returns-in_err-push : goal.returns-in_err-push
returns-in_err-push c = record {
  same = no_ok _ _ c.from_residual.result c.from_residual.ensures.1;
  settled = AreSettled-lost c.args.blocks.now.items c.push.new.self.items c.args.last.now c.replace-full.new.dest (c.replace-full.ensures.after ∙ c.new.ensures) c.in_err-push.ensures.items;
}

pub returns : goal.returns
returns c =
    let none : c.replace-full.new.dest ≡ [] = c.replace-full.ensures.after ∙ c.new.ensures in
    let is : block_bits c.settled.result ≡ c.args.last.now = c.settled.ensures ∙ c.replace-full.ensures.value in
    record {
      same = settled_as c.args.blocks.now.items c.push.new.self.items c.args.last.now c.replace-full.new.dest none c.settled.result c.in_ok-push.ensures.items is;
      settled = AreSettled-block c.args.blocks.now.items c.push.new.self.items c.args.last.now c.replace-full.new.dest none c.settled.result c.in_ok-push.ensures.items is (omega (arith, c.if-len-lt-BLOCK.false, c.len.ensures.value, c.requires.most));
    }
