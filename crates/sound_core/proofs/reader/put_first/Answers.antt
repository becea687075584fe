use Rattle.std.proofs.Common.{◌∙◌, arith}
use Rattle.sound_core.proofs.ReadLaws.{prefix_put, same_long}
use Rattle.sound_core.proofs.reader.put_first.Goals as goal

pub returns-clause-long : goal.returns-clause-long
returns-clause-long c = same_long _ _ c.args.block.now.items c.args.block.now.ok.0

pub returns-clause-prefix : goal.returns-clause-prefix
returns-clause-prefix c =
    prefix_put _ _ c.copy_from_slice.new.self _ _ (omega (arith, c.copy_from_slice.ensures.len, c.split_at_mut-prefix.ensures.front_len)) (omega (arith, c.requires, c.args.block.now.ok.0)) ∙ c.copy_from_slice.ensures.after
