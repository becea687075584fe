use Rattle.std.proofs.Common.{arith}
use Rattle.std.proofs.lemmas.Grind.{common_steps}
use Rattle.wave_core.proofs.SizeLaws.{too_many}
use Rattle.wave_core.proofs.header.sizes_of.Goals as goal

pub returns-then-frames-gt-LARGEST_SIZE-clause-none : goal.returns-then-frames-gt-LARGEST_SIZE-clause-none
returns-then-frames-gt-LARGEST_SIZE-clause-none c = too_many c.args.spec.now.channels c.args.spec.now.width c.args.frames c.block_align-block_align.ensures.limits.some_channel c.block_align-block_align.ensures.limits.known_width (omega arith)

pub returns-clause-riff_size : goal.returns-clause-riff_size
returns-clause-riff_size c = grind (arith, common_steps)

pub returns-then-riff-gt-LARGEST_SIZE-clause-none : goal.returns-then-riff-gt-LARGEST_SIZE-clause-none
returns-then-riff-gt-LARGEST_SIZE-clause-none c = grind (arith, common_steps)
