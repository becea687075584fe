use Rattle.std.proofs.Common.{◌/◌, arith}
use Rattle.player_core.specs.Groups.{part_size}
use Rattle.transfer_commands.proofs.GapLaws.{up_to_all}
use Rattle.transfer_commands.proofs.gaps.bytes_up_to.Goals as goal

pub returns : goal.returns
returns c = λ six channel p less earlier.
    up_to_all c.neighbours-size.result (part_size c.args.sound.now.interleaving) c.args.sound.now.channels (c.args.bit / 8) c.saturating_mul-group.result c.saturating_mul.result c.neighbours-size.ensures.known.0 c.neighbours-size.ensures.known.1 c.neighbours-size.ensures.size six
    (λ small. omega (arith, small, c.saturating_mul-group.ensures)) (λ small. omega (arith, small, c.saturating_mul.ensures)) channel p less earlier
