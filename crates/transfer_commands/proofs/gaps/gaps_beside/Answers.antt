use Rattle.std.proofs.Common.{◌/◌, arith}
use Rattle.player_core.specs.Groups.{place_in}
use Rattle.transfer_commands.proofs.gaps.gaps_beside.Goals as goal

pub returns-clause-unkept : goal.returns-clause-unkept
returns-clause-unkept c = λ is i channel from to inside known gap.
    let s = c.args.sound.now in
    let after = c.bytes_before-before.ensures channel (i / 8) (omega (arith, from)) in
    let before = c.bytes_up_to-up_to.ensures is.six_channels channel (i / 8) known (omega (arith, to)) in
    c.all_but.ensures.kept (place_in s.interleaving s.channels channel (i / 8)) after before gap
