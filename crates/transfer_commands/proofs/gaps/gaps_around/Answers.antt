use Rattle.std.proofs.Common.{◌+◌, ◌*◌, ◌/◌, ◌≤◌, arith, subst}
use Rattle.player_core.specs.Groups.{place_in}
use Rattle.transfer_commands.proofs.GapLaws.{is_before, not_after, not_before}
use Rattle.transfer_commands.proofs.gaps.gaps_around.Goals as goal

pub returns-clause-unread : goal.returns-clause-unread
returns-clause-unread c = λ is d limits factor j i channel ordered below reads inside known gap.
    let s = c.args.sound.now in
    let from : c.args.start * c.args.factor ≤ i + 4096 = subst (λ f. c.args.start * f ≤ i + 4096) factor (not_before c.args.start d.factor j i reads.0 d.delay ordered (omega (arith, reads.1, limits.few_taps)) reads.2) in
    let to : i ≤ c.args.stop * c.args.factor + 4096 = subst (λ f. i ≤ c.args.stop * f + 4096) factor (not_after c.args.stop d.factor j i reads.0 d.delay below (omega (arith, limits.delay_in_taps, limits.few_taps)) reads.2) in
    let after = c.bytes_before-before.ensures channel (i / 8) (omega (arith, from, c.first_bit.ensures)) in
    let before = c.bytes_up_to-up_to.ensures is.six_channels channel (i / 8) known (is_before i (c.args.stop * c.args.factor + 4096) c.last_bit.result to (omega (arith, inside, is.in_limit)) c.last_bit.ensures) in
    c.all_but.ensures.kept (place_in s.interleaving s.channels channel (i / 8)) after before gap
