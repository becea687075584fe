use Rattle.std.proofs.Common.{◌≡◌, ◌%◌, length, ap, ◌∙◌, rules}
use Rattle.dsd_bits.specs.Channels.{count_of}
use Rattle.interleave_core.proofs.TakenLaws.{no_part, unlaced_count, unlaced_level, unlaced_number}
use Rattle.interleave_core.proofs.reinterleaving.unlace_frames.Goals as goal

pub unreachable-requires : goal.unreachable-requires
unreachable-requires c =
    let none : length c.args.bytes.now % c.args.stretch.channels ≡ 0 = no_part c.args.bytes.now c.args.stretch.channels c.args.stretch.count c.args.stretch.channel_number.0 c.requires.whole c.requires.size in
    search rules

pub returns-in-Ok-clause-number : goal.returns-in-Ok-clause-number
returns-in-Ok-clause-number c =
    ap length c.in-Ok.ensures.ok ∙ unlaced_number c.args.bytes.now c.args.stretch.channels c.args.stretch.count c.args.stretch.channel_number.0 c.requires.whole c.requires.size

pub returns-in-Ok-clause-level : goal.returns-in-Ok-clause-level
returns-in-Ok-clause-level c =
    rw c.in-Ok.ensures.ok (unlaced_level c.args.bytes.now c.args.stretch.channels c.args.stretch.count c.args.stretch.channel_number.0 c.requires.whole c.requires.size)

pub returns-in-Ok-clause-count : goal.returns-in-Ok-clause-count
returns-in-Ok-clause-count c =
    ap count_of c.in-Ok.ensures.ok ∙ unlaced_count c.args.bytes.now c.args.stretch.channels c.args.stretch.count c.args.stretch.channel_number.0 c.requires.whole c.requires.size
