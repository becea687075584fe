use Rattle.dop_core.proofs.SoundLaws.{shape_is}
use Rattle.dop_core.proofs.reading.describe.Goals as goal

pub new-requires-4 : goal.new-requires-4
new-requires-4 c = record { shape = rw (c.in_ok-ids.ensures, c.usual_layout-layout.ensures, c.new.ensures.items, c.new-2.ensures.items, c.new-3.ensures.items) (shape_is c.args.head.now c.args.count c.requires.rate.0 c.requires.rate.1 c.requires.channels.0 c.requires.channels.1 c.requires.in_limit) }
