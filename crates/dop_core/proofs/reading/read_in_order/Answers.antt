use Rattle.dop_core.proofs.SoundLaws.{are_described}
use Rattle.dop_core.proofs.reading.read_in_order.Goals as goal

pub new-requires : goal.new-requires
new-requires c = rw (c.in_ok-description.ensures, c.in_ok-channels.ensures) (are_described c.in_ok-head.head _ c.in_ok-count.count c.in_ok-head.ensures.channels.0)
