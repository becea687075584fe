use Rattle.dsf_core.proofs.ShapeLaws.{shape_is}
use Rattle.dsf_core.proofs.describing.description_of.Goals as goal

pub new-requires-3 : goal.new-requires-3
new-requires-3 c = record { shape = rw (c.in_ok-ids.ensures, c.layout-layout.ensures, c.new.ensures.items, c.new-2.ensures.items) (shape_is c.args.header.now c.args.tag.items c.requires.in_limits) }
