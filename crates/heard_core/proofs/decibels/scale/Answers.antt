use Rattle.heard_core.specs.Naturals.{natural}
use Rattle.heard_core.proofs.LevelLaws.{scaled}
use Rattle.heard_core.proofs.NaturalLaws.{if_multiplied}
use Rattle.heard_core.proofs.decibels.scale.Goals as goal

pub returns : goal.returns
returns c =
    if_multiplied c.multiply_by_power-3.result
    (scaled (natural c.args.limbs.now.items) c.args.x _ _ _ c.args.tens c.in_ok-multiply_by_power.ensures c.in_ok-multiply_by_power-2.ensures)
    c.multiply_by_power-3.ensures
