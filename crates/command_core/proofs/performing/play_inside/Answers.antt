use Rattle.command_core.proofs.performing.play_inside.Goals as goal

pub returns : goal.returns
returns g c = rw c.in-PlayPart.is c.play_some.ensures
