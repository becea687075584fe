use Rattle.command_core.proofs.performing.play_beside.Goals as goal

pub returns : goal.returns
returns g c = rw c.in-PlayBetween.is c.play_around.ensures
