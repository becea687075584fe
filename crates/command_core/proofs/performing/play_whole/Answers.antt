use Rattle.command_core.proofs.performing.play_whole.Goals as goal

pub returns : goal.returns
returns g c = rw c.in-Play.is c.play_all.ensures
