use Rattle.cost_core.proofs.Channels.{places_are_windows}
use Rattle.cost_core.proofs.laws.places_are_windows.Goals as goal

pub returns : goal.returns
returns c = places_are_windows
