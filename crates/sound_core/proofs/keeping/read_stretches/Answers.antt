use Rattle.chunk_core.specs.Inlets.{inlet_given, inlet_reader}
use Rattle.sound_core.specs.Keepers.{IsKeeping}
use Rattle.sound_core.specs.Outlines.{around_of}
use Rattle.sound_core.proofs.CauseLaws.{exact_alone}
use Rattle.sound_core.proofs.KeepingLaws.{file_kept, given_kept}
use Rattle.sound_core.proofs.TakingLaws.{memory_alone}
use Rattle.sound_core.proofs.keeping.read_stretches.Goals as goal

pub returns-in-Ok-clause-ok : goal.returns-in-Ok-clause-ok
returns-in-Ok-clause-ok g c = file_kept c.new-keeper.result c.read_named.new.sink (around_of c.in-Ok.outline) c.args.ranges.now c.new-keeper.ensures (g.R.Read.remaining (inlet_reader c.args.inlet.now)) c.in-Ok.ensures.ok

pub returns-in-Ok-clause-any_reader : goal.returns-in-Ok-clause-any_reader
returns-in-Ok-clause-any_reader g c = given_kept c.new-keeper.result c.read_named.new.sink (around_of c.in-Ok.outline) c.args.ranges.now c.new-keeper.ensures g.R.Read.remaining c.args.inlet.now c.read_named.new.inlet c.in-Ok.ensures.any_reader

pub returns-in-Err-clause-fault : goal.returns-in-Err-clause-fault
returns-in-Err-clause-fault g c = memory_alone IsKeeping (g.R.Read.remaining (inlet_reader c.args.inlet.now)) (inlet_given c.args.inlet.now) (inlet_given c.read_named.new.inlet) c.new-keeper.result c.read_named.new.sink _ c.in-Err.ensures.fault

pub returns-in-Err-clause-exact : goal.returns-in-Err-clause-exact
returns-in-Err-clause-exact g c = exact_alone _ c.in-Err.ensures.exact
