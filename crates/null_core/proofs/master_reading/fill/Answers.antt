use Rattle.chunk_core.specs.Inlets.{inlet_given, inlet_reader}
use Rattle.sound_core.specs.Naming.{plain}
use Rattle.sound_core.proofs.CauseLaws.{exact_alone}
use Rattle.sound_core.proofs.TakingLaws.{memory_alone}
use Rattle.null_core.specs.Filling.{IsFilling}
use Rattle.null_core.proofs.FillLaws.{file_filled, given_filled}
use Rattle.null_core.proofs.master_reading.fill.Goals as goal

pub returns-in-Ok-clause-ok : goal.returns-in-Ok-clause-ok
returns-in-Ok-clause-ok g c = file_filled c.new-filler.result c.read_named.new.sink c.in-Ok.outline c.args.mixed.now c.new-filler.ensures (g.R.Read.remaining (inlet_reader c.args.inlet.now)) c.in-Ok.ensures.ok

pub returns-in-Ok-clause-any_reader : goal.returns-in-Ok-clause-any_reader
returns-in-Ok-clause-any_reader g c = given_filled c.new-filler.result c.read_named.new.sink c.in-Ok.outline c.args.mixed.now c.new-filler.ensures g.R.Read.remaining c.args.inlet.now c.read_named.new.inlet c.in-Ok.ensures.any_reader

pub returns-clause-fault : goal.returns-clause-fault
returns-clause-fault g c = memory_alone IsFilling (g.R.Read.remaining (inlet_reader c.args.inlet.now)) (inlet_given c.args.inlet.now) (inlet_given c.read_named.new.inlet) c.new-filler.result c.read_named.new.sink (plain c.in-Err.fault) c.in-Err.ensures.fault

pub returns-clause-exact : goal.returns-clause-exact
returns-clause-exact g c = exact_alone c.in-Err.fault c.in-Err.ensures.exact
