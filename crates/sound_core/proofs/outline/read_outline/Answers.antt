use Rattle.std.specs.Prelude.{⊤}
use Rattle.std.proofs.lemmas.Result.{IfErr-weaker, IfOk-weaker}
use Rattle.chunk_core.specs.Inlets.{inlet_given, inlet_reader}
use Rattle.sound_core.specs.Naming.{plain}
use Rattle.sound_core.specs.Outlines.{around_of}
use Rattle.sound_core.proofs.CauseLaws.{exact_alone}
use Rattle.sound_core.proofs.TakingLaws.{file_around, given_around, memory_alone}
use Rattle.sound_core.proofs.outline.read_outline.Goals as goal

pub returns-clause-ok : goal.returns-clause-ok
returns-clause-ok g c = IfOk-weaker c.read_named.result _ _ (λ o taken. file_around (λ s done bytes. ⊤) (g.R.Read.remaining (inlet_reader c.args.inlet.now)) (around_of o) taken) c.read_named.ensures.ok

pub returns-clause-any_reader : goal.returns-clause-any_reader
returns-clause-any_reader g c = IfOk-weaker c.read_named.result _ _ (λ o taken. given_around (λ s done bytes. ⊤) g.R.Read.remaining c.args.inlet.now c.read_named.new.inlet (around_of o) taken) c.read_named.ensures.any_reader

pub returns-clause-exact : goal.returns-clause-exact
returns-clause-exact g c = IfErr-weaker c.read_named.result _ _ (λ u known. exact_alone u known) c.read_named.ensures.exact

pub returns-clause-fault : goal.returns-clause-fault
returns-clause-fault g c = IfErr-weaker c.read_named.result _ _ (λ u stops. memory_alone (λ old new s done bytes. ⊤) (g.R.Read.remaining (inlet_reader c.args.inlet.now)) (inlet_given c.args.inlet.now) (inlet_given c.read_named.new.inlet) _ _ (plain u) stops) c.read_named.ensures.fault
