use Rattle.chunk_core.specs.Inlets.{inlet_reader}
use Rattle.chunk_core.specs.Outlets.{outlet_writer}
use Rattle.sound_core.specs.Outlines.{around_of}
use Rattle.sound_core.specs.declared.fault.StreamFault.TheVariants.{TurnLimit}
use Rattle.sound_core.proofs.RelayLaws.{nothing_relayed}
use Rattle.sound_core.proofs.relaying.relay.Goals as goal

pub returns-then-not-can_fail-clause-prefix : goal.returns-then-not-can_fail-clause-prefix
returns-then-not-can_fail-clause-prefix g c =
    nothing_relayed (g.R.Read.remaining (inlet_reader c.args.inlet.now)) c.args.target.now (around_of c.args.outline.now) (g.W.Write.contents (outlet_writer c.args.outlet.now)) TurnLimit (λ same. cc)
