use Rattle.std.proofs.Common.{◌≡◌, false, true, arith, refl}
use Rattle.std.proofs.lemmas.Result.{on_ok_weaker}
use Rattle.chunk_core.specs.Inlets.{inlet_given, inlet_reader}
use Rattle.sound_core.specs.Outlines.{around_of}
use Rattle.sound_core.proofs.FaultLaws.{fault_is}
use Rattle.sound_core.proofs.RelayLaws.{IsRelayed, each_err, file_relayed, given_relayed, is_relayed, other_fails, stops_relaying, tail_fails}
use Rattle.sound_core.proofs.relaying.relay_by.Given.{Over}
use Rattle.sound_core.proofs.relaying.relay_by.Goals as goal
use Rattle.sound_core.proofs.relaying.relay_by.Goals.{In_ok-again}

-- what holds of the sink after the sound
relayed : (g : Over) (c : In_ok-again g) → IsRelayed g.W.Write.contents c.args.sink.now c.read_into.new.sink (around_of c.args.outline.now) (around_of c.in_ok-again.again) c.requires.stated c.requires.sound c.in_ok-again.ensures.ok.0
relayed g c = is_relayed g.W.Write.contents c.args.sink.now c.read_into.new.sink (around_of c.args.outline.now) (around_of c.in_ok-again.again) c.requires.stated c.requires.sound c.in_ok-again.ensures.ok.0 g.R.Read.remaining c.args.inlet.now c.read_into.new.inlet c.in_ok-again.ensures.any_reader

pub returns-in_err-again-clause-fault : goal.returns-in_err-again-clause-fault
returns-in_err-again-clause-fault g c =
    rw (fault_is c.from_residual.result _ c.from_residual.ensures.1)
    (stops_relaying g.W.Write.contents c.args.sink.now c.read_into.new.sink (around_of c.args.outline.now) c.requires.stated c.requires.sound (g.R.Read.remaining (inlet_reader c.args.inlet.now)) (inlet_given c.args.inlet.now) (inlet_given c.read_into.new.inlet) c.in_err-again.field-0.0 c.in_err-again.ensures.fault)

pub returns-then-not-is_same_around-clause-fault : goal.returns-then-not-is_same_around-clause-fault
returns-then-not-is_same_around-clause-fault g c =
    let at = (goal.at.returns-then-not-is_same_around-clause-fault g c).In_ok-again in
    other_fails g.W.Write.contents c.args.sink.now c.read_into.new.sink (around_of c.args.outline.now) (around_of c.in_ok-again.again) c.requires.stated c.requires.sound c.in_ok-again.ensures.ok.0 (g.R.Read.remaining (inlet_reader c.args.inlet.now)) c.in_ok-again.ensures.ok
    (λ same. let e : false ≡ true = c.if-not-is_same_around.ensures.1 same in absurd cc) (relayed g at).failures

pub returns-clause-ok : goal.returns-clause-ok
returns-clause-ok g c =
    let at = (goal.at.returns-clause-ok g c).In_ok-again in
    on_ok_weaker c.put.result (λ out. file_relayed g.W.Write.contents c.args.sink.now c.read_into.new.sink (around_of c.args.outline.now) (around_of c.in_ok-again.again) c.requires.stated c.requires.sound c.in_ok-again.ensures.ok.0 c.put.new.outlet (relayed g at).own_is (c.if-not-is_same_around.ensures.0 refl) (g.R.Read.remaining (inlet_reader c.args.inlet.now)) c.in_ok-again.ensures.ok out) c.put.ensures.ok

pub returns-clause-any_reader : goal.returns-clause-any_reader
returns-clause-any_reader g c =
    let at = (goal.at.returns-clause-any_reader g c).In_ok-again in
    on_ok_weaker c.put.result (λ out. given_relayed g.W.Write.contents c.args.sink.now c.read_into.new.sink (around_of c.args.outline.now) (around_of c.in_ok-again.again) c.requires.stated c.requires.sound c.in_ok-again.ensures.ok.0 c.put.new.outlet (relayed g at).own_is (c.if-not-is_same_around.ensures.0 refl) g.R.Read.remaining c.args.inlet.now c.read_into.new.inlet c.in_ok-again.ensures.any_reader out) c.put.ensures.ok

pub returns-clause-fault : goal.returns-clause-fault
returns-clause-fault g c =
    let at = (goal.at.returns-clause-fault g c).In_ok-again in
    each_err _ _ c.put.result c.put.ensures.err c.put.ensures.fault c.put.ensures.failures (λ f out fault failures.
    tail_fails g.W.Write.contents c.args.sink.now c.read_into.new.sink (around_of c.args.outline.now) (around_of c.in_ok-again.again) c.requires.stated c.requires.sound c.in_ok-again.ensures.ok.0 c.put.new.outlet (relayed g at).own_is (c.if-not-is_same_around.ensures.0 refl) (g.R.Read.remaining (inlet_reader c.args.inlet.now)) c.in_ok-again.ensures.ok f fault out (omega (arith, failures, (relayed g at).failures)))
