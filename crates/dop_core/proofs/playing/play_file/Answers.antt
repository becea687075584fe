use Rattle.std.proofs.Common.{arith, inl, inr, refl, subst}
use Rattle.chunk_core.specs.Inlets.{inlet_given, inlet_reader}
use Rattle.sound_core.specs.Faults.{IsWritingFault}
use Rattle.sound_core.specs.Naming.{plain}
use Rattle.sound_core.specs.Outlines.{around_of}
use Rattle.sound_core.specs.declared.fault.StreamFault.TheVariants.{TurnLimit}
use Rattle.sound_core.proofs.TakingLaws.{not_begun}
use Rattle.dop_core.proofs.FaultLaws.{fault_is, never_lacks, no_reads, writing_exact}
use Rattle.dop_core.proofs.FileLaws.{IsTaken, end_fails, file_played, given_played, is_taken, never_refused, stops_playing, stops_same}
use Rattle.dop_core.proofs.playing.play_file.Given.{Over}
use Rattle.dop_core.proofs.playing.play_file.Goals as goal
use Rattle.dop_core.proofs.playing.play_file.Goals.{In_ok-outline}

-- what holds of the sink after the sound
taken : (g : Over) (c : In_ok-outline g) → IsTaken g.W.Write.contents c.args.sink.now c.read_named.new.sink (around_of c.in_ok-outline.outline) c.in_ok-outline.ensures.ok.0
taken g c = is_taken g.W.Write.contents c.args.sink.now c.read_named.new.sink (around_of c.in_ok-outline.outline) c.in_ok-outline.ensures.ok.0 g.R.Read.remaining c.args.inlet.now c.read_named.new.inlet c.in_ok-outline.ensures.any_reader

pub returns-then-not-can_fail-clause-fault : goal.returns-then-not-can_fail-clause-fault
returns-then-not-can_fail-clause-fault g c =
    let left = g.R.Read.remaining (inlet_reader c.args.inlet.now) in
    let given = inlet_given c.args.inlet.now in
    stops_playing g.W.Write.contents c.args.sink.now c.args.sink.now c.native_joins.ensures c.native_has_size.ensures g.R.Read.remaining c.args.inlet.now given given TurnLimit (inl (not_begun left given c.args.sink.now))

pub returns-in_err-outline-clause-same : goal.returns-in_err-outline-clause-same
returns-in_err-outline-clause-same g c = stops_same g.W.Write.contents c.args.sink.now c.read_named.new.sink c.native_joins.ensures c.native_has_size.ensures (g.R.Read.remaining (inlet_reader c.args.inlet.now)) (inlet_given c.args.inlet.now) (inlet_given c.read_named.new.inlet) (plain c.in_err-outline.field-0.0) c.in_err-outline.ensures.fault

pub returns-in_err-outline-clause-fault : goal.returns-in_err-outline-clause-fault
returns-in_err-outline-clause-fault g c =
    rw (fault_is c.from_residual.result _ c.from_residual.ensures.1)
    (stops_playing g.W.Write.contents c.args.sink.now c.read_named.new.sink c.native_joins.ensures c.native_has_size.ensures g.R.Read.remaining c.args.inlet.now (inlet_given c.args.inlet.now) (inlet_given c.read_named.new.inlet) (plain c.in_err-outline.field-0.0) c.in_err-outline.ensures.fault)

pub returns-in_err-outline-clause-named : goal.returns-in_err-outline-clause-named
returns-in_err-outline-clause-named g c = rw (fault_is c.from_residual.result _ c.from_residual.ensures.1) c.in_err-outline.ensures.named

pub returns-in_err-outline-clause-exact : goal.returns-in_err-outline-clause-exact
returns-in_err-outline-clause-exact g c =
    rw (fault_is c.from_residual.result _ c.from_residual.ensures.1)
    (never_lacks c.in_err-outline.field-0.0 (never_refused g.W.Write.contents c.args.sink.now c.read_named.new.sink) c.in_err-outline.ensures.exact)

pub returns-in_err-outline-clause-turn_limit : goal.returns-in_err-outline-clause-turn_limit
returns-in_err-outline-clause-turn_limit g c = rw (fault_is c.from_residual.result _ c.from_residual.ensures.1) (λ is. inr (c.in_err-outline.ensures.turn_limit is))

pub put_tail-requires-clause-sound : goal.put_tail-requires-clause-sound
put_tail-requires-clause-sound g c = c.in_ok-outline.ensures.ok.0.is_sound

pub put_tail-requires-clause-ready : goal.put_tail-requires-clause-ready
put_tail-requires-clause-ready g c = (taken g (goal.at.put_tail-requires-clause-ready g c).In_ok-outline).ready

pub file_size-requires : goal.file_size-requires
file_size-requires g c = c.in_ok-outline.ensures.ok.0.is_sound

pub returns-in-Ok : goal.returns-in-Ok
returns-in-Ok g c =
    let old = c.args.sink.now in
    let mid = c.read_named.new.sink in
    let held = g.W.Write.contents in
    let left = g.R.Read.remaining in
    let o = around_of c.in_ok-outline.outline in
    let was = c.in_ok-outline.ensures in
    let stated = was.ok.0 in
    let i = c.args.inlet.now in
    let j = c.read_named.new.inlet in
    let sink = taken g (goal.at.returns-in-Ok g c).In_ok-outline in
    record {
      same = sink.same;
      ok = file_played held old mid o stated c.native_has_size.ensures c.file_size.result c.file_size.ensures _ c.in-Ok.ensures.ok (left (inlet_reader i)) was.ok;
      any_reader = given_played held old mid o stated c.native_has_size.ensures c.file_size.result c.file_size.ensures _ c.in-Ok.ensures.ok left i j was.any_reader;
      failures = omega (arith, c.in-Ok.ensures.failures, sink.failures);
      fault = tt;
      named = tt;
      exact = tt;
      read_failed = was.read_failed;
      reads = c.read_named.ensures.reads;
      turn_limit = tt;
    }

pub returns : goal.returns
returns g c =
    let old = c.args.sink.now in
    let mid = c.read_named.new.sink in
    let held = g.W.Write.contents in
    let left = g.R.Read.remaining in
    let o = around_of c.in_ok-outline.outline in
    let was = c.in_ok-outline.ensures in
    let stated = was.ok.0 in
    let i = c.args.inlet.now in
    let j = c.read_named.new.inlet in
    let f = c.in-Err.fault in
    let put = c.in-Err.ensures in
    let sink = taken g (goal.at.returns g c).In_ok-outline in
    record {
      same = sink.same;
      ok = tt;
      any_reader = tt;
      failures = tt;
      fault = end_fails held old mid o stated _ left i j (inlet_given i) (inlet_given j) f c.native_joins.ensures c.native_has_size.ensures was.any_reader refl put.fault put.err put.failures;
      named = tt;
      exact = writing_exact f put.fault;
      read_failed = omega (arith, was.read_failed, no_reads f put.fault);
      reads = c.read_named.ensures.reads;
      turn_limit = λ is. absurd (subst IsWritingFault is put.fault);
    }
