use Rattle.std.proofs.Common.{Err, Ok, arith, inl, inr, subst}
use Rattle.chunk_core.specs.Inlets.{inlet_given, inlet_reader}
use Rattle.sound_core.specs.Faults.{IsWritingFault}
use Rattle.sound_core.specs.Naming.{plain}
use Rattle.sound_core.specs.Outlines.{around_of}
use Rattle.sound_core.specs.declared.fault.StreamFault.TheVariants.{TurnLimit}
use Rattle.sound_core.proofs.TakingLaws.{not_begun}
use Rattle.player_core.proofs.FaultLaws.{fault_is, writing_exact}
use Rattle.player_core.specs.Playing.{IsLackedBySome}
use Rattle.player_core.proofs.FileLaws.{end_fails, end_requires, ended, file_played, given_played, no_reads}
use Rattle.player_core.proofs.PaceLaws.{lacked, play_fails, same_outlet}
use Rattle.player_core.proofs.playing.play_file.Goals as goal

pub finish-requires : goal.finish-requires
finish-requires g c = end_requires g.W.Write.contents c.args.sink.now c.read_named.new.sink c.read_named.new.sink (around_of c.in_ok-outline.outline) c.in_ok-outline.ensures.ok.0 g.R.Read.remaining c.args.inlet.now c.read_named.new.inlet c.in_ok-outline.ensures.any_reader

pub returns-then-not-can_fail-clause-fault : goal.returns-then-not-can_fail-clause-fault
returns-then-not-can_fail-clause-fault g c =
    let left = g.R.Read.remaining (inlet_reader c.args.inlet.now) in
    let given = inlet_given c.args.inlet.now in
    play_fails g.W.Write.contents left given given c.args.sink.now c.args.sink.now TurnLimit c.part_is_played.ensures c.requires.least (inl (not_begun left given c.args.sink.now))

pub returns-in_err-outline-clause-same : goal.returns-in_err-outline-clause-same
returns-in_err-outline-clause-same g c = same_outlet g.W.Write.contents (g.R.Read.remaining (inlet_reader c.args.inlet.now)) (inlet_given c.args.inlet.now) (inlet_given c.read_named.new.inlet) c.args.sink.now c.read_named.new.sink (plain c.in_err-outline.field-0.0) c.in_err-outline.ensures.fault

pub returns-in_err-outline-clause-fault : goal.returns-in_err-outline-clause-fault
returns-in_err-outline-clause-fault g c =
    rw (fault_is c.from_residual.result _ c.from_residual.ensures.1)
    (play_fails g.W.Write.contents (g.R.Read.remaining (inlet_reader c.args.inlet.now)) (inlet_given c.args.inlet.now) (inlet_given c.read_named.new.inlet) c.args.sink.now c.read_named.new.sink (plain c.in_err-outline.field-0.0) c.part_is_played.ensures c.requires.least c.in_err-outline.ensures.fault)

pub returns-in_err-outline-clause-named : goal.returns-in_err-outline-clause-named
returns-in_err-outline-clause-named g c = rw (fault_is c.from_residual.result _ c.from_residual.ensures.1) c.in_err-outline.ensures.named

pub returns-in_err-outline-clause-exact : goal.returns-in_err-outline-clause-exact
returns-in_err-outline-clause-exact g c =
    rw (fault_is c.from_residual.result _ c.from_residual.ensures.1)
    (lacked g.W.Write.contents c.args.sink.now c.read_named.new.sink c.in_err-outline.field-0.0 c.in_err-outline.ensures.exact)

pub returns-in_err-outline-clause-turn_limit : goal.returns-in_err-outline-clause-turn_limit
returns-in_err-outline-clause-turn_limit g c = rw (fault_is c.from_residual.result _ c.from_residual.ensures.1) (λ is. inr (c.in_err-outline.ensures.turn_limit is))

pub returns-in-Ok : goal.returns-in-Ok
returns-in-Ok g c =
    let old = c.args.sink.now in
    let mid = c.read_named.new.sink in
    let new = c.finish.new.sink in
    let held = g.W.Write.contents in
    let left = g.R.Read.remaining in
    let o = around_of c.in_ok-outline.outline in
    let taken = c.in_ok-outline.ensures in
    let stated = taken.ok.0 in
    let law = c.part_is_played.ensures in
    let least = c.requires.least in
    let i = c.args.inlet.now in
    let j = c.read_named.new.inlet in
    let n = c.in-Ok.count in
    let ends = c.in-Ok.ensures.ok in
    let end = ended held old mid new o stated left i j taken.any_reader (Ok n) ends tt in
    record {
      same = end.0;
      ok = file_played held old mid new o stated law least n ends (left (inlet_reader i)) taken.ok;
      any_reader = given_played held old mid new o stated law least n ends left i j taken.any_reader;
      failures = end.1;
      fault = tt;
      named = tt;
      exact = tt;
      read_failed = taken.read_failed;
      reads = c.read_named.ensures.reads;
      turn_limit = tt;
    }

pub returns : goal.returns
returns g c =
    let old = c.args.sink.now in
    let mid = c.read_named.new.sink in
    let new = c.finish.new.sink in
    let held = g.W.Write.contents in
    let left = g.R.Read.remaining in
    let o = around_of c.in_ok-outline.outline in
    let taken = c.in_ok-outline.ensures in
    let stated = taken.ok.0 in
    let i = c.args.inlet.now in
    let j = c.read_named.new.inlet in
    let f = c.in-Err.fault in
    let fault = c.in-Err.ensures.fault in
    let refused = c.in-Err.ensures.refused in
    let end = ended held old mid new o stated left i j taken.any_reader (Err f) tt refused in
    record {
      same = end.0;
      ok = tt;
      any_reader = tt;
      failures = tt;
      fault = end_fails held old mid new o stated left i j (inlet_given i) (inlet_given j) c.part_is_played.ensures c.requires.least taken.any_reader (Err f) fault refused;
      named = tt;
      exact = writing_exact (IsLackedBySome old.taps.now old.range) f fault;
      read_failed = omega (arith, taken.read_failed, no_reads (Err f) fault);
      reads = c.read_named.ensures.reads;
      turn_limit = λ is. absurd (subst IsWritingFault is fault);
    }
