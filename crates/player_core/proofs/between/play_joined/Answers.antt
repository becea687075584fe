use Rattle.std.proofs.Common.{Err, arith, subst}
use Rattle.chunk_core.specs.Inlets.{inlet_given, inlet_reader}
use Rattle.sound_core.specs.Faults.{IsWritingFault}
use Rattle.sound_core.specs.Naming.{plain}
use Rattle.sound_core.specs.Outlines.{around_of}
use Rattle.player_core.specs.Between.{IsUnjoinedBySome}
use Rattle.player_core.proofs.FaultLaws.{fault_is, writing_exact}
use Rattle.player_core.proofs.FileLaws.{no_reads}
use Rattle.player_core.proofs.JoinLaws.{end_requires, file_played, given_played, same_end}
use Rattle.player_core.proofs.JoinStops.{end_stops, joined_fails, unjoined}
use Rattle.player_core.proofs.between.play_joined.Goals as goal

pub finish_joined-requires : goal.finish_joined-requires
finish_joined-requires g c = record { all = end_requires g.W.Write.contents c.args.sink.now c.read_named.new.sink c.read_named.new.sink (around_of c.in_ok-outline.outline) c.in_ok-outline.ensures.ok.0 g.R.Read.remaining c.args.inlet.now c.read_named.new.inlet c.in_ok-outline.ensures.any_reader }

pub returns-in_err-outline-clause-same : goal.returns-in_err-outline-clause-same
returns-in_err-outline-clause-same g c =
    (joined_fails g.W.Write.contents c.args.sink.now c.read_named.new.sink c.part_is_played.ensures c.requires.least (g.R.Read.remaining (inlet_reader c.args.inlet.now)) (inlet_given c.args.inlet.now) (inlet_given c.read_named.new.inlet) (plain c.in_err-outline.field-0.0) c.in_err-outline.ensures.fault).0

pub returns-in_err-outline-clause-fault : goal.returns-in_err-outline-clause-fault
returns-in_err-outline-clause-fault g c =
    rw (fault_is c.from_residual.result _ c.from_residual.ensures.1)
    (joined_fails g.W.Write.contents c.args.sink.now c.read_named.new.sink c.part_is_played.ensures c.requires.least (g.R.Read.remaining (inlet_reader c.args.inlet.now)) (inlet_given c.args.inlet.now) (inlet_given c.read_named.new.inlet) (plain c.in_err-outline.field-0.0) c.in_err-outline.ensures.fault).1

pub returns-in_err-outline-clause-named : goal.returns-in_err-outline-clause-named
returns-in_err-outline-clause-named g c = rw (fault_is c.from_residual.result _ c.from_residual.ensures.1) c.in_err-outline.ensures.named

pub returns-in_err-outline-clause-exact : goal.returns-in_err-outline-clause-exact
returns-in_err-outline-clause-exact g c =
    rw (fault_is c.from_residual.result _ c.from_residual.ensures.1)
    (unjoined g.W.Write.contents c.args.sink.now c.read_named.new.sink c.in_err-outline.field-0.0 c.in_err-outline.ensures.exact)

pub returns-in_err-outline-clause-turn_limit : goal.returns-in_err-outline-clause-turn_limit
returns-in_err-outline-clause-turn_limit g c = rw (fault_is c.from_residual.result _ c.from_residual.ensures.1) c.in_err-outline.ensures.turn_limit

pub returns-in-Ok : goal.returns-in-Ok
returns-in-Ok g c =
    let old = c.args.sink.now in
    let mid = c.read_named.new.sink in
    let new = c.finish_joined.new.sink in
    let held = g.W.Write.contents in
    let left = g.R.Read.remaining in
    let o = around_of c.in_ok-outline.outline in
    let taken = c.in_ok-outline.ensures in
    let stated = taken.ok.0 in
    let law = c.part_is_played.ensures in
    let least = c.requires.least in
    let i = c.args.inlet.now in
    let j = c.read_named.new.inlet in
    let n = c.in-Ok.count in
    let ends = c.in-Ok.ensures.ok in
    let end = same_end held old mid new o stated left i j taken.any_reader n ends in
    record {
      same = end.0;
      ok = file_played held old mid new o stated law least n ends (left (inlet_reader i)) taken.ok;
      any_reader = given_played held old mid new o stated law least n ends left i j taken.any_reader;
      failures = end.1;
      fault = tt;
      named = tt;
      exact = tt;
      read_failed = taken.read_failed;
      reads = c.read_named.ensures.reads;
      turn_limit = tt;
    }

pub returns : goal.returns
returns g c =
    let old = c.args.sink.now in
    let mid = c.read_named.new.sink in
    let new = c.finish_joined.new.sink in
    let held = g.W.Write.contents in
    let left = g.R.Read.remaining in
    let taken = c.in_ok-outline.ensures in
    let i = c.args.inlet.now in
    let j = c.read_named.new.inlet in
    let f = c.in-Err.fault in
    let fault = c.in-Err.ensures.fault in
    let stops = end_stops held old mid new (around_of c.in_ok-outline.outline) taken.ok.0 left i j taken.any_reader (inlet_given i) (inlet_given j) f fault c.in-Err.ensures.refused in
    let fails = joined_fails held old new c.part_is_played.ensures c.requires.least (left (inlet_reader i)) (inlet_given i) (inlet_given j) f stops in
    record {
      same = fails.0;
      ok = tt;
      any_reader = tt;
      failures = tt;
      fault = fails.1;
      named = tt;
      exact = writing_exact (IsUnjoinedBySome old.around) f fault;
      read_failed = omega (arith, taken.read_failed, no_reads (Err f) fault);
      reads = c.read_named.ensures.reads;
      turn_limit = λ is. absurd (subst IsWritingFault is fault);
    }
