use Rattle.std.proofs.Common.{add-zero, arith, inl, refl, sym}
use Rattle.chunk_core.specs.Inlets.{inlet_reader}
use Rattle.chunk_core.specs.Outlets.{outlet_writer}
use Rattle.sound_core.specs.Faults.{StopsReading}
use Rattle.player_core.proofs.PlayLaws.{none_prefix}
use Rattle.transfer_core.specs.Streaming.{PlaysRange}
use Rattle.sound_core.specs.Naming.{NamesFault}
use Rattle.transfer_core.proofs.StreamLaws.{answered, fault_is, keeps_up, of_unread, only_outside, plays_file, plays_given, project_keeps_up, project_named, project_outside, project_stream, project_turns, stands, unread_before, unread_named, unread_reads, unread_turns, unread_writes, writes_prefix}
use Rattle.transfer_core.proofs.playing.play_stream.Goals as goal

pub returns-in_err-taps : goal.returns-in_err-taps
returns-in_err-taps g c =
    let left = g.R.Read.remaining (inlet_reader c.args.inlet.now) in
    let before = g.W.Write.contents (outlet_writer c.args.outlet.now) in
    let p = c.args.project.now in
    let f = c.in_err-taps.field-0.0 in
    let s = c.in_err-taps.ensures in
    rw (fault_is c.from_residual.result _ c.from_residual.ensures.1) (record {
      ok = tt;
      any_reader = tt;
      cause = project_outside left p c.args.range f s.exact;
      prefix = none_prefix left (PlaysRange p c.args.range) before;
      keeps_up = project_keeps_up left before before p c.args.range _ f s.cause;
      refused = inl s.exact;
      named = project_named (NamesFault g.R.Read.remaining c.args.inlet.now c.args.inlet.now) f s.cause;
      read_failed = rw (project_stream f s.cause) (sym (add-zero _));
      write_failed = rw (project_stream f s.cause) (sym (add-zero _));
      reads = omega arith;
      turn_limit = λ is. absurd (project_turns f s.cause is);
      unread = λ none. refl;
      unwritten = λ early. refl;
    })

pub returns-in_err-play : goal.returns-in_err-play
returns-in_err-play g c =
    let left = g.R.Read.remaining (inlet_reader c.args.inlet.now) in
    let before = g.W.Write.contents (outlet_writer c.args.outlet.now) in
    let p = c.args.project.now in
    let after = g.W.Write.contents (outlet_writer c.play.new.outlet) in
    let taps = c.in_ok-taps.taps in
    let u = c.in_err-play.field-0.0 in
    let s = c.in_err-play.ensures in
    rw (fault_is c.from_residual-in_err-play.result _ c.from_residual-in_err-play.ensures.1) (record {
      ok = tt;
      any_reader = tt;
      cause = only_outside p c.args.range taps c.in_ok-taps.ensures.exact left u s.cause;
      prefix = writes_prefix p c.args.range taps c.in_ok-taps.ensures.exact left before after s.prefix;
      keeps_up = λ stop. keeps_up p c.args.range taps c.in_ok-taps.ensures.exact left before after _ (s.keeps_up (of_unread StopsReading (λ none. none) u stop));
      refused = stands p c.args.range taps c.in_ok-taps.ensures.found g.R.Read.remaining c.args.inlet.now c.play.new.inlet u s.fault s.named s.exact;
      named = unread_named (NamesFault g.R.Read.remaining c.args.inlet.now c.play.new.inlet) u s.named;
      read_failed = rw (unread_reads _ u) s.read_failed;
      write_failed = rw (unread_writes _ u) s.write_failed;
      reads = c.play.ensures.reads;
      turn_limit = λ is. s.turn_limit (unread_turns u is);
      unread = λ none. absurd (none taps c.in_ok-taps.ensures.found);
      unwritten = λ early. s.unwritten (unread_before u early);
    })

pub returns : goal.returns
returns g c = record {
  ok = plays_file c.args.project.now c.args.range c.in_ok-taps.taps c.in_ok-taps.ensures.found (g.R.Read.remaining (inlet_reader c.args.inlet.now)) (g.W.Write.contents (outlet_writer c.args.outlet.now)) (g.W.Write.contents (outlet_writer c.play.new.outlet)) c.in_ok-play.field-0 c.in_ok-play.ensures.ok;
  any_reader = plays_given c.args.project.now c.args.range c.in_ok-taps.taps c.in_ok-taps.ensures.found g.R.Read.remaining c.args.inlet.now c.play.new.inlet (g.W.Write.contents (outlet_writer c.args.outlet.now)) (g.W.Write.contents (outlet_writer c.play.new.outlet)) c.in_ok-play.field-0 c.in_ok-play.ensures.any_reader;
  cause = tt;
  prefix = tt;
  keeps_up = tt;
  refused = tt;
  named = tt;
  read_failed = c.in_ok-play.ensures.read_failed;
  write_failed = c.in_ok-play.ensures.write_failed;
  reads = c.play.ensures.reads;
  turn_limit = λ is. absurd (answered c.in_ok-play.field-0 _ is);
  unread = λ none. absurd (none c.in_ok-taps.taps c.in_ok-taps.ensures.found);
  unwritten = tt;
}
