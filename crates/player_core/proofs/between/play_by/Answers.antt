use Rattle.std.proofs.Common.{◌≡◌, inr, subst, sym}
use Rattle.std.proofs.lemmas.Result.{IfErr-weaker}
use Rattle.chunk_core.specs.Inlets.{inlet_reader}
use Rattle.chunk_core.specs.Outlets.{outlet_failures, outlet_writer}
use Rattle.sound_core.specs.Naming.{plain}
use Rattle.player_core.specs.Between.{PlaysBetween, channels_after, channels_before}
use Rattle.player_core.specs.Joining.{BetweenFails}
use Rattle.player_core.specs.Playing.{PlaysFile, PlaysGiven}
use Rattle.player_core.proofs.JoinLaws.{on_ok, on_value}
use Rattle.player_core.proofs.JoinStops.{untouched}
use Rattle.player_core.proofs.between.play_by.Goals as goal

pub returns-then-not-can_fail-clause-fault : goal.returns-then-not-can_fail-clause-fault
returns-then-not-can_fail-clause-fault g c = untouched g.W.Write.contents (g.R.Read.remaining (inlet_reader c.args.inlet.now)) c.args.playing.now.range.head c.args.playing.now.taps.now c.args.around c.args.playing.now.outlet.now

pub returns : goal.returns
returns g c =
    let left = g.R.Read.remaining in
    let i = c.args.inlet.now in
    let j = c.play_joined.new.inlet in
    let around = c.args.around in
    let d = c.args.playing.now.taps.now in
    let held = g.W.Write.contents in
    let old = c.args.playing.now in
    let r = c.play_joined.result in
    let same = c.play_joined.ensures.same in
    let is = sym (c.playing-1.given.1 (sym same.0)) in
    record {
      same = subst (λ (p : _). p.outlet.ghost_name ≡ old.outlet.ghost_name) is same.1;
      ok = on_value r _ _ (λ n h.
          subst (λ (p : _). PlaysFile (left (inlet_reader i)) (PlaysBetween old.range.head d around.rate (channels_before around) (channels_after around)) (held (outlet_writer old.outlet.now)) (held (outlet_writer p.outlet.now)) n) is h) c.play_joined.ensures.ok;
      any_reader = on_value r _ _ (λ n h.
          subst (λ (p : _). PlaysGiven left i j (PlaysBetween old.range.head d around.rate (channels_before around) (channels_after around)) (held (outlet_writer old.outlet.now)) (held (outlet_writer p.outlet.now)) n) is h) c.play_joined.ensures.any_reader;
      failures = on_ok r _ _ (λ h. subst (λ (p : _). outlet_failures p.outlet.now ≡ outlet_failures old.outlet.now) is h) c.play_joined.ensures.failures;
      fault = IfErr-weaker r _ _ (λ u h. subst (λ (p : _). BetweenFails held (left (inlet_reader i)) old.range.head d around old.outlet.now p.outlet.now (plain u)) is h) c.play_joined.ensures.fault;
      named = c.play_joined.ensures.named;
      exact = c.play_joined.ensures.exact;
      read_failed = c.play_joined.ensures.read_failed;
      reads = c.play_joined.ensures.reads;
      turn_limit = IfErr-weaker r _ _ (λ u h is. inr (h is)) c.play_joined.ensures.turn_limit;
    }
