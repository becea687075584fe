use Rattle.std.proofs.Common.{◌≡◌, ◌⊎◌, ◌∙◌, IfErr, IfOk, OnOk, subst, sym}
use Rattle.std.proofs.lemmas.Result.{IfErr-weaker}
use Rattle.chunk_core.specs.Inlets.{inlet_reader}
use Rattle.chunk_core.specs.Outlets.{outlet_failures, outlet_writer}
use Rattle.sound_core.specs.Naming.{plain}
use Rattle.sound_core.specs.Readers.{CanFail, RunsOut}
use Rattle.player_core.specs.Between.{PlaysBetween, channels_after, channels_before}
use Rattle.player_core.specs.Joining.{BetweenFails}
use Rattle.player_core.specs.Playing.{PlaysFile, PlaysGiven}
use Rattle.player_core.specs.declared.range.WaveRange.{WaveRange}
use Rattle.player_core.proofs.FaultLaws.{of_err, writes_are}
use Rattle.player_core.proofs.between.play_between.Goals as goal

pub play_by-requires : goal.play_by-requires
play_by-requires g c = record { least = rw c.new-playing.ensures.taps c.keeps_limits.ensures.least_factor }

pub returns : goal.returns
returns g c =
    let left = g.R.Read.remaining in
    let i = c.args.inlet.now in
    let j = c.play_by.new.inlet in
    let around = c.args.around in
    let range = c.new-playing.ensures.range in
    let taps = c.new-playing.ensures.taps in
    let was = c.new-playing.ensures.outlet in
    let held = g.W.Write.contents in
    let end = c.outlet-1.given.0 in
    let r = c.play_by.result in
    let made = c.new-playing.result in
    let is = sym (c.outlet-1.given.1 (sym (c.play_by.ensures.same ∙ c.new-playing.ensures.reference))) in
    let fails : IfErr r (λ u. BetweenFails held (left (inlet_reader i)) c.args.head c.args.taps.now around c.args.outlet.now end (plain u))
    = subst (λ (k : WaveRange). IfErr r (λ u. BetweenFails held (left (inlet_reader i)) k.head c.args.taps.now around c.args.outlet.now end (plain u))) range
    (subst (λ d. IfErr r (λ u. BetweenFails held (left (inlet_reader i)) made.range.head d around c.args.outlet.now end (plain u))) taps
    (subst (λ o. IfErr r (λ u. BetweenFails held (left (inlet_reader i)) made.range.head made.taps.now around o end (plain u))) was
    (subst (λ o. IfErr r (λ u. BetweenFails held (left (inlet_reader i)) made.range.head made.taps.now around made.outlet.now o (plain u))) is c.play_by.ensures.fault))) in
    record {
      ok = subst (λ (k : WaveRange). IfOk r (PlaysFile (left (inlet_reader i)) (PlaysBetween k.head c.args.taps.now around.rate (channels_before around) (channels_after around)) (held (outlet_writer c.args.outlet.now)) (held (outlet_writer end)))) range
          (subst (λ d. IfOk r (PlaysFile (left (inlet_reader i)) (PlaysBetween made.range.head d around.rate (channels_before around) (channels_after around)) (held (outlet_writer c.args.outlet.now)) (held (outlet_writer end)))) taps
          (subst (λ o. IfOk r (PlaysFile (left (inlet_reader i)) (PlaysBetween made.range.head made.taps.now around.rate (channels_before around) (channels_after around)) (held (outlet_writer o)) (held (outlet_writer end)))) was
          (subst (λ o. IfOk r (PlaysFile (left (inlet_reader i)) (PlaysBetween made.range.head made.taps.now around.rate (channels_before around) (channels_after around)) (held (outlet_writer made.outlet.now)) (held (outlet_writer o)))) is c.play_by.ensures.ok)));
      any_reader = subst (λ (k : WaveRange). IfOk r (PlaysGiven left i j (PlaysBetween k.head c.args.taps.now around.rate (channels_before around) (channels_after around)) (held (outlet_writer c.args.outlet.now)) (held (outlet_writer end)))) range
          (subst (λ d. IfOk r (PlaysGiven left i j (PlaysBetween made.range.head d around.rate (channels_before around) (channels_after around)) (held (outlet_writer c.args.outlet.now)) (held (outlet_writer end)))) taps
          (subst (λ o. IfOk r (PlaysGiven left i j (PlaysBetween made.range.head made.taps.now around.rate (channels_before around) (channels_after around)) (held (outlet_writer o)) (held (outlet_writer end)))) was
          (subst (λ o. IfOk r (PlaysGiven left i j (PlaysBetween made.range.head made.taps.now around.rate (channels_before around) (channels_after around)) (held (outlet_writer made.outlet.now)) (held (outlet_writer o)))) is c.play_by.ensures.any_reader)));
      fault = IfErr-weaker r _ _ (λ u h. h.fault) fails;
      named = c.play_by.ensures.named;
      exact = c.play_by.ensures.exact;
      unwritten = IfErr-weaker r _ _ (λ u h. h.unwritten) fails;
      prefix = of_err r _ _ (λ u h. h.prefix) fails;
      read_failed = c.play_by.ensures.read_failed;
      write_failed = writes_are r _ _ (subst (λ o. OnOk r (outlet_failures end ≡ outlet_failures o)) was (subst (λ o. OnOk r (outlet_failures o ≡ outlet_failures made.outlet.now)) is c.play_by.ensures.failures)) (IfErr-weaker r _ _ (λ u h. h.failures) fails);
      reads = c.play_by.ensures.reads;
      turn_limit = IfErr-weaker r _ _ (λ u h is. subst (λ o. (CanFail o → ⊥) ⊎ RunsOut i j) was (h is)) c.play_by.ensures.turn_limit;
    }
