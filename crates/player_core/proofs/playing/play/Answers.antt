use Rattle.std.proofs.Common.{◌≡◌, ◌⊎◌, ◌-◌, ◌∙◌, IfErr, IfOk, OnOk, subst, sym}
use Rattle.std.proofs.lemmas.Result.{IfErr-weaker}
use Rattle.chunk_core.specs.Inlets.{inlet_given, inlet_reader}
use Rattle.chunk_core.specs.Outlets.{outlet_failures, outlet_writer}
use Rattle.player_core.specs.Pace.{PlayFails}
use Rattle.player_core.specs.Playing.{IsLackedBySome, PlaysBy, PlaysFile, PlaysGiven}
use Rattle.sound_core.specs.Naming.{IsExactUnless, plain}
use Rattle.sound_core.specs.Readers.{CanFail, RunsOut}
use Rattle.player_core.proofs.FaultLaws.{of_err, writes_are}
use Rattle.player_core.proofs.PlayLaws.{only_outside}
use Rattle.player_core.proofs.playing.play.Goals as goal

pub play_file-requires : goal.play_file-requires
play_file-requires g c = record { least = rw c.new-sink.ensures.taps c.keeps_limits.ensures.least_factor }

pub returns : goal.returns
returns g c =
    let left = g.R.Read.remaining (inlet_reader c.args.inlet.now) in
    let taps = c.new-sink.ensures.taps in
    let range = c.new-sink.ensures.range in
    let was = c.new-sink.ensures.outlet in
    let is = sym (c.outlet-1.given.1 (sym (c.play_file.ensures.same ∙ c.new-sink.ensures.reference))) in
    let held = g.W.Write.contents in
    let end = c.outlet-1.given.0 in
    let given = inlet_given c.play_file.new.inlet - inlet_given c.args.inlet.now in
    let r = c.play_file.result in
    let made = c.new-sink.result in
    let fails : IfErr r (λ u. PlayFails held left c.args.taps.now c.args.range given c.args.outlet.now end (plain u))
    = subst (λ d. IfErr r (λ u. PlayFails held left d c.args.range given c.args.outlet.now end (plain u))) taps
    (subst (λ m. IfErr r (λ u. PlayFails held left made.taps.now m given c.args.outlet.now end (plain u))) range
    (subst (λ i. IfErr r (λ u. PlayFails held left made.taps.now made.range given i end (plain u))) was
    (subst (λ j. IfErr r (λ u. PlayFails held left made.taps.now made.range given made.outlet.now j (plain u))) is c.play_file.ensures.fault))) in
    record {
      ok = subst (λ d. IfOk r (PlaysFile left (PlaysBy d c.args.range) (held (outlet_writer c.args.outlet.now)) (held (outlet_writer end)))) taps
          (subst (λ m. IfOk r (PlaysFile left (PlaysBy made.taps.now m) (held (outlet_writer c.args.outlet.now)) (held (outlet_writer end)))) range
          (subst (λ i. IfOk r (PlaysFile left (PlaysBy made.taps.now made.range) (held (outlet_writer i)) (held (outlet_writer end)))) was
          (subst (λ j. IfOk r (PlaysFile left (PlaysBy made.taps.now made.range) (held (outlet_writer made.outlet.now)) (held (outlet_writer j)))) is c.play_file.ensures.ok)));
      any_reader = subst (λ d. IfOk r (PlaysGiven g.R.Read.remaining c.args.inlet.now c.play_file.new.inlet (PlaysBy d c.args.range) (held (outlet_writer c.args.outlet.now)) (held (outlet_writer end)))) taps
          (subst (λ m. IfOk r (PlaysGiven g.R.Read.remaining c.args.inlet.now c.play_file.new.inlet (PlaysBy made.taps.now m) (held (outlet_writer c.args.outlet.now)) (held (outlet_writer end)))) range
          (subst (λ i. IfOk r (PlaysGiven g.R.Read.remaining c.args.inlet.now c.play_file.new.inlet (PlaysBy made.taps.now made.range) (held (outlet_writer i)) (held (outlet_writer end)))) was
          (subst (λ j. IfOk r (PlaysGiven g.R.Read.remaining c.args.inlet.now c.play_file.new.inlet (PlaysBy made.taps.now made.range) (held (outlet_writer made.outlet.now)) (held (outlet_writer j)))) is c.play_file.ensures.any_reader)));
      fault = IfErr-weaker r _ _ (λ u h. h.fault) fails;
      cause = IfErr-weaker r _ _ (λ u h. only_outside c.part_is_played.ensures c.args.taps.now c.keeps_limits.ensures.least_factor c.args.range left (plain u) h.fault) fails;
      named = c.play_file.ensures.named;
      exact = subst (λ d. IfErr r (IsExactUnless (IsLackedBySome d c.args.range))) taps (subst (λ m. IfErr r (IsExactUnless (IsLackedBySome made.taps.now m))) range c.play_file.ensures.exact);
      unwritten = IfErr-weaker r _ _ (λ u h. h.unwritten) fails;
      prefix = of_err r _ _ (λ u h. h.prefix) fails;
      keeps_up = IfErr-weaker r _ _ (λ u h. h.keeps_up) fails;
      read_failed = c.play_file.ensures.read_failed;
      write_failed = writes_are r _ _ (subst (λ i. OnOk r (outlet_failures end ≡ outlet_failures i)) was (subst (λ j. OnOk r (outlet_failures j ≡ outlet_failures made.outlet.now)) is c.play_file.ensures.failures)) (IfErr-weaker r _ _ (λ u h. h.failures) fails);
      reads = c.play_file.ensures.reads;
      turn_limit = IfErr-weaker r _ _ (λ u h is. subst (λ o. (CanFail o → ⊥) ⊎ RunsOut c.args.inlet.now c.play_file.new.inlet) was (h is)) c.play_file.ensures.turn_limit;
    }
