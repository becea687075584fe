use Rattle.std.proofs.Common.{[], ap, arith, refl, subst}
use Rattle.std.proofs.lemmas.Result.{IfErr-weaker}
use Rattle.dsd_bits.specs.declared.sound.Sound.{Sound}
use Rattle.player_core.specs.Between.{with_range}
use Rattle.player_core.specs.Joining.{PushesOn}
use Rattle.player_core.specs.Sinks.{RefusesPlaying}
use Rattle.player_core.proofs.FaultLaws.{fault_is}
use Rattle.player_core.proofs.JoinLaws.{begun, joined_fed, on_ok}
use Rattle.player_core.proofs.JoinStops.{begins_before, begins_empty, joined_fault, refused_after, refused_first}
use Rattle.player_core.proofs.joining.JoiningSinkSoundSink.begin.Goals as goal

pub begin-requires-clause-fed : goal.begin-requires-clause-fed
begin-requires-clause-fed g c = joined_fed c.args.self.now.around c.args.sound c.in-Some.joined c.in-Some.ensures.some c.requires.fed.is_sound

pub push-requires : goal.push-requires
push-requires g c = record { few = (_, c.in-Some.joined, [], c.in_ok-begin.ensures.has, omega (arith, ap (λ (t : Sound). t.size) c.in-Some.ensures.some.is)); takes = λ p is. tt }

pub returns-clause-has : goal.returns-clause-has
returns-clause-has g c =
    on_ok c.push.result _ _ (λ (pushes : PushesOn g.W.Write.contents c.begin.new.self c.push.new.self c.args.self.now.around.before.now).
    begun g.W.Write.contents c.args.self.now _ c.args.sound c.in-Some.joined c.in-Some.ensures.some c.requires.fed refl refl c.range_in-self.result c.range_in-self.ensures.range
    (pushes _ c.in-Some.joined [] c.in_ok-begin.ensures.has)) c.push.ensures.has

pub returns-in_err-begin-clause-refused : goal.returns-in_err-begin-clause-refused
returns-in_err-begin-clause-refused g c =
    rw (fault_is c.from_residual.result _ c.from_residual.ensures.1) (
    let held = g.W.Write.contents in
    let first = c.args.self.now in
    let j = c.in-Some.joined in
    let is = c.in-Some.ensures.some in
    let sound = c.requires.fed.is_sound in
    let why = c.in_err-begin.field-0.0 in
    let refuses = subst (λ m. RefusesPlaying held (with_range first.playing.now m) c.begin.new.self j [] why) c.range_in-self.ensures.range c.in_err-begin.ensures.refused in
    refused_after held first c.args.sound j is sound _ [] [] why (begins_empty held first c.args.sound j is sound) refl
    (joined_fault first.playing.now.range.head first.playing.now.taps.now first.around c.args.sound j is c.range_in-self.ensures.limits.least_factor why refuses.fault) refuses)

pub returns-in_default-clause-refused : goal.returns-in_default-clause-refused
returns-in_default-clause-refused g c = refused_first g.W.Write.contents c.args.self.now c.args.self.now c.args.sound [] refl (c.in_default.ensures.none refl)

pub returns-clause-refused : goal.returns-clause-refused
returns-clause-refused g c =
    let held = g.W.Write.contents in
    let first = c.args.self.now in
    let j = c.in-Some.joined in
    let is = c.in-Some.ensures.some in
    let sound = c.requires.fed.is_sound in
    IfErr-weaker c.push.result _ _ (λ f refuses.
    let refused = subst (λ m. RefusesPlaying held (with_range first.playing.now m) c.push.new.self j first.around.before.now f) c.range_in-self.ensures.range (refuses _ j [] c.in_ok-begin.ensures.has) in
    refused_after held first c.args.sound j is sound _ [] first.around.before.now f (begins_before held first c.args.sound j is sound) refl
    (joined_fault first.playing.now.range.head first.playing.now.taps.now first.around c.args.sound j is c.range_in-self.ensures.limits.least_factor f refused.fault) refused) c.push.ensures.refused
