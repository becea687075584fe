use Rattle.std.proofs.Common.{refl}
use Rattle.player_core.proofs.FaultLaws.{fault_is}
use Rattle.player_core.proofs.JoinLaws.{all_came, first_joined, on_value, room_after, whole_long}
use Rattle.player_core.proofs.JoinStops.{after_refused, both_err, end_refused, joined_still}
use Rattle.player_core.proofs.joining.finish_joined.Goals as goal

pub push-requires : goal.push-requires
push-requires g c = let (is_sound, (first, bytes, is, long)) = c.requires.all in record { few = room_after g.W.Write.contents first c.args.sink.now c.args.sound.now bytes is_sound is long; takes = λ p is. tt }

pub unreachable-requires : goal.unreachable-requires
unreachable-requires g c =
    let (is_sound, (first, bytes, is, long)) = c.requires.all in
    joined_still g.W.Write.contents first c.args.sink.now c.args.sink.now c.args.sound.now bytes is_sound is long (c.in_default.ensures.none refl)

pub finish-requires : goal.finish-requires
finish-requires g c =
    let (is_sound, (first, bytes, is, long)) = c.requires.all in
    let j = c.in-Some.joined in (
      _,
      _,
      all_came g.W.Write.contents first c.args.sink.now c.args.sound.now bytes is_sound is long c.push.new.self j c.in-Some.ensures.some c.in_ok-push.ensures.has,
      whole_long g.W.Write.contents first c.args.sink.now c.args.sound.now bytes is_sound is long c.push.new.self j c.in-Some.ensures.some,
    )

pub returns-in_err-push-clause-refused : goal.returns-in_err-push-clause-refused
returns-in_err-push-clause-refused g c =
    rw (fault_is c.from_residual.result _ c.from_residual.ensures.1) (λ first bytes is long.
    after_refused g.W.Write.contents first c.args.sink.now _ c.args.sound.now bytes c.requires.all.0 is long c.in_err-push.field-0.0 c.in_err-push.ensures.fault refl (c.in_err-push.ensures.refused _ is.joined _ is.playing))

pub returns-clause-ok : goal.returns-clause-ok
returns-clause-ok g c =
    let j = c.in-Some.joined in
    let is_sound = c.requires.all.0 in
    on_value c.finish.result _ _ (λ n ends first bytes is long. (
      j,
      first_joined g.W.Write.contents first c.args.sink.now c.args.sound.now bytes is_sound is long c.push.new.self j c.in-Some.ensures.some,
      is.reference,
      ends _ _ (all_came g.W.Write.contents first c.args.sink.now c.args.sound.now bytes is_sound is long c.push.new.self j c.in-Some.ensures.some c.in_ok-push.ensures.has)
          (whole_long g.W.Write.contents first c.args.sink.now c.args.sound.now bytes is_sound is long c.push.new.self j c.in-Some.ensures.some),
    )) c.finish.ensures.ok

pub returns-clause-refused : goal.returns-clause-refused
returns-clause-refused g c =
    let j = c.in-Some.joined in
    let is_sound = c.requires.all.0 in
    both_err c.finish.result _ _ _ (λ f fault refuses first bytes is long.
    end_refused g.W.Write.contents first c.args.sink.now _ c.args.sound.now bytes is_sound is long j
    (first_joined g.W.Write.contents first c.args.sink.now c.args.sound.now bytes is_sound is long c.push.new.self j c.in-Some.ensures.some) f fault refl
    (refuses _ _ (all_came g.W.Write.contents first c.args.sink.now c.args.sound.now bytes is_sound is long c.push.new.self j c.in-Some.ensures.some c.in_ok-push.ensures.has)
    (whole_long g.W.Write.contents first c.args.sink.now c.args.sound.now bytes is_sound is long c.push.new.self j c.in-Some.ensures.some))) c.finish.ensures.fault c.finish.ensures.refused
