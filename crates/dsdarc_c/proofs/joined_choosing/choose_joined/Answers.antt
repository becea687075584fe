use Rattle.std.proofs.Common.{◌≡◌, ◌∙◌, [], Err, IfErr, ap, ap₂, subst, sym}
use Rattle.std.proofs.lemmas.Result.{err_from_is_err_and}
use Rattle.joined_core.specs.Givers.{bits_way, way_of}
use Rattle.joined_core.specs.declared.giver.Giver.TheVariants as givers
use Rattle.dsdarc_c.specs.JoinedCalls.{RefusesJoinedChoice}
use Rattle.dsdarc_c.specs.JoinedWhole.{PlaysJoined}
use Rattle.dsdarc_c.proofs.JoinedLaws.{on_two}
use Rattle.dsdarc_c.proofs.joined_choosing.choose_joined.Goals as goal

pub returns-in_err-sound-clause-refused : goal.returns-in_err-sound-clause-refused
returns-in_err-sound-clause-refused c =
    let is = err_from_is_err_and c.from_residual.result c.from_residual.ensures.1 in
    let same = is.1 ∙ ap Err is.2 in
    subst (λ r. IfErr r (RefusesJoinedChoice c.args.p.now c.args.layout)) (sym same) (c.in_err-sound.ensures.refused c.args.layout)

pub returns-clause-plays : goal.returns-clause-plays
returns-clause-plays c way before file pulled plays =
    let same : way_of (givers.Bits c.new.result) ≡ bits_way c.args.layout c.in_ok-sound.sound.channels = ap₂ bits_way c.new.ensures.same.0 c.new.ensures.same.1 in
    let gives = c.start.ensures.plays way before file pulled plays in
    on_two c.start.result (λ is again. (c.in_ok-sound.sound, c.in_ok-sound.ensures.open.1, subst (λ w. PlaysJoined w [] file [] c.start.new.p) same is)) gives gives
