use Rattle.std.proofs.Common.{◌≡◌, ◌∙◌, ℕ, [], inl, Err, IfErr, Some, ap, ap₂, subst, sym}
use Rattle.std.proofs.lemmas.Result.{err_from_is_err_and}
use Rattle.joined_core.specs.Givers.{frames_way, way_of}
use Rattle.joined_core.specs.declared.giver.Giver.TheVariants as givers
use Rattle.dsdarc_c.specs.JoinedCalls.{RefusesJoinedFilter}
use Rattle.dsdarc_c.specs.JoinedWhole.{PlaysJoined}
use Rattle.dsdarc_c.specs.declared.joined.Shape.{Shape}
use Rattle.dsdarc_c.proofs.JoinedLaws.{if_err_map, on_two}
use Rattle.dsdarc_c.proofs.joined_choosing.filter_joined.Goals as goal

pub returns-in_err-sound-clause-refused : goal.returns-in_err-sound-clause-refused
returns-in_err-sound-clause-refused c =
    let is = err_from_is_err_and c.from_residual.result c.from_residual.ensures.1 in
    let same = is.1 ∙ ap Err is.2 in
    subst (λ r. IfErr r (RefusesJoinedFilter c.args.p.now c.args.taps)) (sym same) (c.in_err-sound.ensures.refused_filter c.args.taps)

pub returns-clause-plays : goal.returns-clause-plays
returns-clause-plays c way before file pulled plays =
    let s = c.in_ok-sound.sound in
    let is = c.in_ok-giver.ensures.same in
    let same : way_of (givers.Frames c.in_ok-giver.giver) ≡ frames_way c.args.taps s.rate s.channels
    = ap (λ d. frames_way d c.in_ok-giver.giver.sound.rate c.in_ok-giver.giver.sound.channels) is.0 ∙ ap₂ (frames_way c.args.taps) is.1 is.2 in
    let gives = c.start.ensures.plays way before file pulled plays in
    on_two c.start.result (λ played again. (s, c.in_ok-sound.ensures.open.1, subst (λ w. PlaysJoined w [] file [] c.start.new.p) same played)) gives gives

pub returns-clause-shape : goal.returns-clause-shape
returns-clause-shape c =
    let s = c.in_ok-sound.sound in
    let shape = ap₂ (λ (unit width : ℕ). (let it : Shape = record { rate = s.rate; channels = s.channels; unit = unit; width = width } in Some it)) c.factor.ensures.value c.width.ensures.value in
    on_two c.start.result (λ is again. (s, c.in_ok-sound.ensures.open.1, is.0 ∙ shape, is.1)) c.start.ensures.shape c.start.ensures.shape

pub returns-clause-refused : goal.returns-clause-refused
returns-clause-refused c = if_err_map _ _ c.start.result (λ fault is. subst (RefusesJoinedFilter c.args.p.now c.args.taps) (sym is) tt) c.start.ensures.memory

pub returns-clause-same : goal.returns-clause-same
returns-clause-same c = if_err_map _ _ c.start.result (λ fault is. inl is) c.start.ensures.memory
