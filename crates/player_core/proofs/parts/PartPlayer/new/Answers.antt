use Rattle.std.proofs.Common.{◌-◌, ◌*◌, ◌≤◌, ◌^◌, ◌∙◌, [], ap, ap₂, arith, refl}
use Rattle.player_core.specs.Parts.{rest_of}
use Rattle.player_core.specs.declared.parts.PartPlayer.{PartPlayer}
use Rattle.player_core.proofs.PartLaws.{few_times, frame_small, group_small, groups_few, rest_sound, total_few}
use Rattle.player_core.proofs.PartNewLaws.{new_fed, new_part}
use Rattle.player_core.proofs.parts.PartPlayer.new.Goals as goal
use Rattle.player_core.proofs.parts.PartPlayer.new.Goals.{After-new-2, After-frame_size-align}

few : (c : After-frame_size-align) → c.place_before-place.result.groups ≤ 2 ^ 37
few c =
    rw c.place_before-place.ensures.groups
    (groups_few c.args.taps.now c.args.sound.interleaving c.place_before-place.ensures.limits c.args.start c.args.sound.count (omega (arith, c.requires.order, c.requires.inside)) c.requires.sound.in_limit)

most : (c : After-frame_size-align) → c.args.stop ≤ 2 ^ 34
most c =
    let limits = c.place_before-place.ensures.limits in
    omega (arith, c.requires.inside, total_few c.args.sound.count c.args.taps.now.factor c.requires.sound.in_limit limits.least_factor limits.greatest_factor)

align : (c : After-frame_size-align) → c.frame_size-align.result ≤ 18
align c = rw c.frame_size-align.ensures (frame_small c.args.taps.now c.args.sound.channels c.place_before-place.ensures.limits c.requires.sound.six_channels)

pub rest_of-requires-clause-few : goal.rest_of-requires-clause-few
rest_of-requires-clause-few c = omega (arith, few (goal.at.rest_of-requires-clause-few c).After-frame_size-align)

pub new-requires-clause-sound : goal.new-requires-clause-sound
new-requires-clause-sound c = rw c.rest_of.ensures (rest_sound c.args.sound c.requires.sound c.requires.whole c.place_before-place.result.groups)

pub overflow_mul-result : goal.overflow_mul-result
overflow_mul-result c =
    let small : c.group_size.result ≤ 24576 = rw c.group_size.ensures (group_small c.args.sound.interleaving c.args.sound.channels c.requires.sound.six_channels) in
    omega (arith, few_times c.place_before-place.result.groups c.group_size.result (few (goal.at.overflow_mul-result c).After-frame_size-align) small)

pub overflow_mul-result-2 : goal.overflow_mul-result-2
overflow_mul-result-2 c =
    let e = (goal.at.overflow_mul-result-2 c).After-frame_size-align in
    omega (arith, few_times (c.args.start - c.place_before-place.result.frames) c.frame_size-align.result (omega (arith, most e, c.requires.order)) (omega (arith, align e)))

pub overflow_mul-result-3 : goal.overflow_mul-result-3
overflow_mul-result-3 c =
    let e = (goal.at.overflow_mul-result-3 c).After-frame_size-align in
    omega (arith, few_times (c.args.stop - c.place_before-place.result.frames) c.frame_size-align.result (omega (arith, most e)) (omega (arith, align e)))

abbrev made : (c : After-new-2) → PartPlayer
made c = record {
  player = c.in_ok-player.player;
  start = c.place_before-place.result.groups * c.group_size.result;
  skip = (c.args.start - c.place_before-place.result.frames) * c.frame_size-align.result;
  stop = (c.args.stop - c.place_before-place.result.frames) * c.frame_size-align.result;
  given = 0;
  own = c.new-2.result;
}

pub returns-clause-fed : goal.returns-clause-fed
returns-clause-fed c = new_fed _ c.in_ok-player.ensures.fed refl

pub returns-clause-ready : goal.returns-clause-ready
returns-clause-ready c = record {
  player = c.in_ok-player.ensures.ready;
  history = ([], new_fed _ c.in_ok-player.ensures.fed refl);
}

pub returns-clause-part : goal.returns-clause-part
returns-clause-part c =
    let place = c.place_before-place.ensures in
    new_part c.args.taps.now c.args.sound place.limits c.requires.sound c.requires.whole c.args.start c.args.stop c.requires.order c.requires.inside
    (made (goal.at.returns-clause-part c).After-new-2)
    c.in_ok-player.ensures.made.0
    (c.in_ok-player.ensures.made.1 ∙ c.rest_of.ensures ∙ ap (rest_of c.args.sound) place.groups)
    (ap₂ ◌*◌ place.groups c.group_size.ensures)
    (ap₂ (λ m a. (c.args.start - m) * a) place.frames c.frame_size-align.ensures)
    (ap₂ (λ m a. (c.args.stop - m) * a) place.frames c.frame_size-align.ensures)
