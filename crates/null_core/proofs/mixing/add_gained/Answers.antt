use Rattle.std.proofs.Common.{◌+◌, ◌≤◌, ◌^◌, ◌∙◌, sym, length, arith}
use Rattle.std.proofs.lemmas.List.Edits.{length-between}
use Rattle.clip_core.specs.Gains.{gain}
use Rattle.clip_core.specs.Lines.{line_gain}
use Rattle.null_core.proofs.GainLaws.{between_small, gained_part, rest_small}
use Rattle.null_core.proofs.mixing.add_gained.Goals as goal

pub loop-done-preserved : goal.loop-done-preserved
loop-done-preserved c =
    let end = c.min-end.result in
    let k = c.args.k in
    let ends : end ≤ length c.args.sound.now = omega (arith, c.min-end.ensures) in
    let order : c.loop-done.done ≤ end = omega (arith, c.min-end.ensures, c.until.ensures.value, c.line_at-line.ensures.place.not_ended, c.loop-done-test.true) in
    let inside : end ≤ length c.args.mixed.now = omega (arith, ends, c.requires.long) in (
      ends,
      gained_part (gain c.args.points.now) (line_gain c.line_at-line.result) k c.args.sound.now c.args.mixed.now c.loop-done.done end c.loop-done.mixed c.add_line.new.mixed c.loop-done.invariant.1 order inside c.requires.long c.add_line.ensures
          (λ j from below. c.line_at-line.ensures.gains (k + j) (record { begun = omega (arith, c.line_at-line.ensures.place.begun, from); not_ended = omega (arith, c.min-end.ensures, c.until.ensures.value, below) })),
    )

pub add_line-requires : goal.add_line-requires
add_line-requires c =
    let loop = c.loop-done in
    let done = loop.done in
    let end = c.min-end.result in
    let sound = c.args.sound.now in
    let ends : end ≤ length sound = omega (arith, c.min-end.ensures) in
    let order : done ≤ end = omega (arith, c.min-end.ensures, c.until.ensures.value, c.line_at-line.ensures.place.not_ended, c.loop-done-test.true) in
    let inside : end ≤ length c.args.mixed.now = omega (arith, ends, c.requires.long) in
    let there : end ≤ length loop.mixed = omega (arith, inside, loop.invariant.1.long) in
    record {
      begun = c.line_at-line.ensures.place.begun;
      on = omega (arith, length-between sound done end ends, order, c.min-end.ensures, c.until.ensures.value, c.line_at-line.ensures.place.not_ended);
      long = length-between sound done end ends ∙ sym (length-between loop.mixed done end there);
      sound = between_small (2 ^ 28) sound done end ends c.requires.sound;
      small = rest_small (gain c.args.points.now) c.args.k sound c.args.mixed.now done loop.mixed loop.invariant.1 (2 ^ 61) end inside c.requires.small;
    }
