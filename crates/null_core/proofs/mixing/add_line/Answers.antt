use Rattle.std.proofs.Common.{◌∙◌, ◌<◌, pos, get_or, length, sym, arith}
use Rattle.clip_core.specs.Lines.{line_gain}
use Rattle.null_core.proofs.GainLaws.{gained_all, gained_more, gained_none, next_within, sum_with_it}
use Rattle.null_core.proofs.KeptLaws.{gain_within, sound_within}
use Rattle.null_core.proofs.mixing.add_line.Goals as goal

pub loop-i-preserved : goal.loop-i-preserved
loop-i-preserved c =
    let inside : c.loop-i.i < length c.args.mixed.now = omega (arith, c.loop-i-test.true, c.requires.long) in
    let same = c.gain_at-gain.ensures.value ∙ c.is_level.ensures.level c.if-is_level.true c.args.k ∙ sym (c.is_level.ensures.level c.if-is_level.true _) in
    gained_more (line_gain c.args.line) c.args.k c.args.sound.now c.args.mixed.now c.loop-i.i c.loop-i.mixed c.loop-i.invariant inside _ (sum_with_it (line_gain c.args.line) c.args.k c.args.sound.now c.args.mixed.now c.loop-i.i c.loop-i.mixed c.loop-i.invariant inside c.gain_at-gain.result c.gain_at-gain.ensures.bound same c.requires.small c.requires.sound c.requires.long _ _ c.with_sound.result c.with_sound.ensures (record { sfits = c.with_sound.type_inv }))

pub loop-i-else-is_level-preserved : goal.loop-i-else-is_level-preserved
loop-i-else-is_level-preserved c =
    let loop = c.loop-i-else-is_level in
    let inside : loop.i < length c.args.mixed.now = omega (arith, c.loop-i-else-is_level-test.true, c.requires.long) in
    gained_more (line_gain c.args.line) c.args.k c.args.sound.now c.args.mixed.now loop.i loop.mixed loop.invariant inside _ (sum_with_it (line_gain c.args.line) c.args.k c.args.sound.now c.args.mixed.now loop.i loop.mixed loop.invariant inside c.gain_at.result c.gain_at.ensures.bound c.gain_at.ensures.value c.requires.small c.requires.sound c.requires.long _ _ c.with_sound-in-loop-i-else-is_level.result c.with_sound-in-loop-i-else-is_level.ensures (record { sfits = c.with_sound-in-loop-i-else-is_level.type_inv }))

pub with_sound-requires : goal.with_sound-requires
with_sound-requires c =
    let loop = c.loop-i in
    let inside : loop.i < length c.args.mixed.now = omega (arith, c.loop-i-test.true, c.requires.long) in
    record {
      mixed = next_within (line_gain c.args.line) c.args.k c.args.sound.now c.args.mixed.now loop.i loop.mixed loop.invariant inside c.requires.small;
      gain = gain_within c.gain_at-gain.result c.gain_at-gain.ensures.bound;
      sound = sound_within (get_or c.args.sound.now loop.i (pos 0)) (c.requires.sound loop.i c.loop-i-test.true);
    }

pub with_sound-requires-in-loop-i-else-is_level : goal.with_sound-requires-in-loop-i-else-is_level
with_sound-requires-in-loop-i-else-is_level c =
    let loop = c.loop-i-else-is_level in
    let inside : loop.i < length c.args.mixed.now = omega (arith, c.loop-i-else-is_level-test.true, c.requires.long) in
    record {
      mixed = next_within (line_gain c.args.line) c.args.k c.args.sound.now c.args.mixed.now loop.i loop.mixed loop.invariant inside c.requires.small;
      gain = gain_within c.gain_at.result c.gain_at.ensures.bound;
      sound = sound_within (get_or c.args.sound.now loop.i (pos 0)) (c.requires.sound loop.i c.loop-i-else-is_level-test.true);
    }

pub loop-i-init : goal.loop-i-init
loop-i-init c = gained_none (line_gain c.args.line) c.args.k c.args.sound.now c.args.mixed.now

pub loop-i-else-is_level-init : goal.loop-i-else-is_level-init
loop-i-else-is_level-init c = gained_none (line_gain c.args.line) c.args.k c.args.sound.now c.args.mixed.now

pub bounds-mixed-i : goal.bounds-mixed-i
bounds-mixed-i c = omega (arith, c.loop-i.invariant.long, c.loop-i-test.true, c.requires.long)

pub bounds-mixed-i-in-loop-i-else-is_level : goal.bounds-mixed-i-in-loop-i-else-is_level
bounds-mixed-i-in-loop-i-else-is_level c = omega (arith, c.loop-i-else-is_level.invariant.long, c.loop-i-else-is_level-test.true, c.requires.long)

pub returns-after-loop-i : goal.returns-after-loop-i
returns-after-loop-i c = gained_all (line_gain c.args.line) c.args.k c.args.sound.now c.args.mixed.now c.loop-i.i c.loop-i.mixed c.loop-i.invariant (omega (arith, c.loop-i-test.false, c.requires.long))

pub returns-after-loop-i-else-is_level : goal.returns-after-loop-i-else-is_level
returns-after-loop-i-else-is_level c =
    let loop = c.loop-i-else-is_level in
    gained_all (line_gain c.args.line) c.args.k c.args.sound.now c.args.mixed.now loop.i loop.mixed loop.invariant (omega (arith, c.loop-i-else-is_level-test.false, c.requires.long))
