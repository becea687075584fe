use Rattle.std.proofs.Common.{◌+◌, ◌*◌, ◌/◌, ◌^◌, ◌<◌, arith, rules}
use Rattle.std.proofs.lemmas.Nat.{mul-le}
use Rattle.std.specs.Int.{div_ceil}
use Rattle.interleave_core.proofs.MovingLaws.{more_blocks, less_left}
use Rattle.interleave_core.proofs.moving.fill_blocks.Goals as goal

pub overflow_mul-from-in-loop-group : goal.overflow_mul-from-in-loop-group
overflow_mul-from-in-loop-group c = omega (arith, mul-le (4096 * c.loop-group.group) c.args.stretch.channels (2 ^ 33) 6 (omega (arith, c.div_ceil-group-end.ensures, c.loop-group-test.true, c.args.stretch.in_limit)) c.args.stretch.channel_number.1)

pub split_at_mut-planes-requires : goal.split_at_mut-planes-requires
split_at_mut-planes-requires c =
    let n = c.args.stretch.channels in
    omega (arith, c.requires.room, c.loop-group.invariant.size, mul-le c.loop-group.group n (div_ceil c.args.stretch.count 32768) n (omega (arith, c.div_ceil-group-end.ensures, c.loop-group-test.true)) (omega arith))

pub split_at-requires : goal.split_at-requires
split_at-requires c =
    let n = c.args.stretch.channels in
    omega (arith, c.requires.size, mul-le (4096 * c.loop-group.group) n (c.args.stretch.count / 8) n (omega (arith, c.div_ceil-group-end.ensures, c.loop-group-test.true)) (omega arith))

pub frames_to_planes-requires-clause-frames : goal.frames_to_planes-requires-clause-frames
frames_to_planes-requires-clause-frames c =
    let n = c.args.stretch.channels in
    let frames = c.args.stretch.count / 8 in
    omega (arith, c.split_at.ensures.back_len, c.requires.size, mul-le (c.min-count.result + 4096 * c.loop-group.group) n frames n (omega (arith, c.min-count.ensures, c.div_ceil-group-end.ensures, c.loop-group-test.true)) (omega arith))

pub frames_to_planes-requires-clause-planes : goal.frames_to_planes-requires-clause-planes
frames_to_planes-requires-clause-planes c =
    let n = c.args.stretch.channels in
    omega (arith, c.split_at_mut-planes.ensures.back_len, c.requires.room, c.loop-group.invariant.size, mul-le (c.loop-group.group + 1) n (div_ceil c.args.stretch.count 32768) n (omega (arith, c.div_ceil-group-end.ensures, c.loop-group-test.true, c.requires.whole)) (omega arith))

pub loop-group-preserved : goal.loop-group-preserved
loop-group-preserved c =
    let s = c.args.stretch in
    let m = c.split_at_mut-planes in
    let made = c.frames_to_planes in
    let inv = c.loop-group.invariant in
    let inner : 4096 * c.loop-group.group < s.count / 8 = omega (arith, c.div_ceil-group-end.ensures, c.loop-group-test.true) in
    let step = more_blocks c.loop-group.blocks m.result.0.now made.new.planes c.args.bytes.now c.split_at.result.1.now s.channels (s.count / 8) c.loop-group.group c.min-count.result m.ensures.front m.ensures.front_len c.split_at.ensures.back inner c.min-count.ensures m.result.1.now m.ensures.back c.requires.size made.ensures.written made.ensures.others inv.done inv.left in
    let rest = less_left c.loop-group.blocks m.result.0.now made.new.planes c.args.bytes.now c.split_at.result.1.now s.channels (s.count / 8) c.loop-group.group c.min-count.result m.ensures.front m.ensures.front_len c.split_at.ensures.back inner c.min-count.ensures m.result.1.now m.ensures.back c.requires.size made.ensures.written made.ensures.others inv.done inv.left in
    record {
      size = search rules;
      done = step;
      left = rest;
    }
