use Rattle.std.proofs.Common.{◌≡◌, ◌-◌, ◌*◌, ◌/◌, ◌≤◌, [], length, drop, sym, ap, ◌∙◌, arith}
use Rattle.std.proofs.Math.Nat.{div-mul-le_self}
use Rattle.std.proofs.lemmas.List.{drop_all}
use Rattle.std.proofs.lemmas.Nat.{mul-le}
use Rattle.native_core.specs.Native.{frame_number, frame_size}
use Rattle.native_core.specs.Runs.{frames_size, group_frames, group_size}
use Rattle.native_core.proofs.RunLaws.{frames_of_group, given_long, less_times, size_after}
use Rattle.native_core.proofs.run.BitRun.new.Goals as goal

pub returns-clause-ready : goal.returns-clause-ready
returns-clause-ready c =
    let s = c.args.sound in
    let some : c.min-group.result * 32768 ≤ s.count = omega (arith, c.min-group.ensures) in
    record {
      sound = c.requires.sound;
      whole = c.requires.whole;
      some = some;
      fits = omega (arith, ap length c.new.ensures.items, size_after s.interleaving s.channels s.count c.min-group.result some, c.requires.sound.size);
      skips = (c.args.frame - c.min-group.result * (32768 / c.unit-frames.result), ap (λ m. (c.args.frame - c.min-group.result * (32768 / c.unit-frames.result)) * m) c.frame_size.ensures);
    }

pub returns-clause-given : goal.returns-clause-given
returns-clause-given c came long =
    let s = c.args.sound in
    let l = c.args.layout in
    let g = c.min-group.result in
    let f = frame_size l s.channels in
    let frames : frame_number l (g * 32768) ≡ g * (32768 / c.unit-frames.result) = frames_of_group l g ∙ ap (λ u. g * (32768 / u)) (sym c.unit-frames.ensures) in
    let here : length came ≡ g * group_size s = omega (arith, long, ap length c.new.ensures.items) in
    let none : c.new.result.items ≡ drop (g * group_size s) came = c.new.ensures.items ∙ sym (drop_all (g * group_size s) came (omega (arith, here))) in
    let before : g * (32768 / c.unit-frames.result) ≤ c.args.frame = omega (arith, mul-le g (32768 / c.unit-frames.result) (c.args.frame / (32768 / c.unit-frames.result)) (32768 / c.unit-frames.result) (omega (arith, c.min-group.ensures)) (omega arith), div-mul-le_self c.args.frame (32768 / c.unit-frames.result)) in
    let most : frames_size l s (frame_number l (g * 32768)) ≤ frames_size l s c.args.frame = mul-le (frame_number l (g * 32768)) f c.args.frame f (omega (arith, frames, before)) (omega arith) in
    record {
      long = long;
      part = none;
      skip = ap (λ m. (c.args.frame - g * (32768 / c.unit-frames.result)) * m) c.frame_size.ensures ∙ less_times c.args.frame (g * (32768 / c.unit-frames.result)) f ∙ ap (λ m. frames_size l s c.args.frame - m * f) (sym frames);
      given_is = sym (drop_all (frames_size l s c.args.frame) (group_frames l s came g) (omega (arith, most, given_long l s c.requires.sound c.args.frame g came c.new.result.items [] (omega (arith, long)) none)));
    }
