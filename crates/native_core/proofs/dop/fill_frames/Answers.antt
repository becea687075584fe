use Rattle.std.proofs.Common.{◌≡◌, ℕ, length, ◌+◌, ◌*◌, ◌/◌, ◌≤◌, ◌++◌, sym, ap, take, ◌∙◌, arith}
use Rattle.std.specs.List.{flat_map, range_with_len}
use Rattle.std.proofs.Math.Nat.{add-mul}
use Rattle.std.proofs.lemmas.List.{take_all}
use Rattle.std.proofs.lemmas.Nat.{mul-le}
use Rattle.interleave_core.proofs.PlaceLaws.{times_over}
use Rattle.native_core.specs.Native.{dop_sample}
use Rattle.native_core.proofs.FlatLaws.{in_two}
use Rattle.native_core.proofs.dop.fill_frames.Goals as goal

pub put_frame-requires : goal.put_frame-requires
put_frame-requires over c =
    let n = over.row.N in
    let k = c.requires.whole.0 in
    let size = c.requires.whole.1 in
    let at = c.loop-frame.frame * n in
    let half : length c.args.bytes.now / 2 ≡ k * n = omega (arith, size) in
    let frames = ap (λ (m : ℕ). m / n) half ∙ times_over k n c.requires.number.0 in
    let fits : at + n ≤ k * n = omega (arith, add-mul c.loop-frame.frame 1 n, mul-le (c.loop-frame.frame + 1) n k n (omega (arith, frames, c.loop-frame-test.true)) (omega arith)) in
    record {
      number = c.requires.number;
      inside = omega (arith, size, fits);
      room = omega (arith, half, fits, c.requires.size, c.loop-frame.invariant.size);
      mark = c.marker_of.ensures;
    }

pub loop-frame-preserved : goal.loop-frame-preserved
loop-frame-preserved over c =
    let n = over.row.N in
    let f = dop_sample n c.args.bytes.now in
    let at = c.loop-frame.frame * n in
    let next : (c.loop-frame.frame + 1) * n ≡ at + n = omega (arith, add-mul c.loop-frame.frame 1 n) in
    record {
      size = c.put_frame.ensures.size ∙ c.loop-frame.invariant.size;
      written = ap (λ m. take (3 * m) c.put_frame.new.to) next ∙ c.put_frame.ensures.written
          ∙ ap (λ bs. bs ++ flat_map f (range_with_len at n)) c.loop-frame.invariant.written
          ∙ sym (in_two f at n) ∙ ap (λ m. flat_map f (range_with_len 0 m)) (sym next);
    }

pub returns : goal.returns
returns over c =
    let n = over.row.N in
    let k = c.requires.whole.0 in
    let size = c.requires.whole.1 in
    let f = dop_sample n c.args.bytes.now in
    let half : length c.args.bytes.now / 2 ≡ k * n = omega (arith, size) in
    let frames = ap (λ (m : ℕ). m / n) half ∙ times_over k n c.requires.number.0 in
    let all : c.loop-frame.frame ≡ k = omega (arith, frames, c.loop-frame-test.false, c.loop-frame.auto.frame-end) in
    let samples : c.loop-frame.frame * n ≡ length c.args.bytes.now / 2 = ap (λ m. m * n) all ∙ sym half in
    sym (take_all (3 * (c.loop-frame.frame * n)) c.loop-frame.to (omega (arith, samples, c.requires.size, c.loop-frame.invariant.size)))
    ∙ c.loop-frame.invariant.written ∙ ap (λ m. flat_map f (range_with_len 0 m)) samples
