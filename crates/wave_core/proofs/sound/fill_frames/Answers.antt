use Rattle.std.proofs.Common.{◌≡◌, All, ◌+◌, ◌-◌, ◌*◌, ◌/◌, ◌≤◌, ◌<◌, ◌∙◌, ap, arith, drop, get_or, get_or-drop, get_or-take, inl, inr, length, length-drop, length-take-le, pos, slice_index, subst, sym, take}
use Rattle.std.proofs.Math.Nat.{div-mul-le_self}
use Rattle.std.proofs.lemmas.Bool.{cases_lt}
use Rattle.std.proofs.lemmas.List.Elements.{All-drop, All-take}
use Rattle.wave_core.specs.Contents.{IsSample}
use Rattle.wave_core.specs.Texts.{sample_bytes}
use Rattle.wave_core.proofs.FrameLaws.{frames_joined, place_within, row_within}
use Rattle.wave_core.proofs.sound.fill_frames.Goals as goal

pub loop-c-preserved : goal.loop-c-preserved
loop-c-preserved c = λ i d k below in_frame in_bytes. elim (cases_lt d c.loop-c.c) [
  | inl low ↦ c.spread.ensures.others i d k (omega (arith, c.loop-c-test.true)) (omega arith) in_bytes ∙ c.loop-c.invariant i d k below low in_bytes
  | inr high ↦
      let frames = c.args.frames in
      let at = c.loop-c.c * frames in
      let samples = c.args.samples.now in
      let e : d ≡ c.loop-c.c = omega arith in
      let long : i < at + frames - at = omega arith in
      let last = place_within c.loop-c.c (frames - 1) frames (length samples) c.loop-c-test.true (omega arith) in
      let size = length-take-le (at + frames - at) (drop at samples) (omega (arith, last, length-drop at samples)) in
      let read = get_or-take (at + frames - at) (drop at samples) i (pos 0) long ∙ get_or-drop at samples i (pos 0) in
      rw e (c.spread.ensures.own i k (omega (arith, long, size)) in_bytes ∙ ap (λ z. slice_index (sample_bytes c.args.width z) k) read)
]

pub returns : goal.returns
returns c =
    frames_joined c.args.width c.requires.width c.args.samples.now c.args.frames c.loop-c.to (c.loop-c.auto.to ∙ c.requires.size)
    (λ i d k below in_frame in_bytes. c.loop-c.invariant i d k below (omega (arith, c.loop-c-test.false)) in_bytes)

pub returns-then-channels-eq2 : goal.returns-then-channels-eq2
returns-then-channels-eq2 c =
    let frames = c.args.frames in
    let samples = c.args.samples.now in
    let width = c.args.width in
    let to = c.fill_pairs.new.to in
    let two = c.if-channels-eq2.true in
    let enough : frames + frames ≤ length samples = omega (arith, div-mul-le_self (length samples) frames, ap (λ m. m * frames) two) in
    let long = ap length c.split_at.ensures.front ∙ length-take-le frames samples (omega (arith, enough)) in
    frames_joined width c.requires.width samples frames to (c.fill_pairs.ensures.size ∙ c.requires.size)
    (λ i d k below in_frame in_bytes. elim (cases_lt d 1) [
      | inl low ↦
          let zero : 0 ≡ d = omega (arith, low) in
          let place : (i * (length samples / frames) + d) * (width / 8) + k ≡ i * 2 * (width / 8) + k = ap (λ m. (i * m + d) * (width / 8) + k) two ∙ ap (λ m. m * (width / 8) + k) (omega (arith, low)) in
          let read : get_or c.split_at.result.0.now i (pos 0) ≡ get_or samples (d * frames + i) (pos 0) = ap (λ xs. get_or xs i (pos 0)) c.split_at.ensures.front ∙ get_or-take frames samples i (pos 0) below ∙ ap (λ m. get_or samples m (pos 0)) (omega (arith, ap (λ m. m * frames) zero)) in
          ap (λ m. slice_index to m) place ∙ c.fill_pairs.ensures.left i k (omega (arith, below, long)) in_bytes ∙ ap (λ z. slice_index (sample_bytes width z) k) read
      | inr high ↦
          let one : d ≡ 1 = omega (arith, high, in_frame, two) in
          let place : (i * (length samples / frames) + d) * (width / 8) + k ≡ (i * 2 + 1) * (width / 8) + k = ap (λ m. (i * m + d) * (width / 8) + k) two ∙ ap (λ m. (i * 2 + m) * (width / 8) + k) one in
          let read : get_or c.split_at.result.1.now i (pos 0) ≡ get_or samples (d * frames + i) (pos 0) = ap (λ xs. get_or xs i (pos 0)) c.split_at.ensures.back ∙ get_or-drop frames samples i (pos 0) ∙ ap (λ m. get_or samples m (pos 0)) (omega (arith, ap (λ m. m * frames) one)) in
          ap (λ m. slice_index to m) place ∙ c.fill_pairs.ensures.right i k (omega (arith, below, long)) in_bytes ∙ ap (λ z. slice_index (sample_bytes width z) k) read
    ])

pub overflow_mul-c : goal.overflow_mul-c
overflow_mul-c c = omega (arith, row_within c.loop-c.c c.args.frames (length c.args.samples.now) c.loop-c-test.true)

pub overflow_add-c : goal.overflow_add-c
overflow_add-c c = omega (arith, row_within c.loop-c.c c.args.frames (length c.args.samples.now) c.loop-c-test.true)

pub spread-requires : goal.spread-requires
spread-requires c =
    let frames = c.args.frames in
    let at = c.loop-c.c * frames in
    let samples = c.args.samples.now in
    let row = row_within c.loop-c.c frames (length samples) c.loop-c-test.true in
    let long : length (take (at + frames - at) (drop at samples)) ≡ frames = omega (arith, length-take-le (at + frames - at) (drop at samples) (omega (arith, row, length-drop at samples))) in
    record {
      width = c.requires.width;
      values = All-take (IsSample c.args.width) (at + frames - at) (drop at samples) (All-drop (IsSample c.args.width) at samples c.requires.values);
      channel = c.loop-c-test.true;
      enough = omega (arith, ap (λ m. m * (length samples / frames) * (c.args.width / 8)) long, c.loop-c.auto.to, c.requires.size);
    }

pub split_at-requires : goal.split_at-requires
split_at-requires c = omega (arith, div-mul-le_self (length c.args.samples.now) c.args.frames, ap (λ m. m * c.args.frames) c.if-channels-eq2.true)

pub fill_pairs-requires : goal.fill_pairs-requires
fill_pairs-requires c =
    let frames = c.args.frames in
    let samples = c.args.samples.now in
    let P = IsSample c.args.width in
    let two = c.if-channels-eq2.true in
    let whole : frames + frames ≤ length samples = omega (arith, div-mul-le_self (length samples) frames, ap (λ m. m * frames) two) in
    let prefix = ap length c.split_at.ensures.front ∙ length-take-le frames samples (omega (arith, whole)) in
    let back = ap length c.split_at.ensures.back ∙ length-drop frames samples in
    record {
      width = c.requires.width;
      left = subst (All P) (sym c.split_at.ensures.front) (All-take P frames samples c.requires.values);
      right = subst (All P) (sym c.split_at.ensures.back) (All-drop P frames samples c.requires.values);
      as_many = omega (arith, whole, prefix, back);
      enough = omega (arith, ap (λ m. m * 2 * (c.args.width / 8)) prefix, ap (λ m. frames * m * (c.args.width / 8)) two, c.requires.size);
    }
