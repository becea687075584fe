use Rattle.std.proofs.Common.{◌≡◌, ◌+◌, ◌*◌, ◌≤◌, ◌∙◌, length, slice_index, inl, inr, ap, arith}
use Rattle.std.proofs.lemmas.Simd.{length-put_chunk}
use Rattle.dsd_bits.proofs.PlaneLemmas.{plane_more, plane_others}
use Rattle.dsd_bits.proofs.planes.take_fifth_out.Goals as goal

pub loop-k-preserved : goal.loop-k-preserved
loop-k-preserved c =
    let planes = c.loop-k.planes in
    let base = 4096 * c.args.channel in
    let n = 16 * c.loop-k.k in
    let lanes = c.every_fifth.result in
    let inv = c.loop-k.invariant in
    let size = c.every_fifth.ensures.0 in
    let room : base + n + 16 ≤ length planes = omega (arith, inv.size, c.requires.planes, c.requires.few, c.requires.channel, c.loop-k-test.true) in
    record {
      size = length-put_chunk (base + n) planes lanes ∙ inv.size;
      written = λ j h. plane_more planes lanes base n size room c.args.frames.now c.args.channel inv.written (λ i low.
          let place : 80 * c.loop-k.k + c.args.channel + 5 * i ≡ (n + i) * 5 + c.args.channel = omega arith in
          c.every_fifth.ensures.1 i low ∙ ap (slice_index c.args.frames.now) place) j (omega (arith, h));
      others = λ place away. elim away [
        | inl low ↦ plane_others planes lanes base n size room place (inl low) ∙ inv.others place (inl low)
        | inr high ↦ plane_others planes lanes base n size room place (inr (omega (arith, high))) ∙ inv.others place (inr (omega (arith, high)))
      ];
    }
