use Rattle.std.proofs.Common.{◌≡◌, ◌+◌, ◌*◌, ◌<◌, length, slice_index, get_or, inl, inr, sym, ap, ◌∙◌, arith}
use Rattle.std.proofs.lemmas.Bool.{cases_lt}
use Rattle.std.proofs.lemmas.Grind.{get_or-set_at}
use Rattle.std.proofs.lemmas.List.{get_or-set_other, length-set}
use Rattle.std.proofs.lemmas.Nat.{mul-add-lt}
use Rattle.dsd_bits.proofs.PlaneLemmas.{frame_fits}
use Rattle.dsd_bits.proofs.planes.put_together.Goals as goal

pub loop-c-preserved : goal.loop-c-preserved
loop-c-preserved over c =
    let n = over.row.N in
    let k = c.loop-k.k in
    let own = c.loop-c.c in
    let frames = c.loop-c.frames in
    let byte = get_or c.args.planes.now (4096 * own + k) 0 in
    let inv = c.loop-c.invariant in
    let inside : k * n + own < length frames = omega (arith, mul-add-lt k n own c.args.count c.loop-k-test.true c.loop-c-test.true, inv.size, c.requires.frames) in
    record {
      size = length-set frames (k * n + own) byte ∙ inv.size;
      written = λ d j in_frame before. get_or-set_other frames (k * n + own) (j * n + d) byte 0 (omega (arith, mul-add-lt j n d k before in_frame)) ∙ inv.written d j in_frame before;
      frame = λ d below. elim (cases_lt d own) [
        | inl low ↦ get_or-set_other frames (k * n + own) (k * n + d) byte 0 (omega (arith, low)) ∙ inv.frame d low
        | inr high ↦
            let e : d ≡ own = omega (arith, below, high) in
            get_or-set_at frames (k * n + own) (k * n + d) byte 0 (ap (λ m. k * n + m) e) inside ∙ ap (λ m. slice_index c.args.planes.now (4096 * m + k)) (sym e)
      ];
      others = λ place after. get_or-set_other frames (k * n + own) place byte 0 (omega (arith, after)) ∙ inv.others place (omega (arith, after));
    }

pub loop-k-preserved : goal.loop-k-preserved
loop-k-preserved over c =
    let n = over.row.N in
    let k = c.loop-k.k in
    let inv = c.loop-c.invariant in
    record {
      size = inv.size;
      written = λ d j in_frame below. elim (cases_lt j k) [
        | inl low ↦ inv.written d j in_frame low
        | inr high ↦
            let e : j ≡ k = omega (arith, below, high) in
            ap (λ m. slice_index c.loop-c.frames (m * n + d)) e ∙ inv.frame d (omega (arith, in_frame, c.loop-c-test.false)) ∙ ap (λ m. slice_index c.args.planes.now (4096 * d + m)) (sym e)
      ];
      others = λ place after. inv.others place (omega (arith, after, c.loop-c.auto.c-end));
    }

pub bounds-planes-c : goal.bounds-planes-c
bounds-planes-c over c = omega (arith, c.loop-k-test.true, c.requires.few, c.loop-c-test.true, c.requires.planes)

pub overflow_mul-frames : goal.overflow_mul-frames
overflow_mul-frames over c = omega (arith, c.loop-c-test.true, c.requires.number)

pub overflow_add-frames : goal.overflow_add-frames
overflow_add-frames over c = omega (arith, c.loop-c-test.true, c.requires.number, c.loop-k-test.true, c.requires.few)

pub overflow_mul-frames-in-loop-c : goal.overflow_mul-frames-in-loop-c
overflow_mul-frames-in-loop-c over c = omega (arith, frame_fits c.loop-k.k over.row.N (omega (arith, c.loop-k-test.true, c.requires.few)) c.requires.number)

pub overflow_add-frames-in-loop-c : goal.overflow_add-frames-in-loop-c
overflow_add-frames-in-loop-c over c = omega (arith, frame_fits c.loop-k.k over.row.N (omega (arith, c.loop-k-test.true, c.requires.few)) c.requires.number, c.loop-c-test.true, c.requires.number)

pub loop-c-init : goal.loop-c-init
loop-c-init over c = record {
  size = c.loop-k.invariant.size;
  written = c.loop-k.invariant.written;
  frame = λ d h. absurd (omega (arith, h));
  others = λ place after. c.loop-k.invariant.others place (omega (arith, after));
}

pub returns : goal.returns
returns over c = record {
  written = λ d k in_frame below. c.loop-k.invariant.written d k in_frame (omega (arith, below, c.loop-k-test.false));
  others = λ place after. c.loop-k.invariant.others place (let e : c.loop-k.k ≡ c.args.count = omega (arith, c.loop-k.auto.k-end, c.loop-k-test.false) in omega (arith, after, ap (λ m. m * over.row.N) e));
}
