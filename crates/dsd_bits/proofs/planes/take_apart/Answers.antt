use Rattle.std.proofs.Common.{◌≡◌, ◌+◌, ◌*◌, ◌<◌, length, slice_index, get_or, inl, inr, sym, ap, ◌∙◌, arith}
use Rattle.std.proofs.lemmas.Bool.{cases_lt}
use Rattle.std.proofs.lemmas.Grind.{get_or-set_at}
use Rattle.std.proofs.lemmas.List.{get_or-set_other, length-set}
use Rattle.std.proofs.lemmas.Nat.{mul-add-lt}
use Rattle.dsd_bits.proofs.PlaneLemmas.{frame_fits}
use Rattle.dsd_bits.proofs.planes.take_apart.Goals as goal

pub loop-c-preserved : goal.loop-c-preserved
loop-c-preserved over c =
    let n = over.row.N in
    let k = c.loop-k.k in
    let own = c.loop-c.c in
    let planes = c.loop-c.planes in
    let byte = get_or c.args.frames.now (k * n + own) 0 in
    let inv = c.loop-c.invariant in
    let few : k < 4096 = omega (arith, c.loop-k-test.true, c.requires.few) in
    let inside : 4096 * own + k < length planes = omega (arith, few, c.loop-c-test.true, inv.size, c.requires.planes) in
    record {
      size = length-set planes (4096 * own + k) byte ∙ inv.size;
      written = λ d j in_frame before. get_or-set_other planes (4096 * own + k) (4096 * d + j) byte 0 (omega (arith, few, before)) ∙ inv.written d j in_frame before;
      frame = λ d below. elim (cases_lt d own) [
        | inl low ↦ get_or-set_other planes (4096 * own + k) (4096 * d + k) byte 0 (omega (arith, low)) ∙ inv.frame d low
        | inr high ↦
            let e : d ≡ own = omega (arith, below, high) in
            get_or-set_at planes (4096 * own + k) (4096 * d + k) byte 0 (ap (λ m. 4096 * m + k) e) inside ∙ ap (λ m. slice_index c.args.frames.now (k * n + m)) (sym e)
      ];
      others = λ place away. get_or-set_other planes (4096 * own + k) place byte 0 (omega (arith, away, few, c.loop-c-test.true)) ∙ inv.others place away;
    }

pub loop-k-preserved : goal.loop-k-preserved
loop-k-preserved over c =
    let k = c.loop-k.k in
    let inv = c.loop-c.invariant in
    record {
      size = inv.size;
      written = λ d j in_frame below. elim (cases_lt j k) [
        | inl low ↦ inv.written d j in_frame low
        | inr high ↦
            let e : j ≡ k = omega (arith, below, high) in
            ap (λ m. slice_index c.loop-c.planes (4096 * d + m)) e ∙ inv.frame d (omega (arith, in_frame, c.loop-c-test.false)) ∙ ap (λ m. slice_index c.args.frames.now (m * over.row.N + d)) (sym e)
      ];
      others = λ place away. inv.others place away;
    }

pub loop-c-init : goal.loop-c-init
loop-c-init over c = record {
  size = c.loop-k.invariant.size;
  written = c.loop-k.invariant.written;
  frame = λ d h. absurd (omega (arith, h));
  others = λ place away. c.loop-k.invariant.others place (elim away [ inl high ↦ inl high | inr late ↦ inr (omega (arith, late)) ]);
}

pub overflow_mul-planes : goal.overflow_mul-planes
overflow_mul-planes over c = omega (arith, frame_fits c.loop-k.k over.row.N (omega (arith, c.loop-k-test.true, c.requires.few)) c.requires.number)

pub overflow_mul-planes-in-loop-c : goal.overflow_mul-planes-in-loop-c
overflow_mul-planes-in-loop-c over c = omega (arith, c.loop-c-test.true, c.requires.number)

pub overflow_add-planes : goal.overflow_add-planes
overflow_add-planes over c = omega (arith, frame_fits c.loop-k.k over.row.N (omega (arith, c.loop-k-test.true, c.requires.few)) c.requires.number, c.loop-c-test.true, c.requires.number)

pub overflow_add-planes-in-loop-c : goal.overflow_add-planes-in-loop-c
overflow_add-planes-in-loop-c over c = omega (arith, c.loop-c-test.true, c.requires.number, c.loop-k-test.true, c.requires.few)

pub bounds-frames-k : goal.bounds-frames-k
bounds-frames-k over c = omega (arith, mul-add-lt c.loop-k.k over.row.N c.loop-c.c c.args.count c.loop-k-test.true c.loop-c-test.true, c.requires.frames)

pub returns : goal.returns
returns over c = record {
  written = λ d k in_frame below. c.loop-k.invariant.written d k in_frame (omega (arith, below, c.loop-k-test.false));
  others = λ place away. c.loop-k.invariant.others place (elim away [ inl high ↦ inl high | inr late ↦ inr (omega (arith, late, c.loop-k.auto.k-end)) ]);
}
