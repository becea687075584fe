use Rattle.std.proofs.Common.{◌-◌, ◌%◌, min, sym, subst, arith}
use Rattle.std.proofs.lemmas.Nat.{mod_below}
use Rattle.dsd_bits.proofs.ExitLaws.{no_value}
use Rattle.null_core.specs.Chunks.{JudgesChunk}
use Rattle.null_core.specs.Judging.{IsJudgedTo}
use Rattle.null_core.specs.Parts.{asked_content}
use Rattle.null_core.proofs.DueLaws.{due_once}
use Rattle.null_core.proofs.SpanLaws.{judged_chunk, judged_to_due, judged_to_first}
use Rattle.null_core.proofs.judging.judge_span.Goals as goal

pub next_multiple_of-first-requires-clause-fits : goal.next_multiple_of-first-requires-clause-fits
next_multiple_of-first-requires-clause-fits g c =
    let start = c.args.span.start in
    let every = c.args.asked.every in
    omega (arith, mod_below (every - start % every) every c.requires.asked.some_every, c.requires.asked.every_fits, c.requires.some, c.requires.inside, c.len-count.ensures.in_limit)

pub loop-first-init : goal.loop-first-init
loop-first-init g c =
    let first = c.next_multiple_of-first.ensures in
    record {
      due = first.multiple;
      after = first.lower_bound;
      so_far = judged_to_first (asked_content c.args.asked) c.args.compared.now.bits.now c.args.stretches.now.items c.args.span.start c.next_multiple_of-first.result c.args.span.stop c.requires.asked.some_every first.multiple first.lower_bound first.upper_bound (omega (arith, c.requires.some)) c.requires.so_far;
    }

pub judge_chunk-requires-clause-quiet : goal.judge_chunk-requires-clause-quiet
judge_chunk-requires-clause-quiet g c = λ m loud. omega (arith, c.loop-first.invariant.so_far.quiet m loud, c.loop-first-test.true)

pub loop-first-preserved : goal.loop-first-preserved
loop-first-preserved g c =
    let a = asked_content c.args.asked in
    let bits = c.args.compared.now.bits.now in
    let last = c.chunk_end-last.ensures in
    let made = subst (JudgesChunk a bits (record { first = c.loop-first.first; last = c.chunk_end-last.result })) c.in-Ok.is c.in_ok-place.ensures in
    record {
      due = due_once c.args.asked.every c.chunk_end-last.result last.due;
      after = omega (arith, c.loop-first.invariant.after, last.after);
      so_far = judged_to_due a bits c.join_stretch.new.stretches.items c.chunk_end-last.result c.args.span.stop c.requires.asked.some_every last.due
          (judged_chunk a bits c.loop-first.stretches.items c.join_stretch.new.stretches.items (record { first = c.loop-first.first; last = c.chunk_end-last.result }) c.in-Ok.stretch c.len-tap_number.result c.args.span.stop (sym c.len-tap_number.ensures.value) c.loop-first-test.true c.loop-first.invariant.so_far made c.in_ok-join_stretch-in-Ok.ensures)
          last.before;
    }

pub returns-in-Err : goal.returns-in-Err
returns-in-Err g c = subst (JudgesChunk (asked_content c.args.asked) c.args.compared.now.bits.now (record { first = c.loop-first.first; last = c.chunk_end-last.result })) c.in-Err.is c.in_ok-place.ensures

pub returns : goal.returns
returns g c =
    let last = c.loop-first-test.false in
    let so_far = c.loop-first.invariant.so_far in
    subst (λ n. IsJudgedTo (asked_content c.args.asked) c.args.compared.now.bits.now n c.loop-first.stretches.items) {x = min c.loop-first.first c.args.span.stop} {y = c.args.span.stop} (omega (arith, last)) so_far

pub judge_chunk-requires-clause-chunk : goal.judge_chunk-requires-clause-chunk
judge_chunk-requires-clause-chunk g c =
    let last = c.chunk_end-last.ensures in
    record {
      in_order = last.after;
      inside = omega (arith, last.before, c.requires.inside);
      small = last.small;
      due_first = c.loop-first.invariant.due;
      due_last = last.due;
      edited = λ n from to. c.requires.edited n (omega (arith, from, c.loop-first.invariant.after)) (omega (arith, to, last.before));
      reached = λ more. omega (arith, last.reached more, c.len-tap_number.ensures.value);
    }

pub returns-in_err-place : goal.returns-in_err-place
returns-in_err-place g c = no_value _ _ c.from_residual.result c.from_residual.ensures.1

pub returns-in_err-join_stretch-in-Ok : goal.returns-in_err-join_stretch-in-Ok
returns-in_err-join_stretch-in-Ok g c = no_value _ _ c.from_residual-in_err-join_stretch-in-Ok.result c.from_residual-in_err-join_stretch-in-Ok.ensures.1
