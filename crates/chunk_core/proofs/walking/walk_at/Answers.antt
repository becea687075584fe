use Rattle.std.proofs.Common.{◌≡◌, ◌+◌, ◌-◌, ◌%◌, ◌≤◌, Ok, arith, length, drop, sym, ap, subst, ◌∙◌}
use Rattle.std.proofs.lemmas.List.{length-take}
use Rattle.std.proofs.lemmas.Result.{err_from_is_err_and}
use Rattle.chunk_core.specs.Steps.{Fails}
use Rattle.chunk_core.specs.Reading.{first_of}
use Rattle.chunk_core.proofs.WalkLoop.{left, set_at, set_chunk, set_long, set_spans, walk_done, walk_fails, walked_none, walked_on}
use Rattle.chunk_core.proofs.walking.walk_at.Goals as goal

pub loop-done-init : goal.loop-done-init
loop-done-init c =
    let here : c.args.at + 0 ≡ c.args.at = omega arith in
    rw (c.new-spans.ensures.items, here) (walked_none (set_at c.args.at c.args.bytes.now) c.args.at (c.args.at + length c.args.bytes.now))

pub loop-done-preserved : goal.loop-done-preserved
loop-done-preserved c =
    let at = c.args.at in
    let bytes = c.args.bytes.now in
    let done = c.loop-done.done in
    let span = c.in_ok-span.span in
    let found = c.in_ok-span.ensures in
    let fits : 12 + span.size ≤ length bytes - done = omega (arith, found.inside, length-take (length bytes - done) (drop done bytes)) in
    let first = ap (first_of (at + done)) (left at bytes done) ∙ found.exact ∙ ap Ok (set_chunk at bytes done span fits found.start) in
    let on = walked_on (set_at at bytes) at (at + done) (at + length bytes) c.loop-done.spans.items c.loop-done.invariant span (omega (arith, c.loop-done-test.true)) (omega (arith, set_long at bytes)) first found.start (omega (arith, fits, found.start, c.loop-done-test.true)) in
    let next : span.start + span.size + span.size % 2 ≡ at + (done + (12 + span.size + span.size % 2)) = omega (arith, found.start) in
    rw (c.in_ok-push.ensures.items, ← next) on

pub returns-in_err-span : goal.returns-in_err-span
returns-in_err-span c =
    let p = err_from_is_err_and c.from_residual.result c.from_residual.ensures.1 in
    let at = c.args.at in
    let bytes = c.args.bytes.now in
    let done = c.loop-done.done in
    let fault = c.in_err-span.field-0.0 in
    let first = subst (λ here. Fails fault (first_of (at + done) here)) (sym (left at bytes done)) c.in_err-span.ensures.exact in
    let fails = walk_fails (set_at at bytes) at (at + done) (at + length bytes) c.loop-done.spans.items c.loop-done.invariant fault (omega (arith, c.loop-done-test.true)) (omega (arith, set_long at bytes)) first in
    rw (p.1, p.2) (record { exact = subst (Fails fault) (set_spans at bytes) fails; inside = tt })

pub returns-clause-exact : goal.returns-clause-exact
returns-clause-exact c =
    let at = c.args.at in
    let bytes = c.args.bytes.now in
    sym (set_spans at bytes) ∙ walk_done (set_at at bytes) at (at + c.loop-done.done) (at + length bytes) c.loop-done.spans.items c.loop-done.invariant (omega (arith, c.loop-done-test.false))
