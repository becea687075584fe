use Rattle.std.proofs.Common.{◌≡◌, ◌+◌, ◌-◌, map, pos, length, get_or, ◌∙◌, subst, arith}
use Rattle.null_core.specs.Parts.{asked_content, mix_at, part_content}
use Rattle.null_core.proofs.ErrorLaws.{AreSoFar, none_so_far, one_more, same_w64, listed_at}
use Rattle.null_core.proofs.errors.push_quiet.Goals as goal

pub loop-i-init : goal.loop-i-init
loop-i-init c = none_so_far (asked_content c.args.asked) c.args.bits.now c.args.from c.args.errors.now.items

pub overflow_add-from : goal.overflow_add-from
overflow_add-from c = record { fits = omega (arith, c.requires.inside, c.loop-i-test.true, c.len-count.ensures.in_limit) }

pub quiet_error-requires-clause-mix : goal.quiet_error-requires-clause-mix
quiet_error-requires-clause-mix c =
    let mixed = c.args.mixed.now in
    let i = c.loop-i.i in
    same_w64 (get_or mixed i (pos 0)) (c.requires.small i c.loop-i-test.true)
    ∙ listed_at (mix_at (map part_content c.args.asked.parts.now)) c.args.from (length mixed) i mixed c.requires.mix c.loop-i-test.true (pos 0)

pub quiet_error-requires-clause-small : goal.quiet_error-requires-clause-small
quiet_error-requires-clause-small c =
    let small = c.requires.small c.loop-i.i c.loop-i-test.true in
    rw (same_w64 (get_or c.args.mixed.now c.loop-i.i (pos 0)) small) small

pub loop-i-preserved : goal.loop-i-preserved
loop-i-preserved c =
    let more = one_more (asked_content c.args.asked) c.args.bits.now c.args.from c.args.errors.now.items c.loop-i.i c.loop-i.errors.items c.loop-i.invariant c.in-Some.error c.in-Some.ensures.value c.in-Some.ensures.quiet in
    rw (c.in_ok-push-in-Some.ensures.items, same_w64 c.in-Some.error (omega (arith, c.in-Some.ensures.quiet))) more

pub returns-in-None : goal.returns-in-None
returns-in-None c = record {
  here = record { after = omega arith; before = omega (arith, c.loop-i-test.true); loud = c.in-None.ensures };
  before = λ m earlier h. c.loop-i.invariant.quiet m (record { after = h.after; before = earlier; loud = h.loud });
}

pub returns : goal.returns
returns c =
    let from = c.args.from in
    let done : c.loop-i.i ≡ from + length c.args.mixed.now - from = omega (arith, c.loop-i-test.false, c.loop-i.auto.i-end) in
    let all = subst (λ n. AreSoFar (asked_content c.args.asked) c.args.bits.now from n c.args.errors.now.items c.loop-i.errors.items) done c.loop-i.invariant in
    (all.items, λ m h. all.quiet m (record { after = h.after; before = omega (arith, h.before); loud = h.loud }))
