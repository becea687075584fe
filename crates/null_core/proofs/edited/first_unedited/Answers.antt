use Rattle.std.proofs.Common.{◌≡◌, ◌+◌, ◌-◌, ◌<◌, min, length, arith, inl, inr, map, subst}
use Rattle.std.proofs.lemmas.Bool.{cases_lt}
use Rattle.null_core.specs.Parts.{asked_content, part_content, reach}
use Rattle.null_core.specs.Walks.{IsOwnStart}
use Rattle.null_core.proofs.EditLaws.{edited_before, stops_after, unedited_at}
use Rattle.null_core.proofs.edited.first_unedited.Goals as goal
use Rattle.null_core.proofs.edited.first_unedited.Goals.{After-own_start-next}

low_is : (c : After-own_start-next) → c.saturating_sub-low.result ≡ c.loop-place.place - reach (asked_content c.args.asked)
low_is c = omega (arith, c.saturating_sub-low.ensures, c.len-reach.ensures.value)

high_is : (c : After-own_start-next) → c.min-high.result ≡ min (c.loop-place.place + reach (asked_content c.args.asked) + 1) (length c.args.bits.now)
high_is c = omega (arith, c.min-high.ensures, c.len-reach.ensures.value, c.len-count.ensures.value)

start_is : (c : After-own_start-next) → IsOwnStart (map part_content c.args.asked.parts.now) c.args.bits.now (c.loop-place.place - reach (asked_content c.args.asked)) c.min-high.result c.own_start-next.result
start_is c = subst (λ m. IsOwnStart (map part_content c.args.asked.parts.now) c.args.bits.now m c.min-high.result c.own_start-next.result) (low_is c) c.own_start-next.ensures

pub returns-then-next-low : goal.returns-then-next-low
returns-then-next-low c =
    let a = asked_content c.args.asked in
    let here = (goal.at.returns-then-next-low c).After-own_start-next in
    let inside : c.loop-place.place < length c.args.bits.now = omega (arith, c.loop-place-test.true, c.len-count.ensures.value) in
    let same : c.own_start-next.result ≡ c.loop-place.place - reach a = omega (arith, c.if-next-low.true, low_is here) in
    record {
      some = stops_after a c.args.bits.now c.args.start c.loop-place.place c.loop-place.invariant.after c.requires.edited (unedited_at a c.args.bits.now c.loop-place.place c.min-high.result c.own_start-next.result inside (high_is here) (start_is here) same);
      inside = omega (arith, inside);
      each = λ n from to. c.loop-place.invariant.each n from to (omega (arith, to, inside));
    }

pub loop-place-preserved : goal.loop-place-preserved
loop-place-preserved c =
    let a = asked_content c.args.asked in
    let here = (goal.at.loop-place-preserved c).After-own_start-next in
    let inside : c.loop-place.place < length c.args.bits.now = omega (arith, c.loop-place-test.true, c.len-count.ensures.value) in
    let later : c.loop-place.place - reach a < c.own_start-next.result = omega (arith, c.if-next-low.false, low_is here, c.own_start-next.ensures.after) in
    record {
      after = omega (arith, later, c.loop-place.invariant.after, c.len-reach.ensures.value);
      each = λ n from to fits. elim (cases_lt n c.loop-place.place) [
        | inl before ↦ c.loop-place.invariant.each n from before fits
        | inr past ↦ edited_before a c.args.bits.now c.loop-place.place c.min-high.result c.own_start-next.result inside (high_is here) (start_is here) later n past (omega (arith, to, c.len-reach.ensures.value)) fits
      ];
    }
