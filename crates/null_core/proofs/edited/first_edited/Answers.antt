use Rattle.std.proofs.Common.{◌≡◌, ◌+◌, ◌-◌, ◌<◌, ◌≤◌, length, arith, inl, inr, map, subst, ◌∙◌}
use Rattle.std.proofs.lemmas.Bool.{cases_lt}
use Rattle.null_core.specs.Parts.{asked_content, part_content, reach}
use Rattle.null_core.specs.Walks.{IsOwnFrom}
use Rattle.null_core.proofs.EditLaws.{edited_end, edited_none, unedited_in}
use Rattle.null_core.proofs.edited.first_edited.Goals as goal
use Rattle.null_core.proofs.edited.first_edited.Goals.{After-own_run-run}

from_here : (c : After-own_run-run) → IsOwnFrom (map part_content c.args.asked.parts.now) c.args.bits.now (c.loop-place.place - reach (asked_content c.args.asked)) (length c.args.bits.now) c.own_run-run.result
from_here c =
    let same : c.saturating_sub.result ≡ c.loop-place.place - reach (asked_content c.args.asked) = omega (arith, c.saturating_sub.ensures, c.len-reach.ensures.value) in
    let parts = map part_content c.args.asked.parts.now in
    subst (λ n. IsOwnFrom parts c.args.bits.now (c.loop-place.place - reach (asked_content c.args.asked)) n c.own_run-run.result) c.len-count.ensures.value (subst (λ m. IsOwnFrom parts c.args.bits.now m c.len-count.result c.own_run-run.result) same c.own_run-run.ensures)

pub returns-in-None : goal.returns-in-None
returns-in-None c = record {
  after = c.loop-place.invariant.after;
  inside = omega (arith, c.loop-place-test.true, c.len-count.ensures.value);
  before = c.loop-place.invariant.before;
  edited = edited_none (asked_content c.args.asked) c.args.bits.now c.loop-place.place c.own_run-run.result (from_here (goal.at.returns-in-None c).After-own_run-run) (omega (arith, c.loop-place-test.true, c.len-count.ensures.value)) c.in-None.is;
}

pub returns-in-Some : goal.returns-in-Some
returns-in-Some c = λ n from inside. elim (cases_lt n c.loop-place.place) [
  | inl before ↦ c.loop-place.invariant.before n from before
  | inr later ↦ unedited_in (asked_content c.args.asked) c.args.bits.now c.loop-place.place c.own_run-run.result (from_here (goal.at.returns-in-Some c).After-own_run-run) c.in-Some.field-0 n c.in-Some.is later (inl (c.if-run-count.true ∙ c.len-count.ensures.value))
]

pub returns-in-Some-2 : goal.returns-in-Some-2
returns-in-Some-2 c = record {
  after = c.loop-place.invariant.after;
  inside = omega (arith, c.loop-place-test.true, c.len-count.ensures.value);
  before = c.loop-place.invariant.before;
  edited =
      (
      let fits : c.own_run-run.result.until < length c.args.bits.now = omega (arith, c.if-run-count.false, c.len-count.ensures.value, c.own_run-run.ensures.inside) in
      let near : c.own_run-run.result.until ≤ c.loop-place.place + reach (asked_content c.args.asked) = omega (arith, c.if-run-place.true, c.len-reach.ensures.value) in
      edited_end (asked_content c.args.asked) c.args.bits.now c.loop-place.place c.own_run-run.result (from_here (goal.at.returns-in-Some-2 c).After-own_run-run) c.in-Some-2.field-0 c.in-Some-2.is fits near
      );
}

pub loop-place-preserved : goal.loop-place-preserved
loop-place-preserved c =
    let far : c.loop-place.place + reach (asked_content c.args.asked) < c.own_run-run.result.until = omega (arith, c.if-run-place.false, c.len-reach.ensures.value) in
    record {
      after = omega (arith, far, c.len-reach.ensures.value, c.loop-place.invariant.after);
      before = λ n from to. elim (cases_lt n c.loop-place.place) [
        | inl before ↦ c.loop-place.invariant.before n from before
        | inr later ↦ unedited_in (asked_content c.args.asked) c.args.bits.now c.loop-place.place c.own_run-run.result (from_here (goal.at.loop-place-preserved c).After-own_run-run) c.in-Some-3.field-0 n c.in-Some-3.is later (inr (omega (arith, to, c.len-reach.ensures.value)))
      ];
    }
