use Rattle.std.proofs.Common.{◌≡◌, ◌+◌, ◌<◌, ◌∙◌, inl, inr, get_or, arith}
use Rattle.std.proofs.lemmas.Bool.{cases_lt}
use Rattle.std.proofs.lemmas.List.{get_or-set_same, get_or-set_other}
use Rattle.cost_core.specs.StateCosts.{trellis_of}
use Rattle.cost_core.specs.Trellis.{states}
use Rattle.cost_core.proofs.StepRows.{tail_at}
use Rattle.trellis_core.proofs.TableLaws.{total_in, total_is, total_fits, totals_are}
use Rattle.trellis_core.proofs.ends.write_totals.Goals as goal
use Rattle.trellis_core.proofs.ends.write_totals.Goals.{In-loop-state}

inside : (c : In-loop-state) → c.loop-state.state < states (trellis_of c.args.window.now)
inside c = omega (arith, c.loop-state-test.true, c.tail_costs.auto.row, c.requires.totals)

pub loop-state-init : goal.loop-state-init
loop-state-init c = record {
  totals = λ q h. absurd (omega arith);
  tails = λ q from h. tail_at c.args.window.now q c.tail_costs.new.row c.tail_costs.ensures h;
}

pub bounds-last-state : goal.bounds-last-state
bounds-last-state c =
    let t = trellis_of c.args.window.now in
    total_in t c.requires.bounded c.loop-state.state c.args.last.now c.requires.last (inside (goal.at.bounds-last-state c).In-loop-state)

pub overflow_add-totals : goal.overflow_add-totals
overflow_add-totals c =
    let t = trellis_of c.args.window.now in
    let i = c.loop-state.state in
    let h = inside (goal.at.overflow_add-totals c).In-loop-state in
    omega (arith, total_fits t c.requires.bounded i c.args.last.now c.requires.last h (get_or c.loop-state.totals i 0) (c.loop-state.invariant.tails i (omega arith) h))

pub loop-state-preserved : goal.loop-state-preserved
loop-state-preserved c =
    let t = trellis_of c.args.window.now in
    let i = c.loop-state.state in
    let h = inside (goal.at.loop-state-preserved c).In-loop-state in
    let row = c.loop-state.totals in
    let now = get_or row i 0 + get_or c.args.last.now i 0 in
    record {
      totals = λ q to. elim (cases_lt q i) [
        | inl before ↦ get_or-set_other row i q now 0 (λ e. omega arith) ∙ c.loop-state.invariant.totals q before
        | inr after ↦
            let e : q ≡ i = omega arith in
            rw e (get_or-set_same row i now 0 (omega (arith, c.loop-state.auto.totals, c.loop-state-test.true)) ∙ total_is t c.requires.bounded i c.args.last.now c.requires.last h (get_or row i 0) (c.loop-state.invariant.tails i (omega arith) h))
      ];
      tails = λ q from to. get_or-set_other row i q now 0 (λ e. omega arith) ∙ c.loop-state.invariant.tails q (omega arith) to;
    }

pub returns : goal.returns
returns c =
    let t = trellis_of c.args.window.now in
    totals_are t c.loop-state.totals (omega (arith, c.loop-state.auto.totals, c.tail_costs.auto.row, c.requires.totals))
    (λ q h. c.loop-state.invariant.totals q (omega (arith, c.loop-state-test.false, c.tail_costs.auto.row, c.requires.totals)))
