use Rattle.std.proofs.Common.{◌≡◌, ◌<◌, ap, ◌∙◌, reverse, length, arith}
use Rattle.cost_core.specs.StateCosts.{trellis_of}
use Rattle.cost_core.proofs.Leasts.{first_least_bridge}
use Rattle.cost_core.proofs.Limits.{costs_in_bounds}
use Rattle.cost_core.proofs.Places.{steps_are_cost}
use Rattle.trellis_core.proofs.Bests.{traced_length}
use Rattle.trellis_core.proofs.Finals.{is_first_least, is_its_cost}
use Rattle.std.proofs.lemmas.List.{get_or_read}
use Rattle.trellis_core.specs.Best.{total}
use Rattle.trellis_core.proofs.TableLaws.{total_at, totals_length}
use Rattle.trellis_core.proofs.bridging.choose.Goals as goal
use Rattle.trellis_core.proofs.bridging.choose.Goals.{After-end_state-end, After-index}

pub end_state-end-requires-clause-bounded : goal.end_state-end-requires-clause-bounded
end_state-end-requires-clause-bounded c = costs_in_bounds c.args.window.now c.width.ensures.limits

pub reversed-requires : goal.reversed-requires
reversed-requires c =
    let t = trellis_of c.args.window.now in
    let fine = costs_in_bounds c.args.window.now c.width.ensures.limits in
    let e : length c.deref-3.result.now ≡ t.levels = ap length (c.deref-3.ensures.value ∙ c.in_ok-newest_first.ensures) ∙ traced_length t fine.some_state t.levels c.end_state-end.result in
    omega (arith, c.width.ensures.limits.levels_in)

end_in : (c : After-end_state-end) → c.end_state-end.result < length c.args.searched.now.room.totals.items
end_in c = omega (arith, ap length c.requires.totals ∙ totals_length (trellis_of c.args.window.now), c.end_state-end.ensures.in_range)

cost_is : (c : After-index) → c.index.result.now ≡ total (trellis_of c.args.window.now) c.end_state-end.result
cost_is c =
    let t = trellis_of c.args.window.now in
    let totals = c.args.searched.now.room.totals.items in
    get_or_read totals c.end_state-end.result c.index.result.now (omega (arith, ap length c.requires.totals ∙ totals_length t, c.end_state-end.ensures.in_range)) c.index.ensures 0
    ∙ total_at t totals c.requires.totals c.end_state-end.result c.end_state-end.ensures.in_range

pub returns-clause-first_least : goal.returns-clause-first_least
returns-clause-first_least c =
    let fine = costs_in_bounds c.args.window.now c.width.ensures.limits in
    first_least_bridge c.args.window.now c.width.ensures.limits c.in_ok-reversed.field-0 (is_first_least (trellis_of c.args.window.now) fine c.in_ok-reversed.field-0 c.in_ok-newest_first.newest_first.items c.end_state-end.result c.width.result c.width.ensures.value c.end_state-end.ensures.chosen c.in_ok-newest_first.ensures (c.in_ok-reversed.ensures ∙ ap reverse c.deref-3.ensures.value))

pub returns-clause-cost : goal.returns-clause-cost
returns-clause-cost c =
    let fine = costs_in_bounds c.args.window.now c.width.ensures.limits in
    let least = is_first_least (trellis_of c.args.window.now) fine c.in_ok-reversed.field-0 c.in_ok-newest_first.newest_first.items c.end_state-end.result c.width.result c.width.ensures.value c.end_state-end.ensures.chosen c.in_ok-newest_first.ensures (c.in_ok-reversed.ensures ∙ ap reverse c.deref-3.ensures.value) in
    is_its_cost (trellis_of c.args.window.now) fine c.in_ok-reversed.field-0 c.in_ok-newest_first.newest_first.items c.end_state-end.result c.width.result c.width.ensures.value c.end_state-end.ensures.chosen c.in_ok-newest_first.ensures (c.in_ok-reversed.ensures ∙ ap reverse c.deref-3.ensures.value) c.index.result.now (cost_is (goal.at.returns-clause-cost c).After-index)
    ∙ steps_are_cost c.args.window.now c.in_ok-reversed.field-0 c.width.ensures.limits least.is_least.long

pub index-requires : goal.index-requires
index-requires c = omega (arith, end_in (goal.at.index-requires c).After-end_state-end, c.args.searched.now.room.totals.ok.0)
