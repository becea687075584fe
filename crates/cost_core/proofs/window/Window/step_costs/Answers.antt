use Rattle.std.proofs.Common.{◌≡◌, ◌+◌, ◌*◌, ◌^◌, ◌<◌, ◌-ℤ◌, length, get_or, pos, to_z, of_z, w32, ap, sym, ◌∙◌, arith}
use Rattle.std.proofs.lemmas.List.FromFn.{fill_by_all}
use Rattle.cost_core.specs.Weighted.{square}
use Rattle.cost_core.specs.Bridges.{target}
use Rattle.cost_core.specs.StateCosts.{deviation, scaled}
use Rattle.cost_core.specs.View.{bridging_of}
use Rattle.cost_core.proofs.Arriving.{steps_by_state}
use Rattle.cost_core.proofs.Tables.{table_at, table_length, table_in, table_size, target_read, targets_in}
use Rattle.cost_core.proofs.window.Window.step_costs.Goals as goal
use Rattle.cost_core.proofs.window.Window.step_costs.Goals.{After-deref}

target_is : (c : After-deref) → to_z w32 (of_z w32 c.index-target.result.now) ≡ target (bridging_of c.self.inside) (c.args.level + 1)
target_is c =
    let n : c.args.level < c.args.self.now.levels + length c.args.self.now.following = omega (arith, c.requires.level) in
    target_read c.self.inside c.self.invariant c.args.level c.index-target.result.now (rw (← c.self.view_is) at n) c.index-target.ensures

table_long : (c : After-deref) → length c.deref.result.now ≡ 2 ^ length c.self.inside.weights.items
table_long c = ap length c.deref.ensures.value ∙ table_length c.self.inside c.self.invariant

sums_are : (c : After-deref) → (k : _) → k < length c.deref.result.now → get_or c.deref.result.now k (pos 0) ≡ scaled (bridging_of c.self.inside) k
sums_are c k h = ap (λ l. get_or l k (pos 0)) c.deref.ensures.value ∙ table_at c.self.inside c.self.invariant k (omega (arith, table_long c))

as_many : (c : After-deref) → length c.args.row.now ≡ length c.deref.result.now
as_many c =
    let n : length c.args.row.now ≡ 2 * 2 ^ length c.args.self.now.preceding = c.requires.row in
    (rw (← c.self.view_is) at n) ∙ sym (table_size (bridging_of c.self.inside) c.self.invariant.limits) ∙ sym (table_long c)

pub squared_differences-requires-clause-sums : goal.squared_differences-requires-clause-sums
squared_differences-requires-clause-sums c = λ k h. rw (sums_are (goal.at.squared_differences-requires-clause-sums c).After-deref k h) (table_in c.self.inside c.self.invariant k)

pub squared_differences-requires-clause-other : goal.squared_differences-requires-clause-other
squared_differences-requires-clause-other c = rw (target_is (goal.at.squared_differences-requires-clause-other c).After-deref) (targets_in c.self.inside c.self.invariant (c.args.level + 1))

pub squared_differences-requires-clause-as_many : goal.squared_differences-requires-clause-as_many
squared_differences-requires-clause-as_many c = as_many (goal.at.squared_differences-requires-clause-as_many c).After-deref

pub returns : goal.returns
unfolding deviation
returns c =
    let p = (goal.at.returns c).After-deref in
    let d = c.args.self.now in
    let n = 2 * 2 ^ length d.preceding in
    let long : length c.squared_differences.new.squares ≡ n = c.squared_differences.auto.squares ∙ c.requires.row in
    fill_by_all (deviation d c.args.level) c.squared_differences.new.squares n 0 long
    (λ k h.
    let inside : k < length c.deref.result.now = omega (arith, as_many p, c.requires.row) in
    rw (← c.self.view_is) (c.squared_differences.ensures k inside ∙ ap (λ v. square (v -ℤ to_z w32 (of_z w32 c.index-target.result.now))) (sums_are p k inside) ∙ ap (λ v. square (scaled (bridging_of c.self.inside) k -ℤ v)) (target_is p)))
    ∙ steps_by_state d (rw c.self.view_is at c.self.invariant.limits) c.args.level
