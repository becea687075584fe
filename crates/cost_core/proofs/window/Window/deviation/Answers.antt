use Rattle.std.proofs.Common.{◌<◌, ◌+◌, ◌*◌, ◌^◌, ◌-ℤ◌, length, to_z, of_z, w32, ap, ◌∙◌, arith}
use Rattle.cost_core.specs.Weighted.{square}
use Rattle.cost_core.specs.StateCosts.{deviation, scaled}
use Rattle.cost_core.specs.View.{bridging_of}
use Rattle.cost_core.proofs.Reading.{bool_digit}
use Rattle.cost_core.proofs.Tables.{code_below, table_small, table_length, table_in, scaled_read, target_read, targets_in}
use Rattle.cost_core.proofs.Walks.{digit_below}
use Rattle.cost_core.proofs.window.Window.deviation.Goals as goal
use Rattle.cost_core.proofs.window.Window.deviation.Goals.{After-self, After-from}

state_in : (c : After-self) → c.args.state < 2 ^ length c.self.inside.preceding
state_in c = rw (← c.self.view_is) at c.requires.state

small : (c : After-self) → c.args.state < 2048
small c = omega (arith, state_in c, table_small (bridging_of c.self.inside) c.self.invariant.limits)

code_is : (c : After-from) → 2 * c.args.state + c.from.result < 2 ^ length c.self.inside.weights.items
code_is c = rw (c.from.ensures, bool_digit c.args.bit) (code_below (bridging_of c.self.inside) c.self.invariant.limits c.args.state c.args.bit (rw (← c.self.view_is) at c.requires.state))

pub overflow_add-code : goal.overflow_add-code
overflow_add-code c = omega (arith, small (goal.at.overflow_add-code c).After-self, c.from.ensures, bool_digit c.args.bit, digit_below c.args.bit)

pub index-requires : goal.index-requires
index-requires c = omega (arith, code_is (goal.at.index-requires c).After-from, table_length c.self.inside c.self.invariant, c.self.inside.scaled.ok.0)

pub squared_difference-requires-clause-sum : goal.squared_difference-requires-clause-sum
squared_difference-requires-clause-sum c =
    rw (scaled_read c.self.inside c.self.invariant (2 * c.args.state + c.from.result) c.index.result.now (code_is (goal.at.squared_difference-requires-clause-sum c).After-from) c.index.ensures) (table_in c.self.inside c.self.invariant (2 * c.args.state + c.from.result))

pub squared_difference-requires-clause-other : goal.squared_difference-requires-clause-other
squared_difference-requires-clause-other c =
    rw (target_read c.self.inside c.self.invariant c.args.level c.index-target.result.now (rw (← c.self.view_is) at c.requires.level) c.index-target.ensures) (targets_in c.self.inside c.self.invariant (c.args.level + 1))

pub returns-clause-value : goal.returns-clause-value
unfolding deviation
returns-clause-value c =
    let w = c.self.inside in
    let code = 2 * c.args.state + c.from.result in
    let t = target_read w c.self.invariant c.args.level c.index-target.result.now (rw (← c.self.view_is) at c.requires.level) c.index-target.ensures in
    let s = scaled_read w c.self.invariant code c.index.result.now (code_is (goal.at.returns-clause-value c).After-from) c.index.ensures in
    let d = c.from.ensures ∙ bool_digit c.args.bit in
    rw (← c.self.view_is) (c.squared_difference.ensures.value ∙ ap (λ v. square (v -ℤ to_z w32 (of_z w32 c.index-target.result.now))) s ∙ ap (λ v. square (scaled (bridging_of w) code -ℤ v)) t ∙ ap (λ b. deviation (bridging_of w) c.args.level (2 * c.args.state + b)) d)
