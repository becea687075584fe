use Rattle.std.proofs.Common.{◌+◌, ◌*◌, ◌/◌, ◌%◌, ◌<◌, ◌∙◌, ap, arith, get_or, length, subst, sym}
use Rattle.std.specs.Int.{bit_at}
use Rattle.cost_core.specs.StateCosts.{trellis_of}
use Rattle.cost_core.specs.Trellis.{states}
use Rattle.trellis_core.specs.Decisions.{decision_bytes}
use Rattle.trellis_core.proofs.Decisions.{before_high, before_low, byte_in, part_in}
use Rattle.trellis_core.proofs.tracing.before.Goals as goal

pub returns-then-byte-state-eq1 : goal.returns-then-byte-state-eq1
returns-then-byte-state-eq1 c =
    let t = trellis_of c.args.window.now in
    let at = c.args.state / 8 in
    let size = c.div_ceil.ensures ∙ ap decision_bytes c.states-states.ensures.value in
    let bit = ap (λ n. bit_at (get_or c.args.decisions.now (c.args.level * n + at) 0) (c.args.state % 8)) size ∙ c.requires.decisions.each c.args.level c.args.state c.requires.level c.requires.state in
    before_high t c.states-states.ensures.bounded.some_state c.args.level c.args.state c.states-states.result _ c.states-states.ensures.value bit c.if-byte-state-eq1.true

pub returns-else-byte-state-eq1 : goal.returns-else-byte-state-eq1
returns-else-byte-state-eq1 c =
    let t = trellis_of c.args.window.now in
    let at = c.args.state / 8 in
    let size = c.div_ceil.ensures ∙ ap decision_bytes c.states-states.ensures.value in
    let bit = ap (λ n. bit_at (get_or c.args.decisions.now (c.args.level * n + at) 0) (c.args.state % 8)) size ∙ c.requires.decisions.each c.args.level c.args.state c.requires.level c.requires.state in
    before_low t c.args.level c.args.state _ bit c.if-byte-state-eq1.false

pub bounds-decisions-level : goal.bounds-decisions-level
bounds-decisions-level c =
    let t = trellis_of c.args.window.now in
    let at = c.args.state / 8 in
    let size = c.div_ceil.ensures ∙ ap decision_bytes c.states-states.ensures.value in
    let inside = part_in c.args.level t.levels (decision_bytes (states t)) at c.requires.level (byte_in (states t) c.args.state c.requires.state) in
    subst (λ n. c.args.level * n + at < length c.args.decisions.now) (sym size) (omega (arith, inside, c.requires.decisions.long))
