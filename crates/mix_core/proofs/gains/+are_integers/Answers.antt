use Rattle.std.proofs.Common.{◌≡◌, ◌-◌, Some, ap, refl, sym, ◌∙◌}
use Rattle.std.specs.Option.{is_some}
use Rattle.toml.specs.Data.{as_array}
use Rattle.toml.specs.View.{items_view, view}
use Rattle.mix_core.proofs.GainLaws.{all_seen, alone_is, deeper, goes_on, stops}
use Rattle.mix_core.proofs.gains.+are_integers.Goals as goal

pub returns-then-depth-eq0 : goal.returns-then-depth-eq0
returns-then-depth-eq0 t c = c.is_some.ensures ∙ ap is_some c.as_integer.ensures ∙ alone_is c.args.depth (view c.args.value.now) c.if-depth-eq0.true

pub loop-value-init : goal.loop-value-init
loop-value-init t c = refl

pub loop-value-preserved : goal.loop-value-preserved
loop-value-preserved t c = sym (goes_on (c.args.depth - 1) c.deref-value-items.result.now c.loop-value.value-index c.value-item.result c.loop-value-test.true c.value-item.is (sym c.if-not-are_integers.ensures)) ∙ c.loop-value.invariant

pub returns-then-not-are_integers : goal.returns-then-not-are_integers
returns-then-not-are_integers t c =
    let depth = c.args.depth - 1 in
    let values = c.deref-value-items.result.now in
    let is : as_array (view c.args.value.now) ≡ Some (items_view c.deref-value-items.result.now) = rw c.deref-value-items.ensures.value (sym c.in-Some.ensures) in
    sym (deeper c.args.depth (view c.args.value.now) (items_view values) c.if-depth-eq0.false is ∙ sym c.loop-value.invariant ∙ stops depth values c.loop-value.value-index c.value-item.result c.loop-value-test.true c.value-item.is (sym c.if-not-are_integers.ensures))

pub returns : goal.returns
returns t c =
    let depth = c.args.depth - 1 in
    let values = c.deref-value-items.result.now in
    let is : as_array (view c.args.value.now) ≡ Some (items_view c.deref-value-items.result.now) = rw c.deref-value-items.ensures.value (sym c.in-Some.ensures) in
    sym (deeper c.args.depth (view c.args.value.now) (items_view values) c.if-depth-eq0.false is ∙ sym c.loop-value.invariant ∙ all_seen depth values c.loop-value.value-index c.loop-value-test.false)
