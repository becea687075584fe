use Rattle.dsdiff_core.proofs.ExitLaws.{fault_at}
use Rattle.std.proofs.Common.{◌≡◌, [], Ok, ap, refl, sym, subst, ◌∙◌}
use Rattle.dsd_bits.proofs.ExitLaws.{no_value}
use Rattle.dsdiff_core.specs.declared.fault.DsdiffFault.TheVariants.{NoProperty}
use Rattle.dsdiff_core.specs.Properties.{property_of}
use Rattle.dsdiff_core.specs.Spans.{once_each, property_kinds}
use Rattle.dsdiff_core.specs.Steps.{Fails, some_or, walked}
use Rattle.dsdiff_core.proofs.JoinedSteps.{fails_then, step_then, walk_fails}
use Rattle.dsdiff_core.proofs.PropertyLaws.{fields_with}
use Rattle.dsdiff_core.specs.Held.{held}
use Rattle.dsdiff_core.proofs.Steps.{step_fails}
use Rattle.dsdiff_core.proofs.property.read_property.Goals as goal

pub returns-in_err-parts-clause-inside : goal.returns-in_err-parts-clause-inside
returns-in_err-parts-clause-inside c = no_value _ _ c.from_residual.result c.from_residual.ensures.1

pub returns-in_err-parts-clause-rate : goal.returns-in_err-parts-clause-rate
returns-in_err-parts-clause-rate c = no_value _ _ c.from_residual.result c.from_residual.ensures.1

pub returns-in_err-parts-clause-number : goal.returns-in_err-parts-clause-number
returns-in_err-parts-clause-number c = no_value _ _ c.from_residual.result c.from_residual.ensures.1

pub returns-in_err-refuse_second_in_property-clause-inside : goal.returns-in_err-refuse_second_in_property-clause-inside
returns-in_err-refuse_second_in_property-clause-inside c =
    no_value _ _ c.from_residual-in_err-refuse_second_in_property.result c.from_residual-in_err-refuse_second_in_property.ensures.1

pub returns-in_err-refuse_second_in_property-clause-rate : goal.returns-in_err-refuse_second_in_property-clause-rate
returns-in_err-refuse_second_in_property-clause-rate c =
    no_value _ _ c.from_residual-in_err-refuse_second_in_property.result c.from_residual-in_err-refuse_second_in_property.ensures.1

pub returns-in_err-refuse_second_in_property-clause-number : goal.returns-in_err-refuse_second_in_property-clause-number
returns-in_err-refuse_second_in_property-clause-number c =
    no_value _ _ c.from_residual-in_err-refuse_second_in_property.result c.from_residual-in_err-refuse_second_in_property.ensures.1

pub returns-in_err-rate-clause-inside : goal.returns-in_err-rate-clause-inside
returns-in_err-rate-clause-inside c = no_value _ _ c.from_residual-in_err-rate.result c.from_residual-in_err-rate.ensures.1

pub returns-in_err-rate-clause-rate : goal.returns-in_err-rate-clause-rate
returns-in_err-rate-clause-rate c = no_value _ _ c.from_residual-in_err-rate.result c.from_residual-in_err-rate.ensures.1

pub returns-in_err-rate-clause-number : goal.returns-in_err-rate-clause-number
returns-in_err-rate-clause-number c = no_value _ _ c.from_residual-in_err-rate.result c.from_residual-in_err-rate.ensures.1

pub returns-in_default-clause-exact : goal.returns-in_default-clause-exact
unfolding property_of
returns-in_default-clause-exact c = step_fails NoProperty _ _ (ap (some_or NoProperty) (sym c.in_default.ensures.value))

pub returns-in_err-parts-clause-exact : goal.returns-in_err-parts-clause-exact
unfolding property_of
returns-in_err-parts-clause-exact c =
    fault_at _ _ c.from_residual.result _ c.from_residual.ensures.1 (fails_then _ _ _ _ (ap (some_or NoProperty) (sym c.in-Some.ensures.value)) (step_fails _ _ _ (walk_fails c.in_err-parts.field-0.0 _ c.in_err-parts.ensures.exact)))

pub returns-in_err-refuse_second_in_property-clause-exact : goal.returns-in_err-refuse_second_in_property-clause-exact
unfolding property_of
returns-in_err-refuse_second_in_property-clause-exact c =
    fault_at _ _ c.from_residual-in_err-refuse_second_in_property.result _ c.from_residual-in_err-refuse_second_in_property.ensures.1 (fails_then _ _ _ _ (ap (some_or NoProperty) (sym c.in-Some.ensures.value)) (fails_then _ _ _ _ (ap walked c.in_ok-parts.ensures.exact) (step_fails c.in_err-refuse_second_in_property.field-0.0 _ _ (subst (λ ps. Fails c.in_err-refuse_second_in_property.field-0.0 (once_each property_kinds [] ps)) c.deref.ensures.value c.in_err-refuse_second_in_property.ensures))))

pub data_with-requires : goal.data_with-requires
data_with-requires c = rw c.deref-2.ensures.value c.in_ok-parts.ensures.inside

pub data_with-requires-2 : goal.data_with-requires-2
data_with-requires-2 c = rw c.deref-3.ensures.value c.in_ok-parts.ensures.inside

pub data_with-requires-3 : goal.data_with-requires-3
data_with-requires-3 c = rw c.deref-4.ensures.value c.in_ok-parts.ensures.inside

pub returns-in_err-rate-clause-exact : goal.returns-in_err-rate-clause-exact
unfolding property_of
returns-in_err-rate-clause-exact c =
    fault_at _ _ c.from_residual-in_err-rate.result _ c.from_residual-in_err-rate.ensures.1 (fails_then _ _ _ _ (ap (some_or NoProperty) (sym c.in-Some.ensures.value)) (fails_then _ _ _ _ (ap walked c.in_ok-parts.ensures.exact) (fails_then _ _ _ _ (subst (λ ps. once_each property_kinds [] ps ≡ Ok tt) c.deref.ensures.value c.in_ok-refuse_second_in_property.ensures) (step_fails c.in_err-rate.field-0.0 _ _ (subst (λ r. Fails c.in_err-rate.field-0.0 r) (fields_with (held c.args.file) c.in_ok-parts.parts.items _ _ _ _ _ _ c.deref-2.ensures.value c.deref-3.ensures.value c.deref-4.ensures.value c.data_with.ensures c.data_with-2.ensures c.data_with-3.ensures) c.in_err-rate.ensures.exact)))))

pub returns-clause-exact : goal.returns-clause-exact
unfolding property_of
returns-clause-exact c =
    step_then _ _ _ _ (ap (some_or NoProperty) (sym c.in-Some.ensures.value)) (step_then _ _ _ _ (ap walked c.in_ok-parts.ensures.exact) (step_then _ _ _ _ (subst (λ ps. once_each property_kinds [] ps ≡ Ok tt) c.deref.ensures.value c.in_ok-refuse_second_in_property.ensures) (step_then _ _ _ _ (sym (fields_with (held c.args.file) c.in_ok-parts.parts.items _ _ _ _ _ _ c.deref-2.ensures.value c.deref-3.ensures.value c.deref-4.ensures.value c.data_with.ensures c.data_with-2.ensures c.data_with-3.ensures) ∙ c.in_ok-rate.ensures.exact) refl)))

pub returns-clause-inside : goal.returns-clause-inside
returns-clause-inside c = c.in_ok-parts.ensures.inside
