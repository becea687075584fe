use Rattle.std.proofs.Common.{◌≤◌, ◌∙◌, ℕ, not, ap, ap₂, length, Ok, Err, Result, subst, sym, arith}
use Rattle.dsd_bits.specs.Ids.{same_id, DSD}
use Rattle.dsdiff_core.specs.declared.fault.DsdiffFault.{DsdiffFault}
use Rattle.dsdiff_core.specs.declared.fault.DsdiffFault.TheVariants as faults
use Rattle.dsdiff_core.specs.Held.{held}
use Rattle.dsdiff_core.specs.Kinds.{FRM8}
use Rattle.dsdiff_core.proofs.FormLaws.{cut_by, form_cut, form_small, form_there}
use Rattle.dsdiff_core.proofs.HeldLaws.{prefix_long, prefix_part, size_held}
use Rattle.dsdiff_core.proofs.form.form_end.Goals as goal

pub returns-then-form-lt4-clause-exact : goal.returns-then-form-lt4-clause-exact
returns-then-form-lt4-clause-exact c =
    let file = held c.args.file in
    let found = c.in-Some.ensures in
    let whole : 16 ≤ length file = subst (λ n. 16 ≤ n) c.len-size.ensures c.if-size-lt16.false in
    let long = prefix_long c.args.file c.requires whole in
    let size = found.size ∙ sym (size_held c.args.file 0 (omega (arith, long))) in
    let id = ap (λ x. not (same_id x FRM8)) (prefix_part c.args.file 0 4 (omega (arith, long)) ∙ sym found.id) ∙ sym c.ne.ensures ∙ c.if-ne.false in
    let kind = ap (λ x. not (same_id x DSD)) (prefix_part c.args.file 12 4 (omega (arith, long)) ∙ sym c.id_at.ensures) ∙ sym c.ne-else-ne.ensures ∙ c.if-ne-2.false in
    form_small file whole id kind (omega (arith, size, c.if-form-lt4.true))
    ∙ ap (λ (n : ℕ). let r : Result ℕ DsdiffFault = Err (faults.FormCut n 0) in r) (sym size)

pub returns-then-size-form-clause-exact : goal.returns-then-size-form-clause-exact
returns-then-size-form-clause-exact c =
    let file = held c.args.file in
    let found = c.in-Some.ensures in
    let whole : 16 ≤ length file = subst (λ n. 16 ≤ n) c.len-size.ensures c.if-size-lt16.false in
    let long = prefix_long c.args.file c.requires whole in
    let size = found.size ∙ sym (size_held c.args.file 0 (omega (arith, long))) in
    let id = ap (λ x. not (same_id x FRM8)) (prefix_part c.args.file 0 4 (omega (arith, long)) ∙ sym found.id) ∙ sym c.ne.ensures ∙ c.if-ne.false in
    let kind = ap (λ x. not (same_id x DSD)) (prefix_part c.args.file 12 4 (omega (arith, long)) ∙ sym c.id_at.ensures) ∙ sym c.ne-else-ne.ensures ∙ c.if-ne-2.false in
    form_cut file whole id kind (cut_by file c.in-Some.form.size whole (omega (arith, c.if-size-form.true, c.len-size.ensures)) size)
    ∙ ap₂ (λ (n m : ℕ). let r : Result ℕ DsdiffFault = Err (faults.FormCut n m) in r) (sym size) (omega (arith, size, c.len-size.ensures))

pub returns-clause-value : goal.returns-clause-value
returns-clause-value c =
    let whole : 16 ≤ length (held c.args.file) = subst (λ n. 16 ≤ n) c.len-size.ensures c.if-size-lt16.false in
    let size = c.in-Some.ensures.size ∙ sym (size_held c.args.file 0 (omega (arith, prefix_long c.args.file c.requires whole))) in
    omega (arith, size, c.min.ensures, c.len-size.ensures, whole)

pub returns-clause-exact : goal.returns-clause-exact
returns-clause-exact c =
    let file = held c.args.file in
    let found = c.in-Some.ensures in
    let whole : 16 ≤ length file = subst (λ n. 16 ≤ n) c.len-size.ensures c.if-size-lt16.false in
    let long = prefix_long c.args.file c.requires whole in
    let size = found.size ∙ sym (size_held c.args.file 0 (omega (arith, long))) in
    let id = ap (λ x. not (same_id x FRM8)) (prefix_part c.args.file 0 4 (omega (arith, long)) ∙ sym found.id) ∙ sym c.ne.ensures ∙ c.if-ne.false in
    let kind = ap (λ x. not (same_id x DSD)) (prefix_part c.args.file 12 4 (omega (arith, long)) ∙ sym c.id_at.ensures) ∙ sym c.ne-else-ne.ensures ∙ c.if-ne-2.false in
    form_there file whole id kind (omega (arith, size, c.if-form-lt4.false)) (omega (arith, size, c.if-size-form.false, c.len-size.ensures)) ∙ ap Ok (sym (returns-clause-value c))
