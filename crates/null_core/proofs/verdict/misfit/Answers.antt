use Rattle.std.proofs.Common.{◌≡◌, ◌∙◌, ap, subst, sym}
use Rattle.dsd_bits.specs.Contents.{Content}
use Rattle.cut_core.specs.Cuts.{AreAlike}
use Rattle.null_core.specs.Verdicts as specs
use Rattle.null_core.proofs.HeardLaws.{alike_outline, outline_shape, shape_differs}
use Rattle.null_core.proofs.verdict.misfit.Goals as goal

pub returns-then-differ-clause-verdict : goal.returns-then-differ-clause-verdict
returns-then-differ-clause-verdict c = λ r is.
    let outline = c.args.recording.now in
    let found : c.of.result ≡ specs.shape_of outline = λ j. record { rate = c.of.ensures.rate j; channels = c.of.ensures.channels j } in
    let wanted : c.of-then-differ.result ≡ specs.shape_of c.first-first.result.now = λ j. record { rate = c.of-then-differ.ensures.rate j; channels = c.of-then-differ.ensures.channels j } in
    shape_differs c.args.mixed.now r c.of.result c.of-then-differ.result
    (λ alike. c.differ.ensures.other c.if-differ.true (subst (λ (first : Content). AreAlike first outline) (sym c.first-first.ensures) (alike_outline outline c.args.count r is _ alike)))
    (found ∙ outline_shape outline c.args.count r is) (wanted ∙ ap specs.shape_of c.first-first.ensures)
