use Rattle.std.proofs.Common.{◌≡◌, ◌+◌, ◌^◌, refl, map, ap, sym, ◌∙◌, subst, length, inl, inr, arith}
use Rattle.std.proofs.lemmas.List.{length-map}
use Rattle.cert_core.specs.Reasons.{Bounded}
use Rattle.cert_core.specs.Spelling.{byte_width, raised_text, row_text}
use Rattle.cert_core.specs.declared.version.Version.TheVariants.{Two}
use Rattle.cert_core.proofs.Raised.{own_text, peak_high, peak_reached, raised_bounded}
use Rattle.cert_core.proofs.row_reader.raise.Goals as goal
use Rattle.cert_core.proofs.row_reader.raise.Goals.{then-least-gt-GREATEST-via-then-least-gt-GREATEST, then-least-gt-GREATEST-via-else-least-gt-GREATEST+then-peak-least}
use Rattle.cert_core.proofs.row_reader.raise.Goals.{then-floor-ne0-via-then-floor-ne0, then-floor-ne0-via-else-floor-ne0+then-width-width_of}

pub returns-then-least-gt-GREATEST-clause-reason : goal.returns-then-least-gt-GREATEST-clause-reason
returns-then-least-gt-GREATEST-clause-reason c =
    let (q, below, is) = peak_reached c.args.row.now c.requires.some in
    elim c.then-least-gt-GREATEST.branch [
      | then-least-gt-GREATEST-via-then-least-gt-GREATEST w ↦ inl (refl, (q, below, omega (arith, w.if-least-gt-GREATEST.true)))
      | then-least-gt-GREATEST-via-else-least-gt-GREATEST+then-peak-least w ↦ inl (refl, (q, below, omega (arith, is, c.bounds_of-floor.ensures.greatest, w.if-peak-least.true, w.if-least-gt-GREATEST.false)))
    ]

pub returns-then-floor-ne0-clause-reason : goal.returns-then-floor-ne0-clause-reason
returns-then-floor-ne0-clause-reason c =
    let bounded = raised_bounded c.args.least (2 ^ 63) c.args.row.now (omega (arith, c.bounds_of-floor.ensures.greatest, c.if-peak-least.false, c.if-least-gt-GREATEST.false)) in
    elim c.then-floor-ne0.branch [
      | then-floor-ne0-via-then-floor-ne0 w ↦ inr (refl, bounded, inl (λ e. w.if-floor-ne0.true (c.bounds_of-floor.ensures.least ∙ e)))
      | then-floor-ne0-via-else-floor-ne0+then-width-width_of w ↦ inr (refl, bounded, inr (λ e. w.if-width-width_of.true (e ∙ sym (w.width_of.ensures.width ∙ ap byte_width c.bounds_of-floor.ensures.greatest))))
    ]

pub add_to_each-requires : goal.add_to_each-requires
add_to_each-requires c = λ q h. omega (arith, peak_high c.args.row.now q h, c.bounds_of-floor.ensures.greatest, c.if-peak-least.false, c.if-least-gt-GREATEST.false)

pub returns-clause-bounded : goal.returns-clause-bounded
returns-clause-bounded c =
    let over = c.args.row.now in
    let bounded = raised_bounded c.args.least (2 ^ 63) over (omega (arith, c.bounds_of-floor.ensures.greatest, c.if-peak-least.false, c.if-least-gt-GREATEST.false)) in
    let all : Bounded (length (map (λ v. c.args.least + v) over)) (map (λ v. c.args.least + v) over) = λ q h. bounded q (omega (arith, length-map over (λ v. c.args.least + v))) in
    subst (λ row. Bounded (length row) row) (sym c.add_to_each.ensures) all

pub returns-clause-own : goal.returns-clause-own
returns-clause-own c =
    let over = c.args.row.now in
    let own = own_text c.args.least c.args.width over c.requires.some (sym c.bounds_of-floor.ensures.least ∙ omega (arith, c.if-floor-ne0.false)) (omega (arith, c.if-width-width_of.false) ∙ c.width_of.ensures.width ∙ ap byte_width c.bounds_of-floor.ensures.greatest) in
    subst (λ row. raised_text c.args.least c.args.width over ≡ row_text Two row) (sym c.add_to_each.ensures) own
