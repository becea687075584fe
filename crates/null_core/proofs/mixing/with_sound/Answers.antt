use Rattle.std.proofs.Common.{◌∙◌, ◌+ℤ◌, ◌*ℤ◌, ap, of_z, to_z, w64, ℤ}
use Rattle.null_core.proofs.KeptLaws.{product_fits, product_held, product_small, sum_fits, sum_kept}
use Rattle.null_core.proofs.mixing.with_sound.Goals as goal
use Rattle.null_core.proofs.mixing.with_sound.Goals.{After-from-2}

-- the product that is added
abbrev product : After-from-2 → ℤ
product c = to_z w64 (of_z w64 c.from.result) *ℤ to_z w64 (of_z w64 c.from-2.result)

pub overflow_mul-result : goal.overflow_mul-result
overflow_mul-result c = product_fits c.args.gain c.args.sound c.requires.gain c.requires.sound c.from.result c.from-2.result c.from.ensures c.from-2.ensures

pub overflow_add-result : goal.overflow_add-result
overflow_add-result c =
    let here = (goal.at.overflow_add-result c).After-from-2 in
    sum_fits c.args.mixed (product here) c.requires.mixed (product_small c.args.gain c.args.sound c.requires.gain c.requires.sound c.from.result c.from-2.result c.from.ensures c.from-2.ensures)

pub returns : goal.returns
returns c =
    let here = (goal.at.returns c).After-from-2 in
    sum_kept c.args.mixed (product here) c.requires.mixed (product_small c.args.gain c.args.sound c.requires.gain c.requires.sound c.from.result c.from-2.result c.from.ensures c.from-2.ensures)
    ∙ ap (λ z. c.args.mixed +ℤ z) (product_held c.args.gain c.args.sound c.requires.gain c.requires.sound c.from.result c.from-2.result c.from.ensures c.from-2.ensures)
