use Rattle.std.proofs.Common.{◌-ℤ◌, ◌∙◌, ap, w64}
use Rattle.std.proofs.lemmas.Int.{to_z-of_z}
use Rattle.null_core.specs.Errors.{in_units}
use Rattle.null_core.proofs.KeptLaws.{difference_fits, difference_kept, difference_small}
use Rattle.null_core.proofs.errors.error_of.Goals as goal

pub overflow_sub-wanted : goal.overflow_sub-wanted
overflow_sub-wanted c = difference_fits c.wanted.result c.args.mix c.wanted.ensures.bound c.requires.mix

pub in_units-requires : goal.in_units-requires
in_units-requires c = difference_small c.wanted.result c.args.mix c.wanted.ensures.bound c.requires.mix

pub returns : goal.returns
returns c =
    to_z-of_z w64 c.in_units.result (record { sfits = c.in_units.type_inv })
    ∙ c.in_units.ensures
    ∙ ap in_units (difference_kept c.wanted.result c.args.mix c.wanted.ensures.bound c.requires.mix ∙ ap (λ z. z -ℤ c.args.mix) c.wanted.ensures.value)
