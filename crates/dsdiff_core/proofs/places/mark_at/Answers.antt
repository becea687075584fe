use Rattle.std.proofs.Common.{refl, sym, subst, arith}
use Rattle.dsd_bits.proofs.ExitLaws.{no_value}
use Rattle.dsdiff_core.specs.MarkPlaces.{IsAt}
use Rattle.dsdiff_core.proofs.PlaceLemmas.{title_at}
use Rattle.dsdiff_core.proofs.places.mark_at.Goals as goal

pub returns-in_err-text-clause-made : goal.returns-in_err-text-clause-made
returns-in_err-text-clause-made c = no_value _ _ c.from_residual.result c.from_residual.ensures.1

pub returns-in_err-text-clause-place : goal.returns-in_err-text-clause-place
returns-in_err-text-clause-place c = no_value _ _ c.from_residual.result c.from_residual.ensures.1

pub returns-clause-made : goal.returns-clause-made
returns-clause-made c = rw c.in_ok-text.ensures.items refl

pub returns-clause-place : goal.returns-clause-place
returns-clause-place c =
    subst (λ m. IsAt m c.args.rate c.args.pos) (sym (returns-clause-made c)) (title_at c.args.pos c.args.rate c.args.text.now (omega (arith, c.requires.rate.0)))
