use Rattle.std.proofs.Common.{◌≡◌, ℕ, Option, Result, Ok, Err, None, Some, ap, ◌∙◌}
use Rattle.dsdiff_core.specs.declared.fault.DsdiffFault.{DsdiffFault}
use Rattle.dsdiff_core.proofs.DescribedLaws.{not_located, unlocated}
use Rattle.dsdiff_core.proofs.reading.part.Goals as goal

abbrev Place : Type 0
Place = Result (Option ℕ) DsdiffFault

none_some : (at : ℕ) → (let r : Place = Ok None in r) ≡ Ok (Some at) → ⊥
none_some at e = cc

err_some : (f : DsdiffFault) (at : ℕ) → (let r : Place = Err f in r) ≡ Ok (Some at) → ⊥
err_some f at e = cc

pub returns-in-Ok-None : goal.returns-in-Ok-None
returns-in-Ok-None c = unlocated c.args.file.now c.whole.result c.whole.ensures.value c.whole.ensures.is_held c.whole.ensures.prefix (not_located c.args.file.now (Ok None) (c.find_sound.ensures.exact ∙ c.in-Ok-None.is ∙ ap Ok c.in-Ok-None.field-0-is) (λ at e inside. none_some at e))

pub returns-in-Err : goal.returns-in-Err
returns-in-Err c = unlocated c.args.file.now c.whole-in-Err.result c.whole-in-Err.ensures.value c.whole-in-Err.ensures.is_held c.whole-in-Err.ensures.prefix (not_located c.args.file.now (Err c.in-Err.field-0) (c.find_sound.ensures.exact ∙ c.in-Err.is) (λ at e inside. err_some c.in-Err.field-0 at e))
