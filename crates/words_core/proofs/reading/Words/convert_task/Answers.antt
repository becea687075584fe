use Rattle.std.proofs.Common.{◌∙◌, ap, arith, drop, inl, refl, sym}
use Rattle.words_core.specs.Reading.{texts}
use Rattle.words_core.proofs.ReadingLaws.{first_name}
use Rattle.words_core.proofs.reading.Words.convert_task.Goals as goal

pub returns-in-None-clause-refused : goal.returns-in-None-clause-refused
returns-in-None-clause-refused c = (
  refl,
  inl refl,
  (drop 1 (texts c.as_slice.result.now), ap texts (sym c.as_slice.ensures.value) ∙ first_name c.as_slice.result.now _ (omega (arith, c.in-len3.len_at_least)), sym c.form_named.ensures ∙ c.in-None.is),
)
