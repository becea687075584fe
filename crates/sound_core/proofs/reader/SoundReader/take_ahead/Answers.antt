use Rattle.std.proofs.Common.{◌∙◌, ap}
use Rattle.sound_core.proofs.reader.SoundReader.take_ahead.Goals as goal

pub returns-clause-taken : goal.returns-clause-taken
returns-clause-taken g c = ap (λ v. v.items) c.replace.ensures.value

pub returns-clause-none : goal.returns-clause-none
returns-clause-none g c = ap (λ v. v.items) c.replace.ensures.after ∙ c.new.ensures.items
