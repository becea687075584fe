use Rattle.std.proofs.Common.{◌∙◌, ap}
use Rattle.sound_core.proofs.reader.SoundReader.take_head.Goals as goal

pub returns-clause-head : goal.returns-clause-head
returns-clause-head g c = ap (λ v. v.items) c.replace.ensures.value ∙ c.truncate.ensures.items
