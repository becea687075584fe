use Rattle.form_core.proofs.PartLaws.{in_parts}
use Rattle.form_core.proofs.laws.written_in_parts.Goals as goal

pub returns : goal.returns
returns c = in_parts c.written_in_parts.ensures
