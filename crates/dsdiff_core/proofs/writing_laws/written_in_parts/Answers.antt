use Rattle.dsdiff_core.proofs.WrittenParts.{in_parts}
use Rattle.dsdiff_core.proofs.writing_laws.written_in_parts.Goals as goal

pub returns : goal.returns
returns c = in_parts
