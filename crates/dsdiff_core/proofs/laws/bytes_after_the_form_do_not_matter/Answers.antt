use Rattle.dsdiff_core.proofs.FormEnds.{form_ends}
use Rattle.dsdiff_core.proofs.laws.bytes_after_the_form_do_not_matter.Goals as goal

pub returns : goal.returns
returns c = form_ends
