use Rattle.std.proofs.Common.{sym, ◌∙◌}
use Rattle.dsdiff_core.proofs.FileLaws.{parts_again, parts_from, same_content}
use Rattle.dsdiff_core.proofs.laws.one_recording.Goals as goal

pub returns : goal.returns
returns c = λ file r s h k. same_content r s (sym (parts_again file r (parts_from file r h)) ∙ parts_again file s (parts_from file s k))
