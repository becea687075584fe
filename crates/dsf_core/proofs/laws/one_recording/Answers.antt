use Rattle.std.proofs.Common.{sym, ◌∙◌}
use Rattle.dsf_core.proofs.FileLaws.{dsf_is_read, same_reading}
use Rattle.dsf_core.proofs.laws.one_recording.Goals as goal

pub returns : goal.returns
returns c = λ file r s order other h k. same_reading r s order other (sym (dsf_is_read file r order h) ∙ dsf_is_read file s other k)
