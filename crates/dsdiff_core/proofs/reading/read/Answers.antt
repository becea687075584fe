use Rattle.std.proofs.Common.{ℕ, List, Result, Ok, Err, subst}
use Rattle.std.specs.Prelude.{IfOk}
use Rattle.dsd_bits.specs.Contents.{Content}
use Rattle.dsdiff_core.specs.declared.fault.DsdiffFault.{DsdiffFault}
use Rattle.dsdiff_core.specs.Files.{IsDsdiff}
use Rattle.dsdiff_core.specs.Reading.{recording_of}
use Rattle.dsdiff_core.specs.Steps.{Gives}
use Rattle.dsdiff_core.proofs.FileLaws.{is_dsdiff, parts_again, parts_from, parts_ok}
use Rattle.dsdiff_core.proofs.reading.read.Goals as goal

-- what was read is in the file
found : (file : List ℕ) (r : Result Content DsdiffFault) → Gives (λ (x : Content). x) r (recording_of file) → IfOk r (λ x. IsDsdiff file x)
found file (Ok x) h = is_dsdiff file x (parts_ok file x h)
found file (Err e) h = tt

pub returns-clause-found : goal.returns-clause-found
returns-clause-found c = found c.args.file.now c.read_in_order.result c.read_in_order.ensures

pub returns-clause-only : goal.returns-clause-only
returns-clause-only c = λ r h. subst (λ (x : Result Content DsdiffFault). Gives (λ (y : Content). y) c.read_in_order.result x) (parts_again c.args.file.now r (parts_from c.args.file.now r h)) c.read_in_order.ensures
