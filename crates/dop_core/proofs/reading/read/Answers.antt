use Rattle.std.proofs.Common.{ℕ, List, Result, Ok, Err, subst}
use Rattle.std.specs.Prelude.{IfOk}
use Rattle.dsd_bits.specs.Contents.{Content}
use Rattle.dop_core.specs.declared.fault.DopFault.{DopFault}
use Rattle.dop_core.specs.Files.{IsDopOf}
use Rattle.dop_core.specs.Reading.{recording_of}
use Rattle.dop_core.specs.Steps.{Gives}
use Rattle.dop_core.proofs.RelationLaws.{found, only}
use Rattle.dop_core.proofs.reading.read.Goals as goal

abbrev own : Content → Content
own x = x

-- what was read is in the file
is_found : (file : List ℕ) (r : Result Content DopFault) → Gives own r (recording_of file) → IfOk r (IsDopOf file)
is_found file (Ok x) h = found file x h
is_found file (Err e) h = tt

pub returns-clause-found : goal.returns-clause-found
returns-clause-found c = is_found c.args.file.now c.read_in_order.result c.read_in_order.ensures

pub returns-clause-only : goal.returns-clause-only
returns-clause-only c = λ r h. subst (λ (x : Result Content DopFault). Gives own c.read_in_order.result x) (only c.args.file.now r h) c.read_in_order.ensures
