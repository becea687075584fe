use Rattle.std.proofs.Common.{ℕ, List, Result, Ok, Err, subst}
use Rattle.std.specs.Prelude.{IfOk}
use Rattle.dsd_bits.specs.declared.blocks.BitOrder.{BitOrder}
use Rattle.dsd_bits.specs.Contents.{Content}
use Rattle.dsf_core.specs.declared.fault.DsfFault.{DsfFault}
use Rattle.dsf_core.specs.Files.{IsDsf}
use Rattle.dsf_core.specs.Reading.{recording_of}
use Rattle.dsf_core.specs.Steps.{Gives}
use Rattle.dsf_core.proofs.FileLaws.{is_dsf, dsf_is_read}
use Rattle.dsf_core.proofs.reading.read.Goals as goal

abbrev own : Content × BitOrder → Content × BitOrder
own x = x

-- what was read is in the file
found : (file : List ℕ) (r : Result (Content × BitOrder) DsfFault) → Gives own r (recording_of file) → IfOk r (λ x. IsDsf file x.0 x.1)
found file (Ok x) h = is_dsf file x h
found file (Err e) h = tt

pub returns-clause-found : goal.returns-clause-found
returns-clause-found c = found c.args.file.now c.read_in_order.result c.read_in_order.ensures

pub returns-clause-only : goal.returns-clause-only
returns-clause-only c = λ r order h. subst (λ (x : Result (Content × BitOrder) DsfFault). Gives own c.read_in_order.result x) (dsf_is_read c.args.file.now r order h) c.read_in_order.ensures
