-- A fault of the null test as a fault of a call.
use Rattle.cut_core.specs.declared.fault.CutFault.TheVariants as cuts
use Rattle.null_core.specs.declared.fault.NullFault.{NullFault}
use Rattle.null_core.specs.declared.fault.NullFault.TheVariants as nulls
use Rattle.project_core.specs.declared.fault.ProjectFault.TheVariants.{OutOfLimit}
use Rattle.project_core.specs.declared.key.Key.TheVariants.{Gains}
use Rattle.project_core.specs.declared.key.Table.TheVariants.{Clip}
use Rattle.request_core.specs.declared.fault.Fault.{Fault}
use Rattle.request_core.specs.declared.fault.Fault.TheVariants.{ClipOutside, Cut, Memory, Mix}

-- those of takes are those of a cut, and gains for another number of channels are a fault of the mix text
abbrev pub fault_of_null : NullFault → Fault
fault_of_null (nulls.Mix fault) = Mix fault
fault_of_null nulls.TakeNumber = Cut cuts.TakeNumber
fault_of_null (nulls.TakeUnread take fault) = Cut (cuts.TakeUnread take fault)
fault_of_null (nulls.TakeMismatch take) = Cut (cuts.TakeMismatch take)
fault_of_null (nulls.ClipOutside clip) = ClipOutside clip
fault_of_null (nulls.ClipGains clip) = Mix (OutOfLimit Gains (Clip clip))
fault_of_null nulls.Memory = Memory
