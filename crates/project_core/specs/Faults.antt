-- Which fault a project has if its decimator is refused.
use Rattle.fir_core.specs.declared.fault.TapsFault.{TapsFault}
use Rattle.fir_core.specs.declared.fault.TapsFault.TheVariants.{TapNumber, TapSum, Factor, Delay, Shift, Width, Memory}
use Rattle.project_core.specs.declared.key.Key.TheVariants as keys
use Rattle.project_core.specs.declared.key.Table.TheVariants as tables
use Rattle.project_core.specs.declared.fault.ProjectFault.{ProjectFault}
use Rattle.project_core.specs.declared.fault.ProjectFault.TheVariants as faults

-- a project's fault for a decimator's broken limit, which names the key of that limit
abbrev pub limit_fault : TapsFault → ProjectFault
limit_fault TapNumber = faults.OutOfLimit keys.Taps tables.Decimate
limit_fault TapSum = faults.OutOfLimit keys.Taps tables.Decimate
limit_fault Factor = faults.OutOfLimit keys.Factor tables.Decimate
limit_fault Delay = faults.OutOfLimit keys.Delay tables.Decimate
limit_fault Shift = faults.OutOfLimit keys.Shift tables.Decimate
limit_fault Width = faults.OutOfLimit keys.Width tables.Decimate
limit_fault Memory = faults.Memory
