-- Steps that may fail.
use Rattle.std.proofs.Common.{◌≡◌, Result, Err}
use Rattle.dsf_core.specs.declared.fault.DsfFault.{DsfFault}
use Rattle.dsf_core.specs.declared.fault.DsfFault.TheVariants as faults
use Rattle.dsf_core.specs.Steps.{Fails}

-- a reading fails by the fault that it has
pub fails : {A : Type 0} (e : DsfFault) (r : Result A DsfFault) → r ≡ Err e → Fails e r
fails faults.Memory r h = tt
fails e r h = h
