-- What contracts see of an outlet that writes nothing more after its first failure.
use Rattle.std.specs.Prelude.{ℕ, Bool, Result, Ok, Err}
use Rattle.chunk_core.specs.declared.outlet.Outlet.{Outlet}
use Rattle.chunk_core.specs.declared.fused_outlet.FusedOutlet.{FusedOutlet}
use Rattle.chunk_core.specs.declared.fused_outlet.FusedFault.{FusedFault}
use Rattle.chunk_core.specs.declared.fused_outlet.FusedFault.TheVariants.{Device, Failed}

-- the outlet itself
abbrev pub fused_outlet : {W : Type 0} → FusedOutlet W → Outlet W
fused_outlet fused = fused.outlet

-- whether a write failed
abbrev pub fused_failed : {W : Type 0} → FusedOutlet W → Bool
fused_failed fused = fused.has_failed

-- the number of failures of its writer that a result counts: one if it is `Device`
abbrev pub failed_parts : {T : Type 0} → Result T FusedFault → ℕ
failed_parts (Err Device) = 1
failed_parts (Err Failed) = 0
failed_parts (Ok x) = 0
