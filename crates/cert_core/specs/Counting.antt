-- The failures of an outlet that was given to a writer of certificates.
use Rattle.std.specs.Prelude.{◌≡◌, ℕ, ◌+◌, if◌then◌else◌}
use Rattle.chunk_core.specs.FusedOutlets.{fused_failed, fused_outlet}
use Rattle.chunk_core.specs.Outlets.{outlet_failures}
use Rattle.chunk_core.specs.declared.fused_outlet.FusedOutlet.{FusedOutlet}

-- an outlet with n failures before has one more if a write failed since
abbrev pub IsCounted : {W : Type 0} → ℕ → FusedOutlet W → Type 0
IsCounted before fused = outlet_failures (fused_outlet fused) ≡ before + (if fused_failed fused then 1 else 0)
