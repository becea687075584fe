-- What a call writes to an outlet.
use Rattle.std.specs.Prelude.{ℕ, List, Option}
use Rattle.chunk_core.specs.Outlets.{outlet_writer}
use Rattle.chunk_core.specs.declared.outlet.Outlet.{Outlet}

-- P holds of what an outlet's writer held before and of what it holds after
abbrev pub OnOutlet : {W : Type 0} → (W → Option (List ℕ)) → Outlet W → Outlet W → (Option (List ℕ) → Option (List ℕ) → Type 0) → Type 0
OnOutlet held old new P = P (held (outlet_writer old)) (held (outlet_writer new))
