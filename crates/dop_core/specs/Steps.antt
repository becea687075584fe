-- Steps of reading that may fail.
use Rattle.std.specs.Prelude.{◌≡◌, Result, Ok, Err}
use Rattle.dop_core.specs.declared.fault.DopFault.{DopFault}
use Rattle.dop_core.specs.declared.fault.DopFault.TheVariants as faults

-- the reading has this fault; running out of memory is no fault of a reading and says nothing of it
abbrev pub Fails : {Y : Type 0} → DopFault → Result Y DopFault → Type 0
Fails faults.Memory reading = Unit {0}
Fails e reading = reading ≡ Err e

-- what a function returned, its value as `view` shows it, is the reading, unless memory ran out
abbrev pub Gives : {X Y : Type 0} → (X → Y) → Result X DopFault → Result Y DopFault → Type 0
Gives view (Ok x) reading = reading ≡ Ok (view x)
Gives view (Err e) reading = Fails e reading
