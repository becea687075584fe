-- Steps that may fail.
use Rattle.std.specs.Prelude.{◌≡◌, Result, Ok, Err}
use Rattle.chunk_core.specs.declared.fault.ChunkFault.{ChunkFault}
use Rattle.chunk_core.specs.declared.fault.ChunkFault.TheVariants.{HeadCut, DataCut, Memory}

infixl 10 ◌>>=◌
-- the next step on the value of the first, or the fault of the first
abbrev pub ◌>>=◌ : {A B E : Type 0} → Result A E → (A → Result B E) → Result B E
(Ok x) >>= f = f x
(Err e) >>= f = Err e

-- the reading has this fault; running out of memory is no fault of a reading and says nothing of it
abbrev pub Fails : {Y : Type 0} → ChunkFault → Result Y ChunkFault → Type 0
Fails Memory reading = Unit {0}
Fails (HeadCut at) reading = reading ≡ Err (HeadCut at)
Fails (DataCut at id size) reading = reading ≡ Err (DataCut at id size)

-- what a function returned, its value as `view` shows it, is the reading, unless memory ran out
abbrev pub Gives : {X Y : Type 0} → (X → Y) → Result X ChunkFault → Result Y ChunkFault → Type 0
Gives view (Ok x) reading = reading ≡ Ok (view x)
Gives view (Err e) reading = Fails e reading
