-- Steps of reading that may fail.
use Rattle.std.specs.Prelude.{◌≡◌, Option, Some, None, Result, Ok, Err}
use Rattle.chunk_core.specs.declared.fault.ChunkFault.{ChunkFault}
use Rattle.chunk_core.specs.declared.fault.ChunkFault.TheVariants as chunk_faults
use Rattle.dsdiff_core.specs.declared.fault.DsdiffFault.{DsdiffFault}
use Rattle.dsdiff_core.specs.declared.fault.DsdiffFault.TheVariants as faults

-- a walk's fault as a fault of a file
abbrev pub chunk_fault : ChunkFault → DsdiffFault
chunk_fault chunk_faults.Memory = faults.Memory
chunk_fault (chunk_faults.HeadCut at) = faults.Chunk (chunk_faults.HeadCut at)
chunk_fault (chunk_faults.DataCut at id size) = faults.Chunk (chunk_faults.DataCut at id size)

-- the result of a walk, as a step of reading a file
abbrev pub walked : {A : Type 0} → Result A ChunkFault → Result A DsdiffFault
walked (Ok x) = Ok x
walked (Err f) = Err (chunk_fault f)

-- the value that is there, or a fault
abbrev pub some_or : {A : Type 0} → DsdiffFault → Option A → Result A DsdiffFault
some_or e None = Err e
some_or e (Some x) = Ok x

-- the reading has this fault; running out of memory is no fault of a reading and says nothing of it
abbrev pub Fails : {Y : Type 0} → DsdiffFault → Result Y DsdiffFault → Type 0
Fails faults.Memory reading = Unit {0}
Fails e reading = reading ≡ Err e

-- what a function returned, its value as `view` shows it, is the reading, unless memory ran out
abbrev pub Gives : {X Y : Type 0} → (X → Y) → Result X DsdiffFault → Result Y DsdiffFault → Type 0
Gives view (Ok x) reading = reading ≡ Ok (view x)
Gives view (Err e) reading = Fails e reading
