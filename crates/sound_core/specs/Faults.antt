-- Kinds of faults.
use Rattle.std.specs.Prelude.{ℕ, Result, Ok, Err, ⊤}
use Rattle.sound_core.specs.declared.fault.StreamFault.{StreamFault}
use Rattle.sound_core.specs.declared.fault.StreamFault.TheVariants.{FileRefused, RateNotDivided, TooLarge, ReadFailed, WriteFailed, TurnLimit, Memory}

-- how many reads failed, one or none, as the result says
abbrev pub failed_reads : {X : Type 0} → Result X StreamFault → ℕ
failed_reads (Err ReadFailed) = 1
failed_reads (Err FileRefused) = 0
failed_reads (Err RateNotDivided) = 0
failed_reads (Err TooLarge) = 0
failed_reads (Err WriteFailed) = 0
failed_reads (Err TurnLimit) = 0
failed_reads (Err Memory) = 0
failed_reads (Ok x) = 0

-- how many writes failed, one or none, as the result says
abbrev pub failed_writes : {X : Type 0} → Result X StreamFault → ℕ
failed_writes (Err WriteFailed) = 1
failed_writes (Err FileRefused) = 0
failed_writes (Err RateNotDivided) = 0
failed_writes (Err TooLarge) = 0
failed_writes (Err ReadFailed) = 0
failed_writes (Err TurnLimit) = 0
failed_writes (Err Memory) = 0
failed_writes (Ok x) = 0

-- a fault of reading: a read failed, there were too many, or memory ran out
abbrev pub IsReadingFault : StreamFault → Type 0
IsReadingFault ReadFailed = ⊤
IsReadingFault TurnLimit = ⊤
IsReadingFault Memory = ⊤
IsReadingFault _ = ⊥

-- a fault of writing: a write failed, or memory ran out
abbrev pub IsWritingFault : StreamFault → Type 0
IsWritingFault WriteFailed = ⊤
IsWritingFault Memory = ⊤
IsWritingFault _ = ⊥

-- a fault that comes before the first write
abbrev pub IsBeforeWriting : StreamFault → Type 0
IsBeforeWriting RateNotDivided = ⊤
IsBeforeWriting TooLarge = ⊤
IsBeforeWriting _ = ⊥

-- a fault of memory, a device or the number of reads, which doesn't depend on the file
abbrev pub IsFromOutside : StreamFault → Type 0
IsFromOutside ReadFailed = ⊤
IsFromOutside WriteFailed = ⊤
IsFromOutside TurnLimit = ⊤
IsFromOutside Memory = ⊤
IsFromOutside _ = ⊥

-- a fault that ends the reading: a read failed, or there were too many
abbrev pub StopsReading : StreamFault → Type 0
StopsReading ReadFailed = ⊤
StopsReading TurnLimit = ⊤
StopsReading _ = ⊥

-- a fault that a sink itself may return: any but those of reading
abbrev pub IsSinkFault : StreamFault → Type 0
IsSinkFault ReadFailed = ⊥
IsSinkFault TurnLimit = ⊥
IsSinkFault _ = ⊤
