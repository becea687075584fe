-- What contracts see of an inlet.
use Rattle.std.specs.Prelude.{◌≡◌, ℕ, ◌+◌, ◌<◌, ◌≤◌, min, List, ◌++◌, length, take, Option, Result, MatchResult}
use Rattle.std.specs.Io.KnownBytes.{Consumes, Keeps, IsAtEnd}
use Rattle.std.specs.Io.Iter.{u64_saturate}
use Rattle.chunk_core.specs.declared.inlet.Inlet.{Inlet}

-- the reader itself
abbrev pub inlet_reader : {R : Type 0} → Inlet R → R
inlet_reader inlet = inlet.reader

-- these bytes were read
abbrev pub PullsBytes : {R : Type 0} → (R → Option (List ℕ)) → Inlet R → Inlet R → List ℕ → Type 0
PullsBytes left old new bytes = Consumes (left (inlet_reader old)) (left (inlet_reader new)) bytes

-- the number of reads that failed
abbrev pub inlet_failures : {R : Type 0} → Inlet R → ℕ
inlet_failures inlet = inlet.failures

-- the number of reads, at most 2^64-1
abbrev pub inlet_reads : {R : Type 0} → Inlet R → ℕ
inlet_reads inlet = inlet.reads

-- the number of bytes that the reads returned, at most 2^64-1
abbrev pub inlet_given : {R : Type 0} → Inlet R → ℕ
inlet_given inlet = inlet.given

-- the read put its bytes after the first `filled` bytes, and returned none only at the reader's end
abbrev pub PullsAfter : {E : Type 0} → Option (List ℕ) → Option (List ℕ) → Result ℕ E → ℕ → List ℕ → List ℕ → Type 0
PullsAfter old new result filled buffer_old buffer_new = MatchResult result
    (λ n. (bytes : List ℕ) × (length bytes ≡ n) × (filled + n ≤ length buffer_new) × (take (filled + n) buffer_new ≡ take filled buffer_old ++ bytes)
    × Consumes old new bytes × (n ≡ 0 → IsAtEnd new))
    (λ _. Keeps old new)

-- n bytes came in reads that each returned at least one, and `more` reads returned none; the counter of reads stops at
-- 2^64-1
abbrev pub CountsReads : ℕ → ℕ → ℕ → ℕ → Type 0
CountsReads reads_old reads_new n more = (turns : ℕ) × (min 1 n ≤ turns) × (turns ≤ n) × (reads_new ≡ u64_saturate (reads_old + (turns + more)))

-- some bytes were read and counted, fewer than there was room for, and then a read failed
pub record FailsFilling {R : Type 0} (left : R → Option (List ℕ)) (old new : Inlet R) (room : ℕ) : Type 0 where
  pub bytes : List ℕ
  pub few : length bytes < room
  pub consumed : Consumes (left (inlet_reader old)) (left (inlet_reader new)) bytes
  pub given : inlet_given new ≡ u64_saturate (inlet_given old + length bytes)
  pub reads : CountsReads (inlet_reads old) (inlet_reads new) (length bytes) 1
