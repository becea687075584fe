-- A reader of a file: what holds of it, and how far it goes.
use Rattle.std.specs.Prelude.{◌≡◌, ℕ, ◌+◌, ◌-◌, ◌<◌, ◌≤◌, ◌^◌, ◌⊎◌, List, [], ◌++◌, length, take, Option, IfSome, Result, Err, IsErrOf, ⊤}
use Rattle.std.specs.Io.KnownBytes.{IsAtEnd}
use Rattle.chunk_core.specs.Inlets.{inlet_failures, inlet_given, inlet_reader, inlet_reads}
use Rattle.chunk_core.specs.Outlets.{outlet_failures}
use Rattle.chunk_core.specs.declared.inlet.Inlet.{Inlet}
use Rattle.chunk_core.specs.declared.outlet.Outlet.{Outlet}
use Rattle.sound_core.specs.Faults.{StopsReading, failed_reads}
use Rattle.sound_core.specs.Reads.{HasBudget, Reads, ReadsAll, ReadsUntil}
use Rattle.sound_core.specs.declared.fault.StreamFault.{StreamFault}
use Rattle.sound_core.specs.declared.fault.StreamFault.TheVariants.{FileRefused, ReadFailed, TurnLimit, Memory}
use Rattle.sound_core.specs.declared.reader.SoundReader.{SoundReader}

-- what is read of a file can be counted: there were fewer than 2^63 reads and bytes before, and fewer failures than can
-- be counted
pub record CanCount {R : Type 0} (inlet : Inlet R) : Type 0 where
  pub reads : inlet_reads inlet < 2 ^ 63
  pub given : inlet_given inlet < 2 ^ 63
  pub failures : inlet_failures inlet < 2 ^ 64 - 1

-- one more failure can be counted
abbrev pub CanFail : {W : Type 0} → Outlet W → Type 0
CanFail outlet = outlet_failures outlet < 2 ^ 64 - 1

-- why a file is read no further: there were 2^40 reads, or what is read can't be counted
abbrev pub RunsOut : {R : Type 0} → Inlet R → Inlet R → Type 0
RunsOut old new = (CanCount old → ⊥) ⊎ (inlet_reads new ≡ inlet_reads old + 2 ^ 40)

-- a reader that may read on: one more failure can be counted, no counter overflows, and it has a block to read into
pub record IsReading {R : Type 0} (r : SoundReader R) : Type 0 where
  pub ready : inlet_failures r.inlet.now < 2 ^ 64 - 1
  pub budget : HasBudget r.limit r.inlet.now
  pub size : length r.block.now.items ≡ 65536

-- before the first byte of a file
pub record IsAtStart {R : Type 0} (r : SoundReader R) : Type 0 where
  pub reading : IsReading r
  pub given : inlet_given r.inlet.now ≡ r.given
  pub empty : r.ahead.now.items ≡ []

-- all bytes that were read of the file are buffered
abbrev pub HoldsAll : {R : Type 0} → SoundReader R → Type 0
HoldsAll r = inlet_given r.inlet.now ≡ r.given + length r.ahead.now.items

-- n bytes of the file were read before those that are buffered
abbrev pub IsAfter : {R : Type 0} → SoundReader R → ℕ → Type 0
IsAfter r n = inlet_given r.inlet.now ≡ r.given + (n + length r.ahead.now.items)

-- a reader of the same file
pub record IsSame {R : Type 0} (old new : SoundReader R) : Type 0 where
  pub reference : new.inlet.ghost_name ≡ old.inlet.ghost_name
  pub given : new.given ≡ old.given
  pub limit : new.limit ≡ old.limit

-- what was counted with this result: a failure if a read failed, and no more reads than the limit
pub record Counts {R X : Type 0} (old new : SoundReader R) (r : Result X StreamFault) : Type 0 where
  pub failures : inlet_failures new.inlet.now ≡ inlet_failures old.inlet.now + failed_reads r
  pub turns : IsErrOf r TurnLimit → inlet_reads new.inlet.now ≡ old.limit
  pub most : inlet_reads new.inlet.now ≤ old.limit

-- the same for a fault, whatever else could have been returned
abbrev pub CountsFault : {R : Type 0} → SoundReader R → SoundReader R → StreamFault → Type 0
CountsFault old new f = Counts {X = Unit {0}} old new (Err f)

-- one read to the places from `filled` up to `size` of a block returned n bytes, none only at the end
pub record PullsTo {R : Type 0} (left : R → Option (List ℕ)) (old new : Inlet R) (filled size : ℕ) (block_old block_new : List ℕ) (n : ℕ) : Type 0 where
  pub read : List ℕ
  pub reads : Reads left old new read
  pub number : n ≡ length read
  pub few : filled + n ≤ size
  pub prefix : take (filled + n) block_new ≡ take filled block_old ++ read
  pub end : n ≡ 0 → IsAtEnd (left (inlet_reader new))

-- n bytes were passed: the first of the buffered bytes and those that were read; the others are buffered
pub record Passes {R : Type 0} (left : R → Option (List ℕ)) (old new : Inlet R) (n : ℕ) (ahead_old ahead_new : List ℕ) : Type 0 where
  pub passed : List ℕ
  pub read : List ℕ
  pub reads : Reads left old new read
  pub parts : ahead_old ++ read ≡ passed ++ ahead_new
  pub long : length passed ≡ n

-- n bytes were passed, and are the first of a block
pub record Fills {R : Type 0} (left : R → Option (List ℕ)) (old new : Inlet R) (n : ℕ) (ahead_old ahead_new block : List ℕ) : Type 0 where
  pub passes : Passes left old new n ahead_old ahead_new
  pub first : take n block ≡ passes.passed

-- the buffered bytes and all that were read are fewer than n, and the reader is at its end
pub record FallsShort {R : Type 0} (left : R → Option (List ℕ)) (old new : Inlet R) (n : ℕ) (ahead : List ℕ) : Type 0 where
  pub read : List ℕ
  pub reads : Reads left old new read
  pub few : length (ahead ++ read) < n
  pub at_end : IsAtEnd (left (inlet_reader new))

-- a fault where n bytes are passed: `FileRefused` if there are fewer in the buffer and the file, or a fault of reading
abbrev pub IsPassFault : Option (List ℕ) → ℕ → List ℕ → StreamFault → Type 0
IsPassFault left_old n ahead FileRefused = IfSome left_old (λ left. length (ahead ++ left) < n)
IsPassFault left_old n ahead ReadFailed = ⊤
IsPassFault left_old n ahead TurnLimit = ⊤
IsPassFault left_old n ahead Memory = ⊤
IsPassFault left_old n ahead _ = ⊥

-- ---- from one state of a reader to a later one

-- these bytes were read, and counted
abbrev pub HasRead : {R : Type 0} → (R → Option (List ℕ)) → SoundReader R → SoundReader R → List ℕ → Type 0
HasRead left old new bytes = Reads left old.inlet.now new.inlet.now bytes

-- no further byte was counted
abbrev pub CountsNoByte : {R : Type 0} → SoundReader R → SoundReader R → Type 0
CountsNoByte old new = inlet_given new.inlet.now ≡ inlet_given old.inlet.now

-- one read returned n bytes, none only at the end; the block has them from place `filled` on, before `size`
abbrev pub PullsIntoBlock : {R : Type 0} → (R → Option (List ℕ)) → SoundReader R → SoundReader R → ℕ → ℕ → ℕ → Type 0
PullsIntoBlock left old new filled size n = PullsTo left old.inlet.now new.inlet.now filled size old.block.now.items new.block.now.items n

-- the buffer grew by n bytes that were read
abbrev pub BuffersMore : {R : Type 0} → (R → Option (List ℕ)) → SoundReader R → SoundReader R → ℕ → Type 0
BuffersMore left old new n = (read : List ℕ) × Reads left old.inlet.now new.inlet.now read × (n ≡ length read) × (new.ahead.now.items ≡ old.ahead.now.items ++ read)

-- the buffer grew by what was read, until it had `wanted` bytes or the reader was at its end
abbrev pub BuffersUntil : {R : Type 0} → (R → Option (List ℕ)) → SoundReader R → SoundReader R → ℕ → Type 0
BuffersUntil left old new wanted = ReadsUntil left old.inlet.now new.inlet.now old.ahead.now.items new.ahead.now.items wanted

-- the buffer grew by all that was left
abbrev pub BuffersAll : {R : Type 0} → (R → Option (List ℕ)) → SoundReader R → SoundReader R → Type 0
BuffersAll left old new = ReadsAll left old.inlet.now new.inlet.now old.ahead.now.items new.ahead.now.items

-- the next n bytes were passed, first those in the buffer
abbrev pub PassesNext : {R : Type 0} → (R → Option (List ℕ)) → SoundReader R → SoundReader R → ℕ → Type 0
PassesNext left old new n = Passes left old.inlet.now new.inlet.now n old.ahead.now.items new.ahead.now.items

-- the next n bytes were passed, and the block begins with them
abbrev pub FillsBlock : {R : Type 0} → (R → Option (List ℕ)) → SoundReader R → SoundReader R → ℕ → Type 0
FillsBlock left old new n = Fills left old.inlet.now new.inlet.now n old.ahead.now.items new.ahead.now.items new.block.now.items

-- fewer than n bytes were left, in the buffer and in the reader, which is at its end
abbrev pub EndsBefore : {R : Type 0} → (R → Option (List ℕ)) → SoundReader R → SoundReader R → ℕ → Type 0
EndsBefore left old new n = FallsShort left old.inlet.now new.inlet.now n old.ahead.now.items

-- if the fault ended the reading, the bytes that were buffered and those that were read are at most n
abbrev pub StopsWithin : {R : Type 0} → SoundReader R → SoundReader R → ℕ → StreamFault → Type 0
StopsWithin old new n f = StopsReading f → inlet_given new.inlet.now + length old.ahead.now.items ≤ inlet_given old.inlet.now + n
