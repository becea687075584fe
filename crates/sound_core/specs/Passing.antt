-- Chunks of a DSDIFF form that are passed once it is known that the file holds no recording.
use Rattle.std.specs.Prelude.{◌≡◌, ◌≤◌, ◌⊎◌, ℕ, ◌+◌, ◌<◌, ◌^◌, List, ◌++◌, drop, length, Option, Result, IfOk, ⊤}
use Rattle.std.specs.Io.KnownBytes.{IsAtEnd}
use Rattle.chunk_core.specs.Inlets.{inlet_given, inlet_reader}
use Rattle.chunk_core.specs.declared.inlet.Inlet.{Inlet}
use Rattle.chunk_core.specs.declared.layout.Head.{Head}
use Rattle.dsdiff_core.specs.declared.faulty.FaultyStart.{FaultyStart}
use Rattle.dsdiff_core.specs.Faulty.{AreNext, EndsInNext, IsFaulty, IsNextHead, next_place}
use Rattle.dsdiff_core.specs.Fields.{form_size}
use Rattle.form_core.specs.declared.fault.ReadFault.{ReadFault}
use Rattle.sound_core.specs.Naming.{NamesFault}
use Rattle.sound_core.specs.declared.passing.Passed.{Passed}
use Rattle.sound_core.specs.declared.passing.Passed.TheVariants as passed
use Rattle.sound_core.specs.declared.reader.SoundReader.{SoundReader}
use Rattle.sound_core.specs.declared.fault.StreamFault.{StreamFault}
use Rattle.sound_core.specs.Reads.{Reads}

-- `file` are the bytes that were read so far: the first chunks, which have the fault in `s`, were passed, and the rest,
-- from the next chunk on, is buffered
pub record IsOn {R : Type 0} (r : SoundReader R) (file : List ℕ) (s : FaultyStart) : Type 0 where
  pub given : inlet_given r.inlet.now ≡ r.given + length file
  pub inside : next_place s ≤ length file
  pub ahead : drop (next_place s) file ≡ r.ahead.now.items
  pub faulty : (rest : List ℕ) → IsFaulty (file ++ rest) s

-- more bytes were read, and now the first chunks that `s` describes are passed
pub record GoesOn {R : Type 0} (left : R → Option (List ℕ)) (old new : SoundReader R) (file : List ℕ) (s : FaultyStart) : Type 0 where
  pub more : List ℕ
  pub reads : Reads left old.inlet.now new.inlet.now more
  pub on : IsOn new (file ++ more) s

-- the file's first chunks have the fault in `s`, and the file or its form ends before the next chunk does, which has
-- this header
abbrev pub EndsFaulty : List ℕ → FaultyStart → Option Head → Type 0
EndsFaulty file s next = IsFaulty file s × EndsInNext file s × IsNextHead file s next

-- more bytes were read, up to the end of the file or of its form, and the next chunk is not whole
pub record EndsOn {R : Type 0} (left : R → Option (List ℕ)) (old new : SoundReader R) (file : List ℕ) (s : FaultyStart) (next : Option Head) : Type 0 where
  pub more : List ℕ
  pub reads : Reads left old.inlet.now new.inlet.now more
  pub given : inlet_given new.inlet.now ≡ new.given + length (file ++ more)
  pub how : (IsAtEnd (left (inlet_reader new.inlet.now)) × EndsFaulty (file ++ more) s next)
      ⊎ ((12 + form_size (file ++ more) ≤ length (file ++ more)) × ((rest : List ℕ) → EndsFaulty ((file ++ more) ++ rest) s next))

-- how far chunks were passed: to the next chunk, or to the end of the form or of the file
abbrev pub WalksTo : {R : Type 0} → (R → Option (List ℕ)) → SoundReader R → SoundReader R → List ℕ → Passed → Type 0
WalksTo left old new file (passed.More s) = GoesOn left old new file s
WalksTo left old new file (passed.All s next) = EndsOn left old new file s next

-- if one more chunk was passed, the passed chunks end later than before
abbrev pub EndLater : FaultyStart → Passed → Type 0
EndLater start (passed.More s) = start.end < s.end
EndLater start (passed.All s next) = ⊤

-- if the first chunks that `start` describes were passed, the result says how far the next ones were
abbrev pub WalksFrom : {R : Type 0} → (R → Option (List ℕ)) → SoundReader R → SoundReader R → FaultyStart → Result Passed StreamFault → Type 0
WalksFrom left old new start result = (file : List ℕ) → IsOn old file start → IfOk result (WalksTo left old new file)

-- a file of fewer than 2^64 bytes whose first chunks have the fault in `start`, and which has these bytes after them,
-- has the fault in `last`, and ends before the next chunk after that does, which has this header
abbrev pub EndsWith : FaultyStart → List ℕ → FaultyStart → Option Head → Type 0
EndsWith start bytes last next = (file : List ℕ) → IsFaulty file start → AreNext file start bytes → length file < 2 ^ 64 → EndsFaulty file last next

-- if the first chunks that `start` describes were passed, and their file was read since some inlet, the fault that is
-- returned is the first one since that inlet
abbrev pub NamesFrom : {R : Type 0} → (R → Option (List ℕ)) → SoundReader R → SoundReader R → FaultyStart → Result ReadFault StreamFault → Type 0
NamesFrom {R} left old new start result = (first : Inlet R) (file : List ℕ) → IsOn old file start → Reads left first old.inlet.now file → IfOk result (NamesFault left first new.inlet.now)
