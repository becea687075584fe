-- The samples of a file that were read.
use Rattle.std.specs.Prelude.{◌≡◌, ◌≤◌, ◌<◌, ℕ, ◌*◌, List, length, None, Option}
use Rattle.std.specs.Io.KnownBytes.{IsAtEnd}
use Rattle.chunk_core.specs.Inlets.{PullsBytes, inlet_reader}
use Rattle.chunk_core.specs.declared.inlet.Inlet.{Inlet}
use Rattle.dop_core.specs.declared.head.DopHead.{DopHead}
use Rattle.dop_core.specs.declared.shape.Announced.{Announced}
use Rattle.dop_core.specs.declared.sound.Scanned.{Scanned}
use Rattle.dop_core.specs.Markers.{AreMarks}
use Rattle.dop_core.specs.Reading.{broken_from, phase}

-- how many bytes the samples of a file with this header have
abbrev pub sound_long : DopHead → ℕ
sound_long h = 3 * (h.frames * h.channels)

-- bytes of samples were read, and their markers are known if all are there; else the file ended before
pub record Scans {R : Type 0} (left : R → Option (List ℕ)) (old new : Inlet R) (h : DopHead) (s : Scanned) : Type 0 where
  pub sound : List ℕ
  pub pulled : PullsBytes left old new sound
  pub long : length sound ≡ s.there
  pub few : s.there ≤ sound_long h
  pub either : s.marks.first ≤ 1
  pub marks : s.there ≡ sound_long h → AreMarks h.channels s.marks h.frames sound
  pub at_end : s.there < sound_long h → IsAtEnd (left (inlet_reader new))

-- the samples were read; each has its frame's marker, of which this one comes first
pub record ReadsSound {R : Type 0} (left : R → Option (List ℕ)) (old new : Inlet R) (a : Announced) (first : ℕ) : Type 0 where
  pub sound : List ℕ
  pub pulled : PullsBytes left old new sound
  pub long : length sound ≡ sound_long a.head
  pub whole : a.size ≡ sound_long a.head
  pub either : first ≤ 1
  pub begins : 1 ≤ a.head.frames → first ≡ phase sound
  pub marked : broken_from a.head.channels first sound 0 (a.head.frames * a.head.channels) ≡ None
