-- The markers of frames that come piece by piece.
use Rattle.std.specs.Prelude.{◌≡◌, ◌≤◌, ℕ, ◌+◌, ◌*◌, List, Option, None, Some}
use Rattle.dop_core.specs.Reading.{broken_from, phase}
use Rattle.dop_core.specs.declared.markers.Marks.{Marks}

-- a place that was found, if any, counted from n places before
abbrev pub plus : ℕ → Option ℕ → Option ℕ
plus n None = None
plus n (Some k) = Some (n + k)

-- what is known of the markers of the first `done` frames: which comes first, and which frame hasn't its own
pub record AreMarks (channels : ℕ) (m : Marks) (done : ℕ) (sound : List ℕ) : Type 0 where
  pub first : 1 ≤ done → m.first ≡ phase sound
  pub broken : m.broken ≡ broken_from channels m.first sound 0 (done * channels)
