-- The mix at some places.
use Rattle.std.specs.Prelude.{◌≡◌, ℕ, ◌+◌, ◌<◌, ◌≤◌, ℤ, pos, ◌+ℤ◌, ◌*ℤ◌, unsigned_abs, List, All, length, map, slice_index_or}
use Rattle.std.specs.List.{range_with_len}
use Rattle.null_core.specs.Parts.{IsPart, PartContent, added, mix_at, parts_at}

-- parts within their limits, at most 64 at any one place
pub record AreFewParts (parts : List PartContent) : Type 0 where
  pub each_fits : All IsPart parts
  pub apart : (m : ℕ) → parts_at m parts ≤ 64

-- the mix at some places, from the first on
abbrev pub mixes_from : List PartContent → ℕ → ℕ → List ℤ
mixes_from parts first number = map (mix_at parts) (range_with_len first number)

-- the absolute value of each number is at most this
abbrev pub AreSmall : ℕ → List ℤ → Type 0
AreSmall most xs = (i : ℕ) → i < length xs → unsigned_abs (slice_index_or xs i (pos 0)) ≤ most

-- to each number was added a sound times the gain, the first gain being that at place k
pub record IsGained (gains : ℕ → ℤ) (k : ℕ) (sound old new : List ℤ) : Type 0 where
  pub long : length new ≡ length old
  pub each : (i : ℕ) → i < length old → slice_index_or new i (pos 0) ≡ slice_index_or old i (pos 0) +ℤ (gains (k + i) *ℤ slice_index_or sound i (pos 0))

-- to each number was added what a part adds to the mix, the first place being this one
pub record IsPartAdded (p : PartContent) (first : ℕ) (old new : List ℤ) : Type 0 where
  pub long : length new ≡ length old
  pub each : (i : ℕ) → i < length old → slice_index_or new i (pos 0) ≡ slice_index_or old i (pos 0) +ℤ added (first + i) p
