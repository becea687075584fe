-- Chunks: judged places that are looked at together.
use Rattle.std.specs.Prelude.{◌≡◌, ℕ, ◌+◌, ◌%◌, ◌^◌, ◌<◌, ◌≤◌, ℤ, pos, ◌-ℤ◌, Bool, nat_lt, unsigned_abs, List, length, map, MatchOption, MatchResult, Option, Result, slice_index_or}
use Rattle.std.specs.List.{IsFirstBest, range_with_len}
use Rattle.heard_core.specs.Residuals.{at_place}
use Rattle.null_core.specs.declared.chunk.Chunk.{Chunk}
use Rattle.null_core.specs.declared.peak.Peak.{Peak}
use Rattle.null_core.specs.declared.stretch.Stretch.{Stretch}
use Rattle.null_core.specs.Errors.{IsLoud, errors}
use Rattle.null_core.specs.Judged.{IsTooLoud}
use Rattle.null_core.specs.Judging.{IsFirst, IsQuietTo}
use Rattle.null_core.specs.Own.{IsEdited}
use Rattle.null_core.specs.Parts.{AskedContent, reach}
use Rattle.null_core.specs.Stretches.{IsStretch}

-- a chunk: all places from its first to its last are edited, these two are multiples of `every`, and they aren't far from
-- each other; a chunk of more than one judged place has no errors between that no judged place reaches
pub record IsChunk (a : AskedContent) (bits : List Bool) (c : Chunk) : Type 0 where
  pub in_order : c.first ≤ c.last
  pub inside : c.last < length bits
  pub small : c.last < c.first + 2 ^ 16
  pub due_first : c.first % a.every ≡ 0
  pub due_last : c.last % a.every ≡ 0
  pub edited : (n : ℕ) → c.first ≤ n → n ≤ c.last → IsEdited a bits n
  pub reached : c.first < c.last → a.every ≤ length a.audible

-- the errors that windows read which begin `reach` places before a place, 0 outside of the master
abbrev pub errors_around : AskedContent → List Bool → ℕ → ℕ → List ℤ
errors_around a bits first number = map (λ j. at_place (errors a bits) (pos (first + j) -ℤ pos (reach a))) (range_with_len 0 number)

-- a place whose error is too large, among these
pub record IsLoudAround (a : AskedContent) (bits : List Bool) (first number m : ℕ) : Type 0 where
  pub inside : m < length bits
  pub after : first ≤ m + reach a
  pub before : m + reach a < first + number
  pub loud : IsLoud a bits m

-- the errors around a place are listed; or one is too large, and this is the first
abbrev pub ListsErrors : AskedContent → List Bool → ℕ → ℕ → List ℤ → Option ℕ → Type 0
ListsErrors a bits first number listed loud = MatchOption loud
    ((listed ≡ errors_around a bits first number) × ((m : ℕ) → IsLoudAround a bits first number m → ⊥))
    (IsFirst (IsLoudAround a bits first number))

-- a number is greater than another in absolute value
abbrev pub is_louder : ℤ → ℤ → Bool
is_louder x y = nat_lt (unsigned_abs y) (unsigned_abs x)

-- the greatest of some residuals, and the first that has it
pub record IsPeak (sums : List ℤ) (peak : Peak) : Type 0 where
  pub first : IsFirstBest is_louder sums (length sums) peak.index
  pub size : peak.size ≡ unsigned_abs (slice_index_or sums peak.index (pos 0))

-- a chunk as a stretch, up to whose end no place is too loud
pub record IsChunkStretch (a : AskedContent) (bits : List Bool) (c : Chunk) (s : Stretch) : Type 0 where
  pub first : s.first ≡ c.first
  pub last : s.last ≡ c.last
  pub stretch : IsStretch a bits s
  pub quiet : IsQuietTo a bits (c.last + 1)

-- a chunk as a stretch; or the first place that is too loud
abbrev pub JudgesChunk : AskedContent → List Bool → Chunk → Result Stretch ℕ → Type 0
JudgesChunk a bits c found = MatchResult found (IsChunkStretch a bits c) (IsFirst (IsTooLoud a bits))
