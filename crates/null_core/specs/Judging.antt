-- What is found in a channel.
use Rattle.std.specs.Prelude.{◌≡◌, ℕ, ◌-◌, ◌^◌, ◌<◌, ◌≤◌, ◌++◌, ℤ, unsigned_abs, Bool, List, MatchOption, MatchResult, Option, Result, Ok, Err, Vec}
use Rattle.std.specs.declared.alloc.Global.{Global}
use Rattle.null_core.specs.declared.stretch.Stretch.{Stretch}
use Rattle.null_core.specs.Errors.{IsLoud, error_at, errors_from}
use Rattle.null_core.specs.Judged.{IsTooLoud}
use Rattle.null_core.specs.Parts.{AskedContent}
use Rattle.null_core.specs.Stretches.{AreStretches, AreStretchesTo}

-- P holds of a place and of none before it
pub record IsFirst (P : ℕ → Type 0) (place : ℕ) : Type 0 where
  pub here : P place
  pub before : (earlier : ℕ) → earlier < place → P earlier → ⊥

-- a place from one up to another whose error is too large
pub record IsLoudIn (a : AskedContent) (bits : List Bool) (from to m : ℕ) : Type 0 where
  pub after : from ≤ m
  pub before : m < to
  pub loud : IsLoud a bits m

-- this is the error at a place, and it isn't too large
pub record IsQuietError (a : AskedContent) (bits : List Bool) (m : ℕ) (e : ℤ) : Type 0 where
  pub value : e ≡ error_at a bits m
  pub quiet : unsigned_abs e < 2 ^ 31

-- the errors from one place up to another were appended; or one is too large, and this is the first
abbrev pub AppendErrors : AskedContent → List Bool → ℕ → ℕ → List ℤ → List ℤ → Option ℕ → Type 0
AppendErrors a bits from to old new loud = MatchOption loud
    ((new ≡ old ++ errors_from a bits from (to - from)) × ((m : ℕ) → IsLoudIn a bits from to m → ⊥))
    (IsFirst (IsLoudIn a bits from to))

-- no judged place before a place reaches an error that is too large
abbrev pub IsQuietTo : AskedContent → List Bool → ℕ → Type 0
IsQuietTo a bits end = (m : ℕ) (loud : IsTooLoud a bits m) → end ≤ loud.place

-- the channel is judged up to a place: these are its stretches, and no place is too loud
pub record IsJudgedTo (a : AskedContent) (bits : List Bool) (end : ℕ) (stretches : List Stretch) : Type 0 where
  pub stretches_so_far : AreStretchesTo a bits end stretches
  pub quiet : IsQuietTo a bits end

-- the channel is judged up to a place; or the first place that is too loud was found
abbrev pub JudgesSpan : AskedContent → List Bool → ℕ → List Stretch → Option ℕ → Type 0
JudgesSpan a bits end stretches loud = MatchOption loud (IsJudgedTo a bits end stretches) (IsFirst (IsTooLoud a bits))

-- what was found, its stretches as a list
abbrev pub judged_items : Result (Vec Stretch Global) ℕ → Result (List Stretch) ℕ
judged_items (Ok stretches) = Ok stretches.items
judged_items (Err place) = Err place

-- the stretches of a channel, in which no place is too loud; or the first place that is
abbrev pub JudgesChannel : AskedContent → List Bool → Result (List Stretch) ℕ → Type 0
JudgesChannel a bits found = MatchResult found
    (λ stretches. AreStretches a bits stretches × ((m : ℕ) → IsTooLoud a bits m → ⊥))
    (IsFirst (IsTooLoud a bits))
