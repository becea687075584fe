-- Which places are judged, and what is found there.
use Rattle.std.specs.Prelude.{◌≡◌, ℕ, ◌+◌, ◌%◌, ◌<◌, ◌≤◌, Bool, List, length}
use Rattle.null_core.specs.Errors.{IsLoud, residual_size}
use Rattle.null_core.specs.Own.{IsEdited}
use Rattle.null_core.specs.Parts.{AskedContent, reach}

-- place n of the master is judged: it is a multiple of `every`, and edited
pub record IsJudged (a : AskedContent) (bits : List Bool) (n : ℕ) : Type 0 where
  pub inside : n < length bits
  pub due : n % a.every ≡ 0
  pub edited : IsEdited a bits n

-- the channel nulls: no residual at a judged place is above this one
abbrev pub Nulls : AskedContent → List Bool → ℕ → Type 0
Nulls a bits most = (n : ℕ) → IsJudged a bits n → residual_size a bits n ≤ most

-- the error at place m is too large, and a judged place reaches it
pub record IsTooLoud (a : AskedContent) (bits : List Bool) (m : ℕ) : Type 0 where
  pub inside : m < length bits
  pub loud : IsLoud a bits m
  pub place : ℕ
  pub judged : IsJudged a bits place
  pub before : place ≤ m + reach a
  pub after : m ≤ place + reach a
