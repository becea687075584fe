-- Stretches: judged places near each other, and the greatest residual there.
use Rattle.std.specs.Prelude.{◌≡◌, ℕ, ◌+◌, ◌<◌, ◌≤◌, max, Bool, List, [], ◌∷◌, All, length, slice_get, Some}
use Rattle.null_core.specs.declared.stretch.Stretch.{Stretch}
use Rattle.null_core.specs.Errors.{residual_size}
use Rattle.null_core.specs.Judged.{IsJudged}
use Rattle.null_core.specs.Parts.{AskedContent}

-- a judged place from one place to another
pub record IsJudgedFrom (a : AskedContent) (bits : List Bool) (first last n : ℕ) : Type 0 where
  pub judged : IsJudged a bits n
  pub from : first ≤ n
  pub to : n ≤ last

-- the next judged place after a place is at most as far as `audible` is long, so fewer places are between them
pub record HasNext (a : AskedContent) (bits : List Bool) (last n : ℕ) : Type 0 where
  pub next : ℕ
  pub judged : IsJudgedFrom a bits (n + 1) last next
  pub near : next ≤ n + length a.audible

-- the greatest residual at the judged places from one to another, and the first place that has it
pub record IsGreatest (a : AskedContent) (bits : List Bool) (first last greatest place : ℕ) : Type 0 where
  pub judged : IsJudgedFrom a bits first last place
  pub size : residual_size a bits place ≡ greatest
  pub most : (n : ℕ) → IsJudgedFrom a bits first last n → residual_size a bits n ≤ greatest
  pub first_of : (n : ℕ) → IsJudgedFrom a bits first last n → n < place → residual_size a bits n < greatest

-- a stretch: it begins and ends with a judged place, each judged place but the last has a next one near it, and its
-- residual is the greatest
pub record IsStretch (a : AskedContent) (bits : List Bool) (s : Stretch) : Type 0 where
  pub first : IsJudgedFrom a bits s.first s.last s.first
  pub last : IsJudgedFrom a bits s.first s.last s.last
  pub near : (n : ℕ) → IsJudgedFrom a bits s.first s.last n → n < s.last → HasNext a bits s.last n
  pub greatest : IsGreatest a bits s.first s.last s.residual s.place

-- at least as many places as `audible` has taps are between a stretch and the next one
abbrev pub AreApart : AskedContent → List Stretch → Type 0
AreApart a stretches = (i : ℕ) (s t : Stretch) → slice_get stretches i ≡ Some s → slice_get stretches (i + 1) ≡ Some t → s.last + length a.audible < t.first

-- the judged place is in one of the stretches
abbrev pub IsCovered : List Stretch → ℕ → Type 0
IsCovered stretches n = (i : ℕ) × (s : Stretch) × (slice_get stretches i ≡ Some s) × (s.first ≤ n) × (n ≤ s.last)

-- the stretches of all judged places before a place, in their order
pub record AreStretchesTo (a : AskedContent) (bits : List Bool) (end : ℕ) (stretches : List Stretch) : Type 0 where
  pub each : All (IsStretch a bits) stretches
  pub apart : AreApart a stretches
  pub before : (i : ℕ) (s : Stretch) → slice_get stretches i ≡ Some s → s.last < end
  pub all : (n : ℕ) → IsJudged a bits n → n < end → IsCovered stretches n

-- the stretches of a channel
abbrev pub AreStretches : AskedContent → List Bool → List Stretch → Type 0
AreStretches a bits stretches = AreStretchesTo a bits (length bits) stretches

-- the greatest residual of some stretches, 0 if there are none
abbrev pub greatest_residual : List Stretch → ℕ
greatest_residual [] = 0
greatest_residual (s ∷ stretches) = max s.residual (greatest_residual stretches)

-- a stretch and the one that is next to it: no judged place is between them, and fewer places than `audible` has taps
pub record AreNear (a : AskedContent) (bits : List Bool) (s t : Stretch) : Type 0 where
  pub one : IsStretch a bits s
  pub other : IsStretch a bits t
  pub before : s.last < t.first
  pub near : t.first ≤ s.last + length a.audible
  pub between : (n : ℕ) → IsJudged a bits n → s.last < n → t.first ≤ n

-- two stretches that are near each other are one
pub record IsJoined (s t joined : Stretch) : Type 0 where
  pub first : joined.first ≡ s.first
  pub last : joined.last ≡ t.last
  pub stretch : (a : AskedContent) (bits : List Bool) → AreNear a bits s t → IsStretch a bits joined

-- a stretch that follows the others was added to them
abbrev pub AddsStretch : ℕ → Stretch → List Stretch → List Stretch → Type 0
AddsStretch tap_number next old new = (a : AskedContent) (bits : List Bool) → length a.audible ≡ tap_number → IsStretch a bits next → AreStretchesTo a bits next.first old → AreStretchesTo a bits (next.last + 1) new
