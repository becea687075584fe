-- How the gain of a clip changes: on straight lines from point to point.
use Rattle.std.specs.Prelude.{◌≡◌, ℕ, ◌+◌, ◌-◌, ◌^◌, ◌<◌, ◌≤◌, ℤ, pos, ◌+ℤ◌, ◌-ℤ◌, ◌*ℤ◌, unsigned_abs, List, [], ◌∷◌, All, length, nat_lt, if◌then◌else◌, slice_get, Some}
use Rattle.std.specs.Int.{int_div_euclid}
use Rattle.clip_core.specs.declared.gain.Point.{Point}

-- a gain of 1: 2 ^ 24
abbrev pub full_gain : ℤ
full_gain = pos (2 ^ 24)

-- the gain on the straight line from one point to another, rounded down
abbrev pub on_line : Point → Point → ℕ → ℤ
on_line p q k = p.gain +ℤ int_div_euclid ((q.gain -ℤ p.gain) *ℤ pos (k - p.place)) (pos (q.place - p.place))

-- the gain at a place that isn't before point p, which these points follow: on the line from the last point that isn't
-- after the place to the next one, and after the last point that point's gain
abbrev pub gain_after : Point → List Point → ℕ → ℤ
gain_after p [] k = p.gain
gain_after p (q ∷ qs) k = if nat_lt k q.place then on_line p q k else gain_after q qs k

-- the gain at a place, counted from the clip's first one: full gain if there are no points, and before the first point
-- that point's gain
abbrev pub gain : List Point → ℕ → ℤ
gain [] k = full_gain
gain (p ∷ ps) k = if nat_lt k p.place then p.gain else gain_after p ps k

-- the limits of a point: its place is at most 2 ^ 36, and the absolute value of its gain at most 2 ^ 26
pub record IsPoint (p : Point) : Type 0 where
  pub place_fits : p.place ≤ 2 ^ 36
  pub gain_fits : unsigned_abs p.gain ≤ 2 ^ 26

-- each point is after the one before
abbrev pub AreRising : List Point → Type 0
AreRising points = (i : ℕ) (p q : Point) → slice_get points i ≡ Some p → slice_get points (i + 1) ≡ Some q → p.place < q.place

-- the limits of the two ends of a line
pub record IsLine (p q : Point) : Type 0 where
  pub first : IsPoint p
  pub last : IsPoint q
  pub rising : p.place < q.place

-- the limits of points; there may be none
pub record ArePoints (points : List Point) : Type 0 where
  pub few : length points ≤ 4096
  pub each : All IsPoint points
  pub rising : AreRising points
