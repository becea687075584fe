-- Parts that hold some bits of their takes, and are judged as those that hold all.
use Rattle.std.specs.Prelude.{◌≡◌, ℕ, ◌+◌, ◌-◌, ◌/◌, ◌≤◌, IsTrue, List, length, slice_get, slice_range, Some}
use Rattle.null_core.specs.Parts.{AskedContent, PartContent, added, has_place, part_bit}

-- a part has, of the bits of a whole one, those of a range that has all that its sound needs; otherwise it is the same
pub record IsExcerptOf (whole p : PartContent) : Type 0 where
  pub from : ℕ
  pub to : ℕ
  pub is : p ≡ record whole { bits = slice_range whole.bits from to; start = whole.start - from }
  pub low : from ≤ whole.start - length whole.taps / 2
  pub high : whole.start + whole.size + length whole.taps / 2 ≤ to

-- parts are excerpts of whole ones, each of the one of its number
pub record AreExcerptsOf (wholes parts : List PartContent) : Type 0 where
  pub as_many : length parts ≡ length wholes
  pub each : (i : ℕ) (whole p : PartContent) → slice_get wholes i ≡ Some whole → slice_get parts i ≡ Some p → IsExcerptOf whole p

-- two parts are of the same take, are heard at the same places with the same gains, add the same to the mix at each
-- place, and have the same bits at their places
pub record SoundAlike (p q : PartContent) : Type 0 where
  pub take : p.take ≡ q.take
  pub ahead : p.ahead ≡ q.ahead
  pub at : p.at ≡ q.at
  pub size : p.size ≡ q.size
  pub points : p.points ≡ q.points
  pub sound : (m : ℕ) → added m p ≡ added m q
  pub bit : (m : ℕ) → IsTrue (has_place m p) → part_bit p m ≡ part_bit q m

-- the same is asked for: parts that sound alike, number by number
pub record AreAskedAlike (a b : AskedContent) : Type 0 where
  pub unit : a.unit ≡ b.unit
  pub audible : a.audible ≡ b.audible
  pub every : a.every ≡ b.every
  pub as_many : length a.parts ≡ length b.parts
  pub each : (i : ℕ) (p q : PartContent) → slice_get a.parts i ≡ Some p → slice_get b.parts i ≡ Some q → SoundAlike p q
