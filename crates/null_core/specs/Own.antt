-- Where a master has a take's own bits.
use Rattle.std.specs.Prelude.{◌≡◌, ◌≢◌, ℕ, ◌+◌, ◌<◌, ◌≤◌, ℤ, pos, Bool, false, IsTrue, List, length, slice_get, slice_index_or, Some}
use Rattle.clip_core.specs.Gains.{full_gain}
use Rattle.null_core.specs.Parts.{AskedContent, PartContent, has_place, part_bit, part_gain, reach}

-- a part is heard at a place: it has the place, and its gain there isn't 0
pub record IsHeard (m : ℕ) (p : PartContent) : Type 0 where
  pub there : IsTrue (has_place m p)
  pub loud : part_gain p m ≢ pos 0

-- at a place a part has a gain of 1 and is of a take that is so far ahead
pub record IsWhole (t : ℕ) (o : ℤ) (m : ℕ) (p : PartContent) : Type 0 where
  pub full : part_gain p m ≡ full_gain
  pub take : p.take ≡ t
  pub ahead : p.ahead ≡ o

-- a place is asked to be a take's own: a part is heard there, and each that is has a gain of 1 and is of this take, which
-- is so far ahead
pub record IsAlone (parts : List PartContent) (t : ℕ) (o : ℤ) (m : ℕ) : Type 0 where
  pub heard : (i : ℕ) × (p : PartContent) × (slice_get parts i ≡ Some p) × IsHeard m p
  pub each : (i : ℕ) (p : PartContent) → slice_get parts i ≡ Some p → IsHeard m p → IsWhole t o m p

-- each part that is heard at a place has the master's bit there
abbrev pub HasBit : List PartContent → List Bool → ℕ → Type 0
HasBit parts bits m = (i : ℕ) (p : PartContent) → slice_get parts i ≡ Some p → IsHeard m p → slice_index_or bits m false ≡ part_bit p m

-- a place of the master is a take's own
pub record IsOwn (parts : List PartContent) (bits : List Bool) (t : ℕ) (o : ℤ) (m : ℕ) : Type 0 where
  pub alone : IsAlone parts t o m
  pub same : HasBit parts bits m

-- all places of the master that `audible` reaches from place n are the same take's own
abbrev pub IsOwnAround : AskedContent → List Bool → ℕ → ℤ → ℕ → Type 0
IsOwnAround a bits t o n = (m : ℕ) → n ≤ m + reach a → m ≤ n + reach a → m < length bits → IsOwn a.parts bits t o m

-- place n is edited: it isn't own around for any take
abbrev pub IsEdited : AskedContent → List Bool → ℕ → Type 0
IsEdited a bits n = (t : ℕ) (o : ℤ) → IsOwnAround a bits t o n → ⊥
