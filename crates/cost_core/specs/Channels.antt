-- A whole channel of a master: cues and bridges in turn, and the cost of its places.
use Rattle.std.specs.Prelude.{◌≡◌, ℕ, suc, ◌+◌, ◌-◌, ◌<◌, ◌≤◌, ◌==◌, if◌then◌else◌, Bool, List, [], ◌∷◌, ◌++◌, length, take, drop}
use Rattle.splice_core.specs.Cues.{IsSplicing}
use Rattle.splice_core.specs.Splices.{SpliceContent}
use Rattle.cost_core.specs.Windows.{splice_cue, cued, bridging}
use Rattle.cost_core.specs.Bridges.{Bridging, places_cost, bridge_cost, IsLeastBridge}

-- a bridge and the cue after it
pub record Part : Type 0 where
  pub bridging : Bridging
  pub cue : List Bool

-- a cue, then for each part the bits of its bridge and its cue
unfoldable pub channel : List Bool → List Part → List (List Bool) → List Bool
channel cue [] xs = cue
channel cue (p ∷ ps) [] = cue
channel cue (p ∷ ps) (x ∷ xs) = cue ++ (x ++ channel p.cue ps xs)

-- an empty bridge, a plain cut, costs nothing
abbrev pub unless_cut : Bridging → ℕ → ℕ
unless_cut d cost = if d.levels == 0 then 0 else cost

-- the cost of a channel z, read whole: the sum over the places of all bridges; the first bit of the first bridge has
-- index m
unfoldable pub channel_cost : List Bool → ℕ → List Part → ℕ
channel_cost z m [] = 0
channel_cost z m (p ∷ ps) =
    unless_cut p.bridging (places_cost p.bridging z m) + channel_cost z (m + p.bridging.levels + length p.cue) ps

-- the same over the windows alone
unfoldable pub windows_cost : List Part → List (List Bool) → ℕ
windows_cost [] xs = 0
windows_cost (p ∷ ps) [] = 0
windows_cost (p ∷ ps) (x ∷ xs) = unless_cut p.bridging (bridge_cost p.bridging x) + windows_cost ps xs

-- a bridge's window is built from the ends of the cues that it joins, and a weight reads no further
pub record Joins (cue : List Bool) (p : Part) : Type 0 where
  pub as_many : length p.bridging.weights ≡ suc (length p.bridging.preceding)
  pub before_in : length p.bridging.preceding ≤ length cue
  pub before_is : p.bridging.preceding ≡ drop (length cue - length p.bridging.preceding) cue
  pub after_in : length p.bridging.following ≤ length p.cue
  pub after_is : p.bridging.following ≡ take (length p.bridging.following) p.cue

-- each bridge joins the cue before it and its own
unfoldable pub AreJoined : List Bool → List Part → Type 0
AreJoined cue [] = Unit {0}
AreJoined cue (p ∷ ps) = Joins cue p × AreJoined p.cue ps

-- there are as many lists of bits as bridges, and they have the bridges' lengths
unfoldable pub HaveLengths : List Part → List (List Bool) → Type 0
HaveLengths [] [] = Unit {0}
HaveLengths [] (x ∷ xs) = ⊥
HaveLengths (p ∷ ps) [] = ⊥
HaveLengths (p ∷ ps) (x ∷ xs) = (length x ≡ p.bridging.levels) × HaveLengths ps xs

-- each bridge is least
unfoldable pub AreLeast : List Part → List (List Bool) → Type 0
AreLeast [] xs = Unit {0}
AreLeast (p ∷ ps) [] = Unit {0}
AreLeast (p ∷ ps) (x ∷ xs) = IsLeastBridge p.bridging x × AreLeast ps xs

-- law: the cost of a whole channel is the sum over its windows
abbrev pub PlacesAreWindows : Type 0
PlacesAreWindows =
    (cue : List Bool) (ps : List Part) (xs : List (List Bool)) → AreJoined cue ps → HaveLengths ps xs → channel_cost (channel cue ps xs) (length cue) ps ≡ windows_cost ps xs

-- law: least bridges make a channel than which none with bridges of these lengths costs less
abbrev pub LeastTogether : Type 0
LeastTogether =
    (cue : List Bool) (ps : List Part) (xs ys : List (List Bool)) → AreJoined cue ps → HaveLengths ps xs → HaveLengths ps ys → AreLeast ps xs →
    channel_cost (channel cue ps xs) (length cue) ps ≤ channel_cost (channel cue ps ys) (length cue) ps

-- law: the window of the bridge after a cue joins that cue and the next one, whatever its length and its target
abbrev pub FadesJoin : Type 0
FadesJoin =
    (splice : SpliceContent) (i : ℕ) (a b : List Bool) → IsSplicing splice.weights (length splice.takes) splice.cues → i + 1 < length splice.cues →
    (splice_cue splice i).stop ≤ length a → (splice_cue splice (i + 1)).stop ≤ length b → Joins (cued splice i a) (record { bridging = bridging splice i a b; cue = cued splice (i + 1) b })
