-- Which rows of best sums were handed to a sink.
use Rattle.std.specs.Prelude.{ℕ, min, Bool, Option, List, ◌∷◌, ◌++◌, map}
use Rattle.cost_core.specs.Limits.{IsBridging}
use Rattle.cost_core.specs.Tables.{IsTable, value_in}
use Rattle.cost_core.specs.Validity.{IsValid}
use Rattle.cost_core.specs.Bridges.{Bridging, IsLeastBridge, bridge_cost}
use Rattle.cost_core.specs.StateCosts.{trellis_of}
use Rattle.cost_core.specs.Trellis.{Trellis}
use Rattle.cost_core.specs.Sinks.{HandsOver, HandsOverPart}
use Rattle.trellis_core.specs.LeastSums.{BestRows}

-- the rows of all levels were handed over, level 0 first
abbrev pub HandsOverAll : Trellis → (List ℕ → List ℕ) → Option (List ℕ) → Option (List ℕ) → Type 0
HandsOverAll t spelling old new = (rows : List (List ℕ)) × BestRows t rows × HandsOver spelling old new rows

-- the rows of the first levels were handed over, perhaps of none
abbrev pub HandsOverSome : Trellis → (List ℕ → List ℕ) → Option (List ℕ) → Option (List ℕ) → Type 0
HandsOverSome t spelling old new = (rows : List (List ℕ)) × (more : List (List ℕ)) × BestRows t (rows ++ more) × HandsOver spelling old new rows

-- the rows of the first levels, perhaps of none, and a prefix of the next were handed over
abbrev pub HandsOverUpTo : Trellis → (List ℕ → List ℕ) → Option (List ℕ) → Option (List ℕ) → Type 0
HandsOverUpTo t spelling old new =
    (rows : List (List ℕ)) × (row : List ℕ) × (more : List (List ℕ)) × BestRows t (rows ++ (row ∷ more)) × HandsOverPart spelling old new rows row

-- a row in which each value above a cost is the cost
abbrev pub capped_at : ℕ → List ℕ → List ℕ
capped_at cost row = map (λ v. min v cost) row

-- the spelling of a row that is capped at a cost
abbrev pub capped_spelling : ℕ → (List ℕ → List ℕ) → List ℕ → List ℕ
capped_spelling cost spelling row = spelling (capped_at cost row)

-- the rows of the first levels and a prefix of the next were handed over, capped at the cost of a least bridge
abbrev pub HandsOverCappedUpTo : Bridging → (List ℕ → List ℕ) → Option (List ℕ) → Option (List ℕ) → Type 0
HandsOverCappedUpTo d spelling old new = (x : List Bool) × IsLeastBridge d x × HandsOverUpTo (trellis_of d) (capped_spelling (bridge_cost d x) spelling) old new

-- law: a table of best sums that is capped at the cost of a least bridge is one of valid bounds
abbrev pub CappedRowsAreValid : Type 0
CappedRowsAreValid =
    (d : Bridging) (rows : List (List ℕ)) (x : List Bool) → IsBridging d → BestRows (trellis_of d) rows → IsLeastBridge d x
    → IsTable (trellis_of d) (map (capped_at (bridge_cost d x)) rows) × IsValid (trellis_of d) (value_in (map (capped_at (bridge_cost d x)) rows)) (bridge_cost d x) x

-- ---- the rows that a sink got for a bridge; what the sink's text, spelling and kind are is given first
-- the sink got the rows of all levels, level 0 first
abbrev pub GotAll : {S : Type 0} → (S → Option (List ℕ)) → (ℕ → List ℕ → List ℕ) → (S → ℕ) → S → S → Bridging → Type 0
GotAll text spelling kind old new d = HandsOverAll (trellis_of d) (spelling (kind old)) (text old) (text new)

-- the sink got the rows of the first levels, perhaps of none
abbrev pub GotSome : {S : Type 0} → (S → Option (List ℕ)) → (ℕ → List ℕ → List ℕ) → (S → ℕ) → S → S → Bridging → Type 0
GotSome text spelling kind old new d = HandsOverSome (trellis_of d) (spelling (kind old)) (text old) (text new)

-- the sink got the rows of the first levels, perhaps of none, and a prefix of the next
abbrev pub GotUpTo : {S : Type 0} → (S → Option (List ℕ)) → (ℕ → List ℕ → List ℕ) → (S → ℕ) → S → S → Bridging → Type 0
GotUpTo text spelling kind old new d = HandsOverUpTo (trellis_of d) (spelling (kind old)) (text old) (text new)

-- the sink got the rows of all levels, capped at a cost
abbrev pub GotCapped : {S : Type 0} → (S → Option (List ℕ)) → (ℕ → List ℕ → List ℕ) → (S → ℕ) → S → S → Bridging → ℕ → Type 0
GotCapped text spelling kind old new d cost = HandsOverAll (trellis_of d) (capped_spelling cost (spelling (kind old))) (text old) (text new)

-- the sink got the rows of the first levels, perhaps of none, and a prefix of the next, capped at a cost
abbrev pub GotCappedUpTo : {S : Type 0} → (S → Option (List ℕ)) → (ℕ → List ℕ → List ℕ) → (S → ℕ) → S → S → Bridging → ℕ → Type 0
GotCappedUpTo text spelling kind old new d cost = HandsOverUpTo (trellis_of d) (capped_spelling cost (spelling (kind old))) (text old) (text new)

-- the sink got the rows of the first levels, perhaps of none, and a prefix of the next, capped at the cost of a least
-- bridge
abbrev pub GotBestUpTo : {S : Type 0} → (S → Option (List ℕ)) → (ℕ → List ℕ → List ℕ) → (S → ℕ) → S → S → Bridging → Type 0
GotBestUpTo text spelling kind old new d = HandsOverCappedUpTo d (spelling (kind old)) (text old) (text new)
