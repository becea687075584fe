-- Which bytes are an entry that shows bits to be least (weak duality of shortest paths).
use Rattle.std.specs.Prelude.{◌≡◌, ℕ, Bool, List, ◌++◌, Option}
use Rattle.std.specs.Io.KnownBytes.{Consumes}
use Rattle.cost_core.specs.Trellis.{Trellis}
use Rattle.cost_core.specs.Validity.{IsValid}
use Rattle.cost_core.specs.Tables.{value_in, IsTable}
use Rattle.cert_core.specs.Text.{cert_entry}
use Rattle.cert_core.specs.declared.version.Version.{Version}

-- these bytes are, in a version, the entry of a cue and a channel with a table that is valid for the bits x
abbrev pub IsEntry : Version → Trellis → ℕ → ℕ → List Bool → List ℕ → Type 0
IsEntry v t cue channel x bytes = (rows : List (List ℕ)) × (stated : ℕ) × IsTable t rows × IsValid t (value_in rows) stated x
    × (bytes ≡ cert_entry v (record { cue = cue; channel = channel; levels = t.levels; rows = rows; cost = stated }))

-- these bytes begin with such an entry
abbrev pub BeginsValid : Version → Trellis → ℕ → ℕ → List Bool → List ℕ → Type 0
BeginsValid v t cue channel x bytes = (entry : List ℕ) × (rest : List ℕ) × (bytes ≡ entry ++ rest) × IsEntry v t cue channel x entry

-- just such an entry was read, of known or of unknown bytes
abbrev pub ReadsEntry : Version → Trellis → ℕ → ℕ → List Bool → Option (List ℕ) → Option (List ℕ) → Type 0
ReadsEntry v t cue channel x old new = (entry : List ℕ) × Consumes old new entry × IsEntry v t cue channel x entry
