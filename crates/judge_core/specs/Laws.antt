-- How the words of the contracts are related.
use Rattle.std.specs.Prelude.{ℕ, List}
use Rattle.judge_core.specs.Accepting.{Accepts, CostsLeast, CostsWindows, IsLeastMaster, IsMaster}

-- what is accepted with a certificate is a master of the project and takes
abbrev pub AcceptedIsMaster : Type 0
AcceptedIsMaster = (project : List ℕ) (files : List (List ℕ)) (master cert : List ℕ) (cost : ℕ) → Accepts project files master cert cost → IsMaster project files master

-- none of the bridges of an accepted master could cost less
abbrev pub AcceptedIsLeast : Type 0
AcceptedIsLeast = (project : List ℕ) (files : List (List ℕ)) (master cert : List ℕ) (cost : ℕ) → Accepts project files master cert cost → IsLeastMaster project files master

-- no master of the project and takes costs less than the cost at which a master is accepted
abbrev pub AcceptedCostsLeast : Type 0
AcceptedCostsLeast = (project : List ℕ) (files : List (List ℕ)) (master cert : List ℕ) (cost : ℕ) → Accepts project files master cert cost → CostsLeast project files master cost

-- the cost at which a master is accepted is the sum over all bridges of what their bits cost over their windows
abbrev pub AcceptedCostsWindows : Type 0
AcceptedCostsWindows = (project : List ℕ) (files : List (List ℕ)) (master cert : List ℕ) (cost : ℕ) → Accepts project files master cert cost → CostsWindows project files master cost
