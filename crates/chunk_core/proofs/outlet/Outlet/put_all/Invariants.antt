-- What is gone from `rest` was appended, and no write failed yet.
use Rattle.std.proofs.Common.{◌≡◌, ℕ, List, ◌++◌, length}
use Rattle.std.specs.Io.KnownBytes.{Appends}
use Rattle.chunk_core.specs.Outlets.{outlet_writer, outlet_failures}
use Rattle.chunk_core.proofs.outlet.Outlet.put_all.Given as goal

abbrev pub invariant-loop-rest : goal.invariant-loop-rest
invariant-loop-rest g l = (done : List ℕ) × (l.initial.rest ≡ done ++ l.rest)
    × Appends (g.W.Write.contents (outlet_writer l.initial.self)) (g.W.Write.contents (outlet_writer l.self)) done
    × (outlet_failures l.self ≡ outlet_failures l.initial.self)

abbrev pub decreases-loop-rest : goal.decreases-loop-rest
decreases-loop-rest g l = length l.rest
