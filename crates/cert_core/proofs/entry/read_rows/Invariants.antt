-- The rows so far were read and are clean, and `previous` is the last of them.
use Rattle.std.proofs.Common.{◌≡◌, ◌+◌, ◌*◌, length}
use Rattle.chunk_core.specs.Inlets.{inlet_reader, inlet_failures}
use Rattle.cost_core.specs.StateCosts.{trellis_of}
use Rattle.cost_core.specs.Trellis.{states}
use Rattle.cert_core.proofs.Entries.{RowsSoFar}
use Rattle.cert_core.proofs.entry.read_rows.Given as goal

abbrev pub invariant-loop-level : goal.invariant-loop-level
invariant-loop-level g l = RowsSoFar l.version (trellis_of l.window) (g.R.Read.remaining (inlet_reader l.initial.inlet)) (g.R.Read.remaining (inlet_reader l.inlet)) l.level l.previous.items
    × (length l.row.items ≡ states (trellis_of l.window))
    × (length l.buffer.items ≡ 8 + 8 * states (trellis_of l.window))
    × (inlet_failures l.inlet ≡ inlet_failures l.initial.inlet)
