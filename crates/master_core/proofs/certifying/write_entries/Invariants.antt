-- The entries of the bridges below k are written.
use Rattle.std.proofs.Common.{◌≡◌, ◌+◌, ◌-◌, ◌^◌, length, take}
use Rattle.cert_core.specs.Writers.{cert_outlet, entries_left, failures_before}
use Rattle.chunk_core.specs.Outlets.{outlet_writer}
use Rattle.master_core.specs.Certifying.{AppendsEntries, IsBetweenEntries}
use Rattle.master_core.specs.Choosing.{chosen_claims}
use Rattle.trellis_core.specs.Passes.{HasBuffers}
use Rattle.master_core.proofs.certifying.write_entries.Given as goal

abbrev pub invariant-loop-k : goal.invariant-loop-k
invariant-loop-k g l = record {
  written : AppendsEntries (take l.k (chosen_claims l.cut l.bridges.places.items l.bridges.chosen.items)) (g.W.Write.contents (outlet_writer (cert_outlet l.initial.writer))) (g.W.Write.contents (outlet_writer (cert_outlet l.writer)));
  ready : IsBetweenEntries (length l.cut.splice.weights) l.writer;
  left : entries_left l.writer + l.k ≡ length l.bridges.places.items;
  before : failures_before l.writer ≡ failures_before l.initial.writer;
  room : HasBuffers (2 ^ (length l.cut.splice.weights - 1)) l.pass;
}
