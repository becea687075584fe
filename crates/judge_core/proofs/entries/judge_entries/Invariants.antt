use Rattle.std.proofs.Common.{◌≡◌, ◌≤◌, ◌*◌, ◌^◌, true, map, take}
use Rattle.std.specs.List.{All, sum_by}
use Rattle.chunk_core.specs.Inlets.{inlet_failures, inlet_reader}
use Rattle.cert_core.specs.Readers.{cert_inlet, has_read_head, read_version}
use Rattle.judge_core.specs.Judging.{ReadsEntries}
use Rattle.cut_core.specs.Claims.{IsLeastClaim, claim_cost}
use Rattle.judge_core.specs.Kept.{claim_from, kept_items}
use Rattle.judge_core.proofs.entries.judge_entries.Given as goal

abbrev pub invariant-loop-k : goal.invariant-loop-k
invariant-loop-k g l =
    let cs = map (claim_from l.cut (kept_items l.kept)) l.places in
    record {
      entries : ReadsEntries (read_version l.fn.reader) (take l.k cs) (g.R.Read.remaining (inlet_reader (cert_inlet l.fn.reader))) (g.R.Read.remaining (inlet_reader (cert_inlet l.reader)));
      cost_is : l.total ≡ sum_by claim_cost (take l.k cs);
      bound : l.total ≤ l.k * 2 ^ 64;
      least : All IsLeastClaim (take l.k cs);
      read : has_read_head l.reader ≡ true;
      version : read_version l.reader ≡ read_version l.fn.reader;
      failures : inlet_failures (cert_inlet l.reader) ≡ inlet_failures (cert_inlet l.fn.reader);
    }
