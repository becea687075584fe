use Rattle.std.proofs.Common.{◌≡◌, true, drop, map}
use Rattle.std.specs.Prelude.{All}
use Rattle.chunk_core.specs.Places.{span_chunk}
use Rattle.dsdiff_core.specs.Masters.{has_no_cut_mark, masters_of}
use Rattle.dsdiff_core.specs.Held.{IsInMemory}
use Rattle.dsdiff_core.proofs.MasterLoop.{with_prefix}
use Rattle.dsdiff_core.specs.Held.{held}
use Rattle.dsdiff_core.proofs.masters.master_chunks.Given as goal

abbrev pub invariant-loop-span : goal.invariant-loop-span
invariant-loop-span l = record {
  so_far : with_prefix l.found.items (masters_of (held l.file) (drop l.span-index l.top)) ≡ masters_of (held l.file) l.top;
  inside : All (IsInMemory l.file) l.found.items;
  whole : has_no_cut_mark (map (span_chunk (held l.file)) l.found.items) ≡ true;
}
