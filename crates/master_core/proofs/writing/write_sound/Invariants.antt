-- N bits of each channel were written so far, whole groups of them if more follow.
use Rattle.std.proofs.Common.{◌≡◌, ◌-◌, ◌%◌, ◌<◌, ◌≤◌}
use Rattle.chunk_core.specs.Outlets.{outlet_failures, outlet_writer}
use Rattle.master_core.specs.Writing.{IsRoomFor}
use Rattle.master_core.proofs.WritingLaws.{HasWritten}
use Rattle.master_core.proofs.writing.write_sound.Given as goal

abbrev pub invariant-loop-from : goal.invariant-loop-from
invariant-loop-from g l = record {
  written : HasWritten l.source.cut.now l.to l.from (g.W.Write.contents (outlet_writer l.initial.outlet)) (g.W.Write.contents (outlet_writer l.outlet));
  groups : l.from < l.length → l.from % 32768 ≡ 0;
  inside : l.from ≤ l.length;
  room : IsRoomFor l.source.cut.now l.room;
  failures : outlet_failures l.outlet ≡ outlet_failures l.initial.outlet;
}

abbrev pub decreases-loop-from : goal.decreases-loop-from
decreases-loop-from g l = l.length - l.from
