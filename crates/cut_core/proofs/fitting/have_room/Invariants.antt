use Rattle.std.proofs.Common.{◌≡◌, Ok}
use Rattle.splice_core.specs.Splices.{splice_content}
use Rattle.cut_core.specs.Excerpts.{excerpts_shapes}
use Rattle.cut_core.specs.Opening.{each_before}
use Rattle.cut_core.specs.Rooms.{room_at}
use Rattle.cut_core.proofs.fitting.have_room.Given as goal

abbrev pub invariant-loop-i : goal.invariant-loop-i
invariant-loop-i l = record { before : each_before l.i (room_at (splice_content l.splice) (excerpts_shapes l.takes)) ≡ Ok tt }
