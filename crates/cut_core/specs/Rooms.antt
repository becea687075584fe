-- The room that bridges need in the takes.
use Rattle.std.specs.Prelude.{ℕ, ◌+◌, ◌<◌, ◌≤◌, ◌==◌, if◌then◌else◌, List, Option, None, Some, Result, Ok, Err, length, ⊤}
use Rattle.dsd_bits.specs.Contents.{Content}
use Rattle.splice_core.specs.Splices.{SpliceContent}
use Rattle.cost_core.specs.Faults as costs
use Rattle.cost_core.specs.Windows.{splice_cue}
use Rattle.cost_core.specs.declared.fault.RoomFault.{RoomFault}
use Rattle.cost_core.specs.declared.fault.RoomFault.TheVariants as rooms
use Rattle.cut_core.specs.Cuts.{count_at}
use Rattle.cut_core.specs.Excerpts.{TakeShape, shape_of_cue}
use Rattle.cut_core.specs.declared.fault.CutFault.{CutFault}
use Rattle.cut_core.specs.declared.fault.CutFault.TheVariants.{NoRoomBefore, NoRoomAfter}

-- the missing room of the bridge after cue i as a fault, if any is missing
abbrev pub wanted : ℕ → Option RoomFault → Result ⊤ CutFault
wanted i None = Ok tt
wanted i (Some rooms.NoRoomBefore) = Err (NoRoomBefore i)
wanted i (Some rooms.NoRoomAfter) = Err (NoRoomAfter i)

-- the bridge after cue i, if there is one, has room in both takes
abbrev pub HasRoomAt : SpliceContent → List Content → ℕ → Type 0
HasRoomAt splice takes i = 1 ≤ (splice_cue splice i).bridge → costs.HasRoom splice i (count_at splice takes i)

-- each bridge has room
abbrev pub HaveRoom : SpliceContent → List Content → Type 0
HaveRoom splice takes = (i : ℕ) → i + 1 < length splice.cues → HasRoomAt splice takes i

-- whether the bridge after cue i, if there is one, has room, or the first room that is missing
abbrev pub room_at : SpliceContent → List TakeShape → ℕ → Result ⊤ CutFault
room_at splice shapes i = if (splice_cue splice i).bridge == 0 then Ok tt else wanted i (costs.missing_room splice i (shape_of_cue splice shapes i).count)
