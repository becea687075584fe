-- The room that a bridge needs, and which part of it is missing first.
use Rattle.std.specs.Prelude.{◌≡◌, ℕ, ◌+◌, ◌^◌, ◌≤◌, Bool, List, length, Option, Some, None, Result, MatchResult, nat_lt, if◌then◌else◌}
use Rattle.splice_core.specs.Splices.{SpliceContent}
use Rattle.cost_core.specs.declared.fault.RoomFault.{RoomFault}
use Rattle.cost_core.specs.declared.fault.RoomFault.TheVariants as rooms
use Rattle.cost_core.specs.declared.fault.WindowFault.{WindowFault}
use Rattle.cost_core.specs.declared.fault.WindowFault.TheVariants.{NoRoomBefore, NoRoomAfter, Memory}
use Rattle.cost_core.specs.Targets.{Reach, reach_of}
use Rattle.cost_core.specs.Windows.{splice_cue}

-- the number of bits beyond its cues that the target of the bridge after cue i reads
abbrev pub reach_at : SpliceContent → ℕ → Reach
reach_at splice i = reach_of (splice_cue splice i).target (length splice.weights) (splice_cue splice i).bridge

-- the bridge after cue i has room, if the take of cue i has `count` bits: what its target reads is in the takes, before
-- the next cue and after cue i
pub record HasRoom (splice : SpliceContent) (i count : ℕ) : Type 0 where
  pub before : (reach_at splice i).before ≤ (splice_cue splice (i + 1)).start
  pub after : (splice_cue splice i).stop + (reach_at splice i).after ≤ count

-- the bridge after cue i can be made, if that cue ends at place `stop` of some bits a, and the next one begins at place
-- `start` of some bits b: these hold what its target and its weights read
pub record CanBridge (splice : SpliceContent) (i : ℕ) (a : List Bool) (stop : ℕ) (b : List Bool) (start : ℕ) : Type 0 where
  pub stop_in : stop ≤ 2 ^ 36
  pub start_in : start ≤ 2 ^ 36
  pub ends : length splice.weights ≤ stop + 1
  pub goes_on : start + length splice.weights ≤ length b + 1
  pub before : (reach_at splice i).before ≤ start
  pub after : stop + (reach_at splice i).after ≤ length a

-- which of the two is missing first
abbrev pub missing_room : SpliceContent → ℕ → ℕ → Option RoomFault
missing_room splice i count =
    let reach = reach_at splice i in
    if nat_lt (splice_cue splice (i + 1)).start reach.before then Some rooms.NoRoomBefore
    else (if nat_lt count ((splice_cue splice i).stop + reach.after) then Some rooms.NoRoomAfter else None)

-- the missing room that a fault names; none if memory ran out
abbrev pub named_room : WindowFault → Option RoomFault
named_room NoRoomBefore = Some rooms.NoRoomBefore
named_room NoRoomAfter = Some rooms.NoRoomAfter
named_room Memory = None

-- nothing is missing if a call succeeded, and otherwise what its fault names
abbrev pub NamesMissing : {T E : Type 0} → (E → Option RoomFault) → Result T E → Option RoomFault → Type 0
NamesMissing named result missing = MatchResult result (λ _. missing ≡ None) (λ fault. missing ≡ named fault)
