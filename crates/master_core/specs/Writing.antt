-- What is written of a master, and the memory reserved for it.
use Rattle.std.specs.Prelude.{◌≡◌, ℕ, ◌+◌, ◌*◌, ◌/◌, ◌%◌, ◌≤◌, Bool, List, Option, Result, MatchResult, All, length, map, vec_capacity}
use Rattle.std.specs.Io.KnownBytes.{Appends}
use Rattle.chunk_core.specs.Outlets.{AppendsPart, outlet_failures, outlet_writer}
use Rattle.chunk_core.specs.declared.outlet.Outlet.{Outlet}
use Rattle.dsd_bits.specs.declared.interleaving.Interleaving.{Interleaving}
use Rattle.dsd_bits.specs.declared.stretches.BitRange.{BitRange}
use Rattle.dsd_bits.specs.Rooms.{RoomContent}
use Rattle.interleave_core.specs.Reinterleaving.{laced_in}
use Rattle.cut_core.specs.Cuts.{CutContent, master_length, take_channels}
use Rattle.master_core.specs.Best.{AreBestChannels}
use Rattle.master_core.specs.Parting.{within}
use Rattle.master_core.specs.declared.writing.MasterRoom.{MasterRoom}

-- there are n `BitRoom`s, each with memory for at least `most` bits
pub record AreRooms (number most : ℕ) (rooms : List RoomContent) : Type 0 where
  pub as_many : length rooms ≡ number
  pub large : All (λ room. most ≤ room.most) rooms

-- a `MasterRoom` is large enough to write a master of the cut: for whole groups of blocks of its channels, and for
-- their sound bytes
pub record IsRoomFor (cut : CutContent) (room : MasterRoom) : Type 0 where
  pub rooms : AreRooms (take_channels cut) room.stretch room.rooms.items
  pub some : 32768 ≤ room.stretch
  pub groups : room.stretch % 32768 ≡ 0
  pub fits : room.stretch / 32768 * take_channels cut ≤ 16
  pub held : 65536 ≤ vec_capacity room.out

-- the cut has one list of best channels, each as long as the master, and no other
pub record HasOneBest (cut : CutContent) : Type 0 where
  pub channels : List (List Bool)
  pub best : AreBestChannels cut channels
  pub long : All (λ z. length z ≡ master_length cut.splice.cues) channels
  pub only : (others : List (List Bool)) → AreBestChannels cut others → others ≡ channels

-- the sound bytes of the best channels were appended
pub record WritesBest (cut : CutContent) (to : Interleaving) (old new : Option (List ℕ)) : Type 0 where
  pub channels : List (List Bool)
  pub best : AreBestChannels cut channels
  pub written : Appends old new (laced_in to channels)

-- a prefix of the sound bytes of the best channels was appended, and not all of them
pub record WritesBestPrefix (cut : CutContent) (to : Interleaving) (old new : Option (List ℕ)) : Type 0 where
  pub channels : List (List Bool)
  pub best : AreBestChannels cut channels
  pub written : AppendsPart old new (laced_in to channels)

-- the sound bytes of the part of the best channels in a range were appended
pub record WritesPart (cut : CutContent) (to : Interleaving) (range : BitRange) (old new : Option (List ℕ)) : Type 0 where
  pub channels : List (List Bool)
  pub best : AreBestChannels cut channels
  pub written : Appends old new (laced_in to (map (within range) channels))

-- a prefix of the sound bytes of this part was appended, and not all of them
pub record WritesPartPrefix (cut : CutContent) (to : Interleaving) (range : BitRange) (old new : Option (List ℕ)) : Type 0 where
  pub channels : List (List Bool)
  pub best : AreBestChannels cut channels
  pub written : AppendsPart old new (laced_in to (map (within range) channels))

-- P holds of the bytes that an outlet's writer has before and after, known or not
abbrev pub OnBytes : {W : Type 0} → (W → Option (List ℕ)) → Outlet W → Outlet W → (Option (List ℕ) → Option (List ℕ) → Type 0) → Type 0
OnBytes contents old new P = P (contents (outlet_writer old)) (contents (outlet_writer new))

-- one write to the outlet failed if the call did, and none if it succeeded
abbrev pub CountsFailure : {W T E : Type 0} → Result T E → Outlet W → Outlet W → Type 0
CountsFailure result old new = MatchResult result (λ _. outlet_failures new ≡ outlet_failures old) (λ _. outlet_failures new ≡ outlet_failures old + 1)
