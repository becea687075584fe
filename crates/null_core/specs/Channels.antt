-- The bits of a channel of a master, block by block.
use Rattle.std.specs.Prelude.{◌≡◌, ℕ, ◌+◌, ◌^◌, ◌<◌, ◌≤◌, Bool, false, List, ◌++◌, All, length, slice_index_or, slice_range}
use Rattle.std.specs.List.{flat_map}
use Rattle.null_core.specs.declared.channel.Block.{Block}
use Rattle.null_core.specs.declared.channel.Block.TheVariants.{Kept, OfPart}
use Rattle.null_core.specs.declared.channel.Channel.TheInside.{Inside}
use Rattle.null_core.specs.declared.channel.Piece.{Piece}

-- the bits of a block
abbrev pub block_bits : Block → List Bool
block_bits (Kept bits) = bits
block_bits (OfPart bits from) = slice_range bits.now from (from + 65536)

-- the bits of blocks, one after another
abbrev pub blocks_bits : List Block → List Bool
blocks_bits blocks = flat_map block_bits blocks

-- the bits of a channel: those of its blocks, and the last ones
abbrev pub channel_view : Inside → List Bool
channel_view x = blocks_bits x.blocks.items ++ x.last

-- a block has 65,536 bits
abbrev pub IsFull : Block → Type 0
IsFull block = length (block_bits block) ≡ 65536

-- each block is full, and fewer bits than a block has follow the last one
pub record KeepsChannel (x : Inside) : Type 0 where
  pub full : All IsFull x.blocks.items
  pub rest : length x.last < 65536
  pub few : length (channel_view x) ≤ 2 ^ 36

-- blocks and bits after them became these: blocks that were full are, the bits don't fill one, and no bits were added
pub record AreSettled (blocks : List Block) (last : List Bool) (new_blocks : List Block) (new_last : List Bool) : Type 0 where
  pub full : All IsFull blocks → All IsFull new_blocks
  pub rest : length new_last < 65536
  pub few : length (blocks_bits new_blocks ++ new_last) ≤ length (blocks_bits blocks ++ last)

-- from place i on, a list has the bits of the piece
pub record IsPieceAt (bits : List Bool) (i : ℕ) (piece : Piece) : Type 0 where
  pub some : 0 < piece.size
  pub inside : i + piece.size ≤ length bits
  pub there : piece.from + piece.size ≤ length piece.bits.now
  pub same : (k : ℕ) → k < piece.size → slice_index_or bits (i + k) false ≡ slice_index_or piece.bits.now (piece.from + k) false
