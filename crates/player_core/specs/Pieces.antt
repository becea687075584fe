-- Frames that are played piece by piece.
use Rattle.std.specs.Prelude.{◌≡◌, ℕ, ◌-◌, ◌/◌, ◌%◌, ◌<◌, ◌≤◌, List, [], ◌++◌, drop, length, slice_index, Option, ⊤}
use Rattle.std.specs.Io.KnownBytes.{Appends}
use Rattle.chunk_core.specs.Outlets.{AppendsPrefix}
use Rattle.player_core.specs.PartView.{IsPartFed, part_all, part_due, part_rest, part_start}
use Rattle.dsd_bits.specs.Blocks.{blocks_size}
use Rattle.dsd_bits.specs.declared.interleaving.Interleaving.TheVariants.{Bytes, Blocks}
use Rattle.interleave_core.specs.Reinterleaving.{reinterleaved}
use Rattle.player_core.specs.declared.groups.WholeGroups.{WholeGroups}
use Rattle.player_core.specs.declared.parts.PartPlayer.{PartPlayer}
use Rattle.player_core.specs.declared.piece.BlockPiece.{BlockPiece}
use Rattle.player_core.specs.declared.piece.Piece.{Piece}
use Rattle.player_core.specs.declared.piece.Piece.TheVariants as pieces
use Rattle.player_core.specs.declared.player.Player.{Player}

-- the bytes of the sound that a piece stands for
abbrev pub piece_bytes : Piece → List ℕ
piece_bytes (pieces.Same bytes) = bytes.now
piece_bytes (pieces.Blocks blocks) = reinterleaved (Blocks blocks.order) Bytes blocks.stretch.channels blocks.stretch.count blocks.bytes.now

-- the groups of blocks, from which all bytes of each channel are taken
abbrev pub block_groups : BlockPiece → WholeGroups
block_groups blocks = record { bytes = blocks.bytes; channels = blocks.stretch.channels; interleaving = Blocks blocks.order; number = blocks.stretch.count / 8 }

-- the player's sound has n channels, a byte of each in turn, and the player holds no part of a frame
pub record IsBetweenFrames (p : Player) (n : ℕ) : Type 0 where
  pub held : p.held.items ≡ []
  pub channels : p.sound.channels ≡ n
  pub frames : p.sound.interleaving ≡ Bytes

-- the blocks have whole bytes of each channel, and nothing after their last group
pub record AreWholeBlocks (blocks : BlockPiece) : Type 0 where
  pub whole : blocks.stretch.count % 8 ≡ 0
  pub size : length blocks.bytes.now ≡ blocks_size blocks.stretch.channels blocks.stretch.count
  pub small : (k : ℕ) → slice_index blocks.bytes.now k < 256

-- the player can take the piece as it is
abbrev pub Takes : Player → Piece → Type 0
Takes p (pieces.Same bytes) = ⊤
Takes p (pieces.Blocks blocks) = IsBetweenFrames p blocks.stretch.channels × AreWholeBlocks blocks

-- after `came` bytes of the sound the player of the part can take the piece as it is
abbrev pub IsInPlace : PartPlayer → ℕ → Piece → Type 0
IsInPlace p came (pieces.Same bytes) = ⊤
IsInPlace p came (pieces.Blocks blocks) = (part_start p ≤ came) × Takes p.player (pieces.Blocks blocks)

-- the bytes of a piece that are in the part's rest, if `came` bytes of the sound came before the piece
abbrev pub rest_piece : PartPlayer → ℕ → List ℕ → List ℕ
rest_piece p came piece = drop (part_start p - came) piece

-- after whatever bytes of the rest the player was fed, it was fed these, and what of the part was due then and not
-- before was written
abbrev pub PutsDue : PartPlayer → PartPlayer → List ℕ → Option (List ℕ) → Option (List ℕ) → Type 0
PutsDue old new bytes held_old held_new = (more : List ℕ) × Appends held_old held_new more
    × ((before : List ℕ) → IsPartFed old before → IsPartFed new (before ++ bytes) × (part_due old (before ++ bytes) ≡ part_due old before ++ more))

-- the rest of the part's frames was written, of each sound whose rest begins with what the player was fed
abbrev pub PutsRest : PartPlayer → Option (List ℕ) → Option (List ℕ) → Type 0
PutsRest old held_old held_new = (more : List ℕ) × Appends held_old held_new more
    × ((before rest : List ℕ) → IsPartFed old before → length (before ++ rest) ≡ (part_rest old).size → part_all old (before ++ rest) ≡ part_due old before ++ more)

-- whatever the sound is whose rest the player was fed a prefix of, with these bytes after it, a prefix was written of
-- those frames of the part that were not due
abbrev pub PutsPrefixOf : PartPlayer → List ℕ → Option (List ℕ) → Option (List ℕ) → Type 0
PutsPrefixOf p bytes held_old held_new = (before rest : List ℕ) → IsPartFed p before → length (before ++ (bytes ++ rest)) ≡ (part_rest p).size
    → (more : List ℕ) × (part_all p (before ++ (bytes ++ rest)) ≡ part_due p before ++ more) × AppendsPrefix held_old held_new more
