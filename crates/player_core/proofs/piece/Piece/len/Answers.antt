use Rattle.std.proofs.Common.{◌∙◌, ap, length, sym}
use Rattle.player_core.specs.Pieces.{piece_bytes}
use Rattle.player_core.proofs.BlockLaws.{piece_long}
use Rattle.player_core.proofs.piece.Piece.len.Goals as goal

pub returns-in-Blocks : goal.returns-in-Blocks
returns-in-Blocks c = c.size.ensures ∙ sym (piece_long c.in-Blocks.blocks) ∙ ap (λ p. length (piece_bytes p)) (sym c.in-Blocks.is)
