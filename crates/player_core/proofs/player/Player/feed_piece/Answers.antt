use Rattle.std.proofs.Common.{◌≡◌, ◌∙◌, ap, arith, length, subst, sym}
use Rattle.std.proofs.lemmas.Result.{on_ok_weaker}
use Rattle.player_core.specs.Pieces.{AreWholeBlocks, IsBetweenFrames, Takes, piece_bytes}
use Rattle.player_core.specs.declared.piece.Piece.TheVariants as pieces
use Rattle.player_core.proofs.BlockLaws.{piece_long, piece_next, piece_parts}
use Rattle.player_core.proofs.player.Player.feed_piece.Goals as goal
use Rattle.player_core.proofs.player.Player.feed_piece.Goals.{After-size}

between : (c : After-size) → IsBetweenFrames c.args.self.now c.in-Blocks.blocks.stretch.channels
between c = (subst (Takes c.args.self.now) c.in-Blocks.is c.requires.takes).0

whole : (c : After-size) → AreWholeBlocks c.in-Blocks.blocks
whole c = (subst (Takes c.args.self.now) c.in-Blocks.is c.requires.takes).1

size : (c : After-size) → length (piece_bytes c.args.piece) ≡ c.size.result
size c = ap (λ p. length (piece_bytes p)) c.in-Blocks.is ∙ piece_long c.in-Blocks.blocks ∙ sym c.size.ensures

pub feed_groups-requires-clause-nothing_held : goal.feed_groups-requires-clause-nothing_held
feed_groups-requires-clause-nothing_held c = (between (goal.at.feed_groups-requires-clause-nothing_held c).After-size).held

pub feed_groups-requires-clause-few : goal.feed_groups-requires-clause-few
feed_groups-requires-clause-few c = omega (arith, c.requires.few, size (goal.at.feed_groups-requires-clause-few c).After-size)

pub feed_groups-requires-clause-groups : goal.feed_groups-requires-clause-groups
feed_groups-requires-clause-groups c =
    let w = (goal.at.feed_groups-requires-clause-groups c).After-size in
    rw (c.groups.ensures, c.size.ensures) (piece_next c.args.self.now c.requires.ready c.in-Blocks.blocks (between w) (whole w) (omega (arith, c.requires.few, size w, c.size.ensures)))

pub returns-in-Same-clause-ok : goal.returns-in-Same-clause-ok
returns-in-Same-clause-ok c = rw c.in-Same.is c.feed.ensures.ok

pub returns-in-Blocks-clause-fed : goal.returns-in-Blocks-clause-fed
returns-in-Blocks-clause-fed c = rw (size (goal.at.returns-in-Blocks-clause-fed c).After-size) c.feed_groups.ensures.fed

pub returns-in-Blocks-clause-ok : goal.returns-in-Blocks-clause-ok
returns-in-Blocks-clause-ok c =
    let b = c.in-Blocks.blocks in
    let s = c.args.self.now.sound in
    let w = (goal.at.returns-in-Blocks-clause-ok c).After-size in
    on_ok_weaker c.feed_groups.result (λ feeds. rw c.in-Blocks.is (feeds (piece_bytes (pieces.Blocks b)) (piece_long b ∙ sym c.size.ensures) (rw c.groups.ensures (piece_parts s b (between w).frames (between w).channels (whole w))))) c.feed_groups.ensures.ok
