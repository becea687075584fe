use Rattle.std.proofs.Common.{◌≡◌, ◌+◌, ◌-◌, [], ◌++◌, ap, arith, length, refl, slice_range}
use Rattle.player_core.specs.Pieces.{piece_bytes}
use Rattle.player_core.specs.PlayerView.{FeedsPlayer, filter_of}
use Rattle.player_core.specs.declared.parts.PartPlayer.{PartPlayer}
use Rattle.player_core.proofs.PartFeedLaws.{given_few, part_due_on, part_fed_on}
use Rattle.player_core.proofs.parts.PartPlayer.feed_piece.Goals as goal
use Rattle.player_core.proofs.parts.PartPlayer.feed_piece.Goals.{After-len-number, After-move_within}

feeds : (c : After-len-number) → FeedsPlayer c.args.self.now.player c.feed_piece.new.self (piece_bytes c.args.piece) [] c.feed_piece.new.out.items
feeds c = rw c.clear.ensures.items at c.in_ok-feed_piece.ensures.ok

filter : (c : After-len-number) → filter_of c.feed_piece.new.self ≡ filter_of c.args.self.now.player
filter c = rw c.feed_piece.ensures.same.0 refl

number : (c : After-len-number) → c.len-number.result ≡ length c.feed_piece.new.out.items
number c = omega (arith, c.len-number.ensures, c.feed_piece.new.out.ok.0)

pub overflow_add-self : goal.overflow_add-self
overflow_add-self c =
    let e = (goal.at.overflow_add-self c).After-len-number in
    let past = c.requires.ready.history in
    omega (arith, number e, given_few c.args.self.now c.feed_piece.new.self (piece_bytes c.args.piece) c.feed_piece.new.out.items (feeds e) (filter e) c.feed_piece.ensures.same.1 past.0 past.1 c.in_ok-feed_piece.ensures.ready)

abbrev next : (c : After-move_within) → PartPlayer
next c = record {
  player = c.feed_piece.new.self;
  start = c.args.self.now.start;
  skip = c.args.self.now.skip;
  stop = c.args.self.now.stop;
  given = c.args.self.now.given + c.len-number.result;
  own = c.move_within.new.bytes;
}

pub returns-clause-ready : goal.returns-clause-ready
returns-clause-ready c =
    let e = (goal.at.returns-clause-ready c).After-len-number in
    let past = c.requires.ready.history in
    record {
      player = c.in_ok-feed_piece.ensures.ready;
      history = (past.0 ++ (piece_bytes c.args.piece), part_fed_on c.args.self.now c.feed_piece.new.self (piece_bytes c.args.piece) c.feed_piece.new.out.items (feeds e) (filter e) c.feed_piece.ensures.same.1 past.0 past.1 (next (goal.at.returns-clause-ready c).After-move_within) refl (ap (λ n. c.args.self.now.given + n) (number e)));
    }

pub returns-clause-ok : goal.returns-clause-ok
returns-clause-ok c =
    let e = (goal.at.returns-clause-ok c).After-len-number in
    let p = c.args.self.now in
    let own = c.feed_piece.new.out.items in (
      slice_range own (p.skip - p.given) (p.stop - p.given),
      c.in_ok-move_within.ensures,
      λ before fed. (
        part_fed_on p c.feed_piece.new.self (piece_bytes c.args.piece) own (feeds e) (filter e) c.feed_piece.ensures.same.1 before fed (next (goal.at.returns-clause-ok c).After-move_within) refl (ap (λ n. p.given + n) (number e)),
        part_due_on p c.feed_piece.new.self (piece_bytes c.args.piece) own (feeds e) (filter e) c.feed_piece.ensures.same.1 before fed,
      ),
    )
