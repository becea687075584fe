use Rattle.std.proofs.Common.{◌+◌, ◌-◌, ◌≤◌, List, ℕ, [], add-zero, drop, length, subst, sym}
use Rattle.std.proofs.lemmas.Result.{on_err_weaker, on_ok_weaker}
use Rattle.sound_core.proofs.FaultLaws.{fault_is}
use Rattle.player_core.specs.PartView.{FeedsPart, part_fed, part_rest, part_start}
use Rattle.player_core.specs.Pieces.{piece_bytes}
use Rattle.player_core.proofs.PieceLaws.{due_put, nothing_put, part_is_prefix, part_put}
use Rattle.player_core.proofs.pieces.put_due.Goals as goal

pub feed_piece-requires-clause-few : goal.feed_piece-requires-clause-few
feed_piece-requires-clause-few g c =
    subst (λ (xs : List ℕ). part_fed c.args.player.now + length xs ≤ (part_rest c.args.player.now).size) (sym c.rest_of_piece-rest.ensures.bytes) c.requires.few

pub returns-in_err-feed_piece : goal.returns-in_err-feed_piece
returns-in_err-feed_piece g c =
    rw (fault_is c.from_residual.result _ c.from_residual.ensures.1) (record {
      player = tt;
      same = tt;
      ok = tt;
      prefix = nothing_put c.args.player.now c.requires.player (drop (part_start c.args.player.now - c.args.came) (piece_bytes c.args.piece)) _;
      fault = tt;
      failures = sym (add-zero _);
    })

pub returns : goal.returns
returns g c =
    let p = c.args.player.now in
    let q = c.feed_piece.new.self in
    let given = c.feed_piece.new.out.items in
    let piece = drop (part_start p - c.args.came) (piece_bytes c.args.piece) in
    let fed : FeedsPart p q piece [] given = subst (λ (xs : List ℕ). FeedsPart p q xs [] given) c.rest_of_piece-rest.ensures.bytes (rw c.clear.ensures.items at c.in_ok-feed_piece.ensures.ok) in
    record {
      player = on_ok_weaker c.put.result (λ put. c.in_ok-feed_piece.ensures.ready) c.put.ensures.ok;
      same = on_ok_weaker c.put.result (λ put. c.feed_piece.ensures.same) c.put.ensures.ok;
      ok = on_ok_weaker c.put.result (due_put p q piece given _ _ fed) (rw c.as_slice.ensures.value at c.put.ensures.ok);
      prefix = on_err_weaker c.put.result (λ out. part_put p q c.requires.player piece given _ _ fed (part_is_prefix _ _ _ out)) (rw c.as_slice.ensures.value at c.put.ensures.err);
      fault = c.put.ensures.fault;
      failures = c.put.ensures.failures;
    }
