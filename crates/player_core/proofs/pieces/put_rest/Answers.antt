use Rattle.std.specs.Prelude.{[]}
use Rattle.std.proofs.lemmas.Result.{on_err_weaker, on_ok_weaker}
use Rattle.dsd_bits.proofs.ExitLaws.{any_err}
use Rattle.player_core.proofs.PieceLaws.{complete_put, fed_all, nothing_put, part_is_prefix, rest_part, rest_put}
use Rattle.player_core.proofs.pieces.put_rest.Goals as goal

pub returns-then-is_complete-clause-ok : goal.returns-then-is_complete-clause-ok
returns-then-is_complete-clause-ok g c = complete_put c.args.player.now c.requires.player (c.is_complete.ensures.complete c.if-is_complete.true) _

pub returns-in_err-finish-clause-prefix : goal.returns-in_err-finish-clause-prefix
returns-in_err-finish-clause-prefix g c = any_err c.from_residual.result (nothing_put c.args.player.now c.requires.player [] _)

pub returns-clause-ok : goal.returns-clause-ok
returns-clause-ok g c =
    let all = fed_all c.args.player.now c.requires.all (c.is_complete.ensures.incomplete c.if-is_complete.false) in
    on_ok_weaker c.put.result (rest_put c.args.player.now all c.finish.new.out.items _ _ (rw c.clear.ensures.items at c.in_ok-finish.ensures.ok)) (rw c.as_slice.ensures.value at c.put.ensures.ok)

pub returns-clause-prefix : goal.returns-clause-prefix
returns-clause-prefix g c =
    let all = fed_all c.args.player.now c.requires.all (c.is_complete.ensures.incomplete c.if-is_complete.false) in
    on_err_weaker c.put.result (λ out. rest_part c.args.player.now all c.finish.new.out.items _ _ (rw c.clear.ensures.items at c.in_ok-finish.ensures.ok) (part_is_prefix _ _ _ out)) (rw c.as_slice.ensures.value at c.put.ensures.err)
