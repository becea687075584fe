use Rattle.std.proofs.Common.{◌++◌, ◌∙◌, ap, subst}
use Rattle.std.proofs.lemmas.Result.{on_err_weaker}
use Rattle.chunk_core.specs.Outlets.{AppendsPart}
use Rattle.dop_core.specs.Writing.{dop_tail}
use Rattle.dop_core.proofs.PlayLaws.{part_is_prefix}
use Rattle.dop_core.proofs.sink.put_tail.Goals as goal

pub returns-clause-err : goal.returns-clause-err
returns-clause-err g c =
    let tail = dop_tail c.args.sound.now.channels c.args.sound.now.count in
    let made = c.as_slice.ensures.value ∙ c.in_ok-push_tail.ensures ∙ ap (λ xs. xs ++ tail) c.clear.ensures.items in
    on_err_weaker c.put.result (λ out. part_is_prefix _ _ _ (subst (AppendsPart _ _) made out)) c.put.ensures.err
