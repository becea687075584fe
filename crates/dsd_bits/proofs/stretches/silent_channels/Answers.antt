use Rattle.std.proofs.Common.{◌≡◌, ◌++◌, ◌∷◌, [], ◌∙◌, Bool, List, replicate, ap, arith}
use Rattle.std.proofs.lemmas.List.{replicate_more}
use Rattle.std.proofs.lemmas.Result.{err_from_is_err_and}
use Rattle.dsd_bits.proofs.stretches.silent_channels.Goals as goal

pub loop-c-preserved : goal.loop-c-preserved
loop-c-preserved c =
    c.in_ok-push.ensures.items ∙ ap (λ (l : List (List Bool)). l ++ c.new.result ∷ []) c.loop-c.invariant ∙ ap (λ (bits : List Bool). replicate c.loop-c.c [] ++ bits ∷ []) c.new.ensures ∙ replicate_more c.loop-c.c []

pub returns-in_err-push : goal.returns-in_err-push
returns-in_err-push c = let e = err_from_is_err_and c.from_residual.result c.from_residual.ensures.1 in rw e.1 tt

pub returns : goal.returns
returns c =
    let all : c.loop-c.c ≡ c.args.number = omega (arith, c.loop-c.auto.c-end, c.loop-c-test.false) in
    c.loop-c.invariant ∙ ap (λ n. replicate {A = List Bool} n []) all
