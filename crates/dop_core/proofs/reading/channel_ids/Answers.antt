use Rattle.std.proofs.Common.{◌≡◌, ◌+◌, [], ◌∷◌, ◌++◌, codes, ne_eqb, sym, arith}
use Rattle.std.proofs.lemmas.List.FromFn.{map-range_with_len_more}
use Rattle.dsd_bits.proofs.ExitLaws.{no_value}
use Rattle.dop_core.proofs.reading.channel_ids.Goals as goal

pub loop-c-preserved : goal.loop-c-preserved
loop-c-preserved c =
    rw (c.in_ok-push-3.ensures.items, c.loop-c.invariant) (sym (map-range_with_len_more (λ c. codes "C00" ++ (48 + c) ∷ []) 0 c.loop-c.c c.loop-c.c (omega arith)))

pub returns-in_err-push-3 : goal.returns-in_err-push-3
returns-in_err-push-3 c = no_value _ _ c.from_residual-in_err-push-3.result c.from_residual-in_err-push-3.ensures.1

pub returns : goal.returns
returns c =
    let all : c.loop-c.c ≡ c.args.number = omega arith in
    rw (ne_eqb c.args.number 2 c.if-number-eq2.false, ← all) c.loop-c.invariant
