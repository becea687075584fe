use Rattle.std.proofs.Common.{◌+◌, leb, cond, [], ◌∷◌, arith, rules}
use Rattle.std.proofs.lemmas.List.Sums.{fold_more}
use Rattle.cert_core.proofs.spelling.width_of.Goals as goal
use Rattle.cert_core.proofs.spelling.width_of.Goals.{then-step-number, else-step-number}

pub loop-step-preserved : goal.loop-step-preserved
loop-step-preserved c =
    let more = fold_more (λ a step. a + cond (leb step c.args.number) 1 0) 0 (1 ∷ 256 ∷ 65536 ∷ 16777216 ∷ 4294967296 ∷ 1099511627776 ∷ 281474976710656 ∷ 72057594037927936 ∷ []) c.loop-step.step-index 0 (omega arith) in
    elim c.if-step-number.branch [
      | then-step-number w ↦ (search (rules), omega arith)
      | else-step-number w ↦ (search (rules), omega arith)
    ]
