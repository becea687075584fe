use Rattle.std.proofs.Common.{◌∙◌, ap, sym, arith, length}
use Rattle.std.specs.Simd.Lanes.{mask_l}
use Rattle.std.proofs.lemmas.List.{take_all}
use Rattle.cost_core.specs.Rows.{seconds, lower, upper}
use Rattle.trellis_core.proofs.Few.{few_long}
use Rattle.cost_core.proofs.Chunks.{choices_more}
use Rattle.trellis_core.proofs.choosing.choose.Goals as goal

pub returns-else-ways-gt8-clause-choices : goal.returns-else-ways-gt8-clause-choices
returns-else-ways-gt8-clause-choices c = λ k h.
    let a = c.args in
    let n = length a.ways.old.now in
    let ss = seconds (lower a.ways.old.now a.ways.lows.now) (upper a.ways.old.now a.ways.highs.now) in
    let long = few_long a.ways.old.now a.ways.lows.now a.ways.highs.now c.args.ways.ways.even c.args.ways.ways.lows_len c.args.ways.ways.highs_len in
    choices_more a.choices.now ss 0 c.choose_few.result n (λ j lt. absurd (omega arith))
    (c.choose_few.ensures.choices ∙ ap mask_l (sym (take_all n ss (omega (arith, long.1))))) c.requires.some (omega arith) k (omega arith)
