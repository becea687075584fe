use Rattle.std.proofs.Common.{◌+◌, ◌/◌, ◌∙◌, ap, sym, arith, length, take, set}
use Rattle.std.specs.Simd.Lanes.{mask_l}
use Rattle.std.proofs.lemmas.List.{take_all}
use Rattle.cost_core.specs.Rows.{seconds, least, lower, upper}
use Rattle.trellis_core.proofs.Few.{few_second, few_first, few_long}
use Rattle.trellis_core.proofs.choosing.choose_few.Goals as goal
use Rattle.trellis_core.proofs.choosing.choose_few.Goals.{then-second-first, else-second-first}

pub overflow_add-choices : goal.overflow_add-choices
overflow_add-choices c =
    record { fits = (few_second c.args.ways.old.now c.args.ways.lows.now c.args.ways.highs.now c.loop-k.row c.loop-k.k c.loop-k.choices (omega (arith, c.loop-k-test.true, c.loop-k.auto.row)) (omega (arith, c.loop-k.auto.row, c.requires.row_len, c.requires.short)) c.args.ways.ways.even (c.loop-k.auto.row ∙ c.requires.row_len) c.args.ways.ways.lows_len c.args.ways.ways.highs_len c.loop-k.invariant.row c.loop-k.invariant.choices c.if-second-first.true).fits }

pub loop-k-preserved : goal.loop-k-preserved
loop-k-preserved c =
    let k = c.loop-k.k in
    elim c.if-second-first.branch [
      | then-second-first w ↦
          let s = few_second c.args.ways.old.now c.args.ways.lows.now c.args.ways.highs.now c.loop-k.row c.loop-k.k c.loop-k.choices (omega (arith, c.loop-k-test.true, c.loop-k.auto.row)) (omega (arith, c.loop-k.auto.row, c.requires.row_len, c.requires.short)) c.args.ways.ways.even (c.loop-k.auto.row ∙ c.requires.row_len) c.args.ways.ways.lows_len c.args.ways.ways.highs_len c.loop-k.invariant.row c.loop-k.invariant.choices w.if-second-first.true in
          record { row = ap (take (k + 1)) (w.row-is ∙ ap (set c.loop-k.row k) w.min.ensures) ∙ s.out; choices = w.choices-is ∙ s.mask }
      | else-second-first w ↦
          let s = few_first c.args.ways.old.now c.args.ways.lows.now c.args.ways.highs.now c.loop-k.row c.loop-k.k c.loop-k.choices (omega (arith, c.loop-k-test.true, c.loop-k.auto.row)) (omega (arith, c.loop-k.auto.row, c.requires.row_len, c.requires.short)) c.args.ways.ways.even (c.loop-k.auto.row ∙ c.requires.row_len) c.args.ways.ways.lows_len c.args.ways.ways.highs_len c.loop-k.invariant.row c.loop-k.invariant.choices w.if-second-first.false in
          record { row = ap (take (k + 1)) (w.row-is ∙ ap (set c.loop-k.row k) w.min-else-second-first.ensures) ∙ s.out; choices = w.choices-is ∙ s.mask }
    ]

pub returns-clause-row : goal.returns-clause-row
returns-clause-row c =
    let a = c.args in
    let k = c.loop-k.k in
    let long = few_long a.ways.old.now a.ways.lows.now a.ways.highs.now c.args.ways.ways.even c.args.ways.ways.lows_len c.args.ways.ways.highs_len in
    sym (take_all k c.loop-k.row (omega (arith, c.loop-k-test.false, c.loop-k.auto.row))) ∙ c.loop-k.invariant.row ∙ take_all k (least (lower a.ways.old.now a.ways.lows.now) (upper a.ways.old.now a.ways.highs.now)) (omega (arith, long.0, c.loop-k-test.false, c.requires.row_len))

pub returns-clause-choices : goal.returns-clause-choices
returns-clause-choices c =
    let a = c.args in
    let k = c.loop-k.k in
    let long = few_long a.ways.old.now a.ways.lows.now a.ways.highs.now c.args.ways.ways.even c.args.ways.ways.lows_len c.args.ways.ways.highs_len in
    c.loop-k.invariant.choices ∙ ap mask_l (take_all k (seconds (lower a.ways.old.now a.ways.lows.now) (upper a.ways.old.now a.ways.highs.now)) (omega (arith, long.1, c.loop-k-test.false, c.requires.row_len)))

-- ---- in range
pub overflow_add-first : goal.overflow_add-first
overflow_add-first c = record { fits = omega (arith, c.args.ways.ways.old_small (c.loop-k.k / 2) (omega (arith, c.loop-k-test.true, c.requires.row_len)), c.args.ways.ways.lows_small c.loop-k.k (omega (arith, c.loop-k-test.true, c.args.ways.ways.lows_len, c.requires.row_len))) }

pub overflow_add-second-in-loop-k : goal.overflow_add-second-in-loop-k
overflow_add-second-in-loop-k c = record { fits = omega (arith, c.args.ways.ways.old_small (length c.args.ways.old.now / 2 + c.loop-k.k / 2) (omega (arith, c.loop-k-test.true, c.args.ways.ways.even, c.requires.row_len)), c.args.ways.ways.highs_small c.loop-k.k (omega (arith, c.loop-k-test.true, c.args.ways.ways.highs_len, c.requires.row_len))) }

pub bounds-row-k : goal.bounds-row-k
bounds-row-k c = omega (arith, c.loop-k-test.true, c.loop-k.auto.row)

pub bounds-row-k-else-second-first : goal.bounds-row-k-else-second-first
bounds-row-k-else-second-first c = omega (arith, c.loop-k-test.true, c.loop-k.auto.row)
