use Rattle.std.proofs.Common.{◌∙◌, Bool, List, slice_range, ap, sym, arith}
use Rattle.std.proofs.lemmas.List.{map_more, take_all}
use Rattle.std.proofs.lemmas.Result.{err_from_is_err_and}
use Rattle.dsd_bits.specs.Stretches as specs
use Rattle.dsd_bits.proofs.stretches.stretch_of.Goals as goal

pub returns-in_err-cut_out : goal.returns-in_err-cut_out
returns-in_err-cut_out c = let e = err_from_is_err_and c.from_residual.result c.from_residual.ensures.1 in rw e.1 tt

pub returns-in_err-push : goal.returns-in_err-push
returns-in_err-push c = let e = err_from_is_err_and c.from_residual-in_err-push.result c.from_residual-in_err-push.ensures.1 in rw e.1 tt

pub returns : goal.returns
returns c = c.loop-c.invariant ∙ ap (λ (l : List (List Bool)). specs.stretch_of l c.args.range) (take_all c.loop-c.c c.args.channels.now (omega (arith, c.loop-c-test.false)))

pub loop-c-preserved : goal.loop-c-preserved
loop-c-preserved c =
    let cut = λ (bits : List Bool). slice_range bits c.args.range.start c.args.range.stop in
    rw (c.in_ok-push.ensures.items, c.loop-c.invariant, c.in_ok-cut_out.ensures, ap cut c.index-channels-c.is) (sym (map_more cut c.args.channels.now c.loop-c.c c.index-channels-c.result (omega (arith, c.loop-c-test.true))))
