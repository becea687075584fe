use Rattle.std.proofs.Common.{◌≡◌, ◌∷◌, [], ◌++◌, ℤ, List, map, Global, Vec}
use Rattle.std.proofs.lemmas.List.{map_push}
use Rattle.std.proofs.lemmas.Result.{err_from_is_err_and}
use Rattle.project_core.proofs.Each.{values_go_on, values_end, values_done}
use Rattle.mix_core.specs.ReadingMix.{decoder_of}
use Rattle.mix_core.proofs.mix_table.decoders_of.Goals as goal

abbrev held : Vec ℤ Global → List ℤ
held taps = taps.items

pub returns-in_err-taps : goal.returns-in_err-taps
returns-in_err-taps c =
    let p = err_from_is_err_and c.from_residual.result c.from_residual.ensures.1 in
    rw (p.1, p.2) (values_end c.in_err-taps.field-0.0 decoder_of (map held c.loop-number.decoders.items) c.args.values.now c.loop-number.number c.index-values-number.result _ c.loop-number-test.true c.index-values-number.is c.in_err-taps.ensures c.loop-number.invariant)

pub loop-number-preserved : goal.loop-number-preserved
loop-number-preserved c =
    let q = c.in_ok-taps.taps in
    let e : map held c.push.new.self.items ≡ map held c.loop-number.decoders.items ++ held q ∷ [] = rw c.in_ok-push.ensures.items (map_push held c.loop-number.decoders.items q) in
    rw e (values_go_on decoder_of (map held c.loop-number.decoders.items) c.args.values.now c.loop-number.number c.index-values-number.result _ _ c.loop-number-test.true c.index-values-number.is c.in_ok-taps.ensures c.loop-number.invariant)

pub returns : goal.returns
returns c = values_done decoder_of (map held c.loop-number.decoders.items) c.args.values.now c.loop-number.number _ c.loop-number-test.false c.loop-number.invariant
