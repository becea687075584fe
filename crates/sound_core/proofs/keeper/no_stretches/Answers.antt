use Rattle.std.proofs.Common.{◌≡◌, ◌∷◌, Bool, List, [], ap, arith, replicate, ◌∙◌}
use Rattle.std.specs.Prelude.{Vec}
use Rattle.std.specs.declared.alloc.Global.{Global}
use Rattle.std.proofs.lemmas.List.{map-append}
use Rattle.std.proofs.lemmas.Result.{IfOk-from_err}
use Rattle.sound_core.specs.Stretches.{items_of}
use Rattle.sound_core.proofs.KeeperLaws.{one_more}
use Rattle.sound_core.proofs.keeper.no_stretches.Goals as goal

pub loop-range-init : goal.loop-range-init
loop-range-init c = ap items_of c.new-made.ensures.items

pub loop-range-preserved : goal.loop-range-preserved
loop-range-preserved c =
    let made = c.loop-range.made.items in
    one_more c.loop-range._range (replicate c.args.channels []) (items_of made) c.in_ok-stretch.stretch.items (items_of c.push.new.self.items) c.loop-range.invariant c.in_ok-stretch.ensures
    (ap items_of c.in_ok-push.ensures.items ∙ map-append (λ (v : Vec (List Bool) Global). v.items) made (c.in_ok-stretch.stretch ∷ []))

pub loop-range-smaller : goal.loop-range-smaller
loop-range-smaller c = omega (arith, c.loop-range-test.true, c.loop-range.auto._range-end)

pub returns : goal.returns
returns c =
    let all : c.loop-range._range ≡ c.args.number = omega (arith, c.loop-range-test.false, c.loop-range.auto._range-end) in
    c.loop-range.invariant ∙ ap (λ n. replicate n (replicate {A = List Bool} c.args.channels [])) all

pub returns-in_err-push : goal.returns-in_err-push
returns-in_err-push c = IfOk-from_err c.from_residual-in_err-push.result _ c.from_residual-in_err-push.ensures.0

pub returns-in_err-stretch : goal.returns-in_err-stretch
returns-in_err-stretch c = IfOk-from_err c.from_residual.result _ c.from_residual.ensures.0
