use Rattle.std.proofs.Common.{◌≡◌, ◌+◌, ◌<◌, ◌∙◌, Bool, List, [], arith, get_or, length, refl, subst, sym}
use Rattle.std.specs.Prelude.{Vec}
use Rattle.std.proofs.lemmas.List.{get_or-map, get_or_default, length-map, map-set}
use Rattle.std.proofs.lemmas.Result.{err_from_is_err_and}
use Rattle.std.specs.declared.alloc.Global.{Global}
use Rattle.sound_core.specs.Stretches.{IsGrown, IsRoomy, items_of}
use Rattle.dsd_bits.specs.declared.stretches.BitRange.{BitRange}
use Rattle.sound_core.proofs.KeeperLaws.{AllGrownUpTo, all_grown, all_next}
use Rattle.sound_core.proofs.keeper.grow_all.Goals as goal

pub loop-i-preserved : goal.loop-i-preserved
loop-i-preserved c =
    let f : Vec (List Bool) Global → List (List Bool) = λ stretch. stretch.items in
    let now = c.loop-i.stretches in
    let i = c.loop-i.i in
    let low : i < length now = omega (arith, c.loop-i-test.true, c.loop-i.auto.i-end) in
    let within : i < length c.args.ranges.now = omega (arith, low, c.loop-i.auto.stretches, c.requires.number) in
    let own : get_or (items_of now) i [] ≡ (get_or now i c.index-stretches-i.result).items = get_or-map f now i c.index-stretches-i.result [] low in
    let grown = λ (r : BitRange).
    subst (λ xs. IsGrown (get_or c.args.ranges.now i r) c.args.channels.now c.args.done xs c.grow.new.stretch.items) (sym own)
    (subst (λ (s : BitRange). IsGrown s c.args.channels.now c.args.done (get_or now i c.index-stretches-i.result).items c.grow.new.stretch.items) (get_or_default c.args.ranges.now i (record { start = 0; stop = 0 }) r within) c.in_ok-grow.ensures) in
    subst (λ xs. AllGrownUpTo c.args.ranges.now c.args.channels.now c.args.done (items_of c.args.stretches.now) xs (i + 1)) (sym (map-set f now i c.grow.new.stretch))
    (all_next c.args.ranges.now c.args.channels.now c.args.done (items_of c.args.stretches.now) (items_of now) i c.grow.new.stretch.items c.loop-i.invariant (omega (arith, low, length-map now f)) grown)

pub returns : goal.returns
returns c = all_grown c.args.ranges.now c.args.channels.now c.args.done (items_of c.args.stretches.now) (items_of c.loop-i.stretches) c.loop-i.i c.loop-i.invariant (omega (arith, length-map c.args.stretches.now (λ (stretch : Vec (List Bool) Global). stretch.items), c.loop-i-test.false))

pub loop-i-init : goal.loop-i-init
loop-i-init c = record { number = refl; later = λ k h. refl; grown = λ k r h. absurd (omega (arith, h)) }

pub grow-requires : goal.grow-requires
grow-requires c =
    let f : Vec (List Bool) Global → List (List Bool) = λ stretch. stretch.items in
    let now = c.loop-i.stretches in
    let i = c.loop-i.i in
    let low : i < length now = omega (arith, c.loop-i-test.true, c.loop-i.auto.stretches) in
    record {
      room = subst (IsRoomy c.args.channels.now) (sym (c.loop-i.invariant.later i (omega arith)) ∙ get_or-map f now i c.index-stretches-i.result [] low) (c.requires.room i (omega (arith, c.loop-i-test.true, length-map c.args.stretches.now f)));
    }

pub loop-i-smaller : goal.loop-i-smaller
loop-i-smaller c = omega (arith, c.loop-i-test.true)

pub returns-in_err-grow : goal.returns-in_err-grow
returns-in_err-grow c = let e = err_from_is_err_and c.from_residual.result c.from_residual.ensures.1 in rw e.1 tt
