use Rattle.std.proofs.Common.{◌<◌, ◌++◌, ◌∙◌, [], ap, ap₂, arith, get_or, length, refl}
use Rattle.std.specs.Prelude.{slice_range}
use Rattle.std.proofs.lemmas.List.{get_or_default, with_items_is}
use Rattle.std.proofs.lemmas.Result.{err_from_is_err_and}
use Rattle.sound_core.proofs.KeeperLaws.{grown_next}
use Rattle.sound_core.proofs.keeper.grow.Goals as goal

pub loop-c-preserved : goal.loop-c-preserved
loop-c-preserved c =
    let low : c.loop-c.c < length c.loop-c.bits-items = omega (arith, c.loop-c-test.true) in
    let within : c.loop-c.c < length c.args.channels.now = omega (arith, low, c.loop-c.invariant.number, ap length c.deref_mut-bits-items.ensures.value, c.requires.room.number) in
    let channel = c.index-channels-c.is ∙ get_or_default c.args.channels.now c.loop-c.c c.index-channels-c.result [] within in
    grown_next c.args.range c.args.channels.now c.args.done c.deref_mut-bits-items.result.now c.loop-c.bits-items c.loop-c.c c.append_part.new.bits c.loop-c.invariant low
    (c.in_ok-append_part.ensures ∙ ap₂ (λ xs ys. xs ++ ys) (get_or_default c.loop-c.bits-items c.loop-c.c c.bits-item.result [] low)
    (rw (← c.saturating_sub-start.ensures, ← c.saturating_sub-stop.ensures) (ap (λ bits. slice_range bits c.saturating_sub-start.result c.saturating_sub-stop.result) channel)))

pub loop-c-init : goal.loop-c-init
loop-c-init c = record { number = refl; later = λ k h. refl; grown = λ k h. absurd (omega (arith, h)) }

pub append_part-requires : goal.append_part-requires
append_part-requires c =
    let now = c.loop-c.bits-items in
    let i = c.loop-c.c in
    let old = ap length c.deref_mut-bits-items.ensures.value in
    let low : i < length now = omega (arith, c.loop-c-test.true, c.loop-c.invariant.number) in
    let within : i < length c.args.channels.now = omega (arith, c.loop-c-test.true, old, c.requires.room.number) in
    omega (
      arith,
      ap length (get_or_default now i c.bits-item.result [] low),
      ap length (c.loop-c.invariant.later i (omega arith)),
      ap (λ xs. length (get_or xs i [])) c.deref_mut-bits-items.ensures.value,
      ap length (c.index-channels-c.is ∙ get_or_default c.args.channels.now i c.index-channels-c.result [] within),
      c.requires.room.room i (omega (arith, c.loop-c-test.true, old)),
    )

pub loop-c-smaller : goal.loop-c-smaller
loop-c-smaller c = omega (arith, c.loop-c-test.true)

pub returns : goal.returns
returns c =
    let made = with_items_is c.args.stretch.now c.loop-c.bits-items (omega (arith, c.loop-c.auto.bits-items, c.deref_mut-bits-items.ensures.len)) in
    rw (made, ← c.deref_mut-bits-items.ensures.value) (record { number = c.loop-c.invariant.number; each = λ k h. c.loop-c.invariant.grown k (omega (arith, h, c.loop-c-test.false)) })

pub returns-in_err-append_part : goal.returns-in_err-append_part
returns-in_err-append_part c = let e = err_from_is_err_and c.from_residual.result c.from_residual.ensures.1 in rw e.1 tt
