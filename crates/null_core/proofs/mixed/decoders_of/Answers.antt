use Rattle.std.proofs.Common.{◌≡◌, ◌∙◌, ◌<◌, ◌^◌, ◌∷◌, ◌++◌, [], Global, List, Vec, ap, arith, get_or, length, map, subst, sym, ℤ}
use Rattle.std.proofs.lemmas.List.{get_or-map, length-map, take_more}
use Rattle.std.proofs.lemmas.List.Elements.{All-get_or}
use Rattle.clip_core.specs.Mixes.{AreTaps}
use Rattle.null_core.proofs.mixed.decoders_of.Goals as goal
use Rattle.null_core.proofs.mixed.decoders_of.Goals.{After-deref}

abbrev items : Vec ℤ Global → List ℤ
items taps = taps.items

there : (c : After-deref) → c.loop-taps.taps-index < length (map items c.args.lists.now)
there c = omega (arith, length-map c.args.lists.now items, c.loop-taps-test.true)

taps_are : (c : After-deref) → c.deref.result.now ≡ get_or (map items c.args.lists.now) c.loop-taps.taps-index []
taps_are c = c.deref.ensures.value ∙ ap items c.taps-item.is ∙ sym (get_or-map items c.args.lists.now c.loop-taps.taps-index c.taps-item.result [] c.loop-taps-test.true)

pub new-requires : goal.new-requires
new-requires c =
    let here = (goal.at.new-requires c).After-deref in
    subst (AreTaps (2 ^ 28)) (sym (taps_are here)) (All-get_or (AreTaps (2 ^ 28)) (map items c.args.lists.now) c.loop-taps.taps-index [] (there here) c.requires)

pub loop-taps-preserved : goal.loop-taps-preserved
loop-taps-preserved c =
    let here = (goal.at.loop-taps-preserved c).After-deref in
    let taps = c.in_ok-new.ensures ∙ taps_are here in
    c.in_ok-push.ensures.items ∙ (λ j. c.loop-taps.invariant j ++ taps j ∷ []) ∙ sym (take_more (map items c.args.lists.now) c.loop-taps.taps-index [] (there here))
