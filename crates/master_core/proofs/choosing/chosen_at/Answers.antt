use Rattle.std.proofs.Common.{◌≡◌, ◌∙◌, List, ap, arith, get_or, length, subst, sym}
use Rattle.std.specs.List.{All}
use Rattle.std.proofs.lemmas.List.{take_all}
use Rattle.std.proofs.lemmas.List.Elements.{All-more}
use Rattle.cut_core.specs.Bridges.{bridges}
use Rattle.cut_core.specs.declared.bridges.BridgePlace.{BridgePlace}
use Rattle.cut_core.proofs.BridgeLaws.{no_bridge, other_place, same_place}
use Rattle.cut_core.proofs.ZipLaws.{zip_at, zip_long}
use Rattle.master_core.specs.Choosing.{IsChosenAt}
use Rattle.master_core.proofs.choosing.chosen_at.Goals as goal
use Rattle.master_core.proofs.choosing.chosen_at.Goals.{In-loop-k}

many : (c : In-loop-k) → length c.args.places.now ≡ length c.args.chosen.now
many c = ap length c.requires.places ∙ sym (zip_long (IsChosenAt c.args.cut.now) (bridges c.args.cut.now) c.args.chosen.now c.requires.chosen)

pub bounds-places-k : goal.bounds-places-k
bounds-places-k c = omega (arith, many (goal.at.bounds-places-k c).In-loop-k, c.loop-k-test.true)

pub returns-then-eq : goal.returns-then-eq
returns-then-eq c =
    let cut = c.args.cut.now in
    let p : BridgePlace = get_or c.args.places.now c.loop-k.k (record { cue = 0; channel = 0 }) in
    let q = get_or (bridges cut) c.loop-k.k (record { cue = 0; channel = 0 }) in
    let x = c.index-chosen-k.result in
    let there = c.loop-k-test.true in
    let listed : q ≡ p = ap (λ (l : List BridgePlace). get_or l c.loop-k.k (record { cue = 0; channel = 0 })) (sym c.requires.places) in
    let same : p ≡ c.args.place = same_place p c.args.place (sym c.eq.ensures ∙ c.if-eq.true) in
    let one : IsChosenAt cut q (get_or c.args.chosen.now c.loop-k.k x) = zip_at (IsChosenAt cut) (bridges cut) c.args.chosen.now c.loop-k.k (record { cue = 0; channel = 0 }) x c.requires.chosen (omega (arith, ap length c.requires.places, many (goal.at.returns-then-eq c).In-loop-k, there)) in
    subst (IsChosenAt cut c.args.place) (sym c.index-chosen-k.is) (subst (λ r. IsChosenAt cut r (get_or c.args.chosen.now c.loop-k.k x)) (listed ∙ same) one)

pub loop-k-preserved : goal.loop-k-preserved
loop-k-preserved c =
    let p : BridgePlace = get_or c.args.places.now c.loop-k.k (record { cue = 0; channel = 0 }) in
    record { others = All-more (λ q. q ≡ c.args.place → ⊥) c.args.places.now c.loop-k.k (record { cue = 0; channel = 0 }) (omega (arith, many (goal.at.loop-k-preserved c).In-loop-k, c.loop-k-test.true)) c.loop-k.invariant.others (other_place p c.args.place (sym c.eq.ensures ∙ c.if-eq.false)) }

pub returns : goal.returns
returns c = no_bridge c.args.cut.now c.args.place c.requires.cue c.requires.channel (subst (All (λ q. q ≡ c.args.place → ⊥)) (take_all c.loop-k.k c.args.places.now (omega (arith, ap length c.requires.places, zip_long (IsChosenAt c.args.cut.now) (bridges c.args.cut.now) c.args.chosen.now c.requires.chosen, c.loop-k-test.false)) ∙ c.requires.places) c.loop-k.invariant.others)
