use Rattle.std.proofs.Common.{◌≡◌, ◌+◌, ◌-◌, ◌++◌, ◌∷◌, [], ◌∙◌, ap, arith, flat_map, length, sym}
use Rattle.std.specs.List.{range_with_len}
use Rattle.std.proofs.lemmas.List.{append-nil}
use Rattle.std.proofs.lemmas.Grind.{flat_map-append}
use Rattle.cut_core.specs.Bridges.{places_after}
use Rattle.cut_core.proofs.BridgeLaws.{range_more}
use Rattle.cut_core.proofs.bridges.bridge_places.Goals as goal

pub loop-cue-preserved : goal.loop-cue-preserved
loop-cue-preserved c =
    let i = c.loop-cue.cue in
    let none : 0 + i ≡ i = omega arith in
    let after = places_after c.args.cut.now in
    let pushed = c.in_ok-push_places.ensures in
    record {
      places = pushed.appended ∙ ap (λ (l : _). l ++ after i) c.loop-cue.invariant.places ∙ sym (rw (range_more 0 i, none) (flat_map-append after (range_with_len 0 i) (i ∷ []) ∙ ap (λ (l : _). flat_map after (range_with_len 0 i) ++ l) (append-nil (after i))));
      each = pushed.each c.loop-cue.invariant.each;
      few = omega (arith, pushed.few, c.loop-cue.invariant.few);
    }

pub returns-clause-places : goal.returns-clause-places
returns-clause-places c =
    let all : c.loop-cue.cue ≡ length c.args.cut.now.splice.cues - 1 = omega (arith, c.loop-cue-test.false, c.loop-cue.auto.cue-end, c.cue_number-cue-end.ensures.value) in
    c.loop-cue.invariant.places ∙ ap (λ n. flat_map (places_after c.args.cut.now) (range_with_len 0 n)) all
