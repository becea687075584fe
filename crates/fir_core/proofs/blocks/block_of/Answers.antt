use Rattle.std.proofs.Common.{ℕ, zero, suc, ◌+◌, ◌-◌, ◌/◌, ◌<◌, ◌≤◌, [], ◌∷◌, List, arith, get_or, length, refl}
use Rattle.fir_core.specs.Blocks.{IsAfter}
use Rattle.fir_core.specs.Lookup.{AreRowEntries}
use Rattle.fir_core.proofs.RowLaws.{after_more, begins_after, ends_before, is_reached, places_after, spot_of, spots_rise, window_before, window_reaches}
use Rattle.fir_core.proofs.blocks.block_of.Goals as goal
use Rattle.fir_core.proofs.blocks.block_of.Goals.{After-min}

-- the last of the eight bytes, after the fourth and after the first
from_fourth : (c : After-min) → IsAfter 4 c.spots_from-front.result.four c.spots_from-back.result.four
from_fourth c = after_more 1 3 _ _ _ c.next.ensures c.spots_from-back.ensures.fourth

eighth : (c : After-min) → IsAfter 7 c.args.spot c.spots_from-back.result.four
eighth c = after_more 3 4 _ _ _ c.spots_from-front.ensures.fourth (from_fourth c)

fifth : (c : After-min) → IsAfter 4 c.args.spot c.next.result
fifth c = after_more 3 1 _ _ _ c.spots_from-front.ensures.fourth c.next.ensures

starts_below : (c : After-min) → c.saturating_sub-start.result ≤ c.min.result
starts_below c =
    let lookup = c.args.spot.lookup in
    omega (
      arith,
      c.saturating_sub-start.ensures,
      c.min.ensures,
      window_reaches lookup.step lookup.span (length lookup.taps.now / 8) (c.args.spot.p + 7) c.spots_from-back.result.four.window c.spots_from-back.result.four.place c.args.limit (spot_of 7 _ _ (eighth c)) lookup.laid.wide (omega (arith, c.requires.reached)),
    )

pub overflow_add-after : goal.overflow_add-after
overflow_add-after c = let last = c.spots_from-back.result.four in omega (arith, window_before _ _ _ _ last.spot, last.within)

pub places_of-requires-clause-first : goal.places_of-requires-clause-first
places_of-requires-clause-first c = rw c.spots_from-front.ensures.first (is_reached 7 _ _ _ (eighth c) (omega arith) (omega (arith, c.saturating_sub-start.ensures)))

pub places_of-requires-clause-last : goal.places_of-requires-clause-last
places_of-requires-clause-last c = is_reached 4 _ _ _ (from_fourth c) (omega arith) (rw c.spots_from-front.ensures.fourth.lookup (omega (arith, c.saturating_sub-start.ensures)))

pub places_of-requires-2-clause-first : goal.places_of-requires-2-clause-first
places_of-requires-2-clause-first c =
    rw c.spots_from-back.ensures.first (is_reached 3 _ _ _ c.spots_from-back.ensures.fourth (omega arith) (rw (fifth (goal.at.places_of-requires-2-clause-first c).After-min).lookup (omega (arith, c.saturating_sub-start.ensures))))

by_eight : (P : ℕ → ℕ → Type 0) (front back : List ℕ) → ((b : ℕ) → b < 4 → P (0 + b) (get_or front b 0)) → ((b : ℕ) → b < 4 → P (4 + b) (get_or back b 0))
    → (b : ℕ) → b < 8 → P b (get_or (get_or front 0 0 ∷ get_or front 1 0 ∷ get_or front 2 0 ∷ get_or front 3 0 ∷ get_or back 0 0 ∷ get_or back 1 0 ∷ get_or back 2 0 ∷ get_or back 3 0 ∷ []) b 0)
by_eight P front back f g zero h = f 0 (omega arith)
by_eight P front back f g (suc zero) h = f 1 (omega arith)
by_eight P front back f g (suc (suc zero)) h = f 2 (omega arith)
by_eight P front back f g (suc (suc (suc zero))) h = f 3 (omega arith)
by_eight P front back f g (suc (suc (suc (suc zero)))) h = g 0 (omega arith)
by_eight P front back f g (suc (suc (suc (suc (suc zero))))) h = g 1 (omega arith)
by_eight P front back f g (suc (suc (suc (suc (suc (suc zero)))))) h = g 2 (omega arith)
by_eight P front back f g (suc (suc (suc (suc (suc (suc (suc zero))))))) h = g 3 (omega arith)
by_eight P front back f g (suc (suc (suc (suc (suc (suc (suc (suc b)))))))) h = absurd (omega (arith, h))

pub invariant_of-block : goal.invariant_of-block
invariant_of-block c =
    let before = (goal.at.invariant_of-block c).After-min in
    let spot = c.args.spot in
    let number = c.min.result - c.saturating_sub-start.result in
    let last : c.saturating_sub-start.result + number ≤ spot.window + 9 = omega (arith, starts_below before, c.min.ensures, spots_rise 7 _ _ (eighth before)) in
    record {
      block = record {
        within = c.requires.within;
        each = by_eight (λ k at. AreRowEntries spot.lookup.taps.now spot.bytes.now spot.lookup.step spot.lookup.entries.now (spot.p + k) c.saturating_sub-start.result number at) c.places_of.result c.places_of-2.result
            (places_after 0 spot spot c.saturating_sub-start.result number c.places_of.result (record { lookup = refl; bytes = refl; p = omega arith }) (rw (← c.spots_from-front.ensures.first) c.places_of.ensures) last)
            (places_after 4 spot c.next.result c.saturating_sub-start.result number c.places_of-2.result (fifth before) (rw (← c.spots_from-back.ensures.first) c.places_of-2.ensures) last);
      };
      below = omega (arith, starts_below before, c.min.ensures);
    }

pub returns-clause-block : goal.returns-clause-block
returns-clause-block c =
    let before = (goal.at.returns-clause-block c).After-min in
    let lookup = c.args.spot.lookup in
    let last = c.spots_from-back.result.four in
    let here = spot_of 7 _ _ (eighth before) in
    record {
      lookup = refl;
      bytes = refl;
      p = refl;
      within = refl;
      done = λ j h. ends_before lookup.step lookup.span (length lookup.taps.now / 8) c.args.spot.p last.window last.place j c.requires.eights here lookup.laid.wide lookup.laid.loose (omega (arith, h, c.saturating_sub-start.ensures));
      rest = λ j h l.
          let late : last.window < j = omega (arith, h, l, starts_below before, c.min.ensures) in
          omega (arith, begins_after lookup.step (c.args.spot.p + 7) last.window last.place j here late);
    }

pub overflow_sub-number : goal.overflow_sub-number
overflow_sub-number c = starts_below c
