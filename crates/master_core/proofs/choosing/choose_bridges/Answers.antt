use Rattle.std.proofs.Common.{◌≡◌, ◌+◌, ◌<◌, ◌∙◌, List, ap, arith, get_or, length, map, refl, subst, sym, take}
use Rattle.std.specs.List.{All, AllZip}
use Rattle.std.proofs.lemmas.List.{take_all}
use Rattle.std.proofs.lemmas.List.Elements.{All-nil, All-push}
use Rattle.std.proofs.lemmas.Result.{err_from_is_err_and}
use Rattle.cost_core.specs.Bridges.{Bridging}
use Rattle.cost_core.specs.Limits.{IsBridging}
use Rattle.trellis_core.specs.declared.bridging.Chosen.{Chosen}
use Rattle.cut_core.specs.Bridges.{IsPlace}
use Rattle.cut_core.specs.declared.bridges.BridgePlace.{BridgePlace}
use Rattle.master_core.specs.Choosing.{IsChosen, IsChosenAt, chosen_cost, window_at}
use Rattle.master_core.proofs.ChoiceLaws.{chosen_more, cost_more, window_more}
use Rattle.master_core.proofs.choosing.choose_bridges.Goals as goal
use Rattle.master_core.proofs.choosing.choose_bridges.Given.{Over}
use Rattle.master_core.proofs.choosing.choose_bridges.Goals.{After-index}

pub loop-k-init : goal.loop-k-init
loop-k-init g c =
    let none = c.in_ok-chosen.ensures.items in
    let empty = c.in_ok-windows.ensures.items in
    record {
      chosen = rw none tt;
      windows = rw empty refl;
      within = rw empty (All-nil IsBridging);
      total = rw none refl;
      bound = omega arith;
      len = c.in_ok-chosen.ensures.len;
      room = omega (arith, c.in_ok-chosen.ensures.capacity, c.len-2.ensures);
      windows_len = c.in_ok-windows.ensures.len;
      windows_room = omega (arith, c.in_ok-windows.ensures.capacity, c.len.ensures);
    }

-- the place of this step
there : (g : Over) (c : After-index g) → c.loop-k.k < length c.in_ok-places.places.items
there g c = omega (arith, c.loop-k-test.true, c.len-k-end.ensures)

is : (g : Over) (c : After-index g) → get_or c.in_ok-places.places.items c.loop-k.k c.index.result.now ≡ c.index.result.now
is g c = sym c.index.ensures

pub loop-k-preserved : goal.loop-k-preserved
loop-k-preserved g c =
    let here = (goal.at.loop-k-preserved g c).After-index in
    let cut = c.args.cut.now in
    let ps = c.in_ok-places.places.items in
    let p = c.index.result.now in
    let so_far = c.loop-k.invariant in
    let made = c.in_ok-window in
    let one : IsChosenAt cut p made.field-0.chosen = subst (λ (d : Bridging). IsChosen d made.field-0.chosen) made.ensures.window made.ensures.chosen in
    let more = c.push_reserved-in-loop-k.ensures.items in
    let more_windows = c.push_reserved.ensures.items in
    record {
      chosen = subst (λ (l : List Chosen). AllZip (IsChosenAt cut) (take (c.loop-k.k + 1) ps) l) (sym more) (chosen_more cut ps c.loop-k.k p (there g here) (is g here) c.loop-k.chosen.items made.field-0.chosen so_far.chosen one);
      windows = more_windows ∙ window_more cut ps c.loop-k.k p (there g here) (is g here) c.loop-k.windows.items made.field-0.window so_far.windows made.ensures.window;
      within = subst (All IsBridging) (sym more_windows) (All-push IsBridging c.loop-k.windows.items made.field-0.window so_far.within made.ensures.within);
      total = cost_more c.loop-k.chosen.items made.field-0.chosen c.loop-k.total c.from-total.result so_far.total (c.from-total.ensures ∙ c.cost_of.ensures) ∙ ap chosen_cost (sym more);
      bound = omega (arith, so_far.bound, c.from-total.ensures, c.cost_of.type_inv);
      len = omega (arith, c.push_reserved-in-loop-k.ensures.len, so_far.len);
      room = omega (arith, c.push_reserved-in-loop-k.ensures.capacity, so_far.room);
      windows_len = omega (arith, c.push_reserved.ensures.len, so_far.windows_len);
      windows_room = omega (arith, c.push_reserved.ensures.capacity, so_far.windows_room);
    }

pub returns : goal.returns
returns g c = record {
  bridges = let cut = c.args.cut.now in
      let ps = c.in_ok-places.places.items in
      let known = c.in_ok-places.ensures in
      let so_far = c.loop-k.invariant in
      let all : take c.loop-k.k ps ≡ ps = take_all c.loop-k.k ps (omega (arith, c.loop-k-test.false, c.len-k-end.ensures)) in
      record {
        places_are = known.places;
        each_there = known.each;
        few = known.few;
        windows_are = so_far.windows ∙ ap (map (window_at cut)) all;
        within = so_far.within;
        chosen = subst (λ (l : List BridgePlace). AllZip (IsChosenAt cut) l c.loop-k.chosen.items) (all ∙ known.places) so_far.chosen;
      };
  total = c.loop-k.invariant.total;
}

pub returns-in_err-places : goal.returns-in_err-places
returns-in_err-places g c = let e = err_from_is_err_and c.from_residual.result c.from_residual.ensures.1 in rw e.1 (record { bridges = tt; total = tt })

pub returns-in_err-windows : goal.returns-in_err-windows
returns-in_err-windows g c = let e = err_from_is_err_and c.from_residual-in_err-windows.result c.from_residual-in_err-windows.ensures.1 in rw e.1 (record { bridges = tt; total = tt })

pub returns-in_err-chosen : goal.returns-in_err-chosen
returns-in_err-chosen g c = let e = err_from_is_err_and c.from_residual-in_err-chosen.result c.from_residual-in_err-chosen.ensures.1 in rw e.1 (record { bridges = tt; total = tt })

pub returns-in_err-window : goal.returns-in_err-window
returns-in_err-window g c = let e = err_from_is_err_and c.from_residual-in_err-window.result c.from_residual-in_err-window.ensures.1 in rw e.1 (record { bridges = tt; total = tt })

pub overflow_add-total : goal.overflow_add-total
overflow_add-total g c = omega (arith, c.loop-k.invariant.bound, c.from-total.ensures, c.len-k-end.ensures)

pub choose_bridge-requires : goal.choose_bridge-requires
choose_bridge-requires g c =
    let here = (goal.at.choose_bridge-requires g c).After-index in
    subst (IsPlace c.args.cut.now) (is g here) (c.in_ok-places.ensures.each c.loop-k.k c.index.result.now (there g here))

pub push_reserved-requires : goal.push_reserved-requires
push_reserved-requires g c = omega (arith, c.loop-k.invariant.windows_len, c.loop-k.invariant.windows_room, c.loop-k-test.true, c.len-k-end.ensures)

pub push_reserved-requires-in-loop-k : goal.push_reserved-requires-in-loop-k
push_reserved-requires-in-loop-k g c = omega (arith, c.loop-k.invariant.len, c.loop-k.invariant.room, c.loop-k-test.true, c.len-k-end.ensures)
