use Rattle.std.proofs.Common.{◌≡◌, ◌≤◌, ◌*◌, ◌^◌, length, map, take, vec_capacity, vec_len}
use Rattle.std.specs.List.{All, AllZip}
use Rattle.cost_core.specs.Limits.{IsBridging}
use Rattle.master_core.specs.Choosing.{IsChosenAt, chosen_cost, window_at}
use Rattle.master_core.proofs.choosing.choose_bridges.Given as goal

abbrev pub invariant-loop-k : goal.invariant-loop-k
invariant-loop-k g l = record {
  chosen : AllZip (IsChosenAt l.cut) (take l.k l.places.items) l.chosen.items;
  windows : l.windows.items ≡ map (window_at l.cut) (take l.k l.places.items);
  within : All IsBridging l.windows.items;
  total : l.total ≡ chosen_cost l.chosen.items;
  bound : l.total ≤ l.k * 2 ^ 64;
  len : vec_len l.chosen ≡ l.k;
  room : length l.places.items ≤ vec_capacity l.chosen;
  windows_len : vec_len l.windows ≡ l.k;
  windows_room : length l.places.items ≤ vec_capacity l.windows;
}
