-- What a window holds, as its methods read it.
use Rattle.std.proofs.Common.{◌≡◌, ℕ, Bool, to_z, of_z, w32, ◌+◌, ◌-◌, ◌*◌, ◌^◌, ◌<◌, ◌≤◌, length, get_or, sym, ap, ◌∙◌, arith, ℤ, pos, unsigned_abs}
use Rattle.std.proofs.lemmas.List.{get_or_read}
use Rattle.std.proofs.lemmas.List.FromFn.{length-map-range_with_len, get_or-map-range_with_len}
use Rattle.cost_core.specs.declared.window.Window.TheInside.{Inside}
use Rattle.cost_core.specs.Trellis.{digit}
use Rattle.cost_core.specs.Bridges.{Bridging, target}
use Rattle.cost_core.specs.StateCosts.{scaled}
use Rattle.cost_core.specs.Limits.{IsBridging}
use Rattle.cost_core.specs.View.{bridging_of, IsWindow}
use Rattle.cost_core.proofs.Limits.{scaled_in, target_small}
use Rattle.cost_core.proofs.Numbers.{pow_twice, states_small}
use Rattle.cost_core.proofs.SumLaws.{kept}
use Rattle.cost_core.proofs.Walks.{digit_below}

module _ (w : Inside) (fine : IsWindow w) where
  pub table_length : length w.scaled.items ≡ 2 ^ length w.weights.items
  table_length = ap length fine.table_is ∙ length-map-range_with_len (scaled (bridging_of w)) 0 (2 ^ length w.weights.items)

  pub table_at : (code : ℕ) → code < 2 ^ length w.weights.items → get_or w.scaled.items code (pos 0) ≡ scaled (bridging_of w) code
  table_at code h = ap (λ l. get_or l code (pos 0)) fine.table_is ∙ get_or-map-range_with_len (scaled (bridging_of w)) 0 (2 ^ length w.weights.items) code code (pos 0) h (omega arith)

  pub table_in : (code : ℕ) → unsigned_abs (scaled (bridging_of w) code) ≤ 4097 * 4096
  table_in code = scaled_in (bridging_of w) fine.limits code

  pub targets_in : (i : ℕ) → unsigned_abs (target (bridging_of w) i) ≤ 4097 * 4096
  targets_in i = target_small (bridging_of w) fine.limits i

  pub scaled_read : (code : ℕ) (v : ℤ) → code < 2 ^ length w.weights.items → v ≡ get_or w.scaled.items code v → to_z w32 (of_z w32 v) ≡ scaled (bridging_of w) code
  scaled_read code v h e =
      let is : v ≡ scaled (bridging_of w) code = get_or_read w.scaled.items code v (omega (arith, table_length)) e (pos 0) ∙ table_at code h in
      kept v (rw is (omega (arith, table_in code))) ∙ is

  target_at : (k : ℕ) → get_or w.targets.items k (pos 0) ≡ target (bridging_of w) (k + 1)
  target_at k = ap (λ n. get_or w.targets.items n (pos 0)) (let e : k ≡ k + 1 - 1 = omega arith in e)

  pub target_read : (k : ℕ) (v : ℤ) → k < w.levels + length w.following → v ≡ get_or w.targets.items k v → to_z w32 (of_z w32 v) ≡ target (bridging_of w) (k + 1)
  target_read k v h e =
      let is : v ≡ target (bridging_of w) (k + 1) = get_or_read w.targets.items k v (omega (arith, fine.as_many_targets)) e (pos 0) ∙ target_at k in
      kept v (rw is (omega (arith, targets_in (k + 1)))) ∙ is

module _ (d : Bridging) (fine : IsBridging d) where
  pub table_size : 2 ^ length d.weights ≡ 2 * 2 ^ length d.preceding
  table_size = ap (λ n. 2 ^ n) (sym fine.before) ∙ pow_twice (length d.preceding)

  -- a state and a bit are a number of the table
  pub code_below : (q : ℕ) (bit : Bool) → q < 2 ^ length d.preceding → 2 * q + digit bit < 2 ^ length d.weights
  code_below q bit h = omega (arith, table_size, digit_below bit)

  pub width_small : length d.preceding ≤ 11
  width_small = omega (arith, fine.before, fine.weights_in.few_weights)

  pub table_small : 2 ^ length d.preceding ≤ 2048
  table_small = states_small (length d.preceding) width_small
