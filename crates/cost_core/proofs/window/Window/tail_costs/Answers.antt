use Rattle.std.proofs.Common.{◌≡◌, ℕ, ◌+◌, ◌*◌, ◌%◌, ◌^◌, ◌<◌, ◌≤◌, ◌-ℤ◌, false, length, get_or, pos, to_z, of_z, w32, ap, subst, ◌∙◌, arith}
use Rattle.std.proofs.lemmas.List.{get_or-replicate}
use Rattle.std.proofs.lemmas.List.FromFn.{fill_by_all}
use Rattle.std.proofs.lemmas.Nat.{pow_pos}
use Rattle.std.proofs.Math.Nat.{mod-eq_of_lt}
use mir.Val.{bool_byte}
use Rattle.cost_core.specs.Trellis.{digit}
use Rattle.cost_core.specs.Weighted.{square}
use Rattle.cost_core.specs.Bridges.{target}
use Rattle.cost_core.specs.StateCosts.{step_of, trellis_of}
use Rattle.cost_core.specs.Limits.{IsBridging}
use Rattle.cost_core.specs.View.{bridging_of}
use Rattle.cost_core.proofs.Limits.{deviation_in}
use Rattle.cost_core.proofs.Reading.{bool_digit, state_below, steps_done}
use Rattle.cost_core.proofs.Tables.{table_at, table_in, table_length, table_small, target_read, targets_in}
use Rattle.cost_core.proofs.Tails.{step_is, tail_more}
use Rattle.cost_core.proofs.Walks.{digit_below}
use Rattle.cost_core.proofs.window.Window.tail_costs.Goals as goal
use Rattle.cost_core.proofs.window.Window.tail_costs.Goals.{After-self, After-deref}

limits : (c : After-self) → IsBridging c.args.self.now
limits c = rw c.self.view_is at c.self.invariant.limits

there : (c : After-deref) → c.loop-place.place < length c.self.inside.following
there c = omega (arith, c.len-place-end.ensures.value, c.loop-place-test.true)

target_is : (c : After-deref) → to_z w32 (of_z w32 c.index-target.result.now) ≡ target (bridging_of c.self.inside) (c.self.inside.levels + c.loop-place.place + 1)
target_is c = target_read c.self.inside c.self.invariant (c.self.inside.levels + c.loop-place.place) c.index-target.result.now (omega (arith, there c)) c.index-target.ensures

table_long : (c : After-deref) → length c.deref.result.now ≡ 2 ^ length c.self.inside.weights.items
table_long c = ap length c.deref.ensures.value ∙ table_length c.self.inside c.self.invariant

bit_is : (c : After-deref) → c.get.result ≡ get_or c.args.self.now.following c.loop-place.place false
bit_is c = c.get.ensures ∙ ap (λ v. get_or v.following c.loop-place.place false) c.self.view_is

digit_is : (c : After-deref) → c.from.result ≡ digit (get_or c.args.self.now.following c.loop-place.place false)
digit_is c = c.from.ensures ∙ ap bool_byte (bit_is c) ∙ bool_digit (get_or c.args.self.now.following c.loop-place.place false)

pub loop-place-init : goal.loop-place-init
loop-place-init c =
    let d = c.args.self.now in
    let w = length d.preceding in
    let zeros : (q : ℕ) → q < 2 ^ w → get_or c.fill.new.self q 0 ≡ 0 = λ q h. ap (λ l. get_or l q 0) (c.fill.ensures.after (λ y e. e)) ∙ get_or-replicate (length c.args.row.now) q 0 0 (omega (arith, c.requires)) in
    record {
      long = c.fill.ensures.len ∙ c.requires;
      ending = pow_pos w;
      row = λ q h. omega (arith, zeros q h);
      sums = λ q h.
          let e : (q * 1 + 0) % 2 ^ w ≡ q = ap (λ n. n % 2 ^ w) (let f : q * 1 + 0 ≡ q = omega arith in f) ∙ mod-eq_of_lt h in
          let l : d.levels + 0 ≡ d.levels = omega arith in
          rw (zeros q h, e, l) (omega arith);
    }

pub add_squared_differences-requires-clause-whole : goal.add_squared_differences-requires-clause-whole
add_squared_differences-requires-clause-whole c = (length c.self.inside.weights.items, table_long (goal.at.add_squared_differences-requires-clause-whole c).After-deref)

pub add_squared_differences-requires-clause-sums : goal.add_squared_differences-requires-clause-sums
add_squared_differences-requires-clause-sums c = λ k h.
    let e = ap (λ l. get_or l k (pos 0)) c.deref.ensures.value ∙ table_at c.self.inside c.self.invariant k (omega (arith, table_long (goal.at.add_squared_differences-requires-clause-sums c).After-deref)) in
    rw e (table_in c.self.inside c.self.invariant k)

pub add_squared_differences-requires-clause-first : goal.add_squared_differences-requires-clause-first
add_squared_differences-requires-clause-first c =
    let p = (goal.at.add_squared_differences-requires-clause-first c).After-deref in
    omega (arith, table_small c.args.self.now (limits (goal.at.add_squared_differences-requires-clause-first c).After-self), c.loop-place.invariant.ending, digit_is p, digit_below (get_or c.args.self.now.following c.loop-place.place false))

pub add_squared_differences-requires-clause-other : goal.add_squared_differences-requires-clause-other
add_squared_differences-requires-clause-other c =
    rw (target_is (goal.at.add_squared_differences-requires-clause-other c).After-deref) (targets_in c.self.inside c.self.invariant (c.self.inside.levels + c.loop-place.place + 1))

pub add_squared_differences-requires-clause-short : goal.add_squared_differences-requires-clause-short
add_squared_differences-requires-clause-short c =
    omega (arith, table_small c.args.self.now (limits (goal.at.add_squared_differences-requires-clause-short c).After-self), c.loop-place.invariant.long)

pub loop-place-preserved : goal.loop-place-preserved
loop-place-preserved c =
    let p = (goal.at.loop-place-preserved c).After-deref in
    let d = c.args.self.now in
    let w = length d.preceding in
    let k = c.loop-place.place in
    let e = c.loop-place.ending in
    let v = c.from.result in
    let bit = get_or d.following k false in
    let sums = c.deref.result.now in
    let other = to_z w32 (of_z w32 c.index-target.result.now) in
    let state : ℕ → ℕ = λ q. (q * 2 ^ k + e) % 2 ^ w in
    let cost : (q : ℕ) → square (get_or sums ((q * 2 ^ (k + 1) + (2 * e + v)) % length sums) (pos 0) -ℤ other) ≡ step_of d (d.levels + k) (state q) bit = λ q.
    subst (λ b. square (get_or sums ((q * 2 ^ (k + 1) + (2 * e + v)) % length sums) (pos 0) -ℤ other) ≡ step_of b (b.levels + k) ((q * 2 ^ k + e) % 2 ^ length b.preceding) bit) c.self.view_is
    (step_is c.self.inside c.self.invariant sums c.deref.ensures.value q e k v bit other (digit_is p) (target_is p)) in
    let added : (q : ℕ) → q < 2 ^ w → get_or c.add_squared_differences.new.row q 0 ≡ get_or c.loop-place.row q 0 + step_of d (d.levels + k) (state q) bit = λ q h.
    c.add_squared_differences.ensures q (omega (arith, c.loop-place.invariant.long)) ∙ ap (λ n. get_or c.loop-place.row q 0 + n) (cost q) in
    let lt : k < length d.following = omega (arith, there p, ap (λ b. length b.following) c.self.view_is) in
    record {
      long = c.add_squared_differences.auto.row ∙ c.loop-place.invariant.long;
      ending = state_below _ w _ c.states.ensures.value;
      row = λ q h. omega (arith, added q h, c.loop-place.invariant.row q h, deviation_in d (limits (goal.at.loop-place-preserved c).After-self) (d.levels + k) (2 * state q + digit bit));
      sums = λ q h. rw (added q h) (tail_more d.following k v lt (c.from.ensures ∙ ap bool_byte (bit_is p)) w (step_of d) d.levels q e _ _ _ _ c.states.ensures.value (let r : step_of d (d.levels + k) (state q) bit ≡ step_of d (d.levels + k) (state q) bit = λ _. step_of d (d.levels + k) (state q) bit in r) (c.loop-place.invariant.sums q h));
    }

pub returns : goal.returns
returns c =
    let d = c.args.self.now in
    let w = length d.preceding in
    let k = c.loop-place.place in
    let all : length d.following ≤ k = omega (arith, c.len-place-end.ensures.value, c.loop-place-test.false, ap (λ b. length b.following) c.self.view_is) in
    fill_by_all (trellis_of d).tail c.loop-place.row (2 ^ w) 0 c.loop-place.invariant.long
    (λ q h. steps_done d.following w (step_of d) k (d.levels + k) ((q * 2 ^ k + c.loop-place.ending) % 2 ^ w) (get_or c.loop-place.row q 0) _ all (c.loop-place.invariant.sums q h))

pub add_squared_differences-requires-clause-row : goal.add_squared_differences-requires-clause-row
add_squared_differences-requires-clause-row c = λ k h.
    let few = limits (goal.at.add_squared_differences-requires-clause-row c).After-self in
    let place = there (goal.at.add_squared_differences-requires-clause-row c).After-deref in
    omega (arith, c.loop-place.invariant.row k (omega (arith, h, c.loop-place.invariant.long)), place, ap (λ b. length b.following) c.self.view_is, few.after, few.weights_in.few_weights)
