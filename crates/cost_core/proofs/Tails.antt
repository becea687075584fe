-- The tail costs of all states, place by place.
use Rattle.std.proofs.Common.{◌≡◌, ℕ, suc, ◌+◌, ◌-◌, ◌*◌, ◌/◌, ◌%◌, ◌^◌, ◌<◌, ◌≤◌, Bool, false, List, length, get_or, drop, refl, sym, ap, ◌∙◌, arith, ℤ, pos, ◌-ℤ◌}
use Rattle.std.specs.Int.Bits.{bit_and}
use Rattle.std.proofs.lemmas.Nat.{and_mask, mul-le, mod_below, pow_pos}
use Rattle.std.proofs.Math.Nat.{add-mul-mod_self_left, div-add-mod, mod-eq_of_lt, pow-le-pow_right, two-pow-succ}
use mir.Val.{bool_byte}
use Rattle.cost_core.specs.declared.window.Window.TheInside.{Inside}
use Rattle.cost_core.specs.Trellis.{digit, steps}
use Rattle.cost_core.specs.Weighted.{square}
use Rattle.cost_core.specs.Bridges.{target}
use Rattle.cost_core.specs.StateCosts.{deviation, scaled, step_of}
use Rattle.cost_core.specs.View.{bridging_of, IsWindow}
use Rattle.cost_core.proofs.Numbers.{mod_low}
use Rattle.cost_core.proofs.Reading.{steps_more}
use Rattle.cost_core.proofs.Tables.{table_at, table_length, code_below}
use Rattle.cost_core.proofs.Walks.{digit_below}

-- a place in a table of as many numbers as a power of two, as it is reckoned
pub round_table : (k shift first n len : ℕ) → k < 2048 → shift ≤ 12 → len ≡ 2 ^ n → bit_and ((k * 2 ^ shift) % 18446744073709551616 + first) (len - 1) ≡ (k * 2 ^ shift + first) % len
round_table k shift first n len hk hs e =
    let two : 0 < 2 = omega arith in
    let p : 2 ^ shift ≤ 4096 = pow-le-pow_right two {i = shift} {j = 12} hs in
    let small : (k * 2 ^ shift) % 18446744073709551616 ≡ k * 2 ^ shift = mod-eq_of_lt (omega (arith, mul-le k (2 ^ shift) 2048 4096 (omega arith) p)) in
    rw (small, e) (and_mask (k * 2 ^ shift + first) n)

add_round : (a x m : ℕ) → (a + x % m) % m ≡ (a + x) % m
add_round a x m =
    let e : a + x % m + m * (x / m) ≡ a + x = omega (arith, div-add-mod x m) in
    sym (add-mul-mod_self_left (a + x % m) m (x / m)) ∙ ap (λ y. y % m) e

-- a bit after a state that was reckoned round
pub next_round : (x v m : ℕ) → (2 * (x % m) + v) % m ≡ (2 * x + v) % m
next_round x v m =
    let r = x % m in
    let e1 : 2 * r + v ≡ (r + v) + r = omega arith in
    let e2 : (r + v) + x ≡ (x + v) + r = omega arith in
    let e3 : (x + v) + x ≡ 2 * x + v = omega arith in
    ap (λ y. y % m) e1 ∙ add_round (r + v) x m ∙ ap (λ y. y % m) e2 ∙ add_round (x + v) x m ∙ ap (λ y. y % m) e3

twice_moved : (q e k v : ℕ) → q * 2 ^ (k + 1) + (2 * e + v) ≡ 2 * (q * 2 ^ k + e) + v
twice_moved q e k v =
    let p : 2 ^ (k + 1) ≡ 2 * 2 ^ k = ap (λ n. 2 ^ n) (let s : k + 1 ≡ suc k = omega arith in s) ∙ rw (two-pow-succ k) (omega arith) in
    let d : q * (2 * 2 ^ k) ≡ 2 * (q * 2 ^ k) = omega arith in
    rw (p, d) (omega arith)

-- state q's number in the table, where n bits that end in state e follow it and then the bit v
pub code_is : (w q e k v : ℕ) → v < 2 → (q * 2 ^ (k + 1) + (2 * e + v)) % 2 ^ suc w ≡ 2 * ((q * 2 ^ k + e) % 2 ^ w) + v
code_is w q e k v h =
    let x = q * 2 ^ k + e in
    let half : (2 * x + v) / 2 ≡ x = omega arith in
    let low : (2 * x + v) % 2 ≡ v = omega arith in
    rw (twice_moved q e k v) (mod_low (2 * x + v) w ∙ (rw (half, low) refl))

-- the state that state q leads to by one bit more
pub moved_on : (q e k v m : ℕ) → (2 * ((q * 2 ^ k + e) % m) + v) % m ≡ (q * 2 ^ (k + 1) + (2 * e + v) % m) % m
moved_on q e k v m = next_round (q * 2 ^ k + e) v m ∙ ap (λ y. y % m) (sym (twice_moved q e k v)) ∙ sym (add_round (q * 2 ^ (k + 1)) (2 * e + v) m)

-- one place more of a state's tail
pub tail_more : (bits : List Bool) (k v : ℕ) → k < length bits → v ≡ bool_byte (get_or bits k false) → (w : ℕ) (step : ℕ → ℕ → Bool → ℕ) (level q e n cost total whole : ℕ) → n ≡ 2 ^ w
    → cost ≡ step (level + k) ((q * 2 ^ k + e) % 2 ^ w) (get_or bits k false) → total + steps w step (level + k) ((q * 2 ^ k + e) % 2 ^ w) (drop k bits) ≡ whole
    → (total + cost) + steps w step (level + (k + 1)) ((q * 2 ^ (k + 1) + (2 * e + v) % n) % 2 ^ w) (drop (k + 1) bits) ≡ whole
tail_more bits k v lt is w step level q e n cost total whole en ec sum =
    let at : level + (k + 1) ≡ level + k + 1 = omega arith in
    let s : (q * 2 ^ (k + 1) + (2 * e + v) % n) % 2 ^ w ≡ (2 * ((q * 2 ^ k + e) % 2 ^ w) + v) % n =
    ap (λ m. (q * 2 ^ (k + 1) + (2 * e + v) % m) % 2 ^ w) en ∙ sym (moved_on q e k v (2 ^ w)) ∙ ap (λ m. (2 * ((q * 2 ^ k + e) % 2 ^ w) + v) % m) (sym en) in
    rw (at, s) (steps_more bits k v lt is w step (level + k) ((q * 2 ^ k + e) % 2 ^ w) n cost total whole en ec sum)

-- what is added for a state at a place after the bridge
module _ (w : Inside) (fine : IsWindow w) where
  pub step_is : (sums : List ℤ) → sums ≡ w.scaled.items → (q e k v : ℕ) (bit : Bool) (other : ℤ) → v ≡ digit bit → other ≡ target (bridging_of w) (w.levels + k + 1)
      → square (get_or sums ((q * 2 ^ (k + 1) + (2 * e + v)) % length sums) (pos 0) -ℤ other) ≡ step_of (bridging_of w) (w.levels + k) ((q * 2 ^ k + e) % 2 ^ length w.preceding) bit
  unfolding deviation
  step_is sums es q e k v bit other ev eo =
      let d = bridging_of w in
      let state : ℕ = (q * 2 ^ k + e) % 2 ^ length w.preceding in
      let long : length sums ≡ 2 ^ suc (length w.preceding) = ap length es ∙ table_length w fine ∙ ap (λ n. 2 ^ n) (sym fine.limits.before) in
      let small : v < 2 = omega (arith, ev, digit_below bit) in
      let at : (q * 2 ^ (k + 1) + (2 * e + v)) % length sums ≡ 2 * state + digit bit =
      ap (λ n. (q * 2 ^ (k + 1) + (2 * e + v)) % n) long ∙ code_is (length w.preceding) q e k v small ∙ ap (λ n. 2 * state + n) ev in
      let inside = code_below d fine.limits state bit (mod_below (q * 2 ^ k + e) (2 ^ length w.preceding) (pow_pos (length w.preceding))) in
      ap (λ n. square (get_or sums n (pos 0) -ℤ other)) at ∙ ap (λ l. square (get_or l (2 * state + digit bit) (pos 0) -ℤ other)) es ∙ ap (λ s. square (s -ℤ other)) (table_at w fine (2 * state + digit bit) inside)
      ∙ ap (λ o. square (scaled d (2 * state + digit bit) -ℤ o)) eo
