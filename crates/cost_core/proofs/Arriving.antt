-- The numbers of a table are the steps by the states that they lead to.
use Rattle.std.proofs.Common.{◌≡◌, ℕ, zero, suc, ◌+◌, ◌-◌, ◌*◌, ◌%◌, ◌^◌, ◌<◌, eqb, ◌∷◌, ◌++◌, length, map, refl, sym, ap, ◌∙◌, arith}
use Rattle.std.specs.List.{range_with_len}
use Rattle.cost_core.specs.Trellis.{digit, newest, before_by_0, before_by_1}
use Rattle.cost_core.specs.Bridges.{Bridging}
use Rattle.cost_core.specs.StateCosts.{deviation, step_of, step_row}
use Rattle.cost_core.specs.Limits.{IsBridging}
use Rattle.cost_core.proofs.Numbers.{pow_double}

map_parts : (f : ℕ → ℕ) (a n m : ℕ) → map f (range_with_len a (n + m)) ≡ map f (range_with_len a n) ++ map f (range_with_len (a + n) m)
map_parts f a zero m = let e : 0 + m ≡ m = omega arith in let g : a + 0 ≡ a = omega arith in rw (e, g)
map_parts f a (suc n) m =
    let e : suc n + m ≡ suc (n + m) = omega arith in
    let g : a + suc n ≡ a + 1 + n = omega arith in
    rw (e, g) (ap (λ l. f a ∷ l) (map_parts f (a + 1) n m))

-- the same numbers by another function, from another place
map_moved : (f g : ℕ → ℕ) (a b n : ℕ) → ((k : ℕ) → k < n → f (a + k) ≡ g (b + k)) → map f (range_with_len a n) ≡ map g (range_with_len b n)
map_moved f g a b zero h = refl
map_moved f g a b (suc n) h =
    let ea : a + 0 ≡ a = omega arith in
    let eb : b + 0 ≡ b = omega arith in
    let first : f a ≡ g b = ap f (sym ea) ∙ h 0 (omega arith) ∙ ap g eb in
    let rest = map_moved f g (a + 1) (b + 1) n (λ k lt. let ka : a + 1 + k ≡ a + suc k = omega arith in let kb : b + suc k ≡ b + 1 + k = omega arith in ap f ka ∙ h (suc k) (omega arith) ∙ ap g kb) in
    rw (first, rest) refl

odd_digit : (c : ℕ) → digit (eqb (c % 2) 1) ≡ c % 2
odd_digit c = odd_digit_of (c % 2) (omega arith)
  where
    odd_digit_of : (r : ℕ) → r < 2 → digit (eqb r 1) ≡ r
    odd_digit_of zero h = refl
    odd_digit_of (suc zero) h = refl
    odd_digit_of (suc (suc r)) h = absurd (omega arith)

pub steps_by_state : (d : Bridging) → IsBridging d → (level : ℕ) → map (deviation d level) (range_with_len 0 (2 * 2 ^ length d.preceding)) ≡ step_row d level
steps_by_state d fine level =
    let w = length d.preceding in
    let s = 2 ^ w in
    let some : 0 < w = omega (arith, fine.before, fine.weights_in.two_weights) in
    let half : s ≡ 2 ^ (w - 1) + 2 ^ (w - 1) = pow_double w some in
    let twice : 2 * s ≡ s + s = omega arith in
    let low = map_moved (deviation d level) (λ q. step_of d level (before_by_0 w q) (newest q)) 0 0 s (λ k lt. ap (deviation d level) (let o = odd_digit (0 + k) in omega arith)) in
    let high = map_moved (deviation d level) (λ q. step_of d level (before_by_1 w q) (newest q)) (0 + s) 0 s (λ k lt. ap (deviation d level) (let o = odd_digit (0 + k) in omega arith)) in
    ap (λ n. map (deviation d level) (range_with_len 0 n)) twice ∙ map_parts (deviation d level) 0 s s ∙ (rw (low, high) refl)
