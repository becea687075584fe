-- Walks by their bits from the newest to the oldest, and the order of such lists.
use Rattle.std.proofs.Common.{◌≡◌, ℕ, zero, suc, ◌+◌, ◌*◌, ◌%◌, ◌^◌, ◌<◌, Bool, true, false, List, [], ◌∷◌, ◌++◌, reverse, length, refl, ap, ◌∙◌, arith}
use Rattle.std.proofs.lemmas.Grind.{common_steps}
use Rattle.std.proofs.Math.Nat.{two-pow-succ}
use Rattle.std.proofs.Math.Numerals.{add-one}
use Rattle.cost_core.specs.Trellis.{Trellis, digit, states, next, cost_from, cost}
use Rattle.cost_core.specs.Least.{NotAfter}
use Rattle.cost_core.proofs.Walks.{digit_below, next_below, cost_from-cons}
use Rattle.cost_core.proofs.Numbers.{low_of_shift}

abbrev pub back_state : Trellis → List Bool → ℕ
back_state t [] = t.start
back_state t (b ∷ r) = next t.width (back_state t r) b

abbrev pub back_cost : Trellis → List Bool → ℕ
back_cost t [] = 0
back_cost t (b ∷ r) = back_cost t r + t.step (length r) (back_state t r) b

pub back_below : (t : Trellis) → t.start < states t → (r : List Bool) → back_state t r < states t
back_below t h [] = h
back_below t h (b ∷ r) = next_below t (back_state t r) b

-- a walk forward, cut at a place
pub cost_back : (t : Trellis) (r x : List Bool) → cost t (reverse r ++ x) ≡ back_cost t r + cost_from t (length r) (back_state t r) x
unfolding cost
cost_back t [] x = omega arith
cost_back t (b ∷ r) x =
    let q = back_state t r in
    let e : reverse (b ∷ r) ++ x ≡ reverse r ++ (b ∷ x) = grind (arith, common_steps) in
    let f : cost_from t (length r + 1) (next t.width q b) x ≡ cost_from t (suc (length r)) (next t.width q b) x = rw add-one refl in
    ap (cost t) e ∙ cost_back t r (b ∷ x) ∙ omega (arith, f, cost_from-cons t (length r) q b x)

low : (t : Trellis) (k : ℕ) (b : Bool) (r : List Bool) → k < t.width → back_state t (b ∷ r) % 2 ^ suc k ≡ 2 * (back_state t r % 2 ^ k) + digit b
low t k b r h = low_of_shift (back_state t r) (digit b) t.width k (digit_below b) h

-- of two lists whose last states differ first at bit k, the one with 0 there comes first
pub apart : (t : Trellis) (k : ℕ) (r s : List Bool) → length r ≡ length s → k < t.width → back_state t r % 2 ^ suc k + 2 ^ k ≡ back_state t s % 2 ^ suc k → NotAfter r s
unfolding NotAfter
apart t k [] s e h same = tt
apart t k (a ∷ r) [] e h same = absurd (omega arith)
apart t k (false ∷ r) (true ∷ s) e h same = tt
apart t zero (true ∷ r) (b ∷ s) e h same = absurd (omega (arith, low t 0 true r h, low t 0 b s h, digit_below b))
apart t zero (false ∷ r) (false ∷ s) e h same = absurd (omega (arith, low t 0 false r h, low t 0 false s h))
apart t (suc k) (true ∷ r) (false ∷ s) e h same = absurd (omega (arith, low t (suc k) true r h, low t (suc k) false s h, two-pow-succ k))
apart t (suc k) (true ∷ r) (true ∷ s) e h same =
    apart t k r s (omega arith) (omega arith) (omega (arith, low t (suc k) true r h, low t (suc k) true s h, two-pow-succ k))
apart t (suc k) (false ∷ r) (false ∷ s) e h same =
    apart t k r s (omega arith) (omega arith) (omega (arith, low t (suc k) false r h, low t (suc k) false s h, two-pow-succ k))
