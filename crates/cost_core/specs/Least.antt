-- The least of all lists of n bits, and which of several least ones is first.
use Rattle.std.specs.Prelude.{◌≡◌, ℕ, ◌≤◌, Bool, true, false, List, [], ◌∷◌, length, reverse}

-- x does not come after y in dictionary order, 0 before 1
unfoldable pub NotAfter : List Bool → List Bool → Type 0
NotAfter [] ys = Unit {0}
NotAfter (x ∷ xs) [] = ⊥
NotAfter (false ∷ xs) (true ∷ ys) = Unit {0}
NotAfter (true ∷ xs) (false ∷ ys) = ⊥
NotAfter (false ∷ xs) (false ∷ ys) = NotAfter xs ys
NotAfter (true ∷ xs) (true ∷ ys) = NotAfter xs ys

-- x has n bits, and no list of n bits costs less
pub record IsLeast (levels : ℕ) (cost : List Bool → ℕ) (x : List Bool) : Type 0 where
  pub long : length x ≡ levels
  pub least : (y : List Bool) → length y ≡ levels → cost x ≤ cost y

-- x is least, and of the lists of its cost the first in dictionary order, read from the last bit to the first
pub record IsFirstLeast (levels : ℕ) (cost : List Bool → ℕ) (x : List Bool) : Type 0 where
  pub is_least : IsLeast levels cost x
  pub first : (y : List Bool) → length y ≡ levels → cost y ≡ cost x → NotAfter (reverse x) (reverse y)
