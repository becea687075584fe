-- Sums of products, and sums in four parts that wrap.
use Rattle.std.specs.Prelude.{◌≡◌, ℕ, ◌<◌, ◌^◌, ℤ, pos, ◌+ℤ◌, ◌*ℤ◌, List, [], ◌∷◌, length, slice_index_or, unsigned_abs, FitsSigned}
use Rattle.std.specs.Int.{int_wrap, w64}
use Rattle.std.specs.Simd.Lanes.{Each1}
use Rattle.clip_core.specs.Mixes.{total}

-- the sum of the products of two lists, place by place, as far as both reach
abbrev pub dot : List ℤ → List ℤ → ℤ
dot [] ys = pos 0
dot (x ∷ xs) [] = pos 0
dot (x ∷ xs) (y ∷ ys) = x *ℤ y +ℤ dot xs ys

-- a tap or an error: below 2 ^ 31 in absolute value
abbrev pub IsSmall : ℤ → Type 0
IsSmall z = unsigned_abs z < 2 ^ 31

-- four numbers of 64 bits that add up to a number, as far as 64 bits hold it
pub record AreParts (z : ℤ) (parts : List ℤ) : Type 0 where
  pub four : length parts ≡ 4
  pub fit : Each1 (FitsSigned w64) parts
  pub sum : int_wrap w64 (total parts) ≡ int_wrap w64 z

-- a number is added to what parts add up to
abbrev pub IsAdded : ℤ → List ℤ → List ℤ → Type 0
IsAdded y old new = (z : ℤ) → AreParts z old → AreParts (z +ℤ y) new

-- the parts of the sum of each window
pub record AreSums (number : ℕ) (f : ℕ → ℤ) (sums : List (List ℤ)) : Type 0 where
  pub long : length sums ≡ number
  pub each : (w : ℕ) → w < number → AreParts (f w) (slice_index_or sums w [])

-- a number is added to the sum of each window
abbrev pub AreAdded : ℕ → (ℕ → ℤ) → List (List ℤ) → List (List ℤ) → Type 0
AreAdded number g old new = (w : ℕ) → w < number → IsAdded (g w) (slice_index_or old w []) (slice_index_or new w [])

-- what parts of a sum and a last number add up to, if it fits 64 bits
abbrev pub IsSumOf : List ℤ → ℤ → ℤ → Type 0
IsSumOf parts last sum = (z : ℤ) → AreParts z parts → FitsSigned w64 (z +ℤ last) → sum ≡ z +ℤ last
