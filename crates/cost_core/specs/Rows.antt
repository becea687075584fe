-- One level of a trellis over plain lists, by the states that it leads to (Viterbi's algorithm).
use Rattle.std.specs.Prelude.{ℕ, ◌+◌, ◌/◌, ◌^◌, List, [], ◌∷◌, Bool, min, nat_lt, if◌then◌else◌, take, drop, length}
use Rattle.std.specs.Simd.Lanes.{zip2}

-- the sums by one way in: the row before, and the steps
abbrev pub sums : List ℕ → List ℕ → List ℕ
sums = zip2 (λ a b. a + b)

-- whether the second way costs less
abbrev pub seconds : List ℕ → List ℕ → List Bool
seconds = zip2 (λ x y. nat_lt y x)

-- the lesser of both ways and 2 ^ 63
abbrev pub least : List ℕ → List ℕ → List ℕ
least = zip2 (λ x y. min (if nat_lt y x then y else x) (2 ^ 63))

-- each state leads to two, 2p and 2p + 1
abbrev pub twice : List ℕ → List ℕ
twice [] = []
twice (x ∷ xs) = x ∷ x ∷ twice xs

-- the sums by the states whose oldest bit is 0, from the row before and their steps
abbrev pub lower : List ℕ → List ℕ → List ℕ
lower old steps = sums (twice (take (length old / 2) old)) steps

-- and by those whose oldest bit is 1
abbrev pub upper : List ℕ → List ℕ → List ℕ
upper old steps = sums (twice (drop (length old / 2) old)) steps
