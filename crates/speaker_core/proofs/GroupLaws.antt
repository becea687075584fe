-- Groups with their channels in an order, one after the other.
use Rattle.std.proofs.Common.{◌≡◌, ℕ, zero, suc, ◌+◌, ◌-◌, ◌*◌, ◌<◌, ◌≤◌, List, [], ◌∷◌, ◌++◌, length, take, drop, refl, sym, ap, ap₂, ◌∙◌, append_assoc, arith, length-drop, length-append}
use Rattle.std.specs.Prelude.{if◌then◌else◌}
use Rattle.std.proofs.lemmas.Bool.{le-ltb, lt-ltb}
use Rattle.std.proofs.lemmas.List.{take-append-le}
use lib.Seq.{drop-append-le}
use Rattle.speaker_core.specs.Reordering.{group_in, groups_in}

-- one group, and the others
pub groups_step : (order : List ℕ) (size left : ℕ) (bytes : List ℕ) → 0 < left → length order * size ≤ length bytes
    → groups_in order size left bytes ≡ group_in order size (take (length order * size) bytes) ++ groups_in order size (left - 1) (drop (length order * size) bytes)
groups_step order size zero bytes some long = absurd (omega (arith, some))
groups_step order size (suc k) bytes some long =
    let one : suc k - 1 ≡ k = omega arith in
    let group = length order * size in
    let rest = group_in order size (take group bytes) ++ groups_in order size k (drop group bytes) in
    ap (λ b. if b then bytes else rest) (le-ltb (length bytes) group long) ∙ ap (λ n. group_in order size (take group bytes) ++ groups_in order size n (drop group bytes)) (sym one)

-- bytes that end within the first group
pub groups_short : (order : List ℕ) (size left : ℕ) (bytes : List ℕ) → length bytes < length order * size → groups_in order size left bytes ≡ bytes
groups_short order size zero bytes short = refl
groups_short order size (suc k) bytes short =
    let group = length order * size in
    ap (λ b. if b then bytes else (group_in order size (take group bytes) ++ groups_in order size k (drop group bytes))) (lt-ltb (length bytes) group short)

one_more : (j g : ℕ) → suc j * g ≡ g + j * g
one_more j g = grind arith

-- whole groups, and what follows them
pub groups_join : (order : List ℕ) (size j k : ℕ) (a b : List ℕ) → length a ≡ j * (length order * size) → groups_in order size (j + k) (a ++ b) ≡ groups_in order size j a ++ groups_in order size k b
groups_join order size zero k [] b whole =
    let none : zero + k ≡ k = omega arith in
    ap (λ n. groups_in order size n b) none
groups_join order size zero k (x ∷ xs) b whole = absurd (omega (arith, whole))
groups_join order size (suc j) k a b whole =
    let group = length order * size in
    let whole_is : length a ≡ group + j * group = whole ∙ one_more j group in
    let long : group ≤ length a = omega (arith, whole_is) in
    let more : length (drop group a) ≡ j * group = omega (arith, whole_is, long, length-drop group a) in
    let longer : group ≤ length (a ++ b) = omega (arith, long, length-append a b) in
    let sum : suc j + k - 1 ≡ j + k = omega arith in
    let one : suc j - 1 ≡ j = omega arith in
    groups_step order size (suc j + k) (a ++ b) (omega arith) longer
    ∙ ap₂ (λ x y. group_in order size x ++ groups_in order size (suc j + k - 1) y) (take-append-le group a b long) (drop-append-le group a b long)
    ∙ ap (λ n. group_in order size (take group a) ++ groups_in order size n (drop group a ++ b)) sum
    ∙ ap (λ x. group_in order size (take group a) ++ x) (groups_join order size j k (drop group a) b more)
    ∙ sym (append_assoc (group_in order size (take group a)) (groups_in order size j (drop group a)) (groups_in order size k b))
    ∙ ap (λ x. x ++ groups_in order size k b) (ap (λ n. group_in order size (take group a) ++ groups_in order size n (drop group a)) (sym one) ∙ sym (groups_step order size (suc j) a (omega arith) long))
