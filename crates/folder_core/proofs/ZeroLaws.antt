-- The bytes of a file with zeros for those that lie in its gaps.
use Rattle.std.proofs.Common.{◌≡◌, ℕ, zero, suc, ◌+◌, ◌-◌, ◌^◌, ◌<◌, ◌≤◌, inl, inr, Bool, false, true, List, [], ◌∷◌, ◌++◌, length, replicate, slice_index, take, Option, None, Some, Result, Ok, Err, IfOk, refl, sym, ap, ap₂, subst, ◌∙◌, arith}
use Rattle.std.specs.Prelude.{min, nat_lt, if◌then◌else◌}
use Rattle.std.proofs.lemmas.Bool.{cases_lt, le-ltb, lt-ltb}
use Rattle.std.proofs.lemmas.List.{length-replicate, take-replicate}
use Rattle.std.specs.Io.{ReadsAtMost}
use Rattle.std.specs.Io.KnownBytes.{Consumes, IsAtEnd, Keeps, ReadConsumes}
use Rattle.folder_core.specs.GappedFiles.{HasSameGaps, IsMovedOn, LiesBeside, LiesInGap, LiesOutside, MovesOn, is_in, is_in_one, zeroed, zeroed_known}
use Rattle.folder_core.specs.declared.gapped_file.Gap.{Gap}
use Rattle.folder_core.specs.declared.gapped_file.Gaps.{Gaps}

-- ---- whether a place lies in a gap
pub before_gap : (gap : Gap) (place : ℕ) → place < gap.start → is_in gap place ≡ false
before_gap gap place low = ap (λ b. if b then false else nat_lt place gap.stop) (lt-ltb place gap.start low)

pub after_gap : (gap : Gap) (place : ℕ) → gap.stop ≤ place → is_in gap place ≡ false
after_gap gap place high = by (nat_lt place gap.start) (nat_lt place gap.stop) (le-ltb place gap.stop high)
  where
    by : (a b : Bool) → b ≡ false → (if a then false else b) ≡ false
    by true b none = refl
    by false b none = none

pub in_gap : (gap : Gap) (place : ℕ) → gap.start ≤ place → place < gap.stop → is_in gap place ≡ true
in_gap gap place from to = ap (λ b. if b then false else nat_lt place gap.stop) (le-ltb place gap.start from) ∙ lt-ltb place gap.stop to

pub beside_gap : (gap : Gap) (place size : ℕ) → 0 < size → LiesBeside gap place size → is_in gap place ≡ false
beside_gap gap place size some (inl low) = before_gap gap place (omega (arith, some, low))
beside_gap gap place size some (inr high) = after_gap gap place high

either : (a b : Bool) → a ≡ false → b ≡ false → (if a then true else b) ≡ false
either a b none other = ap (λ c. if c then true else b) none ∙ other

pub outside_both : (gaps : Gaps) (place size : ℕ) → 0 < size → LiesOutside gaps place size → is_in_one gaps place ≡ false
outside_both gaps place size some beside = either (is_in gaps.first place) (is_in gaps.second place) (beside_gap gaps.first place size some beside.0) (beside_gap gaps.second place size some beside.1)

pub inside_one : (gaps : Gaps) (place size : ℕ) → 0 < size → LiesInGap gaps place size → is_in_one gaps place ≡ true
inside_one gaps place size some (inl at) = ap (λ b. if b then true else is_in gaps.second place) (in_gap gaps.first place at.0 (omega (arith, some, at.1)))
inside_one gaps place size some (inr at) = by (is_in gaps.first place) (is_in gaps.second place) (in_gap gaps.second place at.0 (omega (arith, some, at.1)))
  where
    by : (a b : Bool) → b ≡ true → (if a then true else b) ≡ true
    by true b all = refl
    by false b all = all

-- ---- the bytes that come from a gap, and those that don't
pub zeroed_parts : (gaps : Gaps) (place : ℕ) (xs ys : List ℕ) → zeroed gaps place (xs ++ ys) ≡ zeroed gaps place xs ++ zeroed gaps (place + length xs) ys
zeroed_parts gaps place [] ys = ap (λ n. zeroed gaps n ys) (omega arith)
zeroed_parts gaps place (x ∷ xs) ys = ap (λ bytes. (if is_in_one gaps place then 0 else x) ∷ bytes) (zeroed_parts gaps (place + 1) xs ys ∙ ap (λ n. zeroed gaps (place + 1) xs ++ zeroed gaps n ys) (omega arith))

later_in : (gaps : Gaps) (place size : ℕ) → LiesInGap gaps place (size + 1) → LiesInGap gaps (place + 1) size
later_in gaps place size (inl at) = inl (omega (arith, at.0), omega (arith, at.1))
later_in gaps place size (inr at) = inr (omega (arith, at.0), omega (arith, at.1))

later_beside : (gap : Gap) (place size : ℕ) → LiesBeside gap place (size + 1) → LiesBeside gap (place + 1) size
later_beside gap place size (inl low) = inl (omega (arith, low))
later_beside gap place size (inr high) = inr (omega (arith, high))

one_more : (x : ℕ) (xs : List ℕ) → length (x ∷ xs) ≡ length xs + 1
one_more x xs = omega arith

pub zeroed_inside : (gaps : Gaps) (place : ℕ) (xs : List ℕ) → LiesInGap gaps place (length xs) → zeroed gaps place xs ≡ replicate (length xs) 0
zeroed_inside gaps place [] within = refl
zeroed_inside gaps place (x ∷ xs) within =
    let later = later_in gaps place (length xs) (subst (LiesInGap gaps place) (one_more x xs) within) in
    ap₂ (λ b bytes. (if b then 0 else x) ∷ bytes) (inside_one gaps place (length (x ∷ xs)) (omega arith) within) (zeroed_inside gaps (place + 1) xs later)

pub zeroed_outside : (gaps : Gaps) (place : ℕ) (xs : List ℕ) → LiesOutside gaps place (length xs) → zeroed gaps place xs ≡ xs
zeroed_outside gaps place [] beside = refl
zeroed_outside gaps place (x ∷ xs) beside =
    let n = length xs in
    let both = subst (LiesOutside gaps place) (one_more x xs) beside in
    ap₂ (λ b bytes. (if b then 0 else x) ∷ bytes) (outside_both gaps place (length (x ∷ xs)) (omega arith) beside)
    (zeroed_outside gaps (place + 1) xs (later_beside gaps.first place n both.0, later_beside gaps.second place n both.1))

-- ---- the bytes that lie in no gap, one by one
pub zeroed_long : (gaps : Gaps) (place : ℕ) (xs : List ℕ) → length (zeroed gaps place xs) ≡ length xs
zeroed_long gaps place [] = refl
zeroed_long gaps place (x ∷ xs) = omega (arith, zeroed_long gaps (place + 1) xs)

pub zeroed_at : (gaps : Gaps) (place : ℕ) (xs : List ℕ) (k : ℕ) → is_in_one gaps (place + k) ≡ false → slice_index xs k ≡ slice_index (zeroed gaps place xs) k
zeroed_at gaps place [] k out = refl
zeroed_at gaps place (x ∷ xs) zero out =
    let same : place + zero ≡ place = omega arith in
    let beside : is_in_one gaps place ≡ false = subst (λ n. is_in_one gaps n ≡ false) same out in
    sym (ap (λ b. if b then 0 else x) beside)
zeroed_at gaps place (x ∷ xs) (suc k) out =
    let same : place + suc k ≡ place + 1 + k = omega arith in
    zeroed_at gaps (place + 1) xs k (subst (λ n. is_in_one gaps n ≡ false) same out)

one_out : (gap : Gap) (place : ℕ) → ((gap.start ≤ place) × (place + 1 ≤ gap.stop) → ⊥) → LiesBeside gap place 1
one_out gap place beside = elim (cases_lt place gap.start) [
  | inl low ↦ inl (omega (arith, low))
  | inr from ↦ elim (cases_lt place gap.stop) [
    | inl within ↦ absurd (beside (from, omega (arith, within)))
    | inr past ↦ inr past
  ]
]

pub other_place : (gaps : Gaps) (place : ℕ) → (LiesInGap gaps place 1 → ⊥) → is_in_one gaps place ≡ false
other_place gaps place beside = outside_both gaps place 1 (omega arith) (one_out gaps.first place (λ within. beside (inl within)), one_out gaps.second place (λ within. beside (inr within)))

pub zeroed_by_none : (gaps : Gaps) (place : ℕ) (xs : List ℕ) → ((p : ℕ) → LiesInGap gaps p 1 → ⊥) → zeroed gaps place xs ≡ xs
zeroed_by_none gaps place [] none = refl
zeroed_by_none gaps place (x ∷ xs) none = ap₂ (λ b bytes. (if b then 0 else x) ∷ bytes) (other_place gaps place (none place)) (zeroed_by_none gaps (place + 1) xs none)

-- no place from the greatest number of 64 bits on lies in a gap
pub zeroed_last : (gaps : Gaps) (place : ℕ) (xs : List ℕ) → gaps.first.stop ≤ place → gaps.second.stop ≤ place → zeroed gaps place xs ≡ xs
zeroed_last gaps place xs first second = zeroed_outside gaps place xs (inr first, inr second)

pub zeroed_moved : (gaps : Gaps) (place next count : ℕ) (xs : List ℕ) → gaps.first.stop < 2 ^ 64 → gaps.second.stop < 2 ^ 64 → next ≡ min (place + count) (2 ^ 64 - 1) → zeroed gaps next xs ≡ zeroed gaps (place + count) xs
zeroed_moved gaps place next count xs first second moved = elim (cases_lt (place + count) (2 ^ 64 - 1)) [
  | inl low ↦ ap (λ n. zeroed gaps n xs) (omega (arith, moved, low))
  | inr high ↦ zeroed_last gaps next xs (omega (arith, moved, first, high)) (omega (arith, moved, second, high)) ∙ sym (zeroed_last gaps (place + count) xs (omega (arith, first, high)) (omega (arith, second, high)))
]

-- ---- a read that moved on
consumed : (gaps : Gaps) (place next : ℕ) (old new : Option (List ℕ)) (bytes front : List ℕ) → HasSameGaps gaps (place + length bytes) next → zeroed gaps place bytes ≡ front → Consumes old new bytes → Consumes (zeroed_known gaps place old) (zeroed_known gaps next new) front
consumed gaps place next None new bytes front same is read = tt
consumed gaps place next (Some xs) None bytes front same is read = absurd read
consumed gaps place next (Some xs) (Some ys) bytes front same is read =
    ap (zeroed gaps place) read ∙ zeroed_parts gaps place bytes ys ∙ ap₂ (λ a b. a ++ b) is (sym (same ys))

ended : (gaps : Gaps) (next : ℕ) (new : Option (List ℕ)) → IsAtEnd new → IsAtEnd (zeroed_known gaps next new)
ended gaps next None over = tt
ended gaps next (Some xs) over = ap (zeroed gaps next) over

kept : (gaps : Gaps) (place next : ℕ) (old new : Option (List ℕ)) → next ≡ place → Keeps old new → Keeps (zeroed_known gaps place old) (zeroed_known gaps next new)
kept gaps place next None new stays same = tt
kept gaps place next (Some xs) None stays same = absurd same
kept gaps place next (Some xs) (Some ys) stays same = ap₂ (λ p bytes. zeroed gaps p bytes) stays same

fewer_in : (gaps : Gaps) (place few size : ℕ) → few ≤ size → LiesInGap gaps place size → LiesInGap gaps place few
fewer_in gaps place few size less (inl at) = inl (at.0, omega (arith, at.1, less))
fewer_in gaps place few size less (inr at) = inr (at.0, omega (arith, at.1, less))

fewer_beside : (gap : Gap) (place few size : ℕ) → few ≤ size → LiesBeside gap place size → LiesBeside gap place few
fewer_beside gap place few size less (inl low) = inl (omega (arith, low, less))
fewer_beside gap place few size less (inr high) = inr high

-- one that passed over bytes of a gap gave zeros
pub passed : {E : Type 0} (gaps : Gaps) (place next room : ℕ) (old new : Option (List ℕ)) (got : Result ℕ E) (given buffer : List ℕ) → LiesInGap gaps place room → length given ≡ room → buffer ≡ replicate room 0
    → ReadsAtMost got given → IsMovedOn place next got → IfOk got (λ count. HasSameGaps gaps (place + count) next) → MovesOn old new got room → ReadConsumes (zeroed_known gaps place old) (zeroed_known gaps next new) got buffer
passed gaps place next room old new (Ok n) given buffer within long zeros bound moved same moves =
    let bytes = moves.consumed.0 in
    let size : length bytes ≡ n = moves.consumed.2 in
    let few : n ≤ room = omega (arith, bound.0, long) in
    let inside = zeroed_inside gaps place bytes (subst (LiesInGap gaps place) (sym size) (fewer_in gaps place n room few within)) in
    let front : take n buffer ≡ replicate n 0 = ap (take n) zeros ∙ take-replicate n room 0 few in (
      consumed gaps place next old new bytes (take n buffer) (subst (λ k. HasSameGaps gaps (place + k) next) (sym size) same) (inside ∙ ap (λ k. replicate k 0) size ∙ sym front) moves.consumed.1,
      λ none some. ended gaps next new (moves.at_end none (omega (arith, some, ap length zeros, length-replicate {A = ℕ} room 0))),
    )
passed gaps place next room old new (Err e) given buffer within long zeros bound moved same moves = kept gaps place next old new moved moves.consumed

-- one that read bytes of no gap gave these
pub read_bytes : {E : Type 0} (gaps : Gaps) (place next : ℕ) (old new : Option (List ℕ)) (got : Result ℕ E) (buffer : List ℕ) → LiesOutside gaps place (length buffer)
    → ReadsAtMost got buffer → IsMovedOn place next got → IfOk got (λ count. HasSameGaps gaps (place + count) next) → ReadConsumes old new got buffer → ReadConsumes (zeroed_known gaps place old) (zeroed_known gaps next new) got buffer
read_bytes gaps place next old new (Ok n) buffer beside bound moved same read =
    let bytes = take n buffer in
    let size : length bytes ≡ n = sym bound.1 in
    let less : length bytes ≤ length buffer = omega (arith, size, bound.0) in
    let outside = zeroed_outside gaps place bytes (fewer_beside gaps.first place (length bytes) (length buffer) less beside.0, fewer_beside gaps.second place (length bytes) (length buffer) less beside.1) in (
      consumed gaps place next old new bytes bytes (subst (λ k. HasSameGaps gaps (place + k) next) (sym size) same) outside read.0,
      λ none some. ended gaps next new (read.1 none some),
    )
read_bytes gaps place next old new (Err e) buffer beside bound moved same read = kept gaps place next old new moved read
