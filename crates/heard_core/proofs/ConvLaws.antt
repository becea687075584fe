-- The convolution by taps in parts, and its greatest value.
use Rattle.std.proofs.Common.{◌≡◌, ℕ, zero, suc, ◌+◌, ◌-◌, ◌*◌, ◌/◌, ◌<◌, ◌≤◌, ℤ, pos, ◌+ℤ◌, ◌-ℤ◌, ◌*ℤ◌, unsigned_abs, inl, inr, Bool, List, ◌++◌, length, get_or, take, replicate, sum_by, refl, ap, ap₂, sym, ◌∙◌, arith, length-append, mul-zero}
use Rattle.std.specs.Int.{div_ceil}
use Rattle.std.proofs.Math.IntN.{*ℤ-zero, zero-*ℤ}
use Rattle.std.proofs.Math.Seq.{get_or-append_right}
use Rattle.std.proofs.lemmas.Bool.{cases_lt}
use Rattle.std.proofs.lemmas.Grind.{div_ceil_times}
use Rattle.std.proofs.lemmas.Int.{ints}
use Rattle.std.proofs.lemmas.List.{drop-take, get_or-replicate, get_or_append_left, length-replicate, take-append-drop, take-take}
use Rattle.std.proofs.lemmas.List.Folds.{sum_by-replicate}
use Rattle.std.proofs.lemmas.List.Sums.{sum_by-append}
use Rattle.dsd_bits.specs.Sums.{sum_below}
use Rattle.fir_core.specs.Convolution.{conv, signal}
use Rattle.fir_core.proofs.SumOrder.{sum_below_same}
use Rattle.fir_core.proofs.Sums.{abs_sum_below, signal_before, term}
use Rattle.heard_core.specs.Pieces.{padded, part}

sum_below_parts : (m k : ℕ) (f : ℕ → ℤ) → sum_below (m + k) f ≡ sum_below m f +ℤ sum_below k (λ j. f (m + j))
sum_below_parts m zero f =
    let none : m + 0 ≡ m = omega arith in
    let same = ap (λ j. sum_below j f) none in
    omega (arith, ints, same)
sum_below_parts m (suc k) f =
    let next : m + suc k ≡ suc (m + k) = omega arith in
    let same = ap (λ j. sum_below j f) next in
    omega (arith, ints, same, sum_below_parts m k f)

sum_below_zeros : (m : ℕ) (f : ℕ → ℤ) → ((k : ℕ) → k < m → f k ≡ pos 0) → sum_below m f ≡ pos 0
sum_below_zeros zero f none = refl
sum_below_zeros (suc m) f none = omega (arith, ints, sum_below_zeros m f (λ k h. none k (omega arith)), none m (omega arith))

-- ---- taps after others
module _ (a b : List ℤ) (bits : List Bool) (n : ℕ) where
  split : conv (a ++ b) bits n ≡ conv a bits n +ℤ sum_below (length b) (λ j. get_or b j (pos 0) *ℤ signal bits (pos n -ℤ pos (length a + j)))
  split =
      ap (λ m. sum_below m (term (a ++ b) bits n)) (length-append a b)
      ∙ sum_below_parts (length a) (length b) (term (a ++ b) bits n)
      ∙ ap₂ ◌+ℤ◌ (sum_below_same (length a) (term (a ++ b) bits n) (term a bits n) (λ k h. ap (λ z. z *ℤ signal bits (pos n -ℤ pos k)) (get_or_append_left a b (pos 0) k h)))
      (sum_below_same (length b) (λ j. term (a ++ b) bits n (length a + j)) (λ j. get_or b j (pos 0) *ℤ signal bits (pos n -ℤ pos (length a + j)))
      (λ k h. ap (λ z. z *ℤ signal bits (pos n -ℤ pos (length a + k))) (let at : length a + k - length a ≡ k = omega arith in get_or-append_right a b (length a + k) (pos 0) (omega arith) ∙ ap (λ j. get_or b j (pos 0)) at)))

  -- at a place that they reach
  pub conv_after : length a ≤ n → conv (a ++ b) bits n ≡ conv a bits n +ℤ conv b bits (n - length a)
  conv_after reached =
      split ∙ ap (λ z. conv a bits n +ℤ z) (sum_below_same (length b) (λ j. get_or b j (pos 0) *ℤ signal bits (pos n -ℤ pos (length a + j))) (term b bits (n - length a))
      (λ k h. let place : pos n -ℤ pos (length a + k) ≡ pos (n - length a) -ℤ pos k = omega (arith, ints) in ap (λ z. get_or b k (pos 0) *ℤ signal bits z) place))

  -- at a place before
  pub conv_not_after : n < length a → conv (a ++ b) bits n ≡ conv a bits n
  conv_not_after early =
      let none : sum_below (length b) (λ j. get_or b j (pos 0) *ℤ signal bits (pos n -ℤ pos (length a + j))) ≡ pos 0 =
      sum_below_zeros (length b) (λ j. get_or b j (pos 0) *ℤ signal bits (pos n -ℤ pos (length a + j)))
      (λ k h. ap (λ z. get_or b k (pos 0) *ℤ z) (signal_before bits n (length a + k) (omega arith)) ∙ *ℤ-zero (get_or b k (pos 0))) in
      omega (arith, ints, split, none)

conv_zeros : (m : ℕ) (bits : List Bool) (n : ℕ) → conv (replicate m (pos 0)) bits n ≡ pos 0
conv_zeros m bits n =
    sum_below_zeros (length (replicate m (pos 0))) (term (replicate m (pos 0)) bits n)
    (λ k h. ap (λ z. z *ℤ signal bits (pos n -ℤ pos k)) (get_or-replicate m k (pos 0) (pos 0) (omega (arith, length-replicate m (pos 0)))) ∙ zero-*ℤ (signal bits (pos n -ℤ pos k)))

-- zeros after the taps add nothing
pub conv_padded : (taps : List ℤ) (bits : List Bool) (n : ℕ) → conv (padded taps) bits n ≡ conv taps bits n
conv_padded taps bits n =
    let more = 8 * div_ceil (length taps) 8 - length taps in
    let zeros : List ℤ = replicate more (pos 0) in
    elim (cases_lt n (length taps)) [
      | inl early ↦ conv_not_after taps zeros bits n early
      | inr late ↦ omega (arith, ints, conv_after taps zeros bits n late, conv_zeros more bits (n - length taps))
    ]

-- ---- the greatest value
pub conv_bound : (taps : List ℤ) (bits : List Bool) (n : ℕ) → unsigned_abs (conv taps bits n) ≤ sum_by unsigned_abs taps
conv_bound taps bits n = abs_sum_below taps bits n (length taps) (omega arith)

pub abs_sum_padded : (taps : List ℤ) → sum_by unsigned_abs (padded taps) ≡ sum_by unsigned_abs taps
abs_sum_padded taps =
    let more = 8 * div_ceil (length taps) 8 - length taps in
    omega (arith, sum_by-append unsigned_abs taps (replicate more (pos 0)), sum_by-replicate unsigned_abs more (pos 0), mul-zero more)

-- ---- padded taps, and their parts
pub length-padded : (taps : List ℤ) → length (padded taps) ≡ 8 * div_ceil (length taps) 8
length-padded taps =
    let more = 8 * div_ceil (length taps) 8 - length taps in
    omega (arith, length-append taps (replicate more (pos 0)), length-replicate more (pos 0), (div_ceil_times (length taps) 8 (omega arith)).0)

pub one_more_part : (h : List ℤ) (p : ℕ) → take (4096 * (p + 1)) h ≡ take (4096 * p) h ++ part h p
one_more_part h p =
    let all : 4096 * (p + 1) ≡ 4096 * p + 4096 = omega arith in
    let whole = take (4096 * p + 4096) h in
    ap (λ n. take n h) all ∙ sym (take-append-drop (4096 * p) whole) ∙ ap₂ ◌++◌ (take-take (4096 * p) (4096 * p + 4096) h (omega arith)) (drop-take (4096 * p) 4096 h)

-- each piece begins within them
pub piece_within : (taps : List ℤ) (k : ℕ) → k < 8 * div_ceil (length taps) 4096 → 4096 * (k / 8) < length (padded taps)
piece_within taps k h = omega (arith, h, length-padded taps, (div_ceil_times (length taps) 8 (omega arith)).0, (div_ceil_times (length taps) 4096 (omega arith)).1)
