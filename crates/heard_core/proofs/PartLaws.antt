-- Sums at places eight apart, part by part of the taps.
use Rattle.std.proofs.Common.{◌≡◌, ℕ, ◌+◌, ◌-◌, ◌*◌, ◌<◌, ◌≤◌, ℤ, pos, ◌+ℤ◌, unsigned_abs, inl, inr, Bool, List, ◌++◌, length, get_or, take, drop, sum_by, ap, ap₂, sym, ◌∙◌, arith, length-append}
use Rattle.std.specs.Int.{div_ceil}
use Rattle.std.proofs.Math.Seq.{get_or-append_right}
use Rattle.std.proofs.lemmas.Bool.{cases_lt}
use Rattle.std.proofs.lemmas.Grind.{div_ceil_times}
use Rattle.std.proofs.lemmas.List.{get_or_append_left, get_or-take, get_or-drop, length-take-le, take_all}
use Rattle.std.proofs.lemmas.List.FromFn.{fill_by_all, get_or-map-range_with_len, length-map-range_with_len}
use Rattle.std.proofs.lemmas.List.Sums.{sum_by-take-le}
use Rattle.fir_core.specs.Convolution.{conv}
use Rattle.heard_core.specs.Pieces.{padded, part, sums_at, sums_before}
use Rattle.heard_core.proofs.ConvLaws.{abs_sum_padded, conv_after, conv_bound, conv_not_after, conv_padded, length-padded, one_more_part}

pub length-sums_at : (taps : List ℤ) (bits : List Bool) (place number : ℕ) → length (sums_at taps bits place number) ≡ number
length-sums_at taps bits place number = length-map-range_with_len (λ i. conv taps bits (i * 8 + place)) 0 number

pub sum_is : (taps : List ℤ) (bits : List Bool) (place number i : ℕ) → i < number → get_or (sums_at taps bits place number) i (pos 0) ≡ conv taps bits (i * 8 + place)
sum_is taps bits place number i h = get_or-map-range_with_len (λ j. conv taps bits (j * 8 + place)) 0 number i i (pos 0) h (omega arith)

-- ---- in absolute value
pub small_sums : (taps : List ℤ) (bits : List Bool) (place number most i : ℕ) → sum_by unsigned_abs taps ≤ most → i < number → unsigned_abs (get_or (sums_at taps bits place number) i (pos 0)) ≤ most
small_sums taps bits place number most i small h = rw (sum_is taps bits place number i h) (omega (arith, conv_bound taps bits (i * 8 + place)))

pub small_before : (taps : List ℤ) (p : ℕ) (bits : List Bool) (place number most skipped i : ℕ) → sum_by unsigned_abs taps ≤ most → skipped + i < number → unsigned_abs (get_or (drop skipped (sums_before taps p bits place number)) i (pos 0)) ≤ most
small_before taps p bits place number most skipped i small h =
    let first = take (4096 * p) (padded taps) in
    rw (get_or-drop skipped (sums_before taps p bits place number) i (pos 0))
    (small_sums first bits place number most (skipped + i) (omega (arith, sum_by-take-le unsigned_abs (padded taps) (4096 * p), abs_sum_padded taps)) h)

-- ---- part by part
-- before the first part there are only zeros
pub none_before : (taps : List ℤ) (bits : List Bool) (place number : ℕ) (xs : List ℤ) → length xs ≡ number → ((i : ℕ) → i < number → get_or xs i (pos 0) ≡ pos 0) → xs ≡ sums_before taps 0 bits place number
none_before taps bits place number xs long zeros = fill_by_all (λ i. conv (take (4096 * 0) (padded taps)) bits (i * 8 + place)) xs number (pos 0) long zeros

-- after the last part there are all
pub all_before : (taps : List ℤ) (p : ℕ) (bits : List Bool) (place number : ℕ) → p ≡ div_ceil (length taps) 4096 → sums_before taps p bits place number ≡ sums_at taps bits place number
all_before taps p bits place number is =
    let whole : take (4096 * p) (padded taps) ≡ padded taps = take_all (4096 * p) (padded taps) (omega (arith, length-padded taps, is)) in
    fill_by_all (λ i. conv taps bits (i * 8 + place)) (sums_before taps p bits place number) number (pos 0) (length-sums_at (take (4096 * p) (padded taps)) bits place number)
    (λ k h. sum_is (take (4096 * p) (padded taps)) bits place number k h ∙ ap (λ ts. conv ts bits (k * 8 + place)) whole ∙ conv_padded taps bits (k * 8 + place))

-- the sums with one more part
module _ (taps : List ℤ) (p : ℕ) (bits : List Bool) (place number : ℕ) (within : 4096 * p < length taps) where
  reaches : length (take (4096 * p) (padded taps)) ≡ 4096 * p
  reaches = length-take-le (4096 * p) (padded taps) (omega (arith, length-padded taps, (div_ceil_times (length taps) 8 (omega arith)).0))

  -- none is at a place that the part reaches
  pub nothing_more : ((k : ℕ) → k < number → k * 8 + place < 4096 * p) → sums_before taps p bits place number ≡ sums_before taps (p + 1) bits place number
  nothing_more early =
      let first = take (4096 * p) (padded taps) in
      fill_by_all (λ i. conv (take (4096 * (p + 1)) (padded taps)) bits (i * 8 + place)) (sums_before taps p bits place number) number (pos 0) (length-sums_at first bits place number)
      (λ k h.
      sum_is first bits place number k h
      ∙ sym (conv_not_after first (part (padded taps) p) bits (k * 8 + place) (omega (arith, early k h, reaches)))
      ∙ ap (λ ts. conv ts bits (k * 8 + place)) (sym (one_more_part (padded taps) p)))

  -- those from one on are, and the part's own sums are added to them
  pub some_more : (skipped first : ℕ) (front back : List ℤ) → ((k : ℕ) → k < skipped → k * 8 + place < 4096 * p) → first + 4096 * p ≡ skipped * 8 + place → skipped ≤ number
      → front ≡ take skipped (sums_before taps p bits place number) → length back ≡ number - skipped
      → ((i : ℕ) → i < number - skipped → get_or back i (pos 0) ≡ get_or (drop skipped (sums_before taps p bits place number)) i (pos 0) +ℤ conv (part (padded taps) p) bits (i * 8 + first))
      → front ++ back ≡ sums_before taps (p + 1) bits place number
  some_more skipped first front back early start inside is long added =
      let old = take (4096 * p) (padded taps) in
      let sums = sums_before taps p bits place number in
      let all : length sums ≡ number = length-sums_at old bits place number in
      let many : length front ≡ skipped = ap length is ∙ length-take-le skipped sums (omega arith) in
      let next : (k : ℕ) → conv (old ++ part (padded taps) p) bits (k * 8 + place) ≡ conv (take (4096 * (p + 1)) (padded taps)) bits (k * 8 + place) =
      λ k. ap (λ ts. conv ts bits (k * 8 + place)) (sym (one_more_part (padded taps) p)) in
      fill_by_all (λ i. conv (take (4096 * (p + 1)) (padded taps)) bits (i * 8 + place)) (front ++ back) number (pos 0) (length_of front back skipped number many long inside)
      (λ k h. elim (cases_lt k skipped) [
        | inl before ↦
            get_or_append_left front back (pos 0) k (omega arith) ∙ ap (λ xs. get_or xs k (pos 0)) is ∙ get_or-take skipped sums k (pos 0) before ∙ sum_is old bits place number k h
            ∙ sym (conv_not_after old (part (padded taps) p) bits (k * 8 + place) (omega (arith, early k before, reaches)))
            ∙ next k
        | inr after ↦
            let at : skipped + (k - skipped) ≡ k = omega arith in
            let late : k * 8 + place - length old ≡ (k - skipped) * 8 + first = omega (arith, reaches) in
            get_or-append_right front back k (pos 0) (omega arith)
            ∙ ap (λ m. get_or back (k - m) (pos 0)) many
            ∙ added (k - skipped) (omega arith)
            ∙ ap₂ ◌+ℤ◌ (get_or-drop skipped sums (k - skipped) (pos 0) ∙ ap (λ m. get_or sums m (pos 0)) at ∙ sum_is old bits place number k h) (ap (conv (part (padded taps) p) bits) (sym late))
            ∙ sym (conv_after old (part (padded taps) p) bits (k * 8 + place) (omega (arith, reaches)))
            ∙ next k
      ])
    where
      length_of : (xs ys : List ℤ) (m n : ℕ) → length xs ≡ m → length ys ≡ n - m → m ≤ n → length (xs ++ ys) ≡ n
      length_of xs ys m n e f h = omega (arith, length-append xs ys)
