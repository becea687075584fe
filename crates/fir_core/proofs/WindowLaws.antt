-- Windows of whole bytes: the convolution is the sum of the aligned taps over the bits of the window's bytes.
use Rattle.std.proofs.Common.{◌≡◌, ℕ, ◌+◌, ◌-◌, ◌*◌, ◌/◌, ◌%◌, ◌<◌, ◌≤◌, ℤ, pos, ◌+ℤ◌, ◌*ℤ◌, unsigned_abs, Bool, false, eqb, List, [], ◌∷◌, ◌++◌, length, get_or, drop, take, replicate, reverse, sum_by, refl, sym, ap, ap₂, ◌∙◌, arith, mul-zero, length-append, length-drop}
use Rattle.std.specs.Int.{bit_at, div_ceil}
use Rattle.std.proofs.lemmas.Grind.{div_ceil_times}
use Rattle.std.proofs.lemmas.Int.{ints}
use Rattle.std.proofs.lemmas.List.{length-replicate, length-reverse, get_or-reverse, get_or-drop, reverse-append, take_all}
use Rattle.std.proofs.lemmas.List.Sums.{sum_by-append, sum_by-cons}
use Rattle.std.proofs.lemmas.List.Folds.{sum_by-replicate}
use Rattle.dsd_bits.specs.Packing.{unpacked}
use Rattle.dsd_bits.specs.Sums.{sign, sum_below}
use Rattle.dsd_bits.proofs.PackingLemmas.{length-unpacked, get_or-unpacked}
use Rattle.fir_core.specs.Convolution.{conv}
use Rattle.fir_core.specs.Signed.{dot, bits_of}
use Rattle.fir_core.specs.Windows.{aligned, bits_preceding, bits_following, window_size, window_sum}
use Rattle.fir_core.proofs.Dot.{dot_append, dot_zeros, dot_is_sum, bit_of_bytes, length-bits}
use Rattle.fir_core.proofs.SumOrder.{sum_below_same, sum_below_turned}
use Rattle.fir_core.proofs.Sums.{signal_inside, term}

-- ---- the aligned taps
-- zeros before and after the taps add nothing
dot_aligned : (h : List ℤ) (n : ℕ) (bs : List Bool) → dot (aligned h n) bs ≡ dot (reverse h) (drop (bits_preceding (length h) n) bs)
dot_aligned h n bs =
    let before = bits_preceding (length h) n in
    let zeros : List ℤ = replicate before (pos 0) in
    let rest : List ℤ = replicate (bits_following n) (pos 0) in
    let none : dot zeros bs ≡ pos 0 = dot_zeros before bs in
    let past : dot (reverse h) (drop (length zeros) bs) ≡ dot (reverse h) (drop before bs) = ap (λ m. dot (reverse h) (drop m bs)) (length-replicate before (pos 0)) in
    let nothing : dot rest (drop (length (zeros ++ reverse h)) bs) ≡ pos 0 = dot_zeros (bits_following n) (drop (length (zeros ++ reverse h)) bs) in
    dot_append (zeros ++ reverse h) rest bs ∙ ap₂ ◌+ℤ◌ (dot_append zeros (reverse h) bs ∙ ap₂ ◌+ℤ◌ none past) nothing ∙ tidy (dot (reverse h) (drop before bs))
  where
    tidy : (z : ℤ) → (pos 0 +ℤ z) +ℤ pos 0 ≡ z
    tidy z = omega (arith, ints)

pub length-aligned : (h : List ℤ) (n : ℕ) → length (aligned h n) ≡ 8 * window_size (length h) n
length-aligned h n =
    let before = bits_preceding (length h) n in
    let zeros : List ℤ = replicate before (pos 0) in
    let rest : List ℤ = replicate (bits_following n) (pos 0) in
    length-append (zeros ++ reverse h) rest ∙ ap₂ ◌+◌ (length-append zeros (reverse h) ∙ ap₂ ◌+◌ (length-replicate before (pos 0)) (length-reverse h)) (length-replicate (bits_following n) (pos 0)) ∙ omega arith

-- as they are put together: zeros, the reversed taps, and zeros
pub aligned_made : (h start front back both all : List ℤ) (n filled size none long : ℕ) → filled ≡ length h + bits_following n → size ≡ 8 * div_ceil filled 8 → start ≡ [] → none ≡ 0
    → front ≡ take (size - filled) start ++ replicate (size - filled - none) (pos 0) → back ≡ reverse h → both ≡ front ++ back → long ≡ length both → all ≡ take size both ++ replicate (size - long) (pos 0)
    → all ≡ aligned h n
aligned_made h start front back both all n filled size none long f s empty zero prefix_is back_is both_is l is =
    let before = bits_preceding (length h) n in
    let zeros : front ≡ replicate before (pos 0) = prefix_is ∙ ap₂ ◌++◌ (ap (take (size - filled)) empty ∙ take_all (size - filled) [] (omega arith)) (ap (λ m. replicate m (pos 0)) (omega (arith, ap (λ m. 8 * div_ceil m 8 - m) f))) in
    let whole : both ≡ replicate before (pos 0) ++ reverse h = both_is ∙ ap₂ ◌++◌ zeros back_is in
    let long_is : long + bits_following n ≡ size = omega (arith, l, ap length whole, length-append (replicate before (pos 0)) (reverse h), length-replicate before (pos 0), length-reverse h, (div_ceil_times filled 8 (omega arith)).0, ap (λ m. 8 * div_ceil m 8 - m) f) in
    is ∙ ap₂ ◌++◌ (take_all size both (omega arith) ∙ whole) (ap (λ m. replicate m (pos 0)) (omega arith))

sum_by-reverse : (h : List ℤ) → sum_by unsigned_abs (reverse h) ≡ sum_by unsigned_abs h
sum_by-reverse [] = refl
sum_by-reverse (x ∷ h) =
    ap (sum_by unsigned_abs) (reverse-append (x ∷ []) h) ∙ sum_by-append unsigned_abs (reverse h) (reverse (x ∷ [])) ∙ omega (arith, sum_by-reverse h, sum_by-cons unsigned_abs x h, sum_by-cons unsigned_abs x [])

pub abs_sum_aligned : (h : List ℤ) (n : ℕ) → sum_by unsigned_abs (aligned h n) ≡ sum_by unsigned_abs h
abs_sum_aligned h n =
    let before = bits_preceding (length h) n in
    let zeros : List ℤ = replicate before (pos 0) in
    let rest : List ℤ = replicate (bits_following n) (pos 0) in
    let none : sum_by unsigned_abs zeros ≡ 0 = sum_by-replicate unsigned_abs before (pos 0) ∙ mul-zero before in
    let nothing : sum_by unsigned_abs rest ≡ 0 = sum_by-replicate unsigned_abs (bits_following n) (pos 0) ∙ mul-zero (bits_following n) in
    sum_by-append unsigned_abs (zeros ++ reverse h) rest
    ∙ ap₂ ◌+◌ (sum_by-append unsigned_abs zeros (reverse h) ∙ ap₂ ◌+◌ none (sum_by-reverse h)) nothing
    ∙ omega arith

-- ---- the convolution inside the recording
-- a bit of the window
window_bit : (bytes : List ℕ) (count at p k i : ℕ) → i ≡ 8 * at + (p + k) → i < count → count ≤ 8 * length bytes
    → get_or (unpacked bytes count) i false ≡ get_or (drop p (bits_of (drop at bytes))) k false
window_bit bytes count at p k i place within enough =
    let q : i / 8 ≡ at + (p + k) / 8 = omega arith in
    let r : i % 8 ≡ (p + k) % 8 = omega arith in
    let read : get_or (drop p (bits_of (drop at bytes))) k false ≡ eqb (bit_at (get_or bytes (at + (p + k) / 8) 0) (7 - (p + k) % 8)) 1 =
    get_or-drop p (bits_of (drop at bytes)) k false
    ∙ bit_of_bytes (drop at bytes) (p + k) (omega (arith, length-drop at bytes))
    ∙ ap (λ b. eqb (bit_at b (7 - (p + k) % 8)) 1) (get_or-drop at bytes ((p + k) / 8) 0) in
    get_or-unpacked bytes count i within
    ∙ ap (λ j. eqb (bit_at (get_or bytes j 0) (7 - i % 8)) 1) q
    ∙ ap (λ j. eqb (bit_at (get_or bytes (at + (p + k) / 8) 0) (7 - j)) 1) r
    ∙ sym read

-- the window of place n begins at byte at
module _ (h : List ℤ) (bytes : List ℕ) (count n at : ℕ) (begins : n / 8 + 1 ≡ at + window_size (length h) n) (late : n < count) (enough : count ≤ 8 * length bytes) where
  window_bits : List Bool
  window_bits = drop (bits_preceding (length h) n) (bits_of (drop at bytes))

  window_term : (k : ℕ) → k < length h → term h (unpacked bytes count) n (length h - 1 - k) ≡ get_or (reverse h) k (pos 0) *ℤ sign (get_or window_bits k false)
  unfolding window_bits
  window_term k l =
      let back = length h - 1 - k in
      let bits = unpacked bytes count in
      let inside = signal_inside bits n back (omega arith) (omega (arith, length-unpacked bytes count)) in
      let bit = window_bit bytes count at (bits_preceding (length h) n) k (n - back) (omega arith) (omega arith) enough in
      ap₂ ◌*ℤ◌ (sym (get_or-reverse h k (pos 0) l)) (inside ∙ ap sign bit)

  long : length (reverse h) ≤ length window_bits
  unfolding window_bits
  long = omega (arith, length-reverse h, length-drop (bits_preceding (length h) n) (bits_of (drop at bytes)), length-bits (drop at bytes), length-drop at bytes)

  conv_is : conv h (unpacked bytes count) n ≡ dot (reverse h) window_bits
  conv_is =
      let f : ℕ → ℤ = λ k. get_or (reverse h) k (pos 0) *ℤ sign (get_or window_bits k false) in
      sym (sum_below_turned (length h) (term h (unpacked bytes count) n))
      ∙ sum_below_same (length h) (λ k. term h (unpacked bytes count) n (length h - 1 - k)) f window_term
      ∙ ap (λ m. sum_below m f) (sym (length-reverse h))
      ∙ sym (dot_is_sum (reverse h) window_bits long)

  -- the sum over the window's bytes
  pub conv_by_window : conv h (unpacked bytes count) n ≡ window_sum (aligned h n) bytes at
  unfolding window_bits
  conv_by_window = conv_is ∙ sym (dot_aligned h n (bits_of (drop at bytes)))
