-- The sound of bits in a row.
use Rattle.std.proofs.Common.{◌≡◌, ℕ, ◌+◌, ◌-◌, ◌*◌, ◌/◌, ◌%◌, ◌<◌, ◌≤◌, ℤ, pos, unsigned_abs, inl, inr, Bool, List, ◌++◌, length, get_or, take, sum_by, ap, ap₂, sym, ◌∙◌, arith, length-append}
use Rattle.std.specs.Int.{div_ceil}
use Rattle.std.proofs.Math.Seq.{get_or-append_right}
use Rattle.std.proofs.lemmas.Bool.{cases_lt}
use Rattle.std.proofs.lemmas.List.{ext_get_or, get_or_append_left}
use Rattle.std.proofs.lemmas.List.FromFn.{get_or-map-range_with_len, length-map-range_with_len}
use Rattle.std.proofs.lemmas.Slice.{take-put_mid}
use borrow.Rule.Slice.PartMut.{put_mid}
use Rattle.fir_core.specs.Convolution.{conv}
use Rattle.heard_core.specs.Sounds.{decoded, decoded_from}
use Rattle.heard_core.specs.Pieces.{sums_at}
use Rattle.heard_core.proofs.ConvLaws.{conv_bound}
use Rattle.heard_core.proofs.PartLaws.{sum_is}

pub length-decoded_from : (taps : List ℤ) (bits : List Bool) (first number : ℕ) → length (decoded_from taps bits first number) ≡ number
length-decoded_from taps bits first number = length-map-range_with_len (decoded taps bits) first number

sound_is : (taps : List ℤ) (bits : List Bool) (first number i : ℕ) → i < number → get_or (decoded_from taps bits first number) i (pos 0) ≡ decoded taps bits (first + i)
sound_is taps bits first number i h = get_or-map-range_with_len (decoded taps bits) first number i (first + i) (pos 0) h (omega arith)

-- what has the sound at each place
pub decoded_by_all : (taps : List ℤ) (bits : List Bool) (first number : ℕ) (xs : List ℤ) → length xs ≡ number → ((i : ℕ) → i < number → get_or xs i (pos 0) ≡ conv taps bits (i + (first + length taps / 2)))
    → xs ≡ decoded_from taps bits first number
decoded_by_all taps bits first number xs long each =
    ext_get_or (pos 0) xs (decoded_from taps bits first number) (long ∙ sym (length-decoded_from taps bits first number))
    (λ k h.
    let inside : k < number = omega (arith, h, long) in
    let place : k + (first + length taps / 2) ≡ first + k + length taps / 2 = omega arith in
    each k inside ∙ ap (conv taps bits) place ∙ sym (sound_is taps bits first number k inside))

decoded_split : (taps : List ℤ) (bits : List Bool) (first m n : ℕ) → decoded_from taps bits first m ++ decoded_from taps bits (first + m) n ≡ decoded_from taps bits first (m + n)
decoded_split taps bits first m n =
    let front = decoded_from taps bits first m in
    let back = decoded_from taps bits (first + m) n in
    let long = length-decoded_from taps bits first m in
    let all : length (front ++ back) ≡ m + n = length-append front back ∙ ap₂ ◌+◌ long (length-decoded_from taps bits (first + m) n) in
    ext_get_or (pos 0) (front ++ back) (decoded_from taps bits first (m + n)) (all ∙ sym (length-decoded_from taps bits first (m + n)))
    (λ k h.
    let inside : k < m + n = omega (arith, h, all) in
    elim (cases_lt k m) [
      | inl before ↦ get_or_append_left front back (pos 0) k (omega arith) ∙ sound_is taps bits first m k before ∙ sym (sound_is taps bits first (m + n) k inside)
      | inr after ↦
          let place : first + m + (k - m) ≡ first + k = omega arith in
          get_or-append_right front back k (pos 0) (omega arith) ∙ ap (λ j. get_or back (k - j) (pos 0)) long
          ∙ sound_is taps bits (first + m) n (k - m) (omega arith) ∙ ap (decoded taps bits) place ∙ sym (sound_is taps bits first (m + n) k inside)
    ])

-- one bit of each byte
pub turn_is : (taps : List ℤ) (bits : List Bool) (place turn number : ℕ) (new sums : List ℤ) → length sums ≡ div_ceil (number - turn) 8 → sums ≡ sums_at taps bits (place + turn) (length sums)
    → ((j : ℕ) → j < length sums → get_or new (8 * j + turn) (pos 0) ≡ get_or sums j (pos 0))
    → (i : ℕ) → i < number → i % 8 ≡ turn → get_or new i (pos 0) ≡ conv taps bits (i + place)
turn_is taps bits place turn number new sums long is written i h now =
    let at : 8 * (i / 8) + turn ≡ i = omega arith in
    let inside : i / 8 < length sums = omega (arith, long) in
    let same : i / 8 * 8 + (place + turn) ≡ i + place = omega arith in
    ap (λ m. get_or new m (pos 0)) (sym at) ∙ written (i / 8) inside ∙ ap (λ xs. get_or xs (i / 8) (pos 0)) is ∙ sum_is taps bits (place + turn) (length sums) (i / 8) inside ∙ ap (conv taps bits) same

-- one more tile
pub one_more_tile : (taps : List ℤ) (bits : List Bool) (first start end : ℕ) (xs ys : List ℤ) → start ≤ end → end ≤ length xs → take start xs ≡ decoded_from taps bits first start → ys ≡ decoded_from taps bits (first + start) (end - start)
    → take end (put_mid start (end - start) xs ys) ≡ decoded_from taps bits first end
one_more_tile taps bits first start end xs ys order within before is =
    let long : length ys ≡ end - start = ap length is ∙ length-decoded_from taps bits (first + start) (end - start) in
    let all : start + (end - start) ≡ end = omega arith in
    take-put_mid start (end - start) xs ys end (omega arith) (omega arith)
    ∙ ap₂ ◌++◌ before is ∙ decoded_split taps bits first start (end - start) ∙ ap (decoded_from taps bits first) all

-- the greatest value
pub decoded_small : (taps : List ℤ) (bits : List Bool) (first number most i : ℕ) → sum_by unsigned_abs taps ≤ most → i < number → unsigned_abs (get_or (decoded_from taps bits first number) i (pos 0)) ≤ most
decoded_small taps bits first number most i small h = rw (sound_is taps bits first number i h) (omega (arith, conv_bound taps bits (first + i + length taps / 2)))
