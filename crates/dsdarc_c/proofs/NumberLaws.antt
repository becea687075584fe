-- Numbers and the bytes that they are written as.
use Rattle.std.proofs.Common.{◌≡◌, ℕ, ◌+◌, ◌-◌, ◌*◌, ◌/◌, ◌%◌, ◌<◌, ◌≤◌, ℤ, pos, negsuc, ◌+ℤ◌, ◌-ℤ◌, ◌*ℤ◌, to_z, of_z, w32, true, false, List, [], ◌∷◌, ◌++◌, length, take, drop, get_or, refl, sym, subst, ap, ap₂, ◌∙◌, arith}
use Rattle.std.proofs.Math.Seq.{take-add}
use Rattle.std.proofs.lemmas.List.{append_assoc, drop-drop, drop_more, flat_map_more, take-append-drop}
use lib.Signed.{lt_z}
use Rattle.std.proofs.lemmas.Int.{ints}
use Rattle.std.proofs.lemmas.List.Elements.{All-push}
use Rattle.wave_core.specs.Contents.{IsSample}
use Rattle.wave_core.specs.Texts.{sample_bytes, twos_complement}
use Rattle.dsdarc_c.specs.Numbers.{AreSamplesIn}

-- ---- the three bytes of a number
three_at : (bytes : List ℕ) (at : ℕ) → at + 3 ≤ length bytes → take 3 (drop at bytes) ≡ get_or bytes at 0 ∷ get_or bytes (at + 1) 0 ∷ get_or bytes (at + 2) 0 ∷ []
three_at bytes at inside =
    let second : at + 1 + 1 ≡ at + 2 = omega arith in
    let a = drop_more bytes at 0 (omega arith) in
    let b = drop_more bytes (at + 1) 0 (omega arith) ∙ ap (λ n. get_or bytes (at + 1) 0 ∷ drop n bytes) second in
    let c = drop_more bytes (at + 2) 0 (omega arith) in
    ap (take 3) a ∙ ap (λ xs. take 3 (get_or bytes at 0 ∷ xs)) b ∙ ap (λ xs. take 3 (get_or bytes at 0 ∷ get_or bytes (at + 1) 0 ∷ xs)) c

three_bytes : (n low mid top : ℕ) → low < 256 → mid < 256 → top < 256 → n ≡ top * 65536 + mid * 256 + low → sample_bytes 24 (pos n) ≡ low ∷ mid ∷ top ∷ []
three_bytes n low mid top a b c is =
    let lowest : n % 256 ≡ low = omega arith in
    let middle : n / 256 % 256 ≡ mid = omega arith in
    let highest : n / 65536 % 256 ≡ top = omega arith in
    cc

-- ---- below zero
below : (v : ℤ) (n : ℕ) → v ≡ pos n → 8388608 ≤ n → n < 16777216 → to_z w32 (of_z w32 (v -ℤ pos 16777216)) ≡ pos n -ℤ pos 16777216
below v n is great small = omega (arith, ints)

in_range_below : (z : ℤ) (n : ℕ) → z ≡ pos n -ℤ pos 16777216 → 8388608 ≤ n → n < 16777216 → IsSample 24 z
in_range_below (pos k) n is great small = absurd (omega (arith, ints))
in_range_below (negsuc k) n is great small = omega (arith, ints)

stored_below : (z : ℤ) (n : ℕ) → z ≡ pos n -ℤ pos 16777216 → 8388608 ≤ n → n < 16777216 → twos_complement 24 z ≡ n
stored_below (pos k) n is great small = absurd (omega (arith, ints))
stored_below (negsuc k) n is great small = omega (arith, ints)

-- ---- a number of three bytes
-- as a number of 32 bits is kept
abbrev pub kept : ℤ → ℤ
kept z = to_z w32 (of_z w32 z)

abbrev pub sum_of : ℤ → ℤ → ℤ → ℤ
sum_of low mid top = kept (kept (kept (kept top *ℤ pos 65536) +ℤ kept (kept mid *ℤ pos 256)) +ℤ kept low)

module _ (bytes : List ℕ) (at size : ℕ) (three : size ≡ 3) (inside : at + 3 ≤ length bytes) (fits : (i : ℕ) → get_or bytes i 0 < 256) (low mid top : ℤ) (l : low ≡ pos (get_or bytes at 0)) (m : mid ≡ pos (get_or bytes (at + 1) 0)) (t : top ≡ pos (get_or bytes (at + size - 1) 0)) where
  abbrev a : ℕ
  a = get_or bytes at 0

  abbrev b : ℕ
  b = get_or bytes (at + 1) 0

  abbrev c : ℕ
  c = get_or bytes (at + 2) 0

  abbrev n : ℕ
  n = c * 65536 + b * 256 + a

  top_is : top ≡ pos c
  top_is = let last : at + size - 1 ≡ at + 2 = omega (arith, three) in t ∙ ap (λ k. pos (get_or bytes k 0)) last

  sum_is : sum_of low mid top ≡ pos n
  sum_is = omega (arith, ints, l, m, top_is, fits at, fits (at + 1), fits (at + 2))

  most : n < 16777216
  most = omega (arith, fits at, fits (at + 1), fits (at + 2))

  written : (z : ℤ) → twos_complement 24 z ≡ n → sample_bytes (size * 8) z ≡ take size (drop at bytes)
  written z is =
      let wide : sample_bytes 24 z ≡ take 3 (drop at bytes) = ap (λ m. sample_bytes 24 (pos m)) is ∙ three_bytes n a b c (fits at) (fits (at + 1)) (fits (at + 2)) refl ∙ sym (three_at bytes at inside) in
      subst (λ s. sample_bytes (s * 8) z ≡ take s (drop at bytes)) (sym three) wide

  within : (z : ℤ) → IsSample 24 z → IsSample (size * 8) z
  within z is = subst (λ s. IsSample (s * 8) z) (sym three) is

  -- from zero on
  pub in_range_low : lt_z (kept top) (pos 128) ≡ true → IsSample (size * 8) (sum_of low mid top)
  in_range_low small =
      let few : n < 8388608 = omega (arith, ints, top_is, fits at, fits (at + 1)) in
      within (sum_of low mid top) (subst (IsSample 24) (sym sum_is) few)

  pub written_low : sample_bytes (size * 8) (sum_of low mid top) ≡ take size (drop at bytes)
  written_low = written (sum_of low mid top) (ap (twos_complement 24) sum_is)

  -- below zero
  abbrev less : ℤ
  less = kept (sum_of low mid top -ℤ pos 16777216)

  module _ (great : lt_z (kept top) (pos 128) ≡ false) where
    many : 8388608 ≤ n
    many = omega (arith, ints, top_is, fits at, fits (at + 1))

    less_is : less ≡ pos n -ℤ pos 16777216
    less_is = below (sum_of low mid top) n sum_is many most

    pub in_range_high : IsSample (size * 8) less
    in_range_high = within less (in_range_below less n less_is many most)

    pub written_high : sample_bytes (size * 8) less ≡ take size (drop at bytes)
    written_high = written less (stored_below less n less_is many most)

-- ---- one number more
pub more_samples : (width size k : ℕ) (bytes : List ℕ) (values : List ℤ) (z : ℤ) → AreSamplesIn width (take (k * size) bytes) values → IsSample width z → sample_bytes width z ≡ take size (drop (k * size) bytes) → AreSamplesIn width (take ((k + 1) * size) bytes) (values ++ z ∷ [])
more_samples width size k bytes values z are small written = record {
  in_range = All-push (IsSample width) values z are.in_range small;
  written = sym (flat_map_more (sample_bytes width) [] values z) ∙ ap₂ (λ xs ys. xs ++ ys) are.written written ∙ sym (take-add (k * size) size bytes) ∙ ap (λ n. take n bytes) all;
}
  where
    all : k * size + size ≡ (k + 1) * size
    all = grind arith

-- what is left after n bytes more
pub parted_at : (n k : ℕ) (pulled xs : List ℕ) → pulled ++ drop k xs ≡ (pulled ++ take n (drop k xs)) ++ drop (k + n) xs
parted_at n k pulled xs =
    let rest = drop k xs in
    ap (λ ys. pulled ++ ys) (sym (take-append-drop n rest) ∙ ap (λ ys. take n rest ++ ys) (drop-drop n k xs)) ∙ sym (append_assoc pulled (take n rest) (drop (k + n) xs))
