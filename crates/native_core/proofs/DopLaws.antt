-- DoP samples, one after the other.
use Rattle.std.proofs.Common.{◌≡◌, ℕ, cond, eqb, ◌+◌, ◌*◌, ◌/◌, ◌%◌, ◌<◌, ◌≤◌, List, [], ◌∷◌, ◌++◌, length, slice_index, sym, refl, ap, ap₂, ◌∙◌, arith, length-append}
use Rattle.std.specs.List.{flat_map, range_with_len}
use Rattle.std.proofs.Math.Nat.{add-mul, mul-add-div_right}
use Rattle.std.proofs.lemmas.List.{get_or-append-add, get_or_append_left}
use Rattle.std.proofs.lemmas.List.FromFn.{length-range_with_len}
use Rattle.std.proofs.lemmas.Nat.{div-add-mod', div-mul-add, div_below, mod_below, mul-le}
use Rattle.native_core.specs.Native.{dop_sample, dop_samples, marker}
use Rattle.native_core.proofs.FlatLaws.{in_two, length-equal, moved}

three : (low low' high high' mark mark' : ℕ) → low ≡ low' → high ≡ high' → mark ≡ mark' → (low ∷ high ∷ mark ∷ []) ≡ (low' ∷ high' ∷ mark' ∷ [])
three low low' high high' mark mark' one two last =
    ap (λ x. x ∷ high ∷ mark ∷ []) one ∙ ap (λ x. low' ∷ x ∷ mark ∷ []) two ∙ ap (λ x. low' ∷ high' ∷ x ∷ []) last

-- ---- frames 0 to 2 * k - 1 and those after them
module _ (n k : ℕ) (xs ys : List ℕ) (some : 1 ≤ n) (size : length xs ≡ 2 * (2 * k * n)) where
  -- a sample's bytes are in the frames before 2 * k
  left_place : (i : ℕ) → i < 2 * k * n → i + i / n * n + n < length xs
  left_place i low =
      let q = i / n in
      let row : q < 2 * k = div_below i n (2 * k) some low in
      let fits : (q + 1) * n ≤ 2 * k * n = mul-le (q + 1) n (2 * k) n (omega (arith, row)) (omega arith) in
      omega (arith, size, low, fits, add-mul q 1 n, div-add-mod' i n, mod_below i n some)

  left : (i : ℕ) → i < 2 * k * n → dop_sample n (xs ++ ys) i ≡ dop_sample n xs i
  left i low =
      let place = left_place i low in
      three _ _ _ _ _ _ (get_or_append_left xs ys 0 (i + i / n * n + n) place) (get_or_append_left xs ys 0 (i + i / n * n) (omega (arith, place))) refl

  right : (i : ℕ) → dop_sample n ys i ≡ dop_sample n (xs ++ ys) (2 * k * n + i)
  right i =
      let q : (2 * k * n + i) / n ≡ 2 * k + i / n = mul-add-div_right some (2 * k) i in
      let at : (2 * k * n + i) + (2 * k * n + i) / n * n ≡ length xs + (i + i / n * n) = ap (λ m. (2 * k * n + i) + m * n) q ∙ omega (arith, add-mul (2 * k) (i / n) n, size) in
      let next : (2 * k * n + i) + (2 * k * n + i) / n * n + n ≡ length xs + (i + i / n * n + n) = omega (arith, at) in
      let even : ((2 * k * n + i) / n) % 2 ≡ (i / n) % 2 = ap (λ m. m % 2) q ∙ omega arith in
      sym (three _ _ _ _ _ _
      (ap (slice_index (xs ++ ys)) next ∙ get_or-append-add xs ys (i + i / n * n + n) 0)
      (ap (slice_index (xs ++ ys)) at ∙ get_or-append-add xs ys (i + i / n * n) 0)
      (ap (λ m. cond (eqb m 0) 5 250) even))

  pub dop_on : dop_samples n (xs ++ ys) ≡ dop_samples n xs ++ dop_samples n ys
  dop_on =
      let a = 2 * k * n in
      let both : length (xs ++ ys) / 2 ≡ a + length ys / 2 = omega (arith, length-append xs ys, size) in
      let first : length xs / 2 ≡ a = omega (arith, size) in
      let f = dop_sample n (xs ++ ys) in
      ap (λ m. flat_map f (range_with_len 0 m)) both
      ∙ in_two f a (length ys / 2)
      ∙ ap₂ (λ (us vs : List ℕ). us ++ vs)
      (moved f (dop_sample n xs) 0 a (λ i low. left i low ∙ ap (dop_sample n xs) (omega arith)) ∙ ap (λ m. flat_map (dop_sample n xs) (range_with_len 0 m)) (sym first))
      (sym (moved (dop_sample n ys) f a (length ys / 2) (λ i low. right i)))

-- three bytes of each two
pub dop_long : (n : ℕ) (bytes : List ℕ) → length (dop_samples n bytes) ≡ length bytes / 2 * 3
dop_long n bytes =
    length-equal (dop_sample n bytes) 3 (range_with_len 0 (length bytes / 2)) (λ k. refl) ∙ ap (λ m. m * 3) (length-range_with_len 0 (length bytes / 2))

-- ---- a frame
module _ (n frame c : ℕ) (bytes : List ℕ) (in_frame : c < n) where
  sample_frame : (frame * n + c) / n ≡ frame
  sample_frame = div-mul-add frame n c in_frame

  -- what is read for a sample is the sample
  pub sample_is : (low high mark : ℕ) → low ≡ slice_index bytes (2 * (frame * n) + n + c) → high ≡ slice_index bytes (2 * (frame * n) + c) → mark ≡ marker frame
      → (low ∷ high ∷ mark ∷ []) ≡ dop_sample n bytes (frame * n + c)
  sample_is low high mark low_is high_is mark_is =
      let at : 2 * (frame * n) + c ≡ (frame * n + c) + (frame * n + c) / n * n = omega arith ∙ ap (λ m. (frame * n + c) + m * n) (sym sample_frame) in
      let next : 2 * (frame * n) + n + c ≡ (frame * n + c) + (frame * n + c) / n * n + n = omega (arith, at) in
      three _ _ _ _ _ _ (low_is ∙ ap (slice_index bytes) next) (high_is ∙ ap (slice_index bytes) at) (mark_is ∙ ap marker (sym sample_frame))
