-- Going from sample to sample.
use Rattle.std.proofs.Common.{◌≡◌, ℕ, zero, suc, ◌+◌, ◌-◌, ◌*◌, ◌/◌, ◌<◌, ◌≤◌, ◌≢◌, inl, inr, cond, eqb, List, ◌++◌, Option, None, Some, length, slice_index, refl, sym, ap, ap₂, ◌∙◌, ne_eqb, eq-eqb, zero-mul, arith}
use Rattle.std.proofs.lemmas.Bool.{cases_eq}
use Rattle.std.proofs.lemmas.List.{get_or-append-add, get_or_append_left}
use Rattle.std.proofs.lemmas.Nat.{div-mul-add, mul-le}
use Rattle.std.proofs.Math.Nat.{add-mul, mul-add-div_right, zero-div}
use Rattle.std.specs.Int.{div_ceil}
use Rattle.native_core.specs.Native.{marker}
use Rattle.dop_core.specs.Markers.{plus}
use Rattle.dop_core.specs.Reading.{broken_from, phase}

module _ (channels first : ℕ) (sound : List ℕ) where
  -- nothing is left
  pub none_left : (k left : ℕ) → left ≡ 0 → broken_from channels first sound k left ≡ None
  unfolding broken_from
  none_left k zero none = refl
  none_left k (suc left) none = absurd (omega (arith, none))

  pub here : (k left : ℕ) → slice_index sound (3 * k + 2) ≢ marker (first + k / channels) → broken_from channels first sound k (suc left) ≡ Some (k / channels)
  unfolding broken_from
  here k left other = rw (ne_eqb _ _ other) refl

  pub passed : (k left : ℕ) → slice_index sound (3 * k + 2) ≡ marker (first + k / channels) → broken_from channels first sound k (suc left) ≡ broken_from channels first sound (k + 1) left
  unfolding broken_from
  passed k left same = rw (eq-eqb _ _ same) refl

  pub no_samples : (samples : ℕ) → samples ≡ 0 → broken_from channels first sound 0 samples ≡ None
  no_samples samples none = none_left 0 samples none

-- samples of some frames
pub few_samples : (frames n : ℕ) → frames ≤ 4294967296 → n ≤ 6 → frames * n ≤ 4294967296 * 6
few_samples frames n few six = mul-le frames n 4294967296 6 few six

-- as many bits need no more frames than that
pub piece_holds : (count frames n : ℕ) (given piece : List ℕ) → count ≤ 16 * frames → given ≡ piece → length piece ≡ 3 * (frames * n) → 3 * (div_ceil count 16 * n) ≤ length given
piece_holds count frames n given piece few same long =
    let least : div_ceil count 16 ≤ frames = omega (arith, few) in
    omega (arith, mul-le (div_ceil count 16) n frames n least (omega arith), ap length same, long)

-- ---- a frame

module _ (n first : ℕ) (sound : List ℕ) (j : ℕ) where
  abbrev at : ℕ → ℕ
  at c = slice_index sound (3 * (j * n + c) + 2)

  passed_in : (m c rest : ℕ) → c + m ≡ n → ((i : ℕ) → i < n → at i ≡ marker (first + j)) → broken_from n first sound (j * n + c) (m + rest) ≡ broken_from n first sound (j * n + n) rest
  passed_in zero c rest all each =
      let same : c ≡ n = omega (arith, all) in
      let none : 0 + rest ≡ rest = omega arith in
      ap₂ (λ i m. broken_from n first sound (j * n + i) m) same none
  passed_in (suc m) c rest all each =
      let low : c < n = omega (arith, all) in
      let frame : first + (j * n + c) / n ≡ first + j = ap (λ q. first + q) (div-mul-add j n c low) in
      let on : j * n + c + 1 ≡ j * n + (c + 1) = omega arith in
      let more : suc m + rest ≡ suc (m + rest) = omega arith in
      ap (broken_from n first sound (j * n + c)) more ∙ passed n first sound (j * n + c) (m + rest) (each c low ∙ ap marker (sym frame)) ∙ ap (λ k. broken_from n first sound k (m + rest)) on ∙ passed_in m (c + 1) rest (omega (arith, all)) each

  -- its samples have its marker
  pub frame_passed : (rest : ℕ) → ((i : ℕ) → i < n → at i ≡ marker (first + j)) → broken_from n first sound (j * n) (n + rest) ≡ broken_from n first sound ((j + 1) * n) rest
  frame_passed rest each =
      let from : j * n ≡ j * n + 0 = omega arith in
      let to : j * n + n ≡ (j + 1) * n = omega (arith, add-mul j 1 n) in
      ap (λ k. broken_from n first sound k (n + rest)) from ∙ passed_in n 0 rest (omega arith) each ∙ ap (λ k. broken_from n first sound k rest) to

  breaks_in : (m c rest i : ℕ) → c + m ≡ n → c ≤ i → i < n → at i ≢ marker (first + j) → broken_from n first sound (j * n + c) (m + rest) ≡ Some j
  breaks_in zero c rest i all from low other = absurd (omega (arith, all, from, low))
  breaks_in (suc m) c rest i all from low other =
      let below : c < n = omega (arith, all) in
      let quotient : (j * n + c) / n ≡ j = div-mul-add j n c below in
      let frame : first + (j * n + c) / n ≡ first + j = ap (λ q. first + q) quotient in
      let on : j * n + c + 1 ≡ j * n + (c + 1) = omega arith in
      let more : suc m + rest ≡ suc (m + rest) = omega arith in
      ap (broken_from n first sound (j * n + c)) more ∙ elim (cases_eq (at c) (marker (first + j))) [
        | inl same ↦ elim (cases_eq c i) [
          | inl is ↦ absurd (other (ap at (sym is) ∙ same))
          | inr less ↦ passed n first sound (j * n + c) (m + rest) (same ∙ ap marker (sym frame)) ∙ ap (λ k. broken_from n first sound k (m + rest)) on ∙ breaks_in m (c + 1) rest i (omega (arith, all)) (omega (arith, from, less)) low other
        ]
        | inr differs ↦ here n first sound (j * n + c) (m + rest) (λ same. differs (same ∙ ap marker frame)) ∙ ap (λ (q : ℕ). Some q) quotient
      ]

  -- one of its samples has another
  pub frame_breaks : (rest i : ℕ) → i < n → at i ≢ marker (first + j) → broken_from n first sound (j * n) (n + rest) ≡ Some j
  frame_breaks rest i low other =
      let from : j * n ≡ j * n + 0 = omega arith in
      ap (λ k. broken_from n first sound k (n + rest)) from ∙ breaks_in n 0 rest i (omega arith) (omega arith) low other

-- ---- frames after others

abbrev pub or_else : Option ℕ → Option ℕ → Option ℕ
or_else None other = other
or_else (Some k) other = Some k

pub broken_then : (n first : ℕ) (sound : List ℕ) (k x y : ℕ) → broken_from n first sound k (x + y) ≡ or_else (broken_from n first sound k x) (broken_from n first sound (k + x) y)
broken_then n first sound k zero y =
    let to : k ≡ k + 0 = omega arith in
    let none : 0 + y ≡ y = omega arith in
    ap₂ (broken_from n first sound) to none ∙ ap (λ (o : Option ℕ). or_else o (broken_from n first sound (k + 0) y)) (sym (none_left n first sound k zero refl))
broken_then n first sound k (suc x) y =
    let more : suc x + y ≡ suc (x + y) = omega arith in
    ap (broken_from n first sound k) more ∙ elim (cases_eq (slice_index sound (3 * k + 2)) (marker (first + k / n))) [
      | inl same ↦
          let to : k + 1 + x ≡ k + suc x = omega arith in
          passed n first sound k (x + y) same ∙ broken_then n first sound (k + 1) x y
          ∙ ap₂ or_else (sym (passed n first sound k x same)) (ap (λ m. broken_from n first sound m y) to)
      | inr differs ↦ here n first sound k (x + y) differs ∙ ap (λ (o : Option ℕ). or_else o (broken_from n first sound (k + suc x) y)) (sym (here n first sound k x differs))
    ]

-- bytes after the samples don't matter
pub broken_in : (n first : ℕ) (a b : List ℕ) (k left : ℕ) → 3 * (k + left) ≤ length a → broken_from n first (a ++ b) k left ≡ broken_from n first a k left
unfolding broken_from
broken_in n first a b k zero fits = refl
broken_in n first a b k (suc left) fits =
    let same : slice_index (a ++ b) (3 * k + 2) ≡ slice_index a (3 * k + 2) = get_or_append_left a b 0 (3 * k + 2) (omega (arith, fits)) in
    rw (same, broken_in n first a b (k + 1) left (omega (arith, fits))) refl

-- frames after whole frames
pub broken_on : (n first : ℕ) (a b : List ℕ) (j k left : ℕ) → 1 ≤ n → length a ≡ 3 * (j * n) → broken_from n first (a ++ b) (j * n + k) left ≡ plus j (broken_from n (first + j) b k left)
unfolding broken_from
broken_on n first a b j k zero some long = refl
broken_on n first a b j k (suc left) some long =
    let place : 3 * (j * n + k) + 2 ≡ length a + (3 * k + 2) = omega (arith, long) in
    let same : slice_index (a ++ b) (3 * (j * n + k) + 2) ≡ slice_index b (3 * k + 2) = ap (slice_index (a ++ b)) place ∙ get_or-append-add a b (3 * k + 2) 0 in
    let quotient : (j * n + k) / n ≡ j + k / n = mul-add-div_right some j k in
    let number : first + (j * n + k) / n ≡ first + j + k / n = ap (λ q. first + q) quotient ∙ omega arith in
    let on : j * n + k + 1 ≡ j * n + (k + 1) = omega arith in
    elim (cases_eq (slice_index b (3 * k + 2)) (marker (first + j + k / n))) [
      | inl is ↦ passed n first (a ++ b) (j * n + k) left (same ∙ is ∙ ap marker (sym number)) ∙ ap (λ m. broken_from n first (a ++ b) m left) on ∙ broken_on n first a b j (k + 1) left some long ∙ ap (plus j) (sym (passed n (first + j) b k left is))
      | inr differs ↦ here n first (a ++ b) (j * n + k) left (λ is. differs (sym same ∙ is ∙ ap marker number)) ∙ ap (λ (q : ℕ). Some q) quotient ∙ ap (plus j) (sym (here n (first + j) b k left differs))
    ]

-- a piece after whole frames
pub broken_both : (n first : ℕ) (a b : List ℕ) (j m : ℕ) → 1 ≤ n → length a ≡ 3 * (j * n) → broken_from n first (a ++ b) 0 ((j + m) * n) ≡ or_else (broken_from n first a 0 (j * n)) (plus j (broken_from n (first + j) b 0 (m * n)))
broken_both n first a b j m some long =
    let from : 0 + j * n ≡ j * n + 0 = omega arith in
    ap (broken_from n first (a ++ b) 0) (add-mul j m n)
    ∙ broken_then n first (a ++ b) 0 (j * n) (m * n)
    ∙ ap₂ or_else (broken_in n first a b 0 (j * n) (omega (arith, long))) (ap (λ k. broken_from n first (a ++ b) k (m * n)) from ∙ broken_on n first a b j 0 (m * n) some long)

pub nothing_times : (m n : ℕ) → m ≡ 0 → m * n ≡ 0
nothing_times m n is = ap (λ k. k * n) is ∙ zero-mul n

pub frames_on : (frames j n : ℕ) → j < frames → (frames - j) * n ≡ n + (frames - (j + 1)) * n
frames_on frames j n less =
    let one : frames - j ≡ 1 + (frames - (j + 1)) = omega (arith, less) in
    ap (λ k. k * n) one ∙ omega (arith, add-mul 1 (frames - (j + 1)) n)

-- the first marker tells which comes first
pub phase_begins : (n first : ℕ) (sound : List ℕ) (samples : ℕ) → 1 ≤ samples → first ≤ 1 → broken_from n first sound 0 samples ≡ None → phase sound ≡ first
phase_begins n first sound zero some either none = absurd (omega (arith, some))
phase_begins n first sound (suc left) some either none = elim (cases_eq (slice_index sound (3 * 0 + 2)) (marker (first + 0 / n))) [
  | inl same ↦ by first either same
  | inr differs ↦ (let both : None ≡ Some (0 / n) = sym none ∙ here n first sound 0 left differs in absurd cc)
]
  where
    by : (m : ℕ) → m ≤ 1 → slice_index sound (3 * 0 + 2) ≡ marker (m + 0 / n) → phase sound ≡ m
    by zero either same = let five : slice_index sound 2 ≡ 5 = same ∙ ap (λ q. marker (0 + q)) (zero-div n) in ap (λ (k : ℕ). cond (eqb k 250) 1 0) five
    by (suc zero) either same = let odd : slice_index sound 2 ≡ 250 = same ∙ ap (λ q. marker (1 + q)) (zero-div n) in ap (λ (k : ℕ). cond (eqb k 250) 1 0) odd
    by (suc (suc m)) either same = absurd (omega (arith, either))
