-- Where the bytes of a channel go.
use Rattle.std.proofs.Common.{◌≡◌, ◌≢◌, ℕ, ◌+◌, ◌-◌, ◌*◌, ◌/◌, ◌%◌, ◌<◌, ◌≤◌, inl, inr, List, length, slice_index, slice_set, sym, ap, ap₂, ◌∙◌, arith}
use Rattle.std.proofs.Math.Nat.{add-mul}
use Rattle.std.proofs.lemmas.Bool.{cases_eq, cases_lt}
use Rattle.std.proofs.lemmas.List.{get_or-set_other, get_or-set_same, length-set}
use Rattle.std.proofs.lemmas.Nat.{mul-le}
use Rattle.dop_core.specs.Reading.{dop_byte}

pub size_on : (to : List ℕ) (i j x y : ℕ) {m : ℕ} → length to ≡ m → length (slice_set (slice_set to i x) j y) ≡ m
size_on to i j x y {m} is = length-set (slice_set to i x) j y ∙ length-set to i x ∙ is

-- two places of different channels, or of different rows, are two
apart : (n p d q e : ℕ) → d < n → e < n → d ≢ e → p * n + d ≢ q * n + e
apart n p d q e low high other = elim (cases_lt p q) [
  | inl less ↦ (let row : (p + 1) * n ≤ q * n = mul-le (p + 1) n q n (omega (arith, less)) (omega arith) in λ same. absurd (omega (arith, row, add-mul p 1 n, low, same)))
  | inr more ↦ elim (cases_lt q p) [
    | inl less ↦ (let row : (q + 1) * n ≤ p * n = mul-le (q + 1) n p n (omega (arith, less)) (omega arith) in λ same. absurd (omega (arith, row, add-mul q 1 n, high, same)))
    | inr both ↦ (let is : p ≡ q = omega (arith, more, both) in λ same. other (let row = ap (λ k. k * n) is in omega (arith, row, same)))
  ]
]

rows_apart : (n p q e : ℕ) → e < n → p ≢ q → p * n + e ≢ q * n + e
rows_apart n p q e high other = elim (cases_lt p q) [
  | inl less ↦ (let row : (p + 1) * n ≤ q * n = mul-le (p + 1) n q n (omega (arith, less)) (omega arith) in λ same. absurd (omega (arith, row, add-mul p 1 n, high, same)))
  | inr more ↦ (let row : (q + 1) * n ≤ p * n = mul-le (q + 1) n p n (omega (arith, more, other)) (omega arith) in λ same. absurd (omega (arith, row, add-mul q 1 n, high, same)))
]

module _ (n c : ℕ) (in_frame : c < n) (to : List ℕ) (j : ℕ) (room : 2 * ((j + 1) * n) ≤ length to) (piece : List ℕ) where
  abbrev place : ℕ
  place = 2 * (j * n) + c

  abbrev early : ℕ
  early = slice_index piece (3 * (j * n + c) + 1)

  abbrev late : ℕ
  late = slice_index piece (3 * (j * n + c))

  abbrev new : List ℕ
  new = slice_set (slice_set to place early) (place + n) late

  first_row : 2 * j * n + c ≡ place
  first_row = let twice : 2 * j * n ≡ j * n + j * n = ap (λ k. k * n) (let two : 2 * j ≡ j + j = omega arith in two) ∙ add-mul j j n in omega (arith, twice)

  second_row : (2 * j + 1) * n + c ≡ place + n
  second_row = omega (arith, first_row, add-mul (2 * j) 1 n)

  fits : place + n < length to
  fits = omega (arith, room, add-mul j 1 n, in_frame)

  at_first : slice_index new place ≡ early
  at_first = get_or-set_other (slice_set to place early) (place + n) place late 0 (omega (arith, in_frame)) ∙ get_or-set_same to place early 0 (omega (arith, fits))

  at_second : slice_index new (place + n) ≡ late
  at_second = get_or-set_same (slice_set to place early) (place + n) late 0 (omega (arith, fits, length-set to place early))

  elsewhere : (k : ℕ) → k ≢ place → k ≢ place + n → slice_index new k ≡ slice_index to k
  elsewhere k one two = get_or-set_other (slice_set to place early) (place + n) k late 0 two ∙ get_or-set_other to place k early 0 one

  byte_early : dop_byte n piece c (2 * j) ≡ early
  byte_early =
      let half : 2 * j / 2 ≡ j = omega arith in
      let odd : 2 * j % 2 ≡ 0 = omega arith in
      ap₂ (λ h m. slice_index piece (3 * (h * n + c) + (1 - m))) half odd

  byte_late : dop_byte n piece c (2 * j + 1) ≡ late
  byte_late =
      let half : (2 * j + 1) / 2 ≡ j = omega arith in
      let odd : (2 * j + 1) % 2 ≡ 1 = omega arith in
      let at : 3 * (j * n + c) + (1 - 1) ≡ 3 * (j * n + c) = omega arith in
      ap₂ (λ h m. slice_index piece (3 * (h * n + c) + (1 - m))) half odd ∙ ap (slice_index piece) at

  pub own_on : ((p : ℕ) → p < 2 * j → slice_index to (p * n + c) ≡ dop_byte n piece c p) → (p : ℕ) → p < 2 * (j + 1) → slice_index new (p * n + c) ≡ dop_byte n piece c p
  own_on before p low = elim (cases_eq p (2 * j)) [
    | inl first ↦ ap (λ q. slice_index new (q * n + c)) first ∙ ap (slice_index new) first_row ∙ at_first ∙ sym byte_early ∙ ap (dop_byte n piece c) (sym first)
    | inr one ↦ elim (cases_eq p (2 * j + 1)) [
      | inl second ↦ ap (λ q. slice_index new (q * n + c)) second ∙ ap (slice_index new) second_row ∙ at_second ∙ sym byte_late ∙ ap (dop_byte n piece c) (sym second)
      | inr two ↦ elsewhere (p * n + c) (λ is. rows_apart n p (2 * j) c in_frame one (is ∙ sym first_row)) (λ is. rows_apart n p (2 * j + 1) c in_frame two (is ∙ sym second_row)) ∙ before p (omega (arith, low, one, two))
    ]
  ]

  pub others_on : (old : List ℕ) → ((p d : ℕ) → d < n → d ≢ c → slice_index to (p * n + d) ≡ slice_index old (p * n + d)) → (p d : ℕ) → d < n → d ≢ c → slice_index new (p * n + d) ≡ slice_index old (p * n + d)
  others_on old before p d low other = elsewhere (p * n + d) (λ is. apart n p d (2 * j) c low in_frame other (is ∙ sym first_row)) (λ is. apart n p d (2 * j + 1) c low in_frame other (is ∙ sym second_row)) ∙ before p d low other
