-- Silence after a channel.
use Rattle.std.proofs.Common.{◌≡◌, ◌⊎◌, inl, inr, ℕ, zero, suc, ◌+◌, ◌-◌, ◌*◌, ◌%◌, ◌≤◌, ◌^◌, Bool, eqb, List, ◌∷◌, ◌++◌, length, refl, ap, ap₂, ◌∙◌, arith, append_assoc, length-append}
use Rattle.std.specs.Int.{bit_at, div_ceil}
use Rattle.std.proofs.lemmas.List.{append-nil}
use Rattle.std.proofs.lemmas.List.FromFn.{length-map-range_with_len}
use Rattle.native_core.specs.Native.{filled, missing, silence, silence_bit}

-- what holds of 8 and of 16 holds of each unit
pub by_unit : (P : ℕ → Type 0) (unit : ℕ) → (unit ≡ 8) ⊎ (unit ≡ 16) → P 8 → P 16 → P unit
by_unit P unit is eight sixteen = elim is [
  | inl e ↦ rw e eight
  | inr e ↦ rw e sixteen
]

pub missing_none : (unit count : ℕ) → (unit ≡ 8) ⊎ (unit ≡ 16) → count % unit ≡ 0 → missing unit count ≡ 0
missing_none unit count is whole = by_unit (λ u. count % u ≡ 0 → missing u count ≡ 0) unit is (λ w. omega (arith, w)) (λ w. omega (arith, w)) whole

pub missing_on : (unit a b : ℕ) → (unit ≡ 8) ⊎ (unit ≡ 16) → a % 32768 ≡ 0 → missing unit (a + b) ≡ missing unit b
missing_on unit a b is whole = by_unit (λ u. missing u (a + b) ≡ missing u b) unit is (omega (arith, whole)) (omega (arith, whole))

-- whole units are as many bits as the channel and what is missing
pub units_are : (unit count : ℕ) → (unit ≡ 8) ⊎ (unit ≡ 16) → count + missing unit count ≡ div_ceil count unit * unit
units_are unit count is = by_unit (λ u. count + missing u count ≡ div_ceil count u * u) unit is (omega arith) (omega arith)

pub units_fit : (unit count : ℕ) → (unit ≡ 8) ⊎ (unit ≡ 16) → count ≤ 2 ^ 36 → div_ceil count unit * unit ≤ 2 ^ 36
units_fit unit count is short = by_unit (λ u. div_ceil count u * u ≤ 2 ^ 36) unit is (omega (arith, short)) (omega (arith, short))

pub units_whole : (unit count : ℕ) → (unit ≡ 8) ⊎ (unit ≡ 16) → (div_ceil count unit * unit) % 8 ≡ 0
units_whole unit count is = by_unit (λ u. (div_ceil count u * u) % 8 ≡ 0) unit is (omega arith) (omega arith)

-- silence begins anew with each byte
pub silence_same : (m a b : ℕ) → a % 8 ≡ b % 8 → silence a m ≡ silence b m
silence_same zero a b e = refl
silence_same (suc m) a b e =
    ap₂ (λ (x : Bool) (xs : List Bool). x ∷ xs) (ap (λ r. eqb (bit_at 105 (7 - r)) 1) e) (silence_same m (a + 1) (b + 1) (omega (arith, e)))

pub length-filled : (unit : ℕ) (bits : List Bool) → (unit ≡ 8) ⊎ (unit ≡ 16) → length (filled unit bits) ≡ div_ceil (length bits) unit * unit
length-filled unit bits is =
    let m = missing unit (length bits) in
    length-append bits (silence (length bits) m) ∙ ap (λ k. length bits + k) (length-map-range_with_len silence_bit (length bits) m) ∙ units_are unit (length bits) is

-- whole units need no silence
pub filled_whole : (unit : ℕ) (bits : List Bool) → (unit ≡ 8) ⊎ (unit ≡ 16) → length bits % unit ≡ 0 → filled unit bits ≡ bits
filled_whole unit bits is whole = ap (λ m. bits ++ silence (length bits) m) (missing_none unit (length bits) is whole) ∙ append-nil bits

-- silence comes after the last bits
pub filled_on : (unit : ℕ) (xs ys : List Bool) → (unit ≡ 8) ⊎ (unit ≡ 16) → length xs % 32768 ≡ 0 → filled unit (xs ++ ys) ≡ xs ++ filled unit ys
filled_on unit xs ys is whole =
    let a = length xs in
    let b = length ys in
    let m = missing unit b in
    ap (λ k. (xs ++ ys) ++ silence k (missing unit k)) (length-append xs ys)
    ∙ ap (λ k. (xs ++ ys) ++ silence (a + b) k) (missing_on unit a b is whole)
    ∙ ap (λ s. (xs ++ ys) ++ s) (silence_same m (a + b) b (omega (arith, whole)))
    ∙ append_assoc xs ys (silence b m)
