-- Numbers of n bytes each, the highest byte first.
use Rattle.std.proofs.Common.{◌≡◌, ℕ, zero, suc, ◌+◌, ◌*◌, ◌-◌, ◌/◌, ◌%◌, ◌^◌, ◌<◌, ◌≤◌, List, [], ◌∷◌, ◌++◌, refl, sym, ap, ap₂, ◌∙◌, subst, append_assoc, length, take, drop, get_or, set, inl, inr, arith}
use Rattle.std.specs.List.{flat_map}
use Rattle.std.specs.Int.{w64, to_be_bytes, byte_at, bytes_high_first}
use Rattle.std.proofs.Math.Nat.{div-one, mod-eq_of_lt, mul-lt-mul_of_pos_right, one-le-pow, pow-suc}
use Rattle.std.proofs.lemmas.Bool.{cases_lt}
use Rattle.std.proofs.lemmas.Nat.{mod-pow-add, pow-add, pow_pos, shl-shr, shr-shr, shr_below}
use Rattle.std.proofs.lemmas.List.{append-nil, drop_at, get_or-set_other, get_or-set_same, get_or_past, length-append, take_at, take-take, take_more_set}
use Rattle.std.proofs.lemmas.Grind.{flat_map-append}
use Rattle.cost_core.proofs.Chunks.{take_two}

-- two ways to write what bytes hold
pub pow_bytes : (n : ℕ) → 256 ^ n ≡ 2 ^ (8 * n)
pow_bytes zero = refl
pow_bytes (suc n) =
    let e : 8 * suc n ≡ 8 * n + 8 = omega arith in
    rw (pow-suc 256 n, pow_bytes n, e, pow-add 2 (8 * n) 8) refl

byte_is : (k n : ℕ) → byte_at k n ≡ n / 2 ^ (8 * k) % 256
byte_is zero n = ap (λ m. m % 256) (sym (div-one n))
byte_is (suc k) n = ap (λ m. n / m % 256) (pow_bytes (suc k))

pub length-highs : (w n : ℕ) → length (bytes_high_first w n) ≡ w
length-highs zero n = refl
length-highs (suc w) n = omega (arith, length-highs w n)

-- the highest bytes of more
high_part : (w k n : ℕ) → take w (bytes_high_first (w + k) n) ≡ bytes_high_first w (n / 2 ^ (8 * k))
high_part zero k n = refl
high_part (suc w) k n =
    let e : suc w + k ≡ suc (w + k) = omega arith in
    let whole : 8 * (w + k) ≡ 8 * k + 8 * w = omega arith in
    let byte : byte_at (w + k) n ≡ byte_at w (n / 2 ^ (8 * k)) =
    byte_is (w + k) n ∙ ap (λ m. n / 2 ^ m % 256) whole ∙ ap (λ m. m % 256) (sym (shr-shr n (8 * k) (8 * w))) ∙ sym (byte_is w (n / 2 ^ (8 * k))) in
    ap (λ m. take (suc w) (bytes_high_first m n)) e ∙ ap₂ (λ x l. x ∷ l) byte (high_part w k n)

-- the first bytes of eight, by what they are of the number in all eight
pub high_shifted : (w p n : ℕ) (bytes : List ℕ) → w ≤ 8 → take 8 (drop p bytes) ≡ to_be_bytes w64 n → take w (drop p bytes) ≡ bytes_high_first w (n / 2 ^ (64 - 8 * w))
high_shifted w p n bytes few is =
    let e : 8 ≡ w + (8 - w) = omega arith in
    let spare : 8 * (8 - w) ≡ 64 - 8 * w = omega arith in
    sym (take-take w 8 (drop p bytes) few) ∙ ap (take w) (is ∙ ap (λ m. bytes_high_first m n) e) ∙ high_part w (8 - w) n ∙ ap (λ m. bytes_high_first w (n / 2 ^ m)) spare

-- and they hold no more than n bytes can
pub high_small : (w n : ℕ) → w ≤ 8 → n < 2 ^ 64 → n / 2 ^ (64 - 8 * w) < 256 ^ w
high_small w n few small =
    let e : 64 ≡ 8 * w + (64 - 8 * w) = omega arith in
    let h : n < 2 ^ (8 * w + (64 - 8 * w)) = subst (λ m. n < 2 ^ m) e small in
    subst (λ m. n / 2 ^ (64 - 8 * w) < m) (sym (pow_bytes w)) (shr_below n (8 * w) (64 - 8 * w) h)

-- the first bytes of a number that was moved up by those that they leave
pub high_stored : (w e : ℕ) → w ≤ 8 → take w (to_be_bytes w64 (e * 2 ^ (64 - 8 * w))) ≡ bytes_high_first w e
high_stored w e few = high_shifted w 0 (e * 2 ^ (64 - 8 * w)) (to_be_bytes w64 (e * 2 ^ (64 - 8 * w))) few refl ∙ ap (bytes_high_first w) (shl-shr e (64 - 8 * w))

-- and none of it is lost
pub high_moved : (w e : ℕ) → w ≤ 8 → e < 256 ^ w → e * 2 ^ (64 - 8 * w) % 2 ^ 64 ≡ e * 2 ^ (64 - 8 * w)
high_moved w e few small =
    let spare = 64 - 8 * w in
    let n : 64 ≡ 8 * w + spare = omega arith in
    let whole : 2 ^ 64 ≡ 2 ^ (8 * w) * 2 ^ spare = ap (λ m. 2 ^ m) n ∙ pow-add 2 (8 * w) spare in
    let below : e < 2 ^ (8 * w) = subst (λ m. e < m) (pow_bytes w) small in
    mod-eq_of_lt (subst (λ m. e * 2 ^ spare < m) (sym whole) (mul-lt-mul_of_pos_right below (pow_pos spare)))

-- the same bytes are of numbers that are the same but for what more bytes hold
same_low : (w a b : ℕ) → bytes_high_first w a ≡ bytes_high_first w b → a % 2 ^ (8 * w) ≡ b % 2 ^ (8 * w)
same_low zero a b e = omega arith
same_low (suc w) a b e =
    let first : a / 2 ^ (8 * w) % 256 ≡ b / 2 ^ (8 * w) % 256 = sym (byte_is w a) ∙ ap (λ l. get_or l 0 0) e ∙ byte_is w b in
    let rest : a % 2 ^ (8 * w) ≡ b % 2 ^ (8 * w) = same_low w a b (ap (drop 1) e) in
    let n : 8 * suc w ≡ 8 + 8 * w = omega arith in
    ap (λ m. a % 2 ^ m) n ∙ mod-pow-add a 8 (8 * w) ∙ ap₂ (λ x y. x * 2 ^ (8 * w) + y) first rest ∙ sym (mod-pow-add b 8 (8 * w)) ∙ ap (λ m. b % 2 ^ m) (sym n)

pub high_inj : (w a b : ℕ) → a < 256 ^ w → b < 256 ^ w → bytes_high_first w a ≡ bytes_high_first w b → a ≡ b
high_inj w a b ha hb e =
    let ha2 : a < 2 ^ (8 * w) = subst (λ m. a < m) (pow_bytes w) ha in
    let hb2 : b < 2 ^ (8 * w) = subst (λ m. b < m) (pow_bytes w) hb in
    sym (mod-eq_of_lt ha2) ∙ same_low w a b e ∙ mod-eq_of_lt hb2

-- numbers of n bytes each are read in one way
pub highs_inj : (w : ℕ) (over over2 : List ℕ) → length over ≡ length over2 → ((q : ℕ) → get_or over q 0 < 256 ^ w) → ((q : ℕ) → get_or over2 q 0 < 256 ^ w) → (r r2 : List ℕ)
    → flat_map (bytes_high_first w) over ++ r ≡ flat_map (bytes_high_first w) over2 ++ r2 → (over ≡ over2) × (r ≡ r2)
highs_inj w [] [] n f f2 r r2 e = (refl, e)
highs_inj w [] (v ∷ over2) n f f2 r r2 e = absurd (omega arith)
highs_inj w (v ∷ over) [] n f f2 r r2 e = absurd (omega arith)
highs_inj w (v ∷ over) (v2 ∷ over2) n f f2 r r2 e =
    let xs = flat_map (bytes_high_first w) over ++ r in
    let ys = flat_map (bytes_high_first w) over2 ++ r2 in
    let all : bytes_high_first w v ++ xs ≡ bytes_high_first w v2 ++ ys = sym (append_assoc (bytes_high_first w v) (flat_map (bytes_high_first w) over) r) ∙ e ∙ append_assoc (bytes_high_first w v2) (flat_map (bytes_high_first w) over2) r2 in
    let first = sym (take_at (bytes_high_first w v) xs w (length-highs w v)) ∙ ap (take w) all ∙ take_at (bytes_high_first w v2) ys w (length-highs w v2) in
    let rest = sym (drop_at (bytes_high_first w v) xs w (length-highs w v)) ∙ ap (drop w) all ∙ drop_at (bytes_high_first w v2) ys w (length-highs w v2) in
    let more = highs_inj w over over2 (omega arith) (λ q. f (suc q)) (λ q. f2 (suc q)) r r2 rest in
    (ap₂ (λ x l. x ∷ l) (high_inj w v v2 (f 0) (f2 0) first) more.0, more.1)

pub highs-length : (w : ℕ) (over : List ℕ) → length (flat_map (bytes_high_first w) over) ≡ w * length over
highs-length w [] = omega arith
highs-length w (v ∷ over) =
    let n : w * suc (length over) ≡ w + w * length over = omega arith in
    length-append (bytes_high_first w v) (flat_map (bytes_high_first w) over) ∙ ap₂ (λ a b. a + b) (length-highs w v) (highs-length w over) ∙ sym n

-- one number more
pub highs_more : (w i v : ℕ) (bytes row : List ℕ) → take (w * i) bytes ≡ flat_map (bytes_high_first w) (take i row) → take w (drop (w * i) bytes) ≡ bytes_high_first w v → i < length row
    → take (w * (i + 1)) bytes ≡ flat_map (bytes_high_first w) (take (i + 1) (set row i v))
highs_more w i v bytes row before is low =
    let n : w * (i + 1) ≡ w * i + w = omega arith in
    ap (λ m. take m bytes) n ∙ take_two (w * i) w bytes ∙ ap₂ (λ xs ys. xs ++ ys) before is
    ∙ sym (ap (flat_map (bytes_high_first w)) (take_more_set row i v low) ∙ flat_map-append (bytes_high_first w) (take i row) (v ∷ []) ∙ ap (λ xs. flat_map (bytes_high_first w) (take i row) ++ xs) (append-nil (bytes_high_first w v)))

-- none of the numbers so far needs more bytes
pub fits_more : (w i v : ℕ) (row : List ℕ) → v < 256 ^ w → i < length row → ((q : ℕ) → q < i → get_or row q 0 < 256 ^ w) → (q : ℕ) → q < i + 1 → get_or (set row i v) q 0 < 256 ^ w
fits_more w i v row small low before q h = elim (cases_lt q i) [
  | inl lt ↦ subst (λ x. x < 256 ^ w) (sym (get_or-set_other row i q v 0 (omega arith))) (before q lt)
  | inr ge ↦
      let e : i ≡ q = omega arith in
      subst (λ k. get_or (set row i v) k 0 < 256 ^ w) e (subst (λ x. x < 256 ^ w) (sym (get_or-set_same row i v 0 low)) small)
]

-- and none after the row
pub fits_all : (w n : ℕ) (row : List ℕ) → length row ≡ n → ((q : ℕ) → q < n → get_or row q 0 < 256 ^ w) → (q : ℕ) → get_or row q 0 < 256 ^ w
fits_all w n row e fits q = elim (cases_lt q n) [
  | inl lt ↦ fits q lt
  | inr ge ↦ rw (get_or_past row q 0 (omega arith)) (let h = one-le-pow w 256 (omega arith) in omega arith)
]

-- numbers of no bytes
pub no_bytes : (over : List ℕ) → flat_map (bytes_high_first 0) over ≡ []
no_bytes [] = refl
no_bytes (v ∷ over) = no_bytes over
