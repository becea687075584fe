-- Bytes spell one number, and one row by the first version.
use Rattle.std.proofs.Common.{◌≡◌, ℕ, suc, ◌+◌, ◌*◌, ◌/◌, ◌%◌, ◌^◌, ◌<◌, List, [], ◌∷◌, ◌++◌, refl, sym, ap, ap₂, ◌∙◌, length, take, drop, get_or, set, arith}
use Rattle.std.proofs.lemmas.List.{append-nil, take_more_set}
use Rattle.std.proofs.lemmas.Grind.{flat_map-append}
use Rattle.cost_core.proofs.Chunks.{take_two}
use Rattle.std.proofs.lemmas.Nat.{from_be_bytes-to_be_bytes_8}
use Rattle.std.specs.Int.{w64, to_be_bytes, from_be_bytes}
use Rattle.cert_core.specs.Spelling.{row_text}
use Rattle.cert_core.specs.declared.version.Version.TheVariants.{One}
use Rattle.cert_core.specs.Text.{entry_start}

pub start_inj : (c k n c2 k2 n2 : ℕ) → c < 2 ^ 16 → k < 2 ^ 16 → n < 2 ^ 16 → c2 < 2 ^ 16 → k2 < 2 ^ 16 → n2 < 2 ^ 16 → (r r2 : List ℕ)
    → entry_start c k n ++ r ≡ entry_start c2 k2 n2 ++ r2 → (c ≡ c2) × (k ≡ k2) × (n ≡ n2) × (r ≡ r2)
start_inj c k n c2 k2 n2 hc hk hn hc2 hk2 hn2 r r2 e =
    let a0 : c / 256 % 256 ≡ c2 / 256 % 256 = ap (λ l. get_or l 0 0) e in
    let a1 : c % 256 ≡ c2 % 256 = ap (λ l. get_or l 1 0) e in
    let a2 : k / 256 % 256 ≡ k2 / 256 % 256 = ap (λ l. get_or l 2 0) e in
    let a3 : k % 256 ≡ k2 % 256 = ap (λ l. get_or l 3 0) e in
    let a4 : n / 256 % 256 ≡ n2 / 256 % 256 = ap (λ l. get_or l 4 0) e in
    let a5 : n % 256 ≡ n2 % 256 = ap (λ l. get_or l 5 0) e in
    let rest : r ≡ r2 = ap (drop 6) e in
    (omega (arith, a0, a1), omega (arith, a2, a3), omega (arith, a4, a5), rest)

pub number_inj : (a b : ℕ) → a < 2 ^ 64 → b < 2 ^ 64 → (r r2 : List ℕ) → to_be_bytes w64 a ++ r ≡ to_be_bytes w64 b ++ r2 → (a ≡ b) × (r ≡ r2)
number_inj a b ha hb r r2 e =
    let w : to_be_bytes w64 a ≡ to_be_bytes w64 b = ap (take 8) e in
    let rest : r ≡ r2 = ap (drop 8) e in
    (sym (from_be_bytes-to_be_bytes_8 a ha) ∙ ap (from_be_bytes w64) w ∙ from_be_bytes-to_be_bytes_8 b hb, rest)

-- by the first version bytes spell one row
pub values_inj : (row row2 : List ℕ) → length row ≡ length row2 → ((q : ℕ) → get_or row q 0 < 2 ^ 64) → ((q : ℕ) → get_or row2 q 0 < 2 ^ 64) → (r r2 : List ℕ)
    → row_text One row ++ r ≡ row_text One row2 ++ r2 → (row ≡ row2) × (r ≡ r2)
values_inj [] [] n f f2 r r2 e = (refl, e)
values_inj [] (v ∷ row2) n f f2 r r2 e = absurd (omega arith)
values_inj (v ∷ row) [] n f f2 r r2 e = absurd (omega arith)
values_inj (v ∷ row) (v2 ∷ row2) n f f2 r r2 e =
    let w = number_inj v v2 (f 0) (f2 0) (row_text One row ++ r) (row_text One row2 ++ r2) e in
    let u = values_inj row row2 (omega arith) (λ q. f (suc q)) (λ q. f2 (suc q)) r r2 w.1 in
    (ap (λ x. x ∷ row) w.0 ∙ ap (λ l. v2 ∷ l) u.0, u.1)

-- the text of a row with one more number
pub text_more : (bytes row : List ℕ) (i v : ℕ) → take (8 * i) bytes ≡ row_text One (take i row) → take 8 (drop (8 * i) bytes) ≡ to_be_bytes w64 v → i < length row
    → take (8 * (i + 1)) bytes ≡ row_text One (take (i + 1) (set row i v))
text_more bytes row i v before is low =
    let n : 8 * (i + 1) ≡ 8 * i + 8 = omega arith in
    ap (λ m. take m bytes) n ∙ take_two (8 * i) 8 bytes ∙ ap₂ (λ xs ys. xs ++ ys) before is
    ∙ sym (ap (row_text One) (take_more_set row i v low) ∙ flat_map-append (to_be_bytes w64) (take i row) (v ∷ []) ∙ ap (λ xs. row_text One (take i row) ++ xs) (append-nil (to_be_bytes w64 v)))
