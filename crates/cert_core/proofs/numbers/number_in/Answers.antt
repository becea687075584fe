use Rattle.std.proofs.Common.{◌≡◌, ℕ, ◌+◌, ◌*◌, ◌^◌, ◌<◌, ◌∙◌, List, [], ◌∷◌, get_or, length, sym, ap, ap₂, arith, rules}
use Rattle.std.proofs.lemmas.Nat.{be_bytes_8, from_be_bytes-to_be_bytes_4}
use Rattle.std.specs.Int.{w32, w64, to_be_bytes, from_be_bytes}
use Rattle.cert_core.proofs.numbers.number_in.Goals as goal

-- eight bytes of which each half is the bytes of a number
halves : (bytes : List ℕ) (high low : ℕ) → length bytes ≡ 8 → ((i : ℕ) → get_or bytes i 0 < 256) → high < 2 ^ 32 → low < 2 ^ 32
    → get_or bytes 0 0 ∷ get_or bytes 1 0 ∷ get_or bytes 2 0 ∷ get_or bytes 3 0 ∷ [] ≡ to_be_bytes w32 high → get_or bytes 4 0 ∷ get_or bytes 5 0 ∷ get_or bytes 6 0 ∷ get_or bytes 7 0 ∷ [] ≡ to_be_bytes w32 low
    → bytes ≡ to_be_bytes w64 (high * 4294967296 + low)
halves bytes high low n small hh hl eh el =
    let vh : from_be_bytes w32 (get_or bytes 0 0 ∷ get_or bytes 1 0 ∷ get_or bytes 2 0 ∷ get_or bytes 3 0 ∷ []) ≡ high = ap (from_be_bytes w32) eh ∙ from_be_bytes-to_be_bytes_4 high hh in
    let vl : from_be_bytes w32 (get_or bytes 4 0 ∷ get_or bytes 5 0 ∷ get_or bytes 6 0 ∷ get_or bytes 7 0 ∷ []) ≡ low = ap (from_be_bytes w32) el ∙ from_be_bytes-to_be_bytes_4 low hl in
    sym (be_bytes_8 bytes (high * 4294967296 + low) n small (omega (arith, vh, vl)))

pub returns : goal.returns
returns c =
    let bytes = c.args.bytes in
    let high = c.half_in-high.result in
    let low = c.half_in-low.result in
    let n : length bytes ≡ 8 = search rules in
    halves bytes high low n (λ i. search rules) c.half_in-high.type_inv c.half_in-low.type_inv c.half_in-high.ensures c.half_in-low.ensures ∙ sym (ap₂ (λ a b. to_be_bytes w64 (a * 4294967296 + b)) c.from.ensures c.from-2.ensures)
