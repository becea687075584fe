use Rattle.std.proofs.Common.{◌≡◌, ℕ, ◌+◌, ◌*◌, ◌/◌, ◌%◌, ◌<◌, ◌∙◌, List, [], ◌∷◌, get_or, length, refl, arith, rules}
use Rattle.cert_core.specs.Text.{entry_start}
use Rattle.cert_core.proofs.numbers.start_numbers.Goals as goal

six : (bs : List ℕ) → length bs ≡ 6 → bs ≡ get_or bs 0 0 ∷ get_or bs 1 0 ∷ get_or bs 2 0 ∷ get_or bs 3 0 ∷ get_or bs 4 0 ∷ get_or bs 5 0 ∷ []
six [] n = absurd (omega (arith, n))
six (a ∷ []) n = absurd (omega (arith, n))
six (a ∷ b ∷ []) n = absurd (omega (arith, n))
six (a ∷ b ∷ c ∷ []) n = absurd (omega (arith, n))
six (a ∷ b ∷ c ∷ d ∷ []) n = absurd (omega (arith, n))
six (a ∷ b ∷ c ∷ d ∷ e ∷ []) n = absurd (omega (arith, n))
six (a ∷ b ∷ c ∷ d ∷ e ∷ f ∷ []) n = refl
six (a ∷ b ∷ c ∷ d ∷ e ∷ f ∷ g ∷ bs) n = absurd (omega (arith, n))

-- two bytes of a number
pair : (a b n : ℕ) → a < 256 → b < 256 → n ≡ a * 256 + b → (a ≡ n / 256 % 256) × (b ≡ n % 256)
pair a b n ha hb is = (omega (arith, ha, hb, is), omega (arith, ha, hb, is))

starts : (bytes : List ℕ) (cue channel levels : ℕ) → length bytes ≡ 6 → ((i : ℕ) → get_or bytes i 0 < 256) → cue ≡ get_or bytes 0 0 * 256 + get_or bytes 1 0 → channel ≡ get_or bytes 2 0 * 256 + get_or bytes 3 0 → levels ≡ get_or bytes 4 0 * 256 + get_or bytes 5 0
    → bytes ≡ entry_start cue channel levels
starts bytes cue channel levels n small ea eb ec =
    let a = pair _ _ cue (small 0) (small 1) ea in
    let b = pair _ _ channel (small 2) (small 3) eb in
    let c = pair _ _ levels (small 4) (small 5) ec in
    six bytes n ∙ (λ i. a.0 i ∷ a.1 i ∷ b.0 i ∷ b.1 i ∷ c.0 i ∷ c.1 i ∷ [])

pub returns : goal.returns
returns c = starts c.args.bytes _ _ _ (search rules) (λ i. search rules) c.from_be_bytes.ensures c.from_be_bytes-2.ensures c.from_be_bytes-3.ensures
