use Rattle.std.proofs.Common.{[], ◌∷◌, ◌≡◌, ℕ, List, ap, ◌∙◌, sym, Bool, not, eqb, bit_and, map}
use Rattle.std.specs.Simd.Lanes.{zip2}
use Rattle.fir_core.proofs.LaneSigns.{mask_test, selected}
use Rattle.fir_core.specs.Signed.{signed, bits_of_byte}
use Rattle.fir_core.proofs.lanes.signed_taps.Goals as goal

-- the tests that the masks make
tests_of : ℕ → List Bool
tests_of b = map (λ m. not (eqb (bit_and b m) 0)) (128 ∷ 64 ∷ 32 ∷ 16 ∷ 8 ∷ 4 ∷ 2 ∷ 1 ∷ [])

tests_same : (b : ℕ) → tests_of b ≡ bits_of_byte b
unfolding tests_of
tests_same b = λ i. mask_test b 7 i ∷ mask_test b 6 i ∷ mask_test b 5 i ∷ mask_test b 4 i ∷ mask_test b 3 i ∷ mask_test b 2 i ∷ mask_test b 1 i ∷ mask_test b 0 i ∷ []

pub returns : goal.returns
unfolding tests_of
returns c =
    let b = c.args.byte in
    selected (tests_of b) c.args.taps.now (sym c.told-taps) c.requires ∙ ap (λ ts. zip2 signed ts c.args.taps.now) (tests_same b)
