-- Lemmas about reversed bytes.
use Rattle.std.proofs.Common.{◌≡◌, ℕ, ◌-◌, sym, ap, ◌∙◌, subst, arith}
use Rattle.std.proofs.lemmas.Nat.Bits.{bit_at-lt}
use Rattle.std.specs.Int.{bit_at}
use Rattle.dsd_bits.specs.Reversing.{IsReversed, reversed}
use Rattle.dsd_bits.proofs.RoundTrip.{digit}

pub is_reversed : (b new : ℕ) → new ≡ reversed b → IsReversed b new
is_reversed b new e = subst (IsReversed b) (sym e) (record {
  at = λ i h.
      let back : i ≡ 7 - (7 - i) = omega arith in
      ap (bit_at (reversed b)) back ∙ digit (bit_at b) (bit_at-lt b) (7 - i) (omega arith);
})
