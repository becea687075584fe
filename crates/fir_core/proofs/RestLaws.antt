-- Samples of the rest of a channel's bits are samples of the whole.
use Rattle.std.proofs.Common.{◌≡◌, ℕ, ◌+◌, ◌-◌, ◌*◌, ◌<◌, ◌≤◌, ℤ, pos, ◌-ℤ◌, ◌*ℤ◌, Bool, false, inl, inr, List, length, drop, get_or, sym, ap, ◌∙◌, arith, length-drop, zero-mul}
use Rattle.std.proofs.lemmas.Bool.{cases_lt}
use Rattle.std.proofs.lemmas.List.{get_or-drop}
use Rattle.dsd_bits.specs.Sums.{sign}
use Rattle.fir_core.specs.Convolution.{conv, signal}
use Rattle.fir_core.specs.Decimator.{sample_at}
use Rattle.fir_core.specs.Rests.{RestIsPlayed}
use Rattle.fir_core.specs.Rounding.{round_clip}
use Rattle.fir_core.proofs.SumOrder.{sum_below_same}
use Rattle.fir_core.proofs.Sums.{signal_after, signal_inside, term}

-- the convolution at a place whose taps read nothing before the rest
module _ (h : List ℤ) (bits : List Bool) (p n : ℕ) (reaches : length h ≤ n + 1) where
  rest_signal : (k : ℕ) → k < length h → signal (drop p bits) (pos n -ℤ pos k) ≡ signal bits (pos (p + n) -ℤ pos k)
  rest_signal k l =
      let place : (p + n) - k ≡ p + (n - k) = omega arith in
      elim (cases_lt (n - k) (length (drop p bits))) [
        | inl within ↦
            signal_inside (drop p bits) n k (omega arith) within
            ∙ ap sign (get_or-drop p bits (n - k) false ∙ ap (λ i. get_or bits i false) (sym place))
            ∙ sym (signal_inside bits (p + n) k (omega arith) (omega (arith, within, length-drop p bits)))
        | inr past ↦
            signal_after (drop p bits) n k (omega arith) past
            ∙ sym (signal_after bits (p + n) k (omega arith) (omega (arith, past, length-drop p bits)))
      ]

  pub conv_of_drop : conv h (drop p bits) n ≡ conv h bits (p + n)
  conv_of_drop = sum_below_same (length h) (term h (drop p bits) n) (term h bits (p + n)) (λ k l. ap (λ z. get_or h k (pos 0) *ℤ z) (rest_signal k l))

pub rest_is_played : RestIsPlayed
rest_is_played d bits m j (inl none) =
    let front : m * d.factor ≡ 0 = ap (λ x. x * d.factor) none ∙ zero-mul d.factor in
    let place : j ≡ m + j = omega arith in
    ap (λ x. sample_at d (drop x bits) j) front ∙ ap (sample_at d bits) place
rest_is_played d bits m j (inr reaches) =
    let place : m * d.factor + (j * d.factor + d.delay) ≡ (m + j) * d.factor + d.delay = grind arith in
    ap (λ z. round_clip z d.shift d.width) (conv_of_drop d.taps bits (m * d.factor) (j * d.factor + d.delay) reaches ∙ ap (conv d.taps bits) place)
