-- How large gains, sound and the mix can be.
use Rattle.std.proofs.Common.{ℕ, ◌+◌, ◌-◌, ◌*◌, ◌/◌, ◌≤◌, ◌^◌, ℤ, pos, ◌+ℤ◌, ◌*ℤ◌, unsigned_abs, Bool, true, false, if◌then◌else◌, List, [], ◌∷◌, All, length, sum_by, refl, sym, subst, inl, inr, arith, add-one}
use Rattle.std.proofs.lemmas.Bool.{cases_lt, le-ltb, lt-ltb}
use Rattle.std.proofs.lemmas.Int.{unsigned_abs-mul}
use Rattle.std.proofs.lemmas.List.Elements.{All-tail}
use Rattle.std.proofs.lemmas.List.Sums.{sum_by-cons}
use Rattle.std.proofs.lemmas.Nat.{mul-le}
use Rattle.dsd_bits.proofs.SumLaws.{abs_add}
use Rattle.clip_core.specs.declared.gain.Point.{Point}
use Rattle.clip_core.specs.Mixes.{total}
use Rattle.clip_core.specs.Gains.{ArePoints, AreRising, IsPoint, gain, gain_after}
use Rattle.clip_core.proofs.LineLaws.{on_line_in}
use Rattle.heard_core.specs.Sounds.{decoded}
use Rattle.heard_core.proofs.ConvLaws.{conv_bound}
use Rattle.null_core.specs.Parts.{IsPart, PartContent, added, has_place, mix_at, parts_at}

rising_tail : (p q : Point) (qs : List Point) → AreRising (p ∷ q ∷ qs) → AreRising (q ∷ qs)
rising_tail p q qs rising i a b at next = rising (i + 1) a b (rw (add-one i) at) (rw (add-one (i + 1)) next)

after_small : (p : Point) (ps : List Point) → All IsPoint (p ∷ ps) → AreRising (p ∷ ps) → (k : ℕ) → p.place ≤ k → unsigned_abs (gain_after p ps k) ≤ 2 ^ 26
after_small p [] all rising k from = (all 0 p (omega arith)).gain_fits
after_small p (q ∷ qs) all rising k from =
    let others = All-tail IsPoint p (q ∷ qs) all in
    elim (cases_lt k q.place) [
      | inl to ↦ rw (lt-ltb k q.place to) (on_line_in p q (record { first = all 0 p (omega arith); last = others 0 q (omega arith); rising = rising 0 p q refl refl }) k from to)
      | inr past ↦ rw (le-ltb k q.place past) (after_small q qs others (rising_tail p q qs rising) k past)
    ]

pub gain_small : (points : List Point) → ArePoints points → (k : ℕ) → unsigned_abs (gain points k) ≤ 2 ^ 26
gain_small [] fit k = omega arith
gain_small (p ∷ ps) fit k = elim (cases_lt k p.place) [
  | inl before ↦ rw (lt-ltb k p.place before) ((fit.each 0 p (omega arith)).gain_fits)
  | inr from ↦ rw (le-ltb k p.place from) (after_small p ps fit.each fit.rising k from)
]

sound_small : (p : PartContent) → IsPart p → (n : ℕ) → unsigned_abs (decoded p.taps p.bits n) ≤ 2 ^ 28
sound_small p fits n = omega (arith, conv_bound p.taps p.bits (n + length p.taps / 2), fits.taps_fit.small_sum)

-- what a part adds at a place
small_for : (b : Bool) (x y : ℤ) → unsigned_abs x ≤ 2 ^ 26 → unsigned_abs y ≤ 2 ^ 28 → unsigned_abs (if b then x *ℤ y else pos 0) ≤ (if b then 1 else 0) * 2 ^ 54
small_for true x y first second = rw (unsigned_abs-mul x y) (omega (arith, mul-le (unsigned_abs x) (unsigned_abs y) (2 ^ 26) (2 ^ 28) first second))
small_for false x y first second = omega arith

added_small : (p : PartContent) → IsPart p → (m : ℕ) → unsigned_abs (added m p) ≤ (if has_place m p then 1 else 0) * 2 ^ 54
added_small p fits m = small_for (has_place m p) (gain p.points (m - p.at)) (decoded p.taps p.bits (p.start + (m - p.at))) (gain_small p.points fits.points_fit (m - p.at)) (sound_small p fits (p.start + (m - p.at)))

-- the mix of some parts
pub mix_small : (parts : List PartContent) → All IsPart parts → (m : ℕ) → unsigned_abs (mix_at parts m) ≤ parts_at m parts * 2 ^ 54
mix_small [] fit m = omega arith
mix_small (p ∷ ps) fit m =
    let both : unsigned_abs (added m p +ℤ mix_at ps m) ≤ ((if has_place m p then 1 else 0) + parts_at m ps) * 2 ^ 54 =
    omega (arith, abs_add (added m p) (mix_at ps m), added_small p (fit 0 p (omega arith)) m, mix_small ps (All-tail IsPart p ps fit) m) in
    subst (λ n. unsigned_abs (mix_at (p ∷ ps) m) ≤ n * 2 ^ 54) (sym (sum_by-cons (λ q. if has_place m q then 1 else 0) p ps)) both

-- a sum of taps is at most that of their absolute values
pub total_small : (taps : List ℤ) → unsigned_abs (total taps) ≤ sum_by unsigned_abs taps
total_small [] = omega arith
total_small (x ∷ xs) = omega (arith, total_small xs, abs_add x (total xs), sum_by-cons unsigned_abs x xs)
