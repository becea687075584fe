-- How much a line rises or falls.
use Rattle.std.proofs.Common.{◌≡◌, ℕ, zero, suc, ◌-◌, ◌*◌, ◌/◌, ◌<◌, ◌≤◌, ◌^◌, ℤ, pos, negsuc, ◌+ℤ◌, ◌-ℤ◌, ◌*ℤ◌, neg_ℤ, unsigned_abs, true, eqb, refl, sym, ap, ◌∙◌, arith, mul-le-mul_left, FitsSigned, to_z, of_z, w32, w64}
use Rattle.std.proofs.lemmas.Bool.{eqb-true}
use Rattle.std.proofs.lemmas.Int.{ints, unsigned_abs-mul, fits_signed_from_abs, to_z-of_z}
use Rattle.std.proofs.lemmas.Nat.{div_below, mul-le}
use Rattle.std.proofs.Math.Nat.{div-le_of_le-mul, zero-div}
use Rattle.std.specs.Int.{int_div_euclid}
use Rattle.clip_core.specs.declared.gain.Point.{Point}
use Rattle.clip_core.specs.Gains.{IsLine, on_line}

-- a fall that is rounded down is no more than the whole fall
fallen : (fall run most : ℕ) → 0 < run → fall ≤ most * run → (d : ℕ) × (int_div_euclid (neg_ℤ (pos fall)) (pos run) ≡ neg_ℤ (pos d)) × (d ≤ most)
fallen zero run most some less = (0, ap pos (zero-div run), omega arith)
fallen (suc fall) run most some less = (suc (fall / run), refl, div_below fall run most some (omega arith))

-- after some of its places, a line has risen no more than after all, and fallen no more
pub risen_in : (rise : ℤ) (places run : ℕ) → places < run → unsigned_abs (int_div_euclid (rise *ℤ pos places) (pos run)) ≤ unsigned_abs rise
risen_in (pos rise) places run inside = div-le_of_le-mul run (omega (arith, mul-le-mul_left rise inside))
risen_in (negsuc rise) places run inside =
    let fall = fallen (suc rise * places) run (suc rise) (omega arith) (omega (arith, mul-le-mul_left (suc rise) inside)) in
    rw fall.1 (omega (arith, ints, fall.2))

-- so its gains are within the limits of its ends
pub gain_in : (from to rise : ℤ) (places run most : ℕ) → rise ≡ to -ℤ from → places < run → unsigned_abs from ≤ most → unsigned_abs to ≤ most → unsigned_abs (from +ℤ int_div_euclid (rise *ℤ pos places) (pos run)) ≤ most
gain_in from to (pos rise) places run most is inside first last =
    let less : rise * places / run ≤ rise = div-le_of_le-mul run (omega (arith, mul-le-mul_left rise inside)) in
    omega (arith, ints, is, less, first, last)
gain_in from to (negsuc rise) places run most is inside first last =
    let fall = fallen (suc rise * places) run (suc rise) (omega arith) (omega (arith, mul-le-mul_left (suc rise) inside)) in
    rw fall.1 (omega (arith, ints, is, fall.2, first, last))

-- a small number is kept in 32 and in 64 bits
pub kept : (z : ℤ) → unsigned_abs z < 2 ^ 31 → to_z w32 (of_z w32 z) ≡ z
kept z h = to_z-of_z w32 z (fits_signed_from_abs w32 z h)

pub kept_wide : (z : ℤ) → unsigned_abs z < 2 ^ 63 → to_z w64 (of_z w64 z) ≡ z
kept_wide z h = to_z-of_z w64 z (fits_signed_from_abs w64 z h)

-- 64 bits suffice for the rise
module _ (rise r : ℤ) (places run : ℕ) (small : unsigned_abs rise ≤ 2 ^ 27) (inside : places < run) (short : run ≤ 2 ^ 36) (is : r ≡ to_z w32 (of_z w32 rise)) where
  factors : to_z w64 (of_z w64 r) *ℤ to_z w64 places ≡ rise *ℤ pos places
  factors =
      let e : to_z w64 (of_z w64 r) ≡ rise = ap (λ z. to_z w64 (of_z w64 z)) (is ∙ kept rise (omega arith)) ∙ kept_wide rise (omega arith) in
      let before : to_z w64 places ≡ pos places = omega (arith, ints) in
      λ j. e j *ℤ before j

  product_in : unsigned_abs (rise *ℤ pos places) < 2 ^ 63
  product_in = let most = mul-le (unsigned_abs rise) places (2 ^ 27) (2 ^ 36 - 1) small (omega arith) in rw (unsigned_abs-mul rise (pos places)) (omega (arith, most))

  pub product_fits : FitsSigned w64 (to_z w64 (of_z w64 r) *ℤ to_z w64 places)
  product_fits = rw factors (fits_signed_from_abs w64 (rise *ℤ pos places) product_in)

  pub rise_kept : int_div_euclid (to_z w64 (of_z w64 (to_z w64 (of_z w64 r) *ℤ to_z w64 places))) (to_z w64 run) ≡ int_div_euclid (rise *ℤ pos places) (pos run)
  rise_kept =
      let all : to_z w64 run ≡ pos run = omega (arith, ints) in
      rw (factors, all, kept_wide (rise *ℤ pos places) product_in) refl

-- a level line has one gain
pub level_gain : (from to : ℕ) (z : ℤ) (k : ℕ) → on_line (record { place = from; gain = z }) (record { place = to; gain = z }) k ≡ z
level_gain from to z k =
    let level : z -ℤ z ≡ pos 0 = omega (arith, ints) in
    let none : 0 * (k - from) ≡ 0 = omega arith in
    rw (level, none, zero-div (to - from)) (omega (arith, ints))

-- 32 bits suffice for how much a line rises
module _ (p q : Point) (fine : IsLine p q) where
  whole_rise : to_z w32 (of_z w32 q.gain) -ℤ to_z w32 (of_z w32 p.gain) ≡ q.gain -ℤ p.gain
  whole_rise =
      let last : to_z w32 (of_z w32 q.gain) ≡ q.gain = kept q.gain (omega (arith, fine.last.gain_fits)) in
      let first : to_z w32 (of_z w32 p.gain) ≡ p.gain = kept p.gain (omega (arith, fine.first.gain_fits)) in
      λ j. last j -ℤ first j

  rise_in : unsigned_abs (q.gain -ℤ p.gain) ≤ 2 ^ 27
  rise_in = omega (arith, ints, fine.first.gain_fits, fine.last.gain_fits)

  rise_back : to_z w32 (of_z w32 (to_z w32 (of_z w32 q.gain) -ℤ to_z w32 (of_z w32 p.gain))) ≡ q.gain -ℤ p.gain
  rise_back = ap (λ z. to_z w32 (of_z w32 z)) whole_rise ∙ kept (q.gain -ℤ p.gain) (omega (arith, rise_in))

  pub rise_fits : FitsSigned w32 (to_z w32 (of_z w32 q.gain) -ℤ to_z w32 (of_z w32 p.gain))
  rise_fits = rw whole_rise (fits_signed_from_abs w32 (q.gain -ℤ p.gain) (omega (arith, rise_in)))

  pub rise_small : unsigned_abs (to_z w32 (of_z w32 (to_z w32 (of_z w32 q.gain) -ℤ to_z w32 (of_z w32 p.gain)))) ≤ 2 ^ 27
  rise_small = rw rise_back rise_in

-- the gain on a line is within its ends' limits
pub on_line_in : (p q : Point) → IsLine p q → (k : ℕ) → p.place ≤ k → k < q.place → unsigned_abs (on_line p q k) ≤ 2 ^ 26
on_line_in p q fine k from to = gain_in p.gain q.gain (q.gain -ℤ p.gain) (k - p.place) (q.place - p.place) (2 ^ 26) refl (omega (arith, from, to)) fine.first.gain_fits fine.last.gain_fits

-- 32 bits suffice for the gain
pub gain_is : (p q : Point) → IsLine p q → (k : ℕ) → p.place ≤ k → k < q.place → (risen : ℤ) → risen ≡ int_div_euclid (to_z w32 (of_z w32 (to_z w32 (of_z w32 q.gain) -ℤ to_z w32 (of_z w32 p.gain))) *ℤ pos (k - p.place)) (pos (q.place - p.place)) → to_z w32 (of_z w32 p.gain) +ℤ to_z w32 (of_z w32 risen) ≡ on_line p q k
gain_is p q fine k from to risen is =
    let rise = q.gain -ℤ p.gain in
    let value : risen ≡ int_div_euclid (rise *ℤ pos (k - p.place)) (pos (q.place - p.place)) = is ∙ ap (λ z. int_div_euclid (z *ℤ pos (k - p.place)) (pos (q.place - p.place))) (rise_back p q fine) in
    let small : unsigned_abs risen ≤ 2 ^ 27 = rw value (omega (arith, risen_in rise (k - p.place) (q.place - p.place) (omega (arith, from, to)), rise_in p q fine)) in
    rw (kept p.gain (omega (arith, fine.first.gain_fits)), kept risen (omega (arith, small)), value) refl

-- a line with the same gain at both ends has it at all places
pub level_line : (p q : Point) → IsLine p q → eqb (of_z w32 p.gain) (of_z w32 q.gain) ≡ true → (k : ℕ) → on_line p q k ≡ p.gain
level_line p q fine same k =
    let last = kept q.gain (omega (arith, fine.last.gain_fits)) in
    let first = kept p.gain (omega (arith, fine.first.gain_fits)) in
    let is : p.gain ≡ q.gain = sym first ∙ ap (λ n. to_z w32 n) (eqb-true (of_z w32 p.gain) (of_z w32 q.gain) same) ∙ last in
    ap (λ z. on_line p (record { place = q.place; gain = z }) k) (sym is) ∙ level_gain p.place q.place p.gain k

-- the same where the gain at one end is compared in 32 bits
pub level_kept : (p q : Point) → IsLine p q → (gain : ℤ) → gain ≡ p.gain → (to_z w32 (of_z w32 p.gain) ≡ gain) × (unsigned_abs (to_z w32 (of_z w32 p.gain)) ≤ 2 ^ 26)
level_kept p q fine gain is = let first = kept p.gain (omega (arith, fine.first.gain_fits)) in (first ∙ sym is, rw first fine.first.gain_fits)
