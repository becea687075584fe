-- Four products in lanes of 64 bits, and what parts of a sum add up to.
use Rattle.std.proofs.Common.{[], ◌∷◌, ◌≡◌, subst, ◌+◌, ◌*◌, ◌%◌, ◌<◌, ◌≤◌, ◌^◌, ℕ, List, ℤ, pos, negsuc, ◌+ℤ◌, ◌*ℤ◌, length, take, drop, map, ◌-◌, replicate, sum_by, unsigned_abs, refl, ap, sym, ◌∙◌, arith, get_or, get_or-set_same, to_z, of_z, w32, w64, FitsSigned}
use Rattle.std.specs.Int.{int_wrap}
use Rattle.std.proofs.Math.ListN.{set}
use Rattle.std.specs.Simd.Lanes.{Each1, fold_l, zip2}
use Rattle.std.proofs.Math.Facts.{sfits_to_z}
use Rattle.std.proofs.lemmas.Int.{ints, to_z-of_z, fits_signed_from_abs, wrapping_add-bits, wrapping_add_onto, wrapping_mul-bits, int_wrap-add_left, int_wrap-add_right, int_wrap-add_same, int_wrap_fits, SFits-int_wrap}
use Rattle.std.specs.List.{All}
use Rattle.std.proofs.lemmas.List.{length-take-le}
use Rattle.std.proofs.lemmas.List.Elements.{All-drop, All-get_or, All-take}
use Rattle.std.proofs.lemmas.Simd.{Each1-from_get_or, Each1-replicate, get_or-replicate, length-replicate}
use Rattle.clip_core.specs.Mixes.{total}
use Rattle.heard_core.specs.Products.{AreAdded, AreParts, AreSums, IsAdded, IsSmall, IsSumOf, dot}
use Rattle.heard_core.proofs.DotLaws.{dot_prefix, dot_small, fits_wide, window_group, window_parts}

abbrev pub wrap_add : ℕ → ℕ → ℕ
wrap_add a b = (a + b) % 2 ^ 64

abbrev pub wrap_mul : ℕ → ℕ → ℕ
wrap_mul a b = (a * b) % 2 ^ 64

-- a lane of 64 bits in 32
abbrev pub narrow : ℕ → ℕ
narrow a = of_z w32 (to_z w64 a)

-- a lane of 32 bits in 64
abbrev pub wide : ℕ → ℕ
wide a = of_z w64 (to_z w32 a)

-- a small number is the same after both
narrowed : (z : ℤ) → IsSmall z → to_z w64 (of_z w64 z) ≡ z
narrowed z small = to_z-of_z w64 z (fits_signed_from_abs w64 z (omega arith))

wide_is : (z : ℤ) → IsSmall z → wide (narrow (of_z w64 z)) ≡ of_z w64 z
wide_is z small = ap (λ x. wide (of_z w32 x)) (narrowed z small) ∙ ap (of_z w64) (to_z-of_z w32 z (fits_signed_from_abs w32 z small))

of_z_below : (z : ℤ) → FitsSigned w64 z → of_z w64 z < 2 ^ 64
of_z_below (pos n) f = let g = f.sfits in omega (arith, g)
of_z_below (negsuc n) f = omega arith

-- one lane
module _ (s t e : ℤ) (fits : FitsSigned w64 s) (small_t : IsSmall t) (small_e : IsSmall e) where
  abbrev lane : ℕ
  lane = wrap_add (of_z w64 s) (wrap_mul (wide (narrow (of_z w64 t))) (wide (narrow (of_z w64 e))))

  fits_small : (z : ℤ) → IsSmall z → FitsSigned w64 z
  fits_small z small = fits_signed_from_abs w64 z (omega arith)

  product : to_z w64 (wrap_mul (wide (narrow (of_z w64 t))) (wide (narrow (of_z w64 e)))) ≡ int_wrap w64 (t *ℤ e)
  product =
      (λ i. to_z w64 (wrap_mul (wide_is t small_t i) (wide_is e small_e i)))
      ∙ wrapping_mul-bits w64 (of_z w64 t) (of_z w64 e) (of_z_below t (fits_small t small_t)) (of_z_below e (fits_small e small_e))
      ∙ (λ i. int_wrap w64 (narrowed t small_t i *ℤ narrowed e small_e i))

  pub lane_is : to_z w64 lane ≡ int_wrap w64 (s +ℤ t *ℤ e)
  lane_is =
      wrapping_add-bits w64 (of_z w64 s) (wrap_mul (wide (narrow (of_z w64 t))) (wide (narrow (of_z w64 e)))) (of_z_below s fits) (omega arith)
      ∙ (λ i. int_wrap w64 (to_z-of_z w64 s fits i +ℤ product i))
      ∙ int_wrap-add_right w64 s (t *ℤ e)

-- all lanes
abbrev pub lanes : List ℤ → List ℤ → List ℤ → List ℤ
lanes ss ts es = map (to_z w64) (zip2 wrap_add (map (of_z w64) ss) (zip2 wrap_mul (map wide (map narrow (map (of_z w64) ts))) (map wide (map narrow (map (of_z w64) es)))))

lanes_are : (ss ts es : List ℤ) → length ss ≡ length ts → length es ≡ length ts → Each1 (FitsSigned w64) ss → Each1 IsSmall ts → Each1 IsSmall es
    → (length (lanes ss ts es) ≡ length ss) × Each1 (FitsSigned w64) (lanes ss ts es) × (int_wrap w64 (total (lanes ss ts es)) ≡ int_wrap w64 (total ss +ℤ dot ts es))
lanes_are [] [] [] l m fs ft fe = (refl, tt, refl)
lanes_are [] [] (e ∷ es) l m fs ft fe = absurd (omega arith)
lanes_are [] (t ∷ ts) es l m fs ft fe = absurd (omega arith)
lanes_are (s ∷ ss) [] es l m fs ft fe = absurd (omega arith)
lanes_are (s ∷ ss) (t ∷ ts) [] l m fs ft fe = absurd (omega arith)
lanes_are (s ∷ ss) (t ∷ ts) (e ∷ es) l m fs ft fe =
    let r = lanes_are ss ts es (omega arith) (omega arith) fs.1 ft.1 fe.1 in
    let one = lane_is s t e fs.0 ft.0 fe.0 in
    let rest : ℤ = total (lanes ss ts es) in
    let swap : (s +ℤ t *ℤ e) +ℤ rest ≡ rest +ℤ (s +ℤ t *ℤ e) = omega (arith, ints) in
    let join : (total ss +ℤ dot ts es) +ℤ (s +ℤ t *ℤ e) ≡ (s +ℤ total ss) +ℤ (t *ℤ e +ℤ dot ts es) = omega (arith, ints) in (
      omega (arith, r.0),
      (subst (FitsSigned w64) (sym one) (SFits-int_wrap w64 (s +ℤ t *ℤ e)), r.1),
      ap (λ z. int_wrap w64 (z +ℤ rest)) one
          ∙ int_wrap-add_left w64 (s +ℤ t *ℤ e) rest
          ∙ ap (int_wrap w64) swap
          ∙ int_wrap-add_same w64 rest (total ss +ℤ dot ts es) (s +ℤ t *ℤ e) r.2
          ∙ ap (int_wrap w64) join,
    )

-- the first four of them
first_small : (xs : List ℤ) → All IsSmall xs → Each1 IsSmall (take 4 xs)
first_small xs small = Each1-from_get_or IsSmall (take 4 xs) (pos 0) (λ i l. All-get_or IsSmall (take 4 xs) i (pos 0) l (All-take IsSmall 4 xs small))

pub four_added : (parts taps errors : List ℤ) → 4 ≤ length taps → 4 ≤ length errors → All IsSmall taps → All IsSmall errors → IsAdded (dot (take 4 taps) errors) parts (lanes parts (take 4 taps) (take 4 errors))
four_added parts taps errors many room small_taps small_errors = λ z before.
    let ts : List ℤ = take 4 taps in
    let es : List ℤ = take 4 errors in
    let of_taps : length ts ≡ 4 = length-take-le 4 taps many in
    let of_errors : length es ≡ 4 = length-take-le 4 errors room in
    let made = lanes_are parts ts es (omega (arith, before.four)) (omega arith) before.fit (first_small taps small_taps) (first_small errors small_errors) in
    let read : dot ts es ≡ dot ts errors = ap (λ n. dot ts (take n errors)) (sym of_taps) ∙ sym (dot_prefix ts errors) in
    record {
      four = made.0 ∙ before.four;
      fit = made.1;
      sum = made.2 ∙ ap (λ y. int_wrap w64 (total parts +ℤ y)) read ∙ int_wrap-add_same w64 (total parts) z (dot ts errors) before.sum;
    }

-- a lane of a small number has room in 32 bits
each_narrowed : (xs : List ℤ) → Each1 IsSmall xs → Each1 (λ a. FitsSigned w32 (to_z w64 a)) (map (of_z w64) xs)
each_narrowed [] small = tt
each_narrowed (x ∷ xs) small = (subst (FitsSigned w32) (sym (narrowed x small.0)) (fits_signed_from_abs w32 x small.0), each_narrowed xs small.1)

pub four_narrowed : (xs : List ℤ) → All IsSmall xs → Each1 (λ a. FitsSigned w32 (to_z w64 a)) (map (of_z w64) (take 4 xs))
four_narrowed xs small = each_narrowed (take 4 xs) (first_small xs small)

-- and then in 64
each_widened : (xs : List ℤ) → Each1 IsSmall xs → Each1 (λ a. FitsSigned w64 (to_z w32 a)) (map narrow (map (of_z w64) xs))
each_widened [] small = tt
each_widened (x ∷ xs) small =
    let back : to_z w32 (narrow (of_z w64 x)) ≡ x = ap (λ z. to_z w32 (of_z w32 z)) (narrowed x small.0) ∙ to_z-of_z w32 x (fits_signed_from_abs w32 x small.0) in
    (subst (FitsSigned w64) (sym back) (fits_signed_from_abs w64 x (omega (arith, small.0))), each_widened xs small.1)

pub four_widened : (xs : List ℤ) → All IsSmall xs → Each1 (λ a. FitsSigned w64 (to_z w32 a)) (map narrow (map (of_z w64) (take 4 xs)))
four_widened xs small = each_widened (take 4 xs) (first_small xs small)

-- the parts of one sum are replaced
pub one_added : (w : ℕ) (y y' : ℤ) (old now : List (List ℤ)) (made : List ℤ) → w < length now → y ≡ y' → get_or now w [] ≡ get_or old w [] → IsAdded y (get_or now w []) made → IsAdded y' (get_or old w []) (get_or (set now w made) w [])
one_added w y y' old now made within same kept added =
    let put : made ≡ get_or (set now w made) w [] = sym (get_or-set_same now w made [] within) in
    subst (λ (x : ℤ). IsAdded x (get_or old w []) (get_or (set now w made) w [])) same
    (subst (λ (p : List ℤ). IsAdded y p (get_or (set now w made) w [])) kept (subst (λ (p : List ℤ). IsAdded y (get_or now w []) p) put added))

-- `reduce_sum`
folded : (a : ℕ) (xs : List ℤ) → a < 2 ^ 64 → Each1 (FitsSigned w64) xs → to_z w64 (fold_l wrap_add a (map (of_z w64) xs)) ≡ int_wrap w64 (to_z w64 a +ℤ total xs)
folded a [] l f =
    let e : to_z w64 a ≡ to_z w64 a +ℤ pos 0 = omega (arith, ints) in
    sym (int_wrap_fits w64 (to_z w64 a) (sfits_to_z (record { fits = l }))) ∙ ap (int_wrap w64) e
folded a (x ∷ xs) l f =
    let b : ℕ = of_z w64 x in
    let join : (to_z w64 a +ℤ x) +ℤ total xs ≡ to_z w64 a +ℤ (x +ℤ total xs) = omega (arith, ints) in
    folded (wrap_add a b) xs (omega arith) f.1
    ∙ ap (λ z. int_wrap w64 (z +ℤ total xs)) (wrapping_add-bits w64 a b l (of_z_below x f.0) ∙ ap (λ z. int_wrap w64 (to_z w64 a +ℤ z)) (to_z-of_z w64 x f.0))
    ∙ int_wrap-add_left w64 (to_z w64 a +ℤ x) (total xs)
    ∙ ap (int_wrap w64) join

fold_below : (a : ℕ) (xs : List ℕ) → a < 2 ^ 64 → fold_l wrap_add a xs < 2 ^ 64
fold_below a [] l = l
fold_below a (x ∷ xs) l = fold_below (wrap_add a x) xs (omega arith)

pub finished : (parts : List ℤ) (last y : ℤ) → FitsSigned w64 last → last ≡ y → IsSumOf parts y (to_z w64 (wrap_add (fold_l wrap_add 0 (map (of_z w64) parts)) (of_z w64 last)))
finished parts last y fits_last is = λ z before fits.
    let lead : to_z w64 0 +ℤ total parts ≡ total parts = omega (arith, ints) in
    let whole : ℕ = fold_l wrap_add 0 (map (of_z w64) parts) in
    wrapping_add_onto w64 whole last (fold_below 0 (map (of_z w64) parts) (omega arith)) fits_last
    ∙ (λ i. int_wrap w64 ((folded 0 parts (omega arith) before.fit ∙ ap (int_wrap w64) lead) i +ℤ is i))
    ∙ int_wrap-add_left w64 (total parts) y
    ∙ int_wrap-add_same w64 (total parts) z y before.sum
    ∙ int_wrap_fits w64 (z +ℤ y) fits

-- ---- windows
module _ (number step : ℕ) (xs ys : List ℤ) where
  -- the sums of four taps more
  pub next_group : (i : ℕ) (old new : List (List ℤ)) → length new ≡ number → AreSums number (λ w. dot (take (4 * i) xs) (drop (w * step) ys)) old
      → AreAdded number (λ w. dot (take 4 (take (length xs - 4 * i) (drop (4 * i) xs))) (drop (w * step) (take (length ys - 4 * i) (drop (4 * i) ys)))) old new
      → AreSums number (λ w. dot (take (4 * (i + 1)) xs) (drop (w * step) ys)) new
  next_group i old new long before added = record {
    long = long;
    each = λ w h.
        let last : ℤ = dot (take 4 (take (length xs - 4 * i) (drop (4 * i) xs))) (drop (w * step) (take (length ys - 4 * i) (drop (4 * i) ys))) in
        subst (λ z. AreParts z (get_or new w [])) (sym (window_group xs ys i (w * step))) (added w h (dot (take (4 * i) xs) (drop (w * step) ys)) (before.each w h));
  }

  pub window_ends : (m w : ℕ) (parts : List (List ℤ)) (r : ℤ) → w < number → sum_by unsigned_abs xs < 2 ^ 31 → All IsSmall ys → AreSums number (λ v. dot (take m xs) (drop (v * step) ys)) parts
      → IsSumOf (get_or parts w []) (dot (take (length xs - m) (drop m xs)) (take (length ys - (w * step + m)) (drop (w * step + m) ys))) r → r ≡ dot xs (drop (w * step) ys)
  window_ends m w parts r h small small_ys sums is =
      let last : ℤ = dot (take (length xs - m) (drop m xs)) (take (length ys - (w * step + m)) (drop (w * step + m) ys)) in
      let whole : dot (take m xs) (drop (w * step) ys) +ℤ last ≡ dot xs (drop (w * step) ys) = sym (window_parts xs ys m (w * step)) in
      is (dot (take m xs) (drop (w * step) ys)) (sums.each w h) (subst (FitsSigned w64) (sym whole) (fits_wide _ (dot_small xs (drop (w * step) ys) small (All-drop IsSmall (w * step) ys small_ys)))) ∙ whole

pub none_summed : (number step : ℕ) (xs ys : List ℤ) → AreSums number (λ w. dot (take (4 * 0) xs) (drop (w * step) ys)) (replicate number (replicate 4 (pos 0)))
none_summed number step xs ys = record {
  long = length-replicate number (replicate 4 (pos 0));
  each = λ w h. subst (AreParts (pos 0)) (sym (get_or-replicate number w (replicate 4 (pos 0)) [] h)) (record { four = refl; fit = Each1-replicate (FitsSigned w64) 4 (pos 0) (fits_wide (pos 0) (omega arith)); sum = refl });
}
