-- What a list has after its part from place a on, k long, was written over.
use Rattle.std.proofs.Common.{◌≡◌, ℕ, ◌+◌, ◌-◌, ◌<◌, ◌≤◌, ◌++◌, ℤ, List, length, take, drop, get_or, sym, ◌∙◌, ap, arith}
use Rattle.std.proofs.lemmas.List.{get_or-take, get_or-drop, length-append, length-drop, length-take-le}
use Rattle.std.proofs.lemmas.List.Edits.{get_or-between}
use Rattle.std.proofs.lemmas.Slice.{take-put_mid_below, between-put_mid, drop-put_mid}
use Rattle.std.proofs.Math.Nat.{le_refl}
use borrow.Rule.Slice.PartMut.{put_mid}

module _ (a k : ℕ) (xs ys : List ℤ) (inside : a ≤ length xs) (long : length ys ≡ k) (d : ℤ) where
  pub mid_before : (i : ℕ) → i < a → get_or (put_mid a k xs ys) i d ≡ get_or xs i d
  mid_before i below = sym (get_or-take a (put_mid a k xs ys) i d below) ∙ ap (λ zs. get_or zs i d) (take-put_mid_below a k xs ys a (le_refl a) inside) ∙ get_or-take a xs i d below

  pub mid_within : (j : ℕ) → j < k → get_or (put_mid a k xs ys) (a + j) d ≡ get_or ys j d
  mid_within j below = sym (get_or-between (put_mid a k xs ys) a (a + k) j d (omega (arith, below))) ∙ ap (λ zs. get_or zs j d) (between-put_mid a k xs ys (a + k) inside (omega (arith, long)))

  pub mid_after : (j : ℕ) → get_or (put_mid a k xs ys) (a + k + j) d ≡ get_or xs (a + k + j) d
  mid_after j = sym (get_or-drop (a + k) (put_mid a k xs ys) j d) ∙ ap (λ zs. get_or zs j d) (drop-put_mid a k xs ys (a + k) (le_refl (a + k)) inside long) ∙ get_or-drop (a + k) xs j d

pub length_mid : (a k : ℕ) (xs ys : List ℤ) → a + k ≤ length xs → length ys ≡ k → length (put_mid a k xs ys) ≡ length xs
length_mid a k xs ys inside long =
    let front : length (take a xs) ≡ a = length-take-le a xs (omega (arith, inside)) in
    let back : length (drop k (drop a xs)) ≡ length xs - a - k = length-drop k (drop a xs) ∙ ap (λ n. n - k) (length-drop a xs) in
    length-append (take a xs) (ys ++ drop k (drop a xs)) ∙ (omega (arith, front, back, long, inside, length-append ys (drop k (drop a xs))))
