-- Rows that are doubled, by chunks.
use Rattle.std.proofs.Common.{[], ◌∷◌, ◌≡◌, ◌++◌, ℕ, ◌+◌, ◌*◌, ◌/◌, ◌<◌, ◌≤◌, List, Bool, length, take, drop, get_or, set, refl, ap, sym, subst, ◌∙◌, arith, zero, suc, cond, false, ◌%◌, ◌^◌, w64, Fits}
use Rattle.std.specs.Int.{bit_at}
use Rattle.std.specs.Simd.{first_chunks}
use Rattle.std.specs.Simd.Lanes.{Each1, Each2, pick_l, mask_l, put_chunk}
use Rattle.std.proofs.lemmas.List.{take-take, drop-take, drop-drop, length-set}
use Rattle.std.proofs.lemmas.Simd.{Each1-chunk, length-put_chunk}
use Rattle.cost_core.specs.Rows.{sums, twice}
use Rattle.cost_core.proofs.Chunks.{at_chunk, each_chunk, chunk-zip2, row_more, choices_more}
use Rattle.cost_core.proofs.Lanes.{sums_fit}

-- `interleave` of eight lanes with themselves
pub woven_prefix : (xs : List ℕ) → length xs ≡ 8 → pick_l 0 (xs ++ xs) (0 ∷ 8 ∷ 1 ∷ 9 ∷ 2 ∷ 10 ∷ 3 ∷ 11 ∷ []) ≡ twice (take 4 xs)
woven_prefix (a ∷ b ∷ c ∷ d ∷ e ∷ f ∷ g ∷ h ∷ []) l = refl
woven_prefix _ l = absurd (omega arith)

pub woven_back : (xs : List ℕ) → length xs ≡ 8 → pick_l 0 (xs ++ xs) (4 ∷ 12 ∷ 5 ∷ 13 ∷ 6 ∷ 14 ∷ 7 ∷ 15 ∷ []) ≡ twice (drop 4 xs)
woven_back (a ∷ b ∷ c ∷ d ∷ e ∷ f ∷ g ∷ h ∷ []) l = refl
woven_back _ l = absurd (omega arith)

pub length-twice : (xs : List ℕ) → length (twice xs) ≡ 2 * length xs
length-twice [] = refl
length-twice (x ∷ xs) = omega (arith, length-twice xs)

pub at_twice : (xs : List ℕ) (q : ℕ) → get_or (twice xs) q 0 ≡ get_or xs (q / 2) 0
at_twice [] q = refl
at_twice (x ∷ xs) zero = refl
at_twice (x ∷ xs) (suc zero) = refl
at_twice (x ∷ xs) (suc (suc q)) = let e : suc (suc q) / 2 ≡ suc (q / 2) = omega arith in at_twice xs q ∙ ap (λ k. get_or (x ∷ xs) k 0) (sym e)

pub Each1-twice : (P : ℕ → Type 0) (xs : List ℕ) → Each1 P xs → Each1 P (twice xs)
Each1-twice P [] e = tt
Each1-twice P (x ∷ xs) e = (e.0, (e.0, Each1-twice P xs e.1))

drop-twice : (n : ℕ) (xs : List ℕ) → drop (2 * n) (twice xs) ≡ twice (drop n xs)
drop-twice zero xs = refl
drop-twice (suc n) [] = let e : 2 * suc n ≡ suc (suc (2 * n)) = omega arith in ap (λ m. drop m (twice [])) e
drop-twice (suc n) (x ∷ xs) = let e : 2 * suc n ≡ suc (suc (2 * n)) = omega arith in ap (λ m. drop m (twice (x ∷ xs))) e ∙ drop-twice n xs

take-twice : (n : ℕ) (xs : List ℕ) → take (2 * n) (twice xs) ≡ twice (take n xs)
take-twice zero xs = refl
take-twice (suc n) [] = let e : 2 * suc n ≡ suc (suc (2 * n)) = omega arith in ap (λ m. take m (twice [])) e
take-twice (suc n) (x ∷ xs) = let e : 2 * suc n ≡ suc (suc (2 * n)) = omega arith in ap (λ m. take m (twice (x ∷ xs))) e ∙ ap (λ l. x ∷ x ∷ l) (take-twice n xs)

pub prefix_is : (xs : List ℕ) (i : ℕ) → twice (take 4 (take 8 (drop (8 * i) xs))) ≡ take 8 (drop (8 * (2 * i)) (twice xs))
prefix_is xs i =
    let e : 2 * (8 * i) ≡ 8 * (2 * i) = omega arith in
    ap twice (take-take 4 8 (drop (8 * i) xs) (omega arith)) ∙ sym (take-twice 4 (drop (8 * i) xs)) ∙ ap (take 8) (sym (drop-twice (8 * i) xs)) ∙ ap (λ m. take 8 (drop m (twice xs))) e

pub back_is : (xs : List ℕ) (i : ℕ) → twice (drop 4 (take 8 (drop (8 * i) xs))) ≡ take 8 (drop (8 * (2 * i + 1)) (twice xs))
back_is xs i =
    let e : 2 * (8 * i + 4) ≡ 8 * (2 * i + 1) = omega arith in
    ap twice (drop-take 4 4 (drop (8 * i) xs) ∙ ap (take 4) (drop-drop 4 (8 * i) xs)) ∙ sym (take-twice 4 (drop (8 * i + 4) xs)) ∙ ap (take 8) (sym (drop-twice (8 * i + 4) xs)) ∙ ap (λ m. take 8 (drop m (twice xs))) e

Each1-drop : (P : ℕ → Type 0) (n : ℕ) (xs : List ℕ) → Each1 P xs → Each1 P (drop n xs)
Each1-drop P zero xs e = e
Each1-drop P (suc n) [] e = tt
Each1-drop P (suc n) (x ∷ xs) e = Each1-drop P n xs e.1

-- P of each value of a part
pub each_first : (P : ℕ → Type 0) (n : ℕ) (part xs : List ℕ) → part ≡ take n xs → Each1 P xs → Each1 P part
each_first P n part xs e all = subst (Each1 P) (sym e) (Each1-chunk P 0 n xs all)

pub each_last : (P : ℕ → Type 0) (n : ℕ) (part xs : List ℕ) → part ≡ drop n xs → Each1 P xs → Each1 P part
each_last P n part xs e all = subst (Each1 P) (sym e) (Each1-drop P n xs all)

-- the doubled halves of a chunk
module _ (ws : List (List ℕ)) (xs ys : List ℕ) (i : ℕ) (e : ws ≡ first_chunks 8 (length xs / 8) xs) (l : i < length xs / 8) where
  pub prefix_of : ys ≡ twice (take 4 (get_or ws i [])) → ys ≡ take 8 (drop (8 * (2 * i)) (twice xs))
  prefix_of is = is ∙ ap (λ w. twice (take 4 w)) (at_chunk ws xs i e l) ∙ prefix_is xs i

  pub back_of : ys ≡ twice (drop 4 (get_or ws i [])) → ys ≡ take 8 (drop (8 * (2 * i + 1)) (twice xs))
  back_of is = is ∙ ap (λ w. twice (drop 4 w)) (at_chunk ws xs i e l) ∙ back_is xs i

-- eight sums, of eight values of a doubled row and the steps beside them
module _ (ws : List (List ℕ)) (xs steps ys : List ℕ) (j : ℕ) (e : ws ≡ first_chunks 8 (length steps / 8) steps) (l : j < length steps / 8) (is : ys ≡ take 8 (drop (8 * j) (twice xs))) where
  pub eight_sums : sums ys (get_or ws j []) ≡ take 8 (drop (8 * j) (sums (twice xs) steps))
  eight_sums = (λ z. sums (is z) (at_chunk ws steps j e l z)) ∙ chunk-zip2 (λ x y. x + y) (8 * j) 8 (twice xs) steps

  pub eight_fit : Each1 (λ x. x ≤ 2 ^ 63) xs → Each1 (λ x. x < 2 ^ 63) steps → Each2 (λ a b. Fits w64 (a + b)) ys (get_or ws j [])
  eight_fit small small_steps =
      sums_fit ys (get_or ws j []) (subst (Each1 (λ x. x ≤ 2 ^ 63)) (sym is) (Each1-chunk (λ x. x ≤ 2 ^ 63) (8 * j) 8 (twice xs) (Each1-twice (λ x. x ≤ 2 ^ 63) xs small)))
      (each_chunk (λ x. x < 2 ^ 63) ws steps j e l small_steps)

-- two chunks of a row
pub two_rows : (row ls v w : List ℕ) (j : ℕ) → take (8 * j) row ≡ take (8 * j) ls → v ≡ take 8 (drop (8 * j) ls) → w ≡ take 8 (drop (8 * (j + 1)) ls) → 8 * (j + 2) ≤ length row → length ls ≡ length row
    → take (8 * (j + 2)) (put_chunk (8 * (j + 1)) (put_chunk (8 * j) row v) w) ≡ take (8 * (j + 2)) ls
two_rows row ls v w j before is is' room long =
    let kept = length-put_chunk (8 * j) row v in
    let n : 8 * (j + 2) ≡ 8 * (j + 1 + 1) = omega arith in
    ap (λ m. take m (put_chunk (8 * (j + 1)) (put_chunk (8 * j) row v) w)) n
    ∙ row_more (put_chunk (8 * j) row v) ls w (j + 1) (row_more row ls v j before is (omega arith) long) is' (omega arith) (omega arith)
    ∙ ap (λ m. take m ls) (sym n)

pub two_choices : (cs : List ℕ) (ss : List Bool) (j m n : ℕ) → ((k : ℕ) → k < 8 * j → bit_at (get_or cs (k / 8) 0) (k % 8) ≡ cond (get_or ss k false) 1 0)
    → m ≡ mask_l (take 8 (drop (8 * j) ss)) → n ≡ mask_l (take 8 (drop (8 * (j + 1)) ss)) → j + 1 < length cs
    → (k : ℕ) → k < 8 * (j + 2) → bit_at (get_or (set (set cs j m) (j + 1) n) (k / 8) 0) (k % 8) ≡ cond (get_or ss k false) 1 0
two_choices cs ss j m n before is is' room k lt =
    let kept = length-set cs j m in
    choices_more (set cs j m) ss (j + 1) n 8 (λ i l. choices_more cs ss j m 8 before is (omega arith) (omega arith) i (omega arith)) is' (omega arith) (omega arith) k (omega arith)
