-- One more state, and eight more.
use Rattle.std.proofs.Common.{[], ◌∷◌, min, ◌≡◌, ◌++◌, ℕ, ◌+◌, ◌*◌, ◌/◌, ◌<◌, ◌≤◌, ◌^◌, ◌%◌, List, Bool, true, false, ltb, cond, length, take, drop, get_or, set, refl, ap, sym, subst, ◌∙◌, arith, zero, suc, inl, inr, ◌≢◌}
use Rattle.std.specs.Int.{bit_at}
use Rattle.std.specs.Simd.{first_chunks}
use Rattle.std.specs.Simd.Lanes.{zip2, Each1, mask_l, put_chunk}
use Rattle.std.proofs.lemmas.List.{take_more, take_more_set, length-take-le, drop-drop, drop-take, take-take, take-append-drop, get_or-set_same, get_or-set_other, get_or-take, get_or-drop, length-drop}
use Rattle.std.proofs.lemmas.Simd.{get_or-zip2, length-zip2, bit_mask_l, mask_l-lt, take_more_put_chunk, Each1-chunk}
use Rattle.std.proofs.lemmas.Bool.{cases_lt, lt-ltb, le-ltb}
use Rattle.std.proofs.Math.Pow.{pow_mono}
use Rattle.std.proofs.Math.Nat.{pow-succ'}
use Rattle.cost_core.specs.Rows.{sums, seconds, least}

pub at_least : (xs ys : List ℕ) (k : ℕ) → k < length xs → k < length ys → get_or (least xs ys) k 0 ≡ min (cond (ltb (get_or ys k 0) (get_or xs k 0)) (get_or ys k 0) (get_or xs k 0)) (2 ^ 63)
at_least xs ys k l m = get_or-zip2 (λ x y. min (cond (ltb y x) y x) (2 ^ 63)) xs ys k 0 0 0 l m

pub at_seconds : (xs ys : List ℕ) (k : ℕ) → k < length xs → k < length ys → get_or (seconds xs ys) k false ≡ ltb (get_or ys k 0) (get_or xs k 0)
at_seconds xs ys k l m = get_or-zip2 (λ x y. ltb y x) xs ys k 0 0 false l m

pub at_sums : (xs ys : List ℕ) (k : ℕ) → k < length xs → k < length ys → get_or (sums xs ys) k 0 ≡ get_or xs k 0 + get_or ys k 0
at_sums xs ys k l m = get_or-zip2 (λ x y. x + y) xs ys k 0 0 0 l m

pub mask_l_push : (ms : List Bool) (b : Bool) → mask_l (ms ++ b ∷ []) ≡ mask_l ms + cond b (2 ^ length ms) 0
mask_l_push [] true = refl
mask_l_push [] false = refl
mask_l_push (m ∷ ms) true = let e = mask_l_push ms true in let p : 2 ^ suc (length ms) ≡ 2 * 2 ^ length ms = pow-succ' 2 (length ms) in omega (arith, e, p)
mask_l_push (m ∷ ms) false = let e = mask_l_push ms false in omega (arith, e)

-- a row and a mask with one more state
pub one_more : (row ls : List ℕ) (ss : List Bool) (k v choice : ℕ) (b : Bool) → k < length row → length ls ≡ length row → length ss ≡ length row
    → take k row ≡ take k ls → choice ≡ mask_l (take k ss) → v ≡ get_or ls k 0 → b ≡ get_or ss k false
    → (take (k + 1) (set row k v) ≡ take (k + 1) ls) × (choice + cond b (2 ^ k) 0 ≡ mask_l (take (k + 1) ss)) × (choice + cond b (2 ^ k) 0 < 2 ^ (k + 1))
one_more row ls ss k v choice b l m n before so_far is test =
    let next : choice + cond b (2 ^ k) 0 ≡ mask_l (take (k + 1) ss) =
    (λ i. so_far i + cond (test i) (2 ^ sym (length-take-le k ss (omega arith)) i) 0) ∙ sym (mask_l_push (take k ss) (get_or ss k false)) ∙ ap mask_l (sym (take_more ss k false (omega arith))) in (
      take_more_set row k v l ∙ (λ i. before i ++ is i ∷ []) ∙ sym (take_more ls k 0 (omega arith)),
      next,
      omega (arith, next, mask_l-lt (take (k + 1) ss), ap (λ j. 2 ^ j) (length-take-le (k + 1) ss (omega arith))),
    )

-- ---- chunks
pub nth_chunk : {X : Type 0} (n k : ℕ) (xs : List X) (i : ℕ) (d : List X) → i < k → get_or (first_chunks n k xs) i d ≡ take n (drop (n * i) xs)
nth_chunk n zero xs i d l = absurd (omega arith)
nth_chunk n (suc k) xs zero d l = let e : n * 0 ≡ 0 = omega arith in ap (λ m. take n (drop m xs)) (sym e)
nth_chunk n (suc k) xs (suc i) d l = nth_chunk n k (drop n xs) i d (omega arith) ∙ ap (take n) (drop-drop (n * i) n xs) ∙ (let e : n + n * i ≡ n * suc i = omega arith in ap (λ m. take n (drop m xs)) e)

module _ {A B C : Type 0} (f : A → B → C) where
  zip2-nil : (xs : List A) → zip2 f xs [] ≡ []
  zip2-nil [] = refl
  zip2-nil (x ∷ xs) = refl

  pub drop-zip2 : (n : ℕ) (xs : List A) (ys : List B) → drop n (zip2 f xs ys) ≡ zip2 f (drop n xs) (drop n ys)
  drop-zip2 zero xs ys = refl
  drop-zip2 (suc n) [] ys = refl
  drop-zip2 (suc n) (x ∷ xs) [] = sym (zip2-nil (drop n xs))
  drop-zip2 (suc n) (x ∷ xs) (y ∷ ys) = drop-zip2 n xs ys

  take-zip2 : (n : ℕ) (xs : List A) (ys : List B) → take n (zip2 f xs ys) ≡ zip2 f (take n xs) (take n ys)
  take-zip2 zero xs ys = refl
  take-zip2 (suc n) [] ys = refl
  take-zip2 (suc n) (x ∷ xs) [] = refl
  take-zip2 (suc n) (x ∷ xs) (y ∷ ys) = ap (λ l. f x y ∷ l) (take-zip2 n xs ys)

  pub chunk-zip2 : (i n : ℕ) (xs : List A) (ys : List B) → zip2 f (take n (drop i xs)) (take n (drop i ys)) ≡ take n (drop i (zip2 f xs ys))
  chunk-zip2 i n xs ys = sym (take-zip2 n (drop i xs) (drop i ys)) ∙ ap (take n) (sym (drop-zip2 i xs ys))

-- a chunk of both candidates
pub chunk_of_least : (i n : ℕ) (xs ys : List ℕ) → least (take n (drop i xs)) (take n (drop i ys)) ≡ take n (drop i (least xs ys))
chunk_of_least i n xs ys = chunk-zip2 (λ x y. min (cond (ltb y x) y x) (2 ^ 63)) i n xs ys

pub chunk_of_seconds : (i n : ℕ) (xs ys : List ℕ) → seconds (take n (drop i xs)) (take n (drop i ys)) ≡ take n (drop i (seconds xs ys))
chunk_of_seconds i n xs ys = chunk-zip2 (λ x y. ltb y x) i n xs ys

-- taken in two parts
pub take_two : {X : Type 0} (m n : ℕ) (xs : List X) → take (m + n) xs ≡ take m xs ++ take n (drop m xs)
take_two m n xs = sym (take-append-drop m (take (m + n) xs)) ∙ (λ i. take-take m (m + n) xs (omega arith) i ++ drop-take m n xs i)

-- the row with eight more states
pub row_more : (row ls vs : List ℕ) (i : ℕ) → take (8 * i) row ≡ take (8 * i) ls → vs ≡ take 8 (drop (8 * i) ls) → 8 * (i + 1) ≤ length row → length ls ≡ length row
    → take (8 * (i + 1)) (put_chunk (8 * i) row vs) ≡ take (8 * (i + 1)) ls
row_more row ls vs i before is l m =
    let long : length vs ≡ 8 = ap length is ∙ length-take-le 8 (drop (8 * i) ls) (omega (arith, length-drop (8 * i) ls)) in
    let n : 8 * (i + 1) ≡ 8 * i + 8 = omega arith in
    take_more_put_chunk (8 * i) row vs (8 * (i + 1)) (omega arith) l
    ∙ (λ z. before z ++ is z)
    ∙ sym (ap (λ j. take j ls) n ∙ take_two (8 * i) 8 ls)

-- the choices with n more states, of which the byte i has the bits
pub choices_more : (cs : List ℕ) (ss : List Bool) (i m n : ℕ) → ((k : ℕ) → k < 8 * i → bit_at (get_or cs (k / 8) 0) (k % 8) ≡ cond (get_or ss k false) 1 0)
    → m ≡ mask_l (take n (drop (8 * i) ss)) → i < length cs → n ≤ 8
    → (k : ℕ) → k < 8 * i + n → bit_at (get_or (set cs i m) (k / 8) 0) (k % 8) ≡ cond (get_or ss k false) 1 0
choices_more cs ss i m n before is l short k lt =
    let P : Type 0 = bit_at (get_or (set cs i m) (k / 8) 0) (k % 8) ≡ cond (get_or ss k false) 1 0 in
    elim (cases_lt k (8 * i)) [
      | inl below ↦ let ne : k / 8 ≢ i = omega arith in ap (λ c. bit_at c (k % 8)) (get_or-set_other cs i (k / 8) m 0 ne) ∙ before k below
      | inr above ↦
          let e : k / 8 ≡ i = omega arith in
          let r : 8 * i + k % 8 ≡ k = omega arith in
          ap (λ j. bit_at (get_or (set cs i m) j 0) (k % 8)) e ∙ ap (λ c. bit_at c (k % 8)) (get_or-set_same cs i m 0 l ∙ is)
          ∙ bit_mask_l (take n (drop (8 * i) ss)) (k % 8)
          ∙ ap (λ b. cond b 1 0) (get_or-take n (drop (8 * i) ss) (k % 8) false (omega arith) ∙ get_or-drop (8 * i) ss (k % 8) false ∙ ap (λ j. get_or ss j false) r)
    ]

pub rows_long : (a u b v : List ℕ) → length u ≡ length a → length b ≡ length a → length v ≡ length a → (length (least (sums a u) (sums b v)) ≡ length a) × (length (seconds (sums a u) (sums b v)) ≡ length a)
rows_long a u b v lu lb lv =
    let x = length-zip2 (λ x y. x + y) a u (omega arith) in
    let y = length-zip2 (λ x y. x + y) b v (omega arith) in
    (length-zip2 (λ x y. min (cond (ltb y x) y x) (2 ^ 63)) (sums a u) (sums b v) (omega arith) ∙ x, length-zip2 (λ x y. ltb y x) (sums a u) (sums b v) (omega arith) ∙ x)

-- ---- the two branches of the plain loop
module _ (a u b v row : List ℕ) (k choice : ℕ) (within : k < length row) (short : length row ≤ 8) (la : length a ≡ length row) (lu : length u ≡ length row) (lb : length b ≡ length row) (lv : length v ≡ length row) (before : take k row ≡ take k (least (sums a u) (sums b v))) (so_far : choice ≡ mask_l (take k (seconds (sums a u) (sums b v)))) where
  abbrev pub first : ℕ
  first = get_or a k 0 + get_or u k 0

  abbrev pub second : ℕ
  second = get_or b k 0 + get_or v k 0

  lens : (length (sums a u) ≡ length row) × (length (sums b v) ≡ length row)
  lens = (length-zip2 (λ x y. x + y) a u (omega arith) ∙ la, length-zip2 (λ x y. x + y) b v (omega arith) ∙ lb)

  more : (w : ℕ) (t : Bool) → w ≡ min (cond t second first) (2 ^ 63) → ltb second first ≡ t
      → (take (k + 1) (set row k w) ≡ take (k + 1) (least (sums a u) (sums b v))) × (choice + cond t (2 ^ k) 0 ≡ mask_l (take (k + 1) (seconds (sums a u) (sums b v)))) × (choice + cond t (2 ^ k) 0 < 2 ^ (k + 1))
  more w t is test =
      let l = lens in
      let ka : k < length (sums a u) = omega arith in
      let kb : k < length (sums b v) = omega arith in
      let fa = at_sums a u k (omega arith) (omega arith) in
      let fb = at_sums b v k (omega arith) (omega arith) in
      one_more row (least (sums a u) (sums b v)) (seconds (sums a u) (sums b v)) k w choice t within
      (length-zip2 (λ x y. min (cond (ltb y x) y x) (2 ^ 63)) (sums a u) (sums b v) (omega arith) ∙ l.0)
      (length-zip2 (λ x y. ltb y x) (sums a u) (sums b v) (omega arith) ∙ l.0)
      before so_far
      (is ∙ (λ i. min (cond (sym test i) second first) (2 ^ 63)) ∙ (λ i. min (cond (ltb (sym fb i) (sym fa i)) (sym fb i) (sym fa i)) (2 ^ 63)) ∙ sym (at_least (sums a u) (sums b v) k ka kb))
      (sym test ∙ (λ i. ltb (sym fb i) (sym fa i)) ∙ sym (at_seconds (sums a u) (sums b v) k ka kb))

  small : 1 * 2 ^ k % 256 ≡ 2 ^ k
  small = let p = pow_mono {i = k} {j = 7} (omega arith) in omega (arith, p)

  pub step_second : second < first
      → record {
        out : take (k + 1) (set row k (min second (2 ^ 63))) ≡ take (k + 1) (least (sums a u) (sums b v));
        mask : choice + 1 * 2 ^ k % 256 ≡ mask_l (take (k + 1) (seconds (sums a u) (sums b v)));
        fits : choice + 1 * 2 ^ k % 256 < 256;
      }
  step_second lt =
      let m = more (min second (2 ^ 63)) true refl (lt-ltb second first lt) in
      let p = pow_mono {i = k + 1} {j = 8} (omega arith) in
      let e : choice + 1 * 2 ^ k % 256 ≡ choice + 2 ^ k = ap (λ n. choice + n) small in
      record { out = m.0; mask = e ∙ m.1; fits = omega (arith, e, m.2, p) }

  pub step_first : first ≤ second
      → record {
        out : take (k + 1) (set row k (min first (2 ^ 63))) ≡ take (k + 1) (least (sums a u) (sums b v));
        mask : choice ≡ mask_l (take (k + 1) (seconds (sums a u) (sums b v)));
      }
  step_first le =
      let m = more (min first (2 ^ 63)) false refl (le-ltb second first le) in
      let e : choice ≡ choice + 0 = omega arith in
      record { out = m.0; mask = e ∙ m.1 }

-- ---- the chunks of four rows
pub at_chunk : (ws : List (List ℕ)) (xs : List ℕ) (i : ℕ) → ws ≡ first_chunks 8 (length xs / 8) xs → i < length xs / 8 → get_or ws i [] ≡ take 8 (drop (8 * i) xs)
at_chunk ws xs i e l = ap (λ w. get_or w i []) e ∙ nth_chunk 8 (length xs / 8) xs i [] l

pub each_chunk : (P : ℕ → Type 0) (ws : List (List ℕ)) (xs : List ℕ) (i : ℕ) → ws ≡ first_chunks 8 (length xs / 8) xs → i < length xs / 8 → Each1 P xs → Each1 P (get_or ws i [])
each_chunk P ws xs i e l all = subst (Each1 P) (sym (at_chunk ws xs i e l)) (Each1-chunk P (8 * i) 8 xs all)
