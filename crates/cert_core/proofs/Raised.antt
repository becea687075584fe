-- Rows by the second version: their least and greatest values, their widths, and when a row is spelled as its own.
use Rattle.std.proofs.Common.{◌≡◌, ◌≢◌, ℕ, zero, suc, ◌+◌, ◌-◌, ◌^◌, ◌<◌, ◌≤◌, ◌⊎◌, min, max, leb, cond, List, [], ◌∷◌, ◌++◌, map, refl, sym, ap, ap₂, ◌∙◌, subst, append_assoc, length, get_or, inl, inr, arith}
use Rattle.std.specs.List.{fold, flat_map}
use Rattle.std.specs.Int.{w64, to_be_bytes, bytes_high_first}
use Rattle.std.proofs.Math.Nat.{pow-le-pow_right}
use Rattle.std.proofs.lemmas.Bool.{cases_lt, le-leb, lt-leb}
use Rattle.std.proofs.lemmas.List.{get_or-map}
use Rattle.cert_core.specs.Spelling.{byte_width, excesses, floor, peak, raised_text, row_text, row_width}
use Rattle.cert_core.specs.declared.version.Version.TheVariants.{Two}
use Rattle.cert_core.proofs.Spellings.{number_inj}

fold_low : (a : ℕ) (xs : List ℕ) → fold min a xs ≤ a
fold_low a [] = omega arith
fold_low a (x ∷ xs) = omega (arith, fold_low (min a x) xs)

fold_below : (a : ℕ) (xs : List ℕ) (q : ℕ) → q < length xs → fold min a xs ≤ get_or xs q 0
fold_below a [] q h = absurd (omega arith)
fold_below a (x ∷ xs) zero h = omega (arith, fold_low (min a x) xs)
fold_below a (x ∷ xs) (suc q) h = fold_below (min a x) xs q (omega arith)

fold_high : (a : ℕ) (xs : List ℕ) → a ≤ fold max a xs
fold_high a [] = omega arith
fold_high a (x ∷ xs) = omega (arith, fold_high (max a x) xs)

fold_above : (a : ℕ) (xs : List ℕ) (q : ℕ) → q < length xs → get_or xs q 0 ≤ fold max a xs
fold_above a [] q h = absurd (omega arith)
fold_above a (x ∷ xs) zero h = omega (arith, fold_high (max a x) xs)
fold_above a (x ∷ xs) (suc q) h = fold_above (max a x) xs q (omega arith)

pub floor_low : (row : List ℕ) (q : ℕ) → q < length row → floor row ≤ get_or row q 0
floor_low [] q h = absurd (omega arith)
floor_low (v ∷ row) zero h = fold_low v row
floor_low (v ∷ row) (suc q) h = fold_below v row q (omega arith)

pub peak_high : (row : List ℕ) (q : ℕ) → q < length row → get_or row q 0 ≤ peak row
peak_high [] q h = absurd (omega arith)
peak_high (v ∷ row) zero h = fold_high v row
peak_high (v ∷ row) (suc q) h = fold_above v row q (omega arith)

-- some value is the greatest
fold_reached : (a : ℕ) (xs : List ℕ) → (fold max a xs ≡ a) ⊎ ((q : ℕ) × (q < length xs) × (fold max a xs ≡ get_or xs q 0))
fold_reached a [] = inl refl
fold_reached a (x ∷ xs) = elim (fold_reached (max a x) xs) [
  | inl e ↦ elim (cases_lt a x) [
    | inl lt ↦ inr (0, omega arith, e ∙ omega arith)
    | inr ge ↦ inl (e ∙ omega arith)
  ]
  | inr (q, h, e) ↦ inr (suc q, omega arith, e)
]

pub peak_reached : (row : List ℕ) → 0 < length row → (q : ℕ) × (q < length row) × (peak row ≡ get_or row q 0)
peak_reached [] h = absurd (omega arith)
peak_reached (v ∷ row) h = elim (fold_reached v row) [
  | inl e ↦ (0, omega arith, e)
  | inr (q, below, e) ↦ (suc q, omega arith, e)
]

-- what is added to each value is added to the least and to the greatest
fold_low_raised : (least a : ℕ) (xs : List ℕ) → fold min (least + a) (map (λ v. least + v) xs) ≡ least + fold min a xs
fold_low_raised least a [] = refl
fold_low_raised least a (x ∷ xs) =
    let e : min (least + a) (least + x) ≡ least + min a x = omega arith in
    ap (λ n. fold min n (map (λ v. least + v) xs)) e ∙ fold_low_raised least (min a x) xs

fold_high_raised : (least a : ℕ) (xs : List ℕ) → fold max (least + a) (map (λ v. least + v) xs) ≡ least + fold max a xs
fold_high_raised least a [] = refl
fold_high_raised least a (x ∷ xs) =
    let e : max (least + a) (least + x) ≡ least + max a x = omega arith in
    ap (λ n. fold max n (map (λ v. least + v) xs)) e ∙ fold_high_raised least (max a x) xs

floor_raised : (least : ℕ) (over : List ℕ) → 0 < length over → floor (map (λ v. least + v) over) ≡ least + floor over
floor_raised least [] h = absurd (omega arith)
floor_raised least (v ∷ over) h = fold_low_raised least v over

peak_raised : (least : ℕ) (over : List ℕ) → 0 < length over → peak (map (λ v. least + v) over) ≡ least + peak over
peak_raised least [] h = absurd (omega arith)
peak_raised least (v ∷ over) h = fold_high_raised least v over

-- the powers of 256 from one on
abbrev steps : ℕ → ℕ → List ℕ
steps k zero = []
steps k (suc n) = 256 ^ k ∷ steps (suc k) n

abbrev counted : ℕ → ℕ → ℕ → ℕ
counted v a step = a + cond (leb step v) 1 0

none_reached : (v k n a : ℕ) → v < 256 ^ k → fold (counted v) a (steps k n) ≡ a
none_reached v k zero a h = refl
none_reached v k (suc n) a h =
    let more : 256 ^ k ≤ 256 ^ suc k = pow-le-pow_right {n = 256} (omega arith) {i = k} {j = suc k} (omega arith) in
    let e : a + cond (leb (256 ^ k) v) 1 0 ≡ a = rw (lt-leb (256 ^ k) v h) (omega arith) in
    ap (λ m. fold (counted v) m (steps (suc k) n)) e ∙ none_reached v (suc k) n a (omega arith)

-- of n powers the first j are reached, and no more
reached : (v k n a : ℕ) → v < 256 ^ (k + n) → (j : ℕ) × (fold (counted v) a (steps k n) ≡ a + j) × (v < 256 ^ (k + j)) × (j ≤ n) × ((i : ℕ) → i < j → 256 ^ (k + i) ≤ v)
reached v k zero a h = (0, omega arith, h, omega arith, λ i less. absurd (omega arith))
reached v k (suc n) a h = elim (cases_lt v (256 ^ k)) [
  | inl lt ↦
      let e : k + 0 ≡ k = omega arith in
      (0, none_reached v k (suc n) a lt ∙ omega arith, subst (λ m. v < 256 ^ m) (sym e) lt, omega arith, λ i less. absurd (omega arith))
  | inr ge ↦
      let e : k + suc n ≡ suc k + n = omega arith in
      let one : a + cond (leb (256 ^ k) v) 1 0 ≡ a + 1 = rw (le-leb (256 ^ k) v ge) refl in
      let (j, is, below, few, each) = reached v (suc k) n (a + 1) (subst (λ m. v < 256 ^ m) e h) in
      let e2 : suc k + j ≡ k + suc j = omega arith in
      let at : (i : ℕ) → i < suc j → 256 ^ (k + i) ≤ v = reach k v j ge each in
      (suc j, ap (λ m. fold (counted v) m (steps (suc k) n)) one ∙ is ∙ omega arith, subst (λ m. v < 256 ^ m) e2 below, omega arith, at)
]
  where
    reach : (k v j : ℕ) → 256 ^ k ≤ v → ((i : ℕ) → i < j → 256 ^ (suc k + i) ≤ v) → (i : ℕ) → i < suc j → 256 ^ (k + i) ≤ v
    reach k v j ge each zero less = let e : k ≡ k + 0 = omega arith in subst (λ m. 256 ^ m ≤ v) e ge
    reach k v j ge each (suc i) less = let e : suc k + i ≡ k + suc i = omega arith in subst (λ m. 256 ^ m ≤ v) e (each i (omega arith))

pub width_fits : (v : ℕ) → v < 2 ^ 64 → (v < 256 ^ byte_width v) × (byte_width v ≤ 8)
width_fits v h =
    let (j, is, below, few, each) = reached v 0 8 0 h in
    let e : byte_width v ≡ 0 + j = is in
    (subst (λ m. v < 256 ^ m) (sym e) below, omega (arith, e, few))

-- in no fewer bytes
pub width_least : (v : ℕ) → v < 2 ^ 64 → (w : ℕ) → v < 256 ^ w → byte_width v ≤ w
width_least v h w fits =
    let (j, is, below, few, each) = reached v 0 8 0 h in
    let e : byte_width v ≡ 0 + j = is in
    elim (cases_lt w j) [
      | inl less ↦ (let same : 0 + w ≡ w = omega arith in absurd (omega (arith, fits, subst (λ m. 256 ^ m ≤ v) same (each w less))))
      | inr most ↦ omega (arith, e, most)
    ]

-- what is taken off and added again
taken_off : (least : ℕ) (over : List ℕ) → map (λ v. v - least) (map (λ v. least + v) over) ≡ over
taken_off least [] = refl
taken_off least (v ∷ over) = let e : least + v - least ≡ v = omega arith in ap₂ (λ x l. x ∷ l) e (taken_off least over)

pub put_back : (least : ℕ) (row : List ℕ) → ((q : ℕ) → q < length row → least ≤ get_or row q 0) → row ≡ map (λ v. least + v) (map (λ v. v - least) row)
put_back least [] low = refl
put_back least (v ∷ row) low =
    let h : least ≤ v = low 0 (omega arith) in
    let e : v ≡ least + (v - least) = omega arith in
    ap₂ (λ x l. x ∷ l) e (put_back least row (λ q k. low (suc q) (omega arith)))

pub raised_bounded : (least bound : ℕ) (over : List ℕ) → least + peak over ≤ bound → (q : ℕ) → q < length over → get_or (map (λ v. least + v) over) q 0 ≤ bound
raised_bounded least bound over h q below = omega (arith, get_or-map (λ v. least + v) over q 0 0 below, peak_high over q below)

module _ (least width : ℕ) (over : List ℕ) (some : 0 < length over) where
  abbrev row : List ℕ
  row = map (λ v. least + v) over

  difference : peak row - floor row ≡ peak over - floor over
  difference = omega (arith, floor_raised least over some, peak_raised least over some)

  -- numbers over the least value, in the least width, are the text of the row
  pub own_text : floor over ≡ 0 → width ≡ byte_width (peak over) → raised_text least width over ≡ row_text Two row
  own_text low narrow =
      let f : least ≡ floor row = omega (arith, low, floor_raised least over some) in
      let w : width ≡ row_width row = narrow ∙ ap byte_width (omega (arith, low, difference)) in
      let o : over ≡ excesses row = sym (taken_off least over) ∙ ap (λ n. map (λ v. v - n) row) f in
      ap (λ n. raised_text n width over) f ∙ ap (λ n. raised_text (floor row) n over) w ∙ ap (raised_text (floor row) (row_width row)) o

  -- over another number, or in another width, they aren't
  pub own_only : least < 2 ^ 64 → floor row < 2 ^ 64 → (rest : List ℕ) → raised_text least width over ++ rest ≡ row_text Two row ++ rest → (floor over ≢ 0) ⊎ (width ≢ byte_width (peak over)) → ⊥
  own_only small small2 rest is other =
      let xs = flat_map (bytes_high_first width) over in
      let ys = flat_map (bytes_high_first (row_width row)) (excesses row) in
      let all : to_be_bytes w64 least ++ (width ∷ xs ++ rest) ≡ to_be_bytes w64 (floor row) ++ (row_width row ∷ ys ++ rest) = sym (append_assoc (to_be_bytes w64 least) (width ∷ xs) rest) ∙ is ∙ append_assoc (to_be_bytes w64 (floor row)) (row_width row ∷ ys) rest in
      let same = number_inj least (floor row) small small2 _ _ all in
      let w : width ≡ row_width row = ap (λ l. get_or l 0 0) same.1 in
      let low : floor over ≡ 0 = omega (arith, same.0, floor_raised least over some) in
      elim other [
        | inl ne ↦ ne low
        | inr ne ↦ ne (w ∙ ap byte_width (omega (arith, low, difference)))
      ]
