-- What bytes hold in the form of a version, they hold alone, and a row as its version spells it is held.
use Rattle.std.proofs.Common.{◌≡◌, ℕ, suc, ◌+◌, ◌*◌, ◌-◌, ◌^◌, ◌<◌, ◌≤◌, List, [], ◌∷◌, ◌++◌, map, refl, sym, ap, ◌∙◌, subst, append_assoc, length, drop, get_or, inl, inr, arith}
use Rattle.std.specs.List.{flat_map}
use Rattle.std.specs.Int.{w64, to_be_bytes, bytes_high_first}
use Rattle.std.proofs.lemmas.Bool.{cases_lt}
use Rattle.std.proofs.lemmas.List.{drop_at, get_or-map, get_or_past, length-append, length-map}
use Rattle.cost_core.specs.Tables.{row_in}
use Rattle.cert_core.specs.declared.verdict.CertReason.{CertReason}
use Rattle.cert_core.specs.declared.verdict.CertReason.TheVariants.{Cut, Head, Length, Bound, Row, Start, Step, End, Cost, Extra}
use Rattle.cert_core.specs.Reasons.{Spells, SpellingReason}
use Rattle.cert_core.specs.Spelling.{HoldsRow, IsCutRow, IsTooWide, excesses, floor, peak, raised_text, row_text, row_width}
use Rattle.cert_core.specs.declared.version.Version.{Version}
use Rattle.cert_core.specs.declared.version.Version.TheVariants.{One, Two}
use Rattle.cert_core.proofs.Bytes.{fits_all, highs-length, highs_inj}
use Rattle.cert_core.proofs.Consuming.{row_text-length}
use Rattle.cert_core.proofs.Raised.{floor_low, peak_high, peak_reached, put_back, width_fits}
use Rattle.cert_core.proofs.Spellings.{number_inj, values_inj}

floor_small : (row : List ℕ) → ((q : ℕ) → get_or row q 0 < 2 ^ 64) → floor row < 2 ^ 64
floor_small [] fits = omega arith
floor_small (v ∷ row) fits = omega (arith, floor_low (v ∷ row) 0 (omega arith), fits 0)

peak_small : (row : List ℕ) → ((q : ℕ) → get_or row q 0 < 2 ^ 64) → peak row < 2 ^ 64
peak_small [] fits = omega arith
peak_small (v ∷ row) fits =
    let (q, below, is) = peak_reached (v ∷ row) (omega arith) in
    omega (arith, is, fits q)

-- as its version spells it, a row is held
pub own_held : (v : Version) (m : ℕ) (row rest : List ℕ) → length row ≡ m → ((q : ℕ) → get_or row q 0 < 2 ^ 64) → HoldsRow v m (row_text v row ++ rest) row rest
own_held One m row rest long fits = (refl, long, fits)
own_held Two m row rest long fits =
    let n : length (excesses row) ≡ length row = length-map row (λ v. v - floor row) in
    let width = width_fits (peak row - floor row) (omega (arith, peak_small row fits)) in
    let each : (q : ℕ) → q < length row → get_or (excesses row) q 0 < 256 ^ row_width row = λ q h. omega (arith, width.0, get_or-map (λ v. v - floor row) row q 0 0 h, peak_high row q h) in
    (floor row, row_width row, excesses row, refl, n ∙ long, floor_small row fits, width.1, fits_all (row_width row) (length row) (excesses row) n each, put_back (floor row) row (floor_low row))

-- the first eight bytes, the width after them, and what follows
module _ (prefix prefix2 xs ys : List ℕ) (w w2 : ℕ) (n : length prefix ≡ 8) (n2 : length prefix2 ≡ 8) (is : prefix ++ (w ∷ xs) ≡ prefix2 ++ (w2 ∷ ys)) where
  after : (w ∷ xs) ≡ (w2 ∷ ys)
  after = sym (drop_at prefix (w ∷ xs) 8 n) ∙ ap (drop 8) is ∙ drop_at prefix2 (w2 ∷ ys) 8 n2

  same_width : w ≡ w2
  same_width = ap (λ l. get_or l 0 0) after

  same_after : xs ≡ ys
  same_after = ap (drop 1) after

-- the text of a raised row, parted after its width
parted : (least width : ℕ) (over rest : List ℕ) → raised_text least width over ++ rest ≡ to_be_bytes w64 least ++ (width ∷ flat_map (bytes_high_first width) over ++ rest)
parted least width over rest = append_assoc (to_be_bytes w64 least) (width ∷ flat_map (bytes_high_first width) over) rest

raised_inj : (m l l2 w w2 : ℕ) (over over2 r r2 : List ℕ) → length over ≡ m → length over2 ≡ m → l < 2 ^ 64 → l2 < 2 ^ 64 → ((q : ℕ) → get_or over q 0 < 256 ^ w) → ((q : ℕ) → get_or over2 q 0 < 256 ^ w2)
    → raised_text l w over ++ r ≡ raised_text l2 w2 over2 ++ r2 → (l ≡ l2) × (over ≡ over2) × (r ≡ r2)
raised_inj m l l2 w w2 over over2 r r2 long long2 small small2 fits fits2 is =
    let all = sym (parted l w over r) ∙ is ∙ parted l2 w2 over2 r2 in
    let first = number_inj l l2 small small2 _ _ all in
    let e = same_width (to_be_bytes w64 l) (to_be_bytes w64 l2) _ _ w w2 refl refl all in
    let rest : flat_map (bytes_high_first w) over ++ r ≡ flat_map (bytes_high_first w) over2 ++ r2 = same_after (to_be_bytes w64 l) (to_be_bytes w64 l2) _ _ w w2 refl refl all ∙ ap (λ k. flat_map (bytes_high_first k) over2 ++ r2) (sym e) in
    let more = highs_inj w over over2 (long ∙ sym long2) fits (subst (λ k. (q : ℕ) → get_or over2 q 0 < 256 ^ k) (sym e) fits2) r r2 rest in
    (first.0, more.0, more.1)

-- bytes hold one row at most
pub held_once : (v : Version) (m : ℕ) (bytes row rest row2 rest2 : List ℕ) → HoldsRow v m bytes row rest → HoldsRow v m bytes row2 rest2 → (row ≡ row2) × (rest ≡ rest2)
held_once One m bytes row rest row2 rest2 (is, long, fits) (is2, long2, fits2) = values_inj row row2 (long ∙ sym long2) fits fits2 rest rest2 (sym is ∙ is2)
held_once Two m bytes row rest row2 rest2 (l, w, over, is, long, small, few, fits, e) (l2, w2, over2, is2, long2, small2, few2, fits2, e2) =
    let same = raised_inj m l l2 w w2 over over2 rest rest2 long long2 small small2 fits fits2 (sym is ∙ is2) in
    (e ∙ ap (λ n. map (λ v. n + v) over) same.0 ∙ ap (map (λ v. l2 + v)) same.1 ∙ sym e2, same.2)

-- bytes that hold a row aren't cut in it
pub held_whole : (v : Version) (m : ℕ) (bytes row rest : List ℕ) → HoldsRow v m bytes row rest → IsCutRow v m bytes → ⊥
held_whole One m bytes row rest (is, long, fits) short = absurd (omega (arith, short, ap length is, length-append (row_text One row) rest, row_text-length row))
held_whole Two m bytes row rest (l, w, over, is, long, small, few, fits, e) (inl short) =
    absurd (omega (arith, short, ap length (is ∙ parted l w over rest), length-append (to_be_bytes w64 l) (w ∷ flat_map (bytes_high_first w) over ++ rest)))
held_whole Two m bytes row rest (l, w, over, is, long, small, few, fits, e) (inr (prefix, w2, after, is2, n, few2, short)) =
    let all = sym is2 ∙ is ∙ parted l w over rest in
    let same : w2 ≡ w = same_width prefix (to_be_bytes w64 l) after _ w2 w n refl all in
    let size : length after ≡ w * m + length rest = ap length (same_after prefix (to_be_bytes w64 l) after _ w2 w n refl all) ∙ length-append (flat_map (bytes_high_first w) over) rest ∙ ap (λ k. k + length rest) (highs-length w over ∙ ap (λ k. w * k) long) in
    let short2 : length after < w * m = subst (λ k. length after < k * m) same short in
    absurd (omega (arith, size, short2))

-- nor is their width above eight
pub held_narrow : (v : Version) (m : ℕ) (bytes row rest : List ℕ) → HoldsRow v m bytes row rest → IsTooWide v bytes → ⊥
held_narrow One m bytes row rest h wide = wide
held_narrow Two m bytes row rest (l, w, over, is, long, small, few, fits, e) (prefix, w2, after, is2, n, wide) =
    absurd (omega (arith, few, wide, same_width prefix (to_be_bytes w64 l) after _ w2 w n refl (sym is2 ∙ is ∙ parted l w over rest)))

pub cut_narrow : (v : Version) (m : ℕ) (bytes : List ℕ) → IsCutRow v m bytes → IsTooWide v bytes → ⊥
cut_narrow One m bytes cut wide = wide
cut_narrow Two m bytes (inl short) (prefix, w, after, is, n, wide) = absurd (omega (arith, short, ap length is, length-append prefix (w ∷ after)))
cut_narrow Two m bytes (inr (prefix, w, after, is, n, few, short)) (prefix2, w2, after2, is2, n2, wide) = absurd (omega (arith, few, wide, same_width prefix prefix2 after after2 w w2 n n2 (sym is ∙ is2)))

-- as a version spells them, bytes spell one row
pub row_inj : (v : Version) (m : ℕ) (row row2 : List ℕ) → length row ≡ m → length row2 ≡ m → ((q : ℕ) → get_or row q 0 < 2 ^ 64) → ((q : ℕ) → get_or row2 q 0 < 2 ^ 64) → (r r2 : List ℕ)
    → row_text v row ++ r ≡ row_text v row2 ++ r2 → (row ≡ row2) × (r ≡ r2)
row_inj v m row row2 long long2 fits fits2 r r2 is =
    held_once v m (row_text v row ++ r) row r row2 r2 (own_held v m row r long fits) (subst (λ l. HoldsRow v m l row2 r2) (sym is) (own_held v m row2 r2 long2 fits2))

-- rows of m values below 2 ^ 64
abbrev pub AreRows : ℕ → List (List ℕ) → Type 0
AreRows m [] = Unit {0}
AreRows m (row ∷ rows) = (length row ≡ m) × ((q : ℕ) → get_or row q 0 < 2 ^ 64) × AreRows m rows

pub rows_inj : (v : Version) (m : ℕ) (rows2 rows : List (List ℕ)) → AreRows m rows2 → AreRows m rows → length rows2 ≤ length rows → (s s2 : List ℕ)
    → flat_map (row_text v) rows ++ s ≡ flat_map (row_text v) rows2 ++ s2 → (more : List (List ℕ)) × (rows ≡ rows2 ++ more) × AreRows m more × (s2 ≡ flat_map (row_text v) more ++ s)
rows_inj v m [] rows a b h s s2 e = (rows, refl, b, sym e)
rows_inj v m (row2 ∷ rows2) [] a b h s s2 e = absurd (omega arith)
rows_inj v m (row2 ∷ rows2) (row ∷ rows) a b h s s2 e =
    let e2 : row_text v row ++ (flat_map (row_text v) rows ++ s) ≡ row_text v row2 ++ (flat_map (row_text v) rows2 ++ s2) =
    sym (append_assoc (row_text v row) (flat_map (row_text v) rows) s) ∙ e ∙ append_assoc (row_text v row2) (flat_map (row_text v) rows2) s2 in
    let w = row_inj v m row row2 b.0 a.0 b.1 a.1 _ _ e2 in
    let u = rows_inj v m rows2 rows a.2 b.2 (omega arith) s s2 w.1 in
    (u.0, ap (λ x. x ∷ rows) w.0 ∙ ap (λ l. row2 ∷ l) u.1, u.2, u.3)

pub within : (row : List ℕ) (m : ℕ) → length row ≡ m → ((q : ℕ) → q < m → get_or row q 0 < 2 ^ 64) → (q : ℕ) → get_or row q 0 < 2 ^ 64
within row m n fits q = elim (cases_lt q m) [
  | inl lt ↦ fits q lt
  | inr ge ↦ rw (get_or_past row q 0 (omega arith)) (omega arith)
]

-- from a fact of each row by its number
pub are_rows : (m : ℕ) (rows : List (List ℕ)) → ((i : ℕ) → i < length rows → length (row_in rows i) ≡ m) → ((i q : ℕ) → i < length rows → q < m → get_or (row_in rows i) q 0 < 2 ^ 64) → AreRows m rows
are_rows m [] long fits = tt
are_rows m (row ∷ rows) long fits =
    let n : length row ≡ m = long 0 (omega arith) in
    (n, within row m n (λ q h. fits 0 q (omega arith) h), are_rows m rows (λ i h. long (suc i) (omega arith)) (λ i q h k. fits (suc i) q (omega arith) k))

-- a row that is spelled is held
pub spells_held : (v : Version) (m : ℕ) (bytes row rest : List ℕ) → Spells v m bytes row rest → HoldsRow v m bytes row rest
spells_held v m bytes row rest (is, long, bounded) =
    subst (λ l. HoldsRow v m l row rest) (sym is) (own_held v m row rest long (within row m long (λ q h. let k = bounded q h in omega (arith, k))))

-- bytes spell one row at most
pub spells_once : (v : Version) (m : ℕ) (bytes row rest row2 rest2 : List ℕ) → Spells v m bytes row rest → Spells v m bytes row2 rest2 → (row ≡ row2) × (rest ≡ rest2)
spells_once v m bytes row rest row2 rest2 s s2 = held_once v m bytes row rest row2 rest2 (spells_held v m bytes row rest s) (spells_held v m bytes row2 rest2 s2)

-- bytes that spell a row have no reason not to
pub spelled : (v : Version) (m level : ℕ) (bytes row rest : List ℕ) → Spells v m bytes row rest → (reason : CertReason) → SpellingReason v m level bytes reason → ⊥
spelled v m level bytes row rest s Cut cut = held_whole v m bytes row rest (spells_held v m bytes row rest s) cut
spelled v m level bytes row rest s Bound (row2, rest2, held, (q, below, above)) =
    let same = held_once v m bytes row2 rest2 row rest held (spells_held v m bytes row rest s) in
    let k = s.2 q below in
    absurd (omega (arith, k, above, ap (λ l. get_or l q 0) same.0))
spelled v m level bytes row rest s (Row l) (is, inl wide) = held_narrow v m bytes row rest (spells_held v m bytes row rest s) wide
spelled v m level bytes row rest s (Row l) (is, inr (row2, rest2, held, bounded, other)) =
    let same = held_once v m bytes row2 rest2 row rest held (spells_held v m bytes row rest s) in
    other (s.0 ∙ ap (λ l. row_text v l ++ rest) (sym same.0) ∙ ap (λ l. row_text v row2 ++ l) (sym same.1))
spelled v m level bytes row rest s Head w = w
spelled v m level bytes row rest s Length w = w
spelled v m level bytes row rest s Start w = w
spelled v m level bytes row rest s (Step l q) w = w
spelled v m level bytes row rest s (End q) w = w
spelled v m level bytes row rest s Cost w = w
spelled v m level bytes row rest s Extra w = w
