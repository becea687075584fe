-- Bytes have one first reason at most.
use Rattle.std.proofs.Common.{◌≡◌, ◌≢◌, ℕ, ◌+◌, ◌-◌, ◌^◌, ◌<◌, ◌≤◌, ◌⊎◌, List, [], ◌∷◌, ◌++◌, refl, sym, ap, ◌∙◌, subst, append_assoc, length, get_or, inl, inr, arith}
use Rattle.std.specs.List.{flat_map}
use Rattle.std.specs.Int.{w64, to_be_bytes}
use Rattle.std.proofs.lemmas.Bool.{cases_lt}
use Rattle.std.proofs.lemmas.List.{length-append, append-nil}
use Rattle.cost_core.specs.Tables.{row_in, value_in}
use Rattle.cost_core.specs.Trellis.{Trellis, states}
use Rattle.cert_core.specs.declared.verdict.CertReason.{CertReason}
use Rattle.cert_core.specs.declared.verdict.CertReason.TheVariants.{Cut, Head, Length, Bound, Row, Start, Step, End, Cost, Extra}
use Rattle.cert_core.specs.Reasons.{Bounded, BytesReason, Exceeds, RowClean, RowReason, GoesOn, ReasonAfter, ReasonInRow, Spells, SpellingReason, StartReason, FirstReason}
use Rattle.cert_core.specs.Spelling.{HoldsRow, IsCutRow, IsTooWide, row_text}
use Rattle.cert_core.specs.Text.{entry_start}
use Rattle.cert_core.specs.declared.version.Version.{Version}
use Rattle.cert_core.proofs.Exact.{clean_rows, row_at, row_under}
use Rattle.cert_core.proofs.Held.{cut_narrow, held_narrow, held_once, held_whole, rows_inj, AreRows, spelled, spells_once}
use Rattle.cert_core.proofs.Spellings.{start_inj, number_inj}

-- the lowest number with a property
one_lowest : (P : ℕ → Type 0) (q r : ℕ) → P q → ((k : ℕ) → k < q → P k → ⊥) → P r → ((k : ℕ) → k < r → P k → ⊥) → q ≡ r
one_lowest P q r p low p2 low2 = elim (cases_lt q r) [
  | inl lt ↦ absurd (low2 q lt p)
  | inr ge ↦ elim (cases_lt r q) [ inl lt ↦ absurd (low r lt p2) | inr le ↦ omega arith ]
]

-- the spelling of a row
module _ (v : Version) (m level : ℕ) (bytes : List ℕ) where
  -- a row that is held, and what is wrong with it
  abbrev HeldCase : CertReason → Type 0
  HeldCase reason = (row : List ℕ) × (rest : List ℕ) × HoldsRow v m bytes row rest
      × (((reason ≡ Bound) × ((q : ℕ) × (q < m) × (2 ^ 63 < get_or row q 0))) ⊎ ((reason ≡ Row level) × Bounded m row))

  -- the reasons, apart
  abbrev SpellingCase : CertReason → Type 0
  SpellingCase reason = ((reason ≡ Cut) × IsCutRow v m bytes) ⊎ (((reason ≡ Row level) × IsTooWide v bytes) ⊎ HeldCase reason)

  spelling_case : (reason : CertReason) → SpellingReason v m level bytes reason → SpellingCase reason
  spelling_case Cut w = inl (refl, w)
  spelling_case Bound (row, rest, held, above) = inr (inr (row, rest, held, inl (refl, above)))
  spelling_case (Row l) (is, inl wide) = inr (inl (ap Row is, wide))
  spelling_case (Row l) (is, inr (row, rest, held, bounded, other)) = inr (inr (row, rest, held, inr (ap Row is, bounded)))
  spelling_case Head w = absurd w
  spelling_case Length w = absurd w
  spelling_case Start w = absurd w
  spelling_case (Step l q) w = absurd w
  spelling_case (End q) w = absurd w
  spelling_case Cost w = absurd w
  spelling_case Extra w = absurd w

  one_held : (a b : CertReason) → HeldCase a → HeldCase b → a ≡ b
  one_held a b (row, rest, held, x) (row2, rest2, held2, y) =
      let same = held_once v m bytes row rest row2 rest2 held held2 in
      elim x [
        | inl (ea, (q, below, above)) ↦ elim y [
          | inl (eb, _) ↦ ea ∙ sym eb
          | inr (eb, bounded) ↦ absurd (let k = bounded q below in omega (arith, k, above, ap (λ l. get_or l q 0) same.0))
        ]
        | inr (ea, bounded) ↦ elim y [
          | inl (eb, (q, below, above)) ↦ absurd (let k = bounded q below in omega (arith, k, above, ap (λ l. get_or l q 0) same.0))
          | inr (eb, _) ↦ ea ∙ sym eb
        ]
      ]

  one_case_of_spelling : (a b : CertReason) → SpellingCase a → SpellingCase b → a ≡ b
  one_case_of_spelling a b (inl (ea, cut)) (inl (eb, cut2)) = ea ∙ sym eb
  one_case_of_spelling a b (inl (ea, cut)) (inr (inl (eb, wide))) = absurd (cut_narrow v m bytes cut wide)
  one_case_of_spelling a b (inl (ea, cut)) (inr (inr (row, rest, held, w))) = absurd (held_whole v m bytes row rest held cut)
  one_case_of_spelling a b (inr (inl (ea, wide))) (inl (eb, cut)) = absurd (cut_narrow v m bytes cut wide)
  one_case_of_spelling a b (inr (inl (ea, wide))) (inr (inl (eb, wide2))) = ea ∙ sym eb
  one_case_of_spelling a b (inr (inl (ea, wide))) (inr (inr (row, rest, held, w))) = absurd (held_narrow v m bytes row rest held wide)
  one_case_of_spelling a b (inr (inr (row, rest, held, w))) (inl (eb, cut)) = absurd (held_whole v m bytes row rest held cut)
  one_case_of_spelling a b (inr (inr (row, rest, held, w))) (inr (inl (eb, wide))) = absurd (held_narrow v m bytes row rest held wide)
  one_case_of_spelling a b (inr (inr x)) (inr (inr y)) = one_held a b x y

  one_spelling : (a b : CertReason) → SpellingReason v m level bytes a → SpellingReason v m level bytes b → a ≡ b
  one_spelling a b x y = one_case_of_spelling a b (spelling_case a x) (spelling_case b y)

-- one row
module _ (t : Trellis) (level : ℕ) (previous row : List ℕ) where
  no_reason : RowClean t level previous row → (reason : CertReason) → RowReason t level previous row reason → ⊥
  no_reason c Start (first, ne) = ne (c.start first)
  no_reason c (Step l q) (some, is, inside, exceeds, low) = c.steps some q inside exceeds
  no_reason c Cut w = absurd w
  no_reason c Head w = absurd w
  no_reason c Length w = absurd w
  no_reason c Bound w = absurd w
  no_reason c (Row l) w = absurd w
  no_reason c (End q) w = absurd w
  no_reason c Cost w = absurd w
  no_reason c Extra w = absurd w

  -- the two reasons of a row, apart
  abbrev RowCase : CertReason → Type 0
  RowCase reason = ((reason ≡ Start) × (level ≡ 0))
      ⊎ ((0 < level) × ((q : ℕ) × (reason ≡ Step level q) × Exceeds t (level - 1) previous row q × ((k : ℕ) → k < q → Exceeds t (level - 1) previous row k → ⊥)))

  row_case : (reason : CertReason) → RowReason t level previous row reason → RowCase reason
  row_case Start (first, ne) = inl (refl, first)
  row_case (Step l q) (some, is, inside, exceeds, low) = inr (some, (q, ap (λ k. Step k q) is, exceeds, low))
  row_case Cut w = absurd w
  row_case Head w = absurd w
  row_case Length w = absurd w
  row_case Bound w = absurd w
  row_case (Row l) w = absurd w
  row_case (End q) w = absurd w
  row_case Cost w = absurd w
  row_case Extra w = absurd w

  one_row_reason : (a b : CertReason) → RowReason t level previous row a → RowReason t level previous row b → a ≡ b
  one_row_reason a b x y = elim (row_case a x) [
    | inl (ea, first) ↦ elim (row_case b y) [
      | inl (eb, _) ↦ ea ∙ sym eb
      | inr (some, _) ↦ absurd (omega arith)
    ]
    | inr (some, (q, ea, exceeds, low)) ↦ elim (row_case b y) [
      | inl (eb, first) ↦ absurd (omega arith)
      | inr (_, (r, eb, exceeds2, low2)) ↦ ea ∙ ap (Step level) (one_lowest (Exceeds t (level - 1) previous row) q r exceeds low exceeds2 low2) ∙ sym eb
    ]
  ]

-- after the start: where the reading stops
abbrev Early : Version → Trellis → List (List ℕ) → List ℕ → CertReason → Type 0
Early v t rows rest reason = (length rows ≤ t.levels) × BytesReason v t (length rows) (row_in rows (length rows - 1)) rest reason

abbrev Stated : Trellis → ℕ → List (List ℕ) → List ℕ → CertReason → Type 0
Stated t found rows rest reason = (stated : ℕ) × (after : List ℕ) × (rest ≡ to_be_bytes w64 stated ++ after) × (stated < 2 ^ 64)
    × (((reason ≡ Cost) × (stated ≢ found)) ⊎ ((stated ≡ found) × ((q : ℕ) × (reason ≡ End q) × (value_in rows t.levels q + t.tail q < found) × ((k : ℕ) → k < q → found ≤ value_in rows t.levels k + t.tail k))))

abbrev Late : Trellis → ℕ → List (List ℕ) → List ℕ → CertReason → Type 0
Late t found rows rest reason = (length rows ≡ t.levels + 1) × (((reason ≡ Cut) × (length rest < 8)) ⊎ Stated t found rows rest reason)

abbrev StopsAt : Version → Trellis → ℕ → List (List ℕ) → List ℕ → CertReason → Type 0
StopsAt v t found rows rest reason = Early v t rows rest reason ⊎ Late t found rows rest reason

early_of : (v : Version) (t : Trellis) (found : ℕ) (bytes : List ℕ) (reason : CertReason) → ReasonInRow v t bytes reason → (rows : List (List ℕ)) × (rest : List ℕ) × GoesOn v t bytes rows rest × StopsAt v t found rows rest reason
early_of v t found bytes reason (rows, rest, goes, few, w) = (rows, rest, goes, inl (few, w))

stops_of : (v : Version) (t : Trellis) (found : ℕ) (bytes : List ℕ) (reason : CertReason) → ReasonAfter v t found bytes reason → (rows : List (List ℕ)) × (rest : List ℕ) × GoesOn v t bytes rows rest × StopsAt v t found rows rest reason
stops_of v t found bytes Cut (inl w) = early_of v t found bytes Cut w
stops_of v t found bytes Cut (inr (rows, rest, goes, all, short)) = (rows, rest, goes, inr (all, inl (refl, short)))
stops_of v t found bytes Bound w = early_of v t found bytes Bound w
stops_of v t found bytes (Row l) w = early_of v t found bytes (Row l) w
stops_of v t found bytes Start w = early_of v t found bytes Start w
stops_of v t found bytes (Step l q) w = early_of v t found bytes (Step l q) w
stops_of v t found bytes Cost (rows, stated, (rest, goes, all, small), ne) = (rows, to_be_bytes w64 stated ++ rest, goes, inr (all, inr (stated, rest, refl, small, inl (refl, ne))))
stops_of v t found bytes (End q) (rows, (rest, goes, all, small), inside, low, lowest) = (rows, to_be_bytes w64 found ++ rest, goes, inr (all, inr (found, rest, refl, small, inr (refl, (q, refl, low, lowest)))))
stops_of v t found bytes Head w = absurd w
stops_of v t found bytes Length w = absurd w
stops_of v t found bytes Extra w = absurd w

few_rows : (v : Version) (t : Trellis) (found : ℕ) (rows : List (List ℕ)) (rest : List ℕ) (reason : CertReason) → StopsAt v t found rows rest reason → length rows ≤ t.levels + 1
few_rows v t found rows rest reason (inl w) = omega (arith, w.0)
few_rows v t found rows rest reason (inr w) = omega (arith, w.0)

-- the reading doesn't go on where it stopped
same_place : (v : Version) (t : Trellis) (found : ℕ) (bytes : List ℕ) (rows : List (List ℕ)) (rest : List ℕ) (a : CertReason) (rows2 : List (List ℕ)) (rest2 : List ℕ) → GoesOn v t bytes rows rest → StopsAt v t found rows rest a
    → GoesOn v t bytes rows2 rest2 → length rows2 ≤ t.levels + 1 → length rows ≤ length rows2 → (rows2 ≡ rows) × (rest2 ≡ rest)
same_place v t found bytes rows rest a rows2 rest2 goes stops goes2 all h =
    split (rows_inj v (states t) rows rows2 (clean_rows t rows goes.are_clean) (clean_rows t rows2 goes2.are_clean) h rest2 rest (sym goes2.is ∙ goes.is)) where
      split : ((more : List (List ℕ)) × (rows2 ≡ rows ++ more) × AreRows (states t) more × (rest ≡ flat_map (row_text v) more ++ rest2)) → (rows2 ≡ rows) × (rest2 ≡ rest)
      split ([], e, r, is) = (e ∙ append-nil rows, sym is)
      split (row ∷ more, e, r, is) = stopped stops where
        next : rest ≡ row_text v row ++ (flat_map (row_text v) more ++ rest2)
        next = is ∙ append_assoc (row_text v row) (flat_map (row_text v) more) rest2

        below : length rows < length rows2
        below = omega (arith, ap length e, length-append rows (row ∷ more))

        clean : RowClean t (length rows) (row_in rows (length rows - 1)) row
        clean =
            let k = goes2.are_clean.clean (length rows) below in
            let k2 : RowClean t (length rows) (row_in rows2 (length rows - 1)) row = subst (RowClean t (length rows) (row_in rows2 (length rows - 1))) (row_at rows2 rows more row e) k in
            clean_from k2
          where
            clean_from : RowClean t (length rows) (row_in rows2 (length rows - 1)) row → RowClean t (length rows) (row_in rows (length rows - 1)) row
            clean_from c = record {
              bounded = c.bounded;
              start = c.start;
              steps = λ some. let u = row_under rows2 rows (row ∷ more) (length rows - 1) e (omega arith) in let s = c.steps some in rw u at s;
            }

        spells : Spells v (states t) rest row (flat_map (row_text v) more ++ rest2)
        spells = (next, r.0, clean.bounded)

        stopped : StopsAt v t found rows rest a → (rows2 ≡ rows) × (rest2 ≡ rest)
        stopped (inl (few, inl k)) = absurd (spelled v (states t) (length rows) rest row (flat_map (row_text v) more ++ rest2) spells a k)
        stopped (inl (few, inr (bad, after, spells2, k))) =
            let same = spells_once v (states t) rest bad after row _ spells2 spells in
            absurd (no_reason t (length rows) (row_in rows (length rows - 1)) row clean a (subst (λ x. RowReason t (length rows) (row_in rows (length rows - 1)) x a) same.0 k))
        stopped (inr (n, w)) = absurd (omega (arith, below))

one_stated : (t : Trellis) (found : ℕ) (rows : List (List ℕ)) (rest : List ℕ) (a b : CertReason) → Stated t found rows rest a → Stated t found rows rest b → a ≡ b
one_stated t found rows rest a b (s, after, is, small, x) (s2, after2, is2, small2, y) =
    let same = number_inj s s2 small small2 after after2 (sym is ∙ is2) in
    elim x [
      | inl (ea, ne) ↦ elim y [
        | inl (eb, ne2) ↦ ea ∙ sym eb
        | inr (e2, _) ↦ absurd (ne (same.0 ∙ e2))
      ]
      | inr (e, (q, ea, low, lowest)) ↦ elim y [
        | inl (eb, ne2) ↦ absurd (ne2 (sym same.0 ∙ e))
        | inr (e2, (r, eb, low2, lowest2)) ↦
            ea ∙ ap End (one_lowest (λ k. value_in rows t.levels k + t.tail k < found) q r low (λ k lt v. absurd (omega (arith, lowest k lt, v))) low2 (λ k lt v. absurd (omega (arith, lowest2 k lt, v)))) ∙ sym eb
      ]
    ]

one_early : (v : Version) (t : Trellis) (rows : List (List ℕ)) (rest : List ℕ) (a b : CertReason) → Early v t rows rest a → Early v t rows rest b → a ≡ b
one_early v t rows rest a b (few, inl x) (few2, inl y) = one_spelling v (states t) (length rows) rest a b x y
one_early v t rows rest a b (few, inl x) (few2, inr (row, after, spells, w)) = absurd (spelled v (states t) (length rows) rest row after spells a x)
one_early v t rows rest a b (few, inr (row, after, spells, w)) (few2, inl y) = absurd (spelled v (states t) (length rows) rest row after spells b y)
one_early v t rows rest a b (few, inr (row, after, spells, w)) (few2, inr (row2, after2, spells2, w2)) =
    let same = spells_once v (states t) rest row2 after2 row after spells2 spells in
    let previous = row_in rows (length rows - 1) in
    one_row_reason t (length rows) previous row a b w (subst (λ x. RowReason t (length rows) previous x b) same.0 w2)

one_late : (t : Trellis) (found : ℕ) (rows : List (List ℕ)) (rest : List ℕ) (a b : CertReason) → Late t found rows rest a → Late t found rows rest b → a ≡ b
one_late t found rows rest a b (all, inl (ea, short)) (all2, inl (eb, short2)) = ea ∙ sym eb
one_late t found rows rest a b (all, inl (ea, short)) (all2, inr (s, after, is, small, w)) = absurd (omega (arith, ap length is, length-append (to_be_bytes w64 s) after))
one_late t found rows rest a b (all, inr (s, after, is, small, w)) (all2, inl (eb, short)) = absurd (omega (arith, ap length is, length-append (to_be_bytes w64 s) after))
one_late t found rows rest a b (all, inr v) (all2, inr w) = one_stated t found rows rest a b v w

one_stop : (v : Version) (t : Trellis) (found : ℕ) (rows : List (List ℕ)) (rest : List ℕ) (a b : CertReason) → StopsAt v t found rows rest a → StopsAt v t found rows rest b → a ≡ b
one_stop v t found rows rest a b (inl x) (inl y) = one_early v t rows rest a b x y
one_stop v t found rows rest a b (inr x) (inr y) = one_late t found rows rest a b x y
one_stop v t found rows rest a b (inl x) (inr y) = absurd (omega (arith, x.0, y.0))
one_stop v t found rows rest a b (inr x) (inl y) = absurd (omega (arith, x.0, y.0))

moved : (v : Version) (t : Trellis) (found : ℕ) (rows rows2 : List (List ℕ)) (rest rest2 : List ℕ) (a : CertReason) → (rows2 ≡ rows) × (rest2 ≡ rest) → StopsAt v t found rows2 rest2 a → StopsAt v t found rows rest a
moved v t found rows rows2 rest rest2 a (er, es) w = subst (λ x. StopsAt v t found x rest a) er (subst (λ x. StopsAt v t found rows2 x a) es w)

one_after : (v : Version) (t : Trellis) (found : ℕ) (bytes : List ℕ) (a b : CertReason) → ReasonAfter v t found bytes a → ReasonAfter v t found bytes b → a ≡ b
one_after v t found bytes a b x y =
    let (rows, rest, goes, stops) = stops_of v t found bytes a x in
    let (rows2, rest2, goes2, stops2) = stops_of v t found bytes b y in
    elim (cases_lt (length rows2) (length rows)) [
      | inl lt ↦
          let e = same_place v t found bytes rows2 rest2 b rows rest goes2 stops2 goes (few_rows v t found rows rest a stops) (omega arith) in
          one_stop v t found rows2 rest2 a b (moved v t found rows2 rows rest2 rest a e stops) stops2
      | inr le ↦
          let e = same_place v t found bytes rows rest a rows2 rest2 goes stops goes2 (few_rows v t found rows2 rest2 b stops2) (omega arith) in
          one_stop v t found rows rest a b stops (moved v t found rows rows2 rest rest2 b e stops2)
    ]

-- in the start
module _ (cue channel levels : ℕ) (hc : cue < 2 ^ 16) (hk : channel < 2 ^ 16) (hl : levels < 2 ^ 16) (bytes : List ℕ) where
  abbrev Begins : ℕ → ℕ → ℕ → Type 0
  Begins c k n = (rest : List ℕ) × (bytes ≡ entry_start c k n ++ rest) × (c < 2 ^ 16) × (k < 2 ^ 16) × (n < 2 ^ 16)

  -- the three reasons of a start, apart
  abbrev StartCase : CertReason → Type 0
  StartCase reason = ((reason ≡ Cut) × (length bytes < 6))
      ⊎ ((c : ℕ) × (k : ℕ) × (n : ℕ) × Begins c k n × (((reason ≡ Head) × ((c ≢ cue) ⊎ (k ≢ channel))) ⊎ ((reason ≡ Length) × (c ≡ cue) × (k ≡ channel) × (n ≢ levels))))

  start_case : (reason : CertReason) → StartReason cue channel levels bytes reason → StartCase reason
  start_case Cut short = inl (refl, short)
  start_case Head (c, k, n, rest, is, fc, fk, fn, ne) = inr (c, k, n, (rest, is, fc, fk, fn), inl (refl, ne))
  start_case Length (n, rest, is, fn, ne) = inr (cue, channel, n, (rest, is, hc, hk, fn), inr (refl, refl, refl, ne))
  start_case Bound w = absurd w
  start_case (Row l) w = absurd w
  start_case Start w = absurd w
  start_case (Step l q) w = absurd w
  start_case (End q) w = absurd w
  start_case Cost w = absurd w
  start_case Extra w = absurd w

  no_begin : length bytes < 6 → (c k n : ℕ) → Begins c k n → ⊥
  no_begin short c k n (rest, is, fc, fk, fn) = absurd (omega (arith, ap length is, length-append (entry_start c k n) rest))

  same_begin : (c k n c2 k2 n2 : ℕ) → Begins c k n → Begins c2 k2 n2 → (c ≡ c2) × (k ≡ k2) × (n ≡ n2)
  same_begin c k n c2 k2 n2 (rest, is, fc, fk, fn) (rest2, is2, fc2, fk2, fn2) =
      let w = start_inj c k n c2 k2 n2 fc fk fn fc2 fk2 fn2 rest rest2 (sym is ∙ is2) in
      (w.0, w.1, w.2)

  other : (c k : ℕ) → (c ≢ cue) ⊎ (k ≢ channel) → c ≡ cue → k ≡ channel → ⊥
  other c k (inl ne) ec ek = ne ec
  other c k (inr ne) ec ek = ne ek

  one_case : (a b : CertReason) → StartCase a → StartCase b → a ≡ b
  one_case a b (inl (ea, short)) (inl (eb, short2)) = ea ∙ sym eb
  one_case a b (inl (ea, short)) (inr (c, k, n, begins, w)) = absurd (no_begin short c k n begins)
  one_case a b (inr (c, k, n, begins, w)) (inl (eb, short)) = absurd (no_begin short c k n begins)
  one_case a b (inr (c, k, n, begins, v)) (inr (c2, k2, n2, begins2, w)) =
      let same = same_begin c k n c2 k2 n2 begins begins2 in
      elim v [
        | inl (ea, ne) ↦ elim w [
          | inl (eb, ne2) ↦ ea ∙ sym eb
          | inr (eb, ec, ek, ne2) ↦ absurd (other c k ne (same.0 ∙ ec) (same.1 ∙ ek))
        ]
        | inr (ea, ec, ek, ne) ↦ elim w [
          | inl (eb, ne2) ↦ absurd (other c2 k2 ne2 (sym same.0 ∙ ec) (sym same.1 ∙ ek))
          | inr (eb, _, _, ne2) ↦ ea ∙ sym eb
        ]
      ]

  -- a right start has no reason
  no_case : (a : CertReason) → StartCase a → (after : List ℕ) → bytes ≡ entry_start cue channel levels ++ after → ⊥
  no_case a (inl (ea, short)) after is = absurd (no_begin short cue channel levels (after, is, hc, hk, hl))
  no_case a (inr (c, k, n, begins, w)) after is =
      let same = same_begin c k n cue channel levels begins (after, is, hc, hk, hl) in
      elim w [
        | inl (ea, ne) ↦ other c k ne same.0 same.1
        | inr (ea, ec, ek, ne) ↦ ne same.2
      ]

pub one_first : (v : Version) (t : Trellis) (cue channel found : ℕ) (bytes : List ℕ) (a b : CertReason) → cue < 2 ^ 16 → channel < 2 ^ 16 → t.levels < 2 ^ 16 → FirstReason v t cue channel found bytes a → FirstReason v t cue channel found bytes b → a ≡ b
one_first v t cue channel found bytes a b hc hk hl (inl x) (inl y) =
    one_case cue channel t.levels hc hk hl bytes a b (start_case cue channel t.levels hc hk hl bytes a x) (start_case cue channel t.levels hc hk hl bytes b y)
one_first v t cue channel found bytes a b hc hk hl (inl x) (inr (after, is, y)) = absurd (no_case cue channel t.levels hc hk hl bytes a (start_case cue channel t.levels hc hk hl bytes a x) after is)
one_first v t cue channel found bytes a b hc hk hl (inr (after, is, x)) (inl y) = absurd (no_case cue channel t.levels hc hk hl bytes b (start_case cue channel t.levels hc hk hl bytes b y) after is)
one_first v t cue channel found bytes a b hc hk hl (inr (after, is, x)) (inr (after2, is2, y)) =
    let same = start_inj cue channel t.levels cue channel t.levels hc hk hl hc hk hl after2 after (sym is2 ∙ is) in
    one_after v t found after a b x (subst (λ l. ReasonAfter v t found l b) same.3 y)
