-- Bytes with a reason begin with no valid entry.
use Rattle.std.proofs.Common.{◌≡◌, ℕ, ◌+◌, ◌-◌, ◌^◌, ◌<◌, ◌≤◌, Bool, List, [], ◌∷◌, ◌++◌, refl, sym, ap, ◌∙◌, subst, append_assoc, length, get_or, inl, inr, arith}
use Rattle.std.specs.List.{flat_map}
use Rattle.std.specs.Int.{w64, to_be_bytes}
use Rattle.std.proofs.lemmas.List.{length-append, append-nil, get_or_append_left}
use Rattle.cert_core.specs.Spelling.{row_text}
use Rattle.cert_core.specs.declared.version.Version.{Version}
use Rattle.cost_core.specs.Trellis.{Trellis, states, cost, IsBounded}
use Rattle.cost_core.specs.Validity.{IsValid}
use Rattle.cost_core.specs.Tables.{row_in, value_in, IsTable}
use Rattle.cert_core.specs.Reasons.{Exceeds}
use Rattle.std.proofs.lemmas.List.{get_or_push}
use Rattle.cert_core.specs.declared.verdict.CertReason.{CertReason}
use Rattle.cert_core.specs.declared.verdict.CertReason.TheVariants.{Cut, Head, Length, Bound, Row, Start, Step, End, Cost, Extra}
use Rattle.cert_core.specs.Text.{entry_start}
use Rattle.cert_core.specs.Reasons.{BytesReason, RowReason, AreClean, GoesOn, ReasonAfter, ReasonInRow, Spells, StartReason, FirstReason}
use Rattle.cert_core.specs.Entries.{BeginsValid}
use Rattle.cert_core.proofs.Held.{rows_inj, AreRows, are_rows, spelled, spells_once}
use Rattle.cert_core.proofs.Spellings.{start_inj, number_inj}

-- an entry's rows after its start
record Tabled (v : Version) (t : Trellis) (x : List Bool) (bytes : List ℕ) : Type 0 where
  rows : List (List ℕ)
  stated : ℕ
  rest : List ℕ
  table : IsTable t rows
  is : bytes ≡ flat_map (row_text v) rows ++ (to_be_bytes w64 stated ++ rest)
  valid : IsValid t (value_in rows) stated x

table_rows : (v : Version) (t : Trellis) (x : List Bool) (bytes : List ℕ) (held : Tabled v t x bytes) → AreRows (states t) held.rows
table_rows v t x bytes held =
    are_rows (states t) held.rows (λ i h. held.table.states_in i (omega (arith, held.table.levels_in))) (λ i q h k. let b = held.valid.bounded i q (omega (arith, held.table.levels_in)) k in omega (arith, b))

pub clean_rows : (t : Trellis) (rows : List (List ℕ)) → AreClean t rows → AreRows (states t) rows
clean_rows t rows c = are_rows (states t) rows c.states (λ i q h k. let b = (c.clean i h).bounded q k in omega (arith, b))

stated_small : (v : Version) (t : Trellis) (x : List Bool) (bytes : List ℕ) (held : Tabled v t x bytes) → IsBounded t → length x ≡ t.levels → held.stated < 2 ^ 64
stated_small v t x bytes held fine long = omega (arith, held.valid.is_cost, fine.cost_in x long)

-- the entry's rows begin with those that were read
splits : (v : Version) (t : Trellis) (x : List Bool) (bytes : List ℕ) (held : Tabled v t x bytes) (rows : List (List ℕ)) (rest : List ℕ) → GoesOn v t bytes rows rest → length rows ≤ t.levels + 1
    → (more : List (List ℕ)) × (held.rows ≡ rows ++ more) × AreRows (states t) more × (rest ≡ flat_map (row_text v) more ++ (to_be_bytes w64 held.stated ++ held.rest))
splits v t x bytes held rows rest goes h =
    rows_inj v (states t) rows held.rows (clean_rows t rows goes.are_clean) (table_rows v t x bytes held) (omega (arith, held.table.levels_in)) _ rest (sym held.is ∙ goes.is)

no_more : (v : Version) (t : Trellis) (x : List Bool) (bytes : List ℕ) (held : Tabled v t x bytes) (rows : List (List ℕ)) (rest : List ℕ) → GoesOn v t bytes rows rest → length rows ≡ t.levels + 1
    → (held.rows ≡ rows) × (rest ≡ to_be_bytes w64 held.stated ++ held.rest)
no_more v t x bytes held rows rest goes h = none (splits v t x bytes held rows rest goes (omega arith)) where
  none : ((more : List (List ℕ)) × (held.rows ≡ rows ++ more) × AreRows (states t) more × (rest ≡ flat_map (row_text v) more ++ (to_be_bytes w64 held.stated ++ held.rest))) → (held.rows ≡ rows) × (rest ≡ to_be_bytes w64 held.stated ++ held.rest)
  none ([], e, r, is) = (e ∙ append-nil rows, is)
  none (row ∷ more, e, r, is) = absurd (omega (arith, ap length e, length-append rows (row ∷ more), held.table.levels_in))

pub row_at : (all rows more : List (List ℕ)) (row : List ℕ) → all ≡ rows ++ (row ∷ more) → row_in all (length rows) ≡ row
row_at all rows more row e = ap (λ l. row_in l (length rows)) (e ∙ sym (append_assoc rows (row ∷ []) more)) ∙ get_or_append_left (rows ++ row ∷ []) more [] (length rows) (omega (arith, length-append rows (row ∷ []))) ∙ get_or_push rows row [] (length rows) refl

pub row_under : (all rows more : List (List ℕ)) (i : ℕ) → all ≡ rows ++ more → i < length rows → row_in all i ≡ row_in rows i
row_under all rows more i e h = ap (λ l. row_in l i) e ∙ get_or_append_left rows more [] i h

no_bad_row : (t : Trellis) (x : List Bool) (all rows more : List (List ℕ)) (row : List ℕ) (stated : ℕ) → IsBounded t → IsValid t (value_in all) stated x → all ≡ rows ++ (row ∷ more) → length rows ≤ t.levels
    → (reason : CertReason) → RowReason t (length rows) (row_in rows (length rows - 1)) row reason → ⊥
no_bad_row t x all rows more row stated fine valid e few Start (first, ne) =
    ne (sym (ap (λ r. get_or r t.start 0) (row_at all rows more row e)) ∙ ap (λ i. get_or (row_in all i) t.start 0) first ∙ valid.at_start)
no_bad_row t x all rows more row stated fine valid e few (Step l q) (some, is, hq, exceeds, lowest) =
    let i = length rows in
    let here : row_in all i ≡ row = row_at all rows more row e in
    let there : row_in all (i - 1) ≡ row_in rows (i - 1) = row_under all rows (row ∷ more) (i - 1) e (omega arith) in
    let w : Exceeds t (i - 1) (row_in all (i - 1)) (row_in all i) q = subst (λ p. Exceeds t (i - 1) p (row_in all i) q) (sym there) (subst (λ r. Exceeds t (i - 1) (row_in rows (i - 1)) r q) (sym here) exceeds) in
    let n : i - 1 + 1 ≡ i = omega arith in
    let holds = valid.at_step (i - 1) w.0 w.1 (omega arith) w.2 in
    let kept = rw (w.3, n) at holds in
    absurd (omega (arith, kept, w.4))
no_bad_row t x all rows more row stated fine valid e few Cut w = absurd w
no_bad_row t x all rows more row stated fine valid e few Head w = absurd w
no_bad_row t x all rows more row stated fine valid e few Length w = absurd w
no_bad_row t x all rows more row stated fine valid e few Bound w = absurd w
no_bad_row t x all rows more row stated fine valid e few (Row l) w = absurd w
no_bad_row t x all rows more row stated fine valid e few (End q) w = absurd w
no_bad_row t x all rows more row stated fine valid e few Cost w = absurd w
no_bad_row t x all rows more row stated fine valid e few Extra w = absurd w

-- the next row of an entry has no reason
no_reason_in_row : (v : Version) (t : Trellis) (x : List Bool) (bytes : List ℕ) (reason : CertReason) → IsBounded t → Tabled v t x bytes → ReasonInRow v t bytes reason → ⊥
no_reason_in_row v t x bytes reason fine held (rows, rest, goes, few, wrong) = some (splits v t x bytes held rows rest goes (omega arith)) where
  some : ((more : List (List ℕ)) × (held.rows ≡ rows ++ more) × AreRows (states t) more × (rest ≡ flat_map (row_text v) more ++ (to_be_bytes w64 held.stated ++ held.rest))) → ⊥
  some ([], e, r, is) = absurd (omega (arith, ap length e, length-append rows [], held.table.levels_in))
  some (row ∷ more, e, r, is) = next wrong where
    after : List ℕ
    after = flat_map (row_text v) more ++ (to_be_bytes w64 held.stated ++ held.rest)

    spells : Spells v (states t) rest row after
    spells = (
      is ∙ append_assoc (row_text v row) (flat_map (row_text v) more) (to_be_bytes w64 held.stated ++ held.rest),
      r.0,
      λ q h. subst (λ l. get_or l q 0 ≤ 2 ^ 63) (row_at held.rows rows more row e) (held.valid.bounded (length rows) q few h),
    )

    next : BytesReason v t (length rows) (row_in rows (length rows - 1)) rest reason → ⊥
    next (inl k) = spelled v (states t) (length rows) rest row after spells reason k
    next (inr (row2, after2, spells2, k)) =
        let same = spells_once v (states t) rest row2 after2 row after spells2 spells in
        no_bad_row t x held.rows rows more row held.stated fine held.valid e few reason (subst (λ l. RowReason t (length rows) (row_in rows (length rows - 1)) l reason) same.0 k)

no_reason_after : (v : Version) (t : Trellis) (x : List Bool) (bytes : List ℕ) → IsBounded t → length x ≡ t.levels → Tabled v t x bytes → (reason : CertReason) → ReasonAfter v t (cost t x) bytes reason → ⊥
no_reason_after v t x bytes fine long held Cut (inl cut) = no_reason_in_row v t x bytes Cut fine held cut
no_reason_after v t x bytes fine long held Cut (inr (rows, rest, goes, n, short)) =
    let w = no_more v t x bytes held rows rest goes n in
    absurd (omega (arith, ap length w.1, length-append (to_be_bytes w64 held.stated) held.rest))
no_reason_after v t x bytes fine long held Bound w = no_reason_in_row v t x bytes Bound fine held w
no_reason_after v t x bytes fine long held (Row l) w = no_reason_in_row v t x bytes (Row l) fine held w
no_reason_after v t x bytes fine long held Start w = no_reason_in_row v t x bytes Start fine held w
no_reason_after v t x bytes fine long held (Step l q) w = no_reason_in_row v t x bytes (Step l q) fine held w
no_reason_after v t x bytes fine long held Cost (rows, stated, (rest, goes, n, small), ne) =
    let w = no_more v t x bytes held rows _ goes n in
    let same = number_inj stated held.stated small (stated_small v t x bytes held fine long) rest held.rest w.1 in
    ne (same.0 ∙ held.valid.is_cost)
no_reason_after v t x bytes fine long held (End q) (rows, (rest, goes, n, small), hq, low, lowest) =
    let w = no_more v t x bytes held rows _ goes n in
    let k = held.valid.at_end q hq in
    let k2 = subst (λ rs. held.stated ≤ value_in rs t.levels q + t.tail q) w.0 k in
    absurd (omega (arith, k2, low, held.valid.is_cost))
no_reason_after v t x bytes fine long held Head w = absurd w
no_reason_after v t x bytes fine long held Length w = absurd w
no_reason_after v t x bytes fine long held Extra w = absurd w

-- the bytes have a reason only where they begin with no valid entry
pub no_entry : (v : Version) (t : Trellis) (cue channel : ℕ) (x : List Bool) (bytes : List ℕ) (reason : CertReason) → IsBounded t → length x ≡ t.levels → cue < 2 ^ 16 → channel < 2 ^ 16 → t.levels < 2 ^ 16
    → FirstReason v t cue channel (cost t x) bytes reason → BeginsValid v t cue channel x bytes → ⊥
no_entry v t cue channel x bytes reason fine long hc hk hl first (entry, rest, whole, (rows, stated, table, valid, is)) =
    let tail = flat_map (row_text v) rows ++ (to_be_bytes w64 stated ++ rest) in
    let e : bytes ≡ entry_start cue channel t.levels ++ tail =
    whole ∙ ap (λ l. l ++ rest) is ∙ append_assoc (entry_start cue channel t.levels) (flat_map (row_text v) rows ++ to_be_bytes w64 stated) rest
    ∙ ap (λ l. entry_start cue channel t.levels ++ l) (append_assoc (flat_map (row_text v) rows) (to_be_bytes w64 stated) rest) in
    elim first [
      | inl w ↦ starts reason w tail e
      | inr w ↦
          let same = start_inj cue channel t.levels cue channel t.levels hc hk hl hc hk hl tail w.0 (sym e ∙ w.1) in
          no_reason_after v t x w.0 fine long (record { rows = rows; stated = stated; rest = rest; table = table; is = sym same.3; valid = valid }) reason w.2
    ] where
      starts : (reason : CertReason) → StartReason cue channel t.levels bytes reason → (tail : List ℕ) → bytes ≡ entry_start cue channel t.levels ++ tail → ⊥
      starts Cut short tail e = absurd (omega (arith, short, ap length e, length-append (entry_start cue channel t.levels) tail))
      starts Head (c, k, n, r, is, fc, fk, fn, ne) tail e =
          let same = start_inj c k n cue channel t.levels fc fk fn hc hk hl r tail (sym is ∙ e) in
          elim ne [ inl a ↦ a same.0 | inr b ↦ b same.1 ]
      starts Length (n, r, is, fn, ne) tail e =
          let same = start_inj cue channel n cue channel t.levels hc hk fn hc hk hl r tail (sym is ∙ e) in ne same.2
      starts Bound w tail e = absurd w
      starts (Row l) w tail e = absurd w
      starts Start w tail e = absurd w
      starts (Step l q) w tail e = absurd w
      starts (End q) w tail e = absurd w
      starts Cost w tail e = absurd w
      starts Extra w tail e = absurd w
