-- The rows of an entry, read one after another.
use Rattle.std.proofs.Common.{◌≡◌, ℕ, ◌+◌, ◌-◌, ◌<◌, ◌≤◌, List, [], ◌∷◌, ◌++◌, Option, IfSome, refl, sym, ap, ◌∙◌, subst, length, inl, inr, arith}
use Rattle.std.specs.List.{flat_map}
use Rattle.std.proofs.lemmas.List.{length-append, append-nil}
use Rattle.std.proofs.lemmas.Grind.{flat_map-append}
use Rattle.std.proofs.lemmas.List.{get_or_append_left, get_or_push}
use Rattle.std.proofs.lemmas.Bool.{cases_lt}
use Rattle.std.specs.Io.KnownBytes.{Consumes}
use Rattle.std.proofs.KnownBytes.{Consumes-trans, Consumes-nil}
use Rattle.cert_core.specs.Spelling.{row_text}
use Rattle.cert_core.specs.declared.version.Version.{Version}
use Rattle.cost_core.specs.Trellis.{Trellis, states}
use Rattle.cost_core.specs.Tables.{row_in}
use Rattle.cert_core.specs.Reasons.{RowBounded}
use Rattle.cert_core.specs.declared.verdict.CertReason.{CertReason}
use Rattle.cert_core.specs.declared.verdict.CertReason.TheVariants.{Cut, Head, Length, Bound, Row, Start, Step, End, Cost, Extra}
use Rattle.cert_core.specs.Reasons.{BytesReason, ReasonInRow, RowClean, RowReason, AreClean, SpellingReason}
use Rattle.cert_core.specs.Stops.{InRows, InSpelling, ReadsRows}
use Rattle.cert_core.proofs.Consuming.{before, after, if_some}

pub record RowsSoFar (v : Version) (t : Trellis) (old new : Option (List ℕ)) (level : ℕ) (previous : List ℕ) : Type 0 where
  pub rows : List (List ℕ)
  pub consumed : Consumes old new (flat_map (row_text v) rows)
  pub are_clean : AreClean t rows
  pub as_many : length rows ≡ level
  pub last : 0 < level → previous ≡ row_in rows (level - 1)
  pub long : length previous ≡ states t

pub RowsSoFar-none : (v : Version) (t : Trellis) (old : Option (List ℕ)) (previous : List ℕ) → length previous ≡ states t → RowsSoFar v t old old 0 previous
RowsSoFar-none v t old previous long = record {
  rows = [];
  consumed = Consumes-nil old;
  are_clean = record { states = λ i h. absurd (omega arith); clean = λ i h. absurd (omega arith) };
  as_many = refl;
  last = λ h. absurd (omega arith);
  long = long;
}

-- the row before, as the list of rows has it
clean_in : (t : Trellis) (level : ℕ) (p p2 row : List ℕ) → (0 < level → p ≡ p2) → RowClean t level p row → RowClean t level p2 row
clean_in t level p p2 row e c = record {
  bounded = c.bounded;
  start = c.start;
  steps = λ h. let s = c.steps h in rw (e h) at s;
}

reason_in : (t : Trellis) (level : ℕ) (p p2 row : List ℕ) → (0 < level → p ≡ p2) → (reason : CertReason) → RowReason t level p row reason → RowReason t level p2 row reason
reason_in t level p p2 row e Start w = w
reason_in t level p p2 row e (Step l q) w = let k = e w.0 in rw k at w
reason_in t level p p2 row e Cut w = absurd w
reason_in t level p p2 row e Head w = absurd w
reason_in t level p p2 row e Length w = absurd w
reason_in t level p p2 row e Bound w = absurd w
reason_in t level p p2 row e (Row l) w = absurd w
reason_in t level p p2 row e (End q) w = absurd w
reason_in t level p p2 row e Cost w = absurd w
reason_in t level p p2 row e Extra w = absurd w

row_before : (rows : List (List ℕ)) (row : List ℕ) (i : ℕ) → i < length rows → row_in (rows ++ row ∷ []) i ≡ row_in rows i
row_before rows row i h = get_or_append_left rows (row ∷ []) [] i h

row_last : (rows : List (List ℕ)) (row : List ℕ) (i : ℕ) → i ≡ length rows → row_in (rows ++ row ∷ []) i ≡ row
row_last rows row i h = get_or_push rows row [] i (sym h)

clean_more : (t : Trellis) (rows : List (List ℕ)) (row : List ℕ) → AreClean t rows → length row ≡ states t → RowClean t (length rows) (row_in rows (length rows - 1)) row → AreClean t (rows ++ row ∷ [])
clean_more t rows row c long last =
    let n : length (rows ++ row ∷ []) ≡ length rows + 1 = length-append rows (row ∷ []) in
    record {
      states = λ i h. elim (cases_lt i (length rows)) [
        | inl lt ↦ ap length (row_before rows row i lt) ∙ c.states i lt
        | inr ge ↦ ap length (row_last rows row i (omega arith)) ∙ long
      ];
      clean = λ i h. elim (cases_lt i (length rows)) [
        | inl lt ↦
            let e = row_before rows row i lt in
            let e2 = row_before rows row (i - 1) (omega arith) in
            let k = c.clean i lt in
            clean_in t i _ _ _ (λ _. sym e2) (subst (RowClean t i (row_in rows (i - 1))) (sym e) k)
        | inr ge ↦
            let is : i ≡ length rows = omega arith in
            let e = row_last rows row i is in
            let k : RowClean t i (row_in rows (i - 1)) row = subst (λ j. RowClean t j (row_in rows (j - 1)) row) (sym is) last in
            clean_in t i _ _ _ (λ some. sym (row_before rows row (i - 1) (omega arith))) (subst (RowClean t i (row_in rows (i - 1))) (sym e) k)
      ];
    }

at_level : (t : Trellis) (rows : List (List ℕ)) (level : ℕ) (previous row : List ℕ) → length rows ≡ level → (0 < level → previous ≡ row_in rows (level - 1)) → RowClean t level previous row → RowClean t (length rows) (row_in rows (length rows - 1)) row
at_level t rows level previous row n e c =
    subst (λ j. RowClean t j (row_in rows (j - 1)) row) (sym n) (clean_in t level previous (row_in rows (level - 1)) row e c)

pub RowsSoFar-more : (v : Version) (t : Trellis) (a b c : Option (List ℕ)) (level : ℕ) (previous row : List ℕ) → RowsSoFar v t a b level previous → Consumes b c (row_text v row) → length row ≡ states t → RowClean t level previous row → RowsSoFar v t a c (level + 1) row
RowsSoFar-more v t a b c level previous row so consumed long clean = record {
  rows = so.rows ++ row ∷ [];
  consumed = subst (Consumes a c) (ap (λ l. flat_map (row_text v) so.rows ++ l) (sym (append-nil (row_text v row))) ∙ sym (flat_map-append (row_text v) so.rows (row ∷ []))) (Consumes-trans a b c _ _ so.consumed consumed);
  are_clean = clean_more t so.rows row so.are_clean long (at_level t so.rows level previous row so.as_many so.last clean);
  as_many = length-append so.rows (row ∷ []) ∙ ap (λ n. n + 1) so.as_many;
  last = λ _. sym (row_last so.rows row (level + 1 - 1) (omega (arith, so.as_many)));
  long = long;
}

pub RowsSoFar-bounded : (v : Version) (t : Trellis) (a b : Option (List ℕ)) (level : ℕ) (previous : List ℕ) → RowsSoFar v t a b level previous → 0 < level → RowBounded t previous
RowsSoFar-bounded v t a b level previous so h =
    let k = (so.are_clean.clean (level - 1) (omega (arith, so.as_many))).bounded in
    subst (RowBounded t) (sym (so.last h)) k

pub RowsSoFar-all : (v : Version) (t : Trellis) (a b : Option (List ℕ)) (level : ℕ) (previous : List ℕ) → RowsSoFar v t a b level previous → level ≡ t.levels + 1 → ReadsRows v t a b previous
RowsSoFar-all v t a b level previous so e =
    let n : level - 1 ≡ t.levels = omega arith in
    (so.rows, so.consumed, so.are_clean, so.as_many ∙ e, so.last (omega arith) ∙ ap (row_in so.rows) n)

-- what is wrong first from the row of a level on
at_place : (v : Version) (t : Trellis) (a b : Option (List ℕ)) (level : ℕ) (previous : List ℕ) → RowsSoFar v t a b level previous → level ≤ t.levels
    → (reason : CertReason) → IfSome b (λ bytes. BytesReason v t level previous bytes reason) → InRows v t a reason
at_place v t a b level previous so h reason w =
    let e = so.as_many in
    let moved : (bytes : List ℕ) → BytesReason v t level previous bytes reason → BytesReason v t (length so.rows) (row_in so.rows (length so.rows - 1)) bytes reason =
    λ bytes k. subst (λ j. BytesReason v t j (row_in so.rows (j - 1)) bytes reason) (sym e) (bytes_in v t level previous (row_in so.rows (level - 1)) so.last bytes reason k) in
    before (λ rest. BytesReason v t level previous rest reason) (λ bytes. ReasonInRow v t bytes reason) a b (flat_map (row_text v) so.rows) so.consumed
    (λ rest k. (so.rows, rest, record { is = refl; are_clean = so.are_clean }, omega (arith, e), moved rest k)) w
  where
    bytes_in : (v : Version) (t : Trellis) (level : ℕ) (p p2 : List ℕ) → (0 < level → p ≡ p2) → (bytes : List ℕ) (reason : CertReason) → BytesReason v t level p bytes reason → BytesReason v t level p2 bytes reason
    bytes_in v t level p p2 e bytes reason (inl k) = inl k
    bytes_in v t level p p2 e bytes reason (inr (row, rest, spells, k)) = inr (row, rest, spells, reason_in t level p p2 row e reason k)

pub RowsSoFar-spelling : (v : Version) (t : Trellis) (a b : Option (List ℕ)) (level : ℕ) (previous : List ℕ) (n : ℕ) → RowsSoFar v t a b level previous → level ≤ t.levels → n ≡ states t
    → (reason : CertReason) → InSpelling v n level b reason → InRows v t a reason
RowsSoFar-spelling v t a b level previous n so h en reason w =
    at_place v t a b level previous so h reason (if_some b (λ bytes. SpellingReason v n level bytes reason) (λ bytes. BytesReason v t level previous bytes reason) (λ bytes k. inl (subst (λ m. SpellingReason v m level bytes reason) en k)) w)

pub RowsSoFar-fault : (v : Version) (t : Trellis) (a b c : Option (List ℕ)) (level : ℕ) (previous row : List ℕ) → RowsSoFar v t a b level previous → Consumes b c (row_text v row) → length row ≡ states t → level ≤ t.levels → RowBounded t row
    → (reason : CertReason) → RowReason t level previous row reason → InRows v t a reason
RowsSoFar-fault v t a b c level previous row so consumed long h bounded reason w =
    at_place v t a b level previous so h reason (after (λ bytes. BytesReason v t level previous bytes reason) b c (row_text v row) consumed (λ rest. inr (row, rest, (refl, long, bounded), w)))
