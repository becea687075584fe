-- The first reason why bytes don't begin with an entry that shows bits to be least.
use Rattle.std.specs.Prelude.{◌≡◌, ◌≢◌, ℕ, ◌+◌, ◌-◌, ◌^◌, ◌<◌, ◌≤◌, ◌⊎◌, Bool, List, ◌++◌, length, flat_map, slice_index_or, Option, MatchOption}
use Rattle.std.specs.Int.{w64, to_be_bytes}
use Rattle.cost_core.specs.Trellis.{Trellis, states, next}
use Rattle.cert_core.specs.declared.verdict.CertReason.{CertReason}
use Rattle.cert_core.specs.declared.verdict.CertReason.TheVariants.{Cut, Head, Length, Bound, Row, Start, Step, End, Cost, Extra}
use Rattle.cost_core.specs.Tables.{row_in, value_in}
use Rattle.cert_core.specs.Spelling.{row_text, HoldsRow, IsCutRow, IsTooWide}
use Rattle.cert_core.specs.Text.{entry_start, cert_head}
use Rattle.cert_core.specs.declared.version.Version.{Version}

-- no value of a row of m is above 2 ^ 63
abbrev pub Bounded : ℕ → List ℕ → Type 0
Bounded m row = (q : ℕ) → q < m → slice_index_or row q 0 ≤ 2 ^ 63

-- no value of a row is above 2 ^ 63
abbrev pub RowBounded : Trellis → List ℕ → Type 0
RowBounded t row = Bounded (states t) row

-- the bytes begin with the row, of m values up to 2 ^ 63, spelled as the version spells it, and continue with the rest
abbrev pub Spells : Version → ℕ → List ℕ → List ℕ → List ℕ → Type 0
Spells v m bytes row rest = (bytes ≡ row_text v row ++ rest) × (length row ≡ m) × Bounded m row

-- why the bytes don't begin with a row of m values for the level: they end too early, or the width is above eight, or a
-- value is above 2 ^ 63, or the row isn't spelled as the version spells it
abbrev pub SpellingReason : Version → ℕ → ℕ → List ℕ → CertReason → Type 0
SpellingReason v m level bytes Cut = IsCutRow v m bytes
SpellingReason v m level bytes Bound = (row : List ℕ) × (rest : List ℕ) × HoldsRow v m bytes row rest × ((q : ℕ) × (q < m) × (2 ^ 63 < slice_index_or row q 0))
SpellingReason v m level bytes (Row l) = (l ≡ level) × (IsTooWide v bytes ⊎ ((row : List ℕ) × (rest : List ℕ) × HoldsRow v m bytes row rest × Bounded m row × (bytes ≢ row_text v row ++ rest)))
SpellingReason v m level bytes Head = ⊥
SpellingReason v m level bytes Length = ⊥
SpellingReason v m level bytes Start = ⊥
SpellingReason v m level bytes (Step l q) = ⊥
SpellingReason v m level bytes (End q) = ⊥
SpellingReason v m level bytes Cost = ⊥
SpellingReason v m level bytes Extra = ⊥

-- the value of state q exceeds that of a state of the row before it plus the cost of a step from there to q
abbrev pub Exceeds : Trellis → ℕ → List ℕ → List ℕ → ℕ → Type 0
Exceeds t level previous row q = (p : ℕ) × (bit : Bool) × (p < states t) × (next t.width p bit ≡ q) × (slice_index_or previous p 0 + t.step level p bit < slice_index_or row q 0)

-- nothing is wrong with the row of a level
pub record RowClean (t : Trellis) (level : ℕ) (previous row : List ℕ) : Type 0 where
  pub bounded : RowBounded t row
  pub start : level ≡ 0 → slice_index_or row t.start 0 ≡ 0
  pub steps : 0 < level → (q : ℕ) → q < states t → Exceeds t (level - 1) previous row q → ⊥

-- what is wrong first with the values of a row of a level, none of which is above 2 ^ 63
abbrev pub RowReason : Trellis → ℕ → List ℕ → List ℕ → CertReason → Type 0
RowReason t level previous row Start = (level ≡ 0) × (slice_index_or row t.start 0 ≢ 0)
RowReason t level previous row (Step l q) = (0 < level) × (l ≡ level) × (q < states t) × Exceeds t (level - 1) previous row q
    × ((k : ℕ) → k < q → Exceeds t (level - 1) previous row k → ⊥)
RowReason t level previous row Cut = ⊥
RowReason t level previous row Head = ⊥
RowReason t level previous row Length = ⊥
RowReason t level previous row Bound = ⊥
RowReason t level previous row (Row l) = ⊥
RowReason t level previous row (End q) = ⊥
RowReason t level previous row Cost = ⊥
RowReason t level previous row Extra = ⊥

-- what is wrong first with the row of a level, or none if nothing is
abbrev pub FindsRowReason : Trellis → ℕ → List ℕ → List ℕ → Option CertReason → Type 0
FindsRowReason t level previous row found = MatchOption found (RowClean t level previous row) (RowReason t level previous row)

-- rows of the first levels, in which nothing is wrong
pub record AreClean (t : Trellis) (rows : List (List ℕ)) : Type 0 where
  pub states : (level : ℕ) → level < length rows → length (row_in rows level) ≡ states t
  pub clean : (level : ℕ) → level < length rows → RowClean t level (row_in rows (level - 1)) (row_in rows level)

-- the first reason in the bytes from the row of a level on, after the row before it
abbrev pub BytesReason : Version → Trellis → ℕ → List ℕ → List ℕ → CertReason → Type 0
BytesReason v t level previous bytes reason = SpellingReason v (states t) level bytes reason
    ⊎ ((row : List ℕ) × (rest : List ℕ) × Spells v (states t) bytes row rest × RowReason t level previous row reason)

-- the bytes begin with rows of the first levels, in which nothing is wrong, and go on with the rest
pub record GoesOn (v : Version) (t : Trellis) (bytes : List ℕ) (rows : List (List ℕ)) (rest : List ℕ) : Type 0 where
  pub is : bytes ≡ flat_map (row_text v) rows ++ rest
  pub are_clean : AreClean t rows

-- after clean rows the next one has this reason first
abbrev pub ReasonInRow : Version → Trellis → List ℕ → CertReason → Type 0
ReasonInRow v t bytes reason = (rows : List (List ℕ)) × (rest : List ℕ) × GoesOn v t bytes rows rest
    × (length rows ≤ t.levels) × BytesReason v t (length rows) (row_in rows (length rows - 1)) rest reason

-- after clean rows of all levels there are too few bytes for the cost
abbrev pub CutInCost : Version → Trellis → List ℕ → Type 0
CutInCost v t bytes = (rows : List (List ℕ)) × (rest : List ℕ) × GoesOn v t bytes rows rest × (length rows ≡ t.levels + 1) × (length rest < 8)

-- after clean rows of all levels this cost is stated
abbrev pub States : Version → Trellis → List ℕ → List (List ℕ) → ℕ → Type 0
States v t bytes rows stated = (rest : List ℕ) × GoesOn v t bytes rows (to_be_bytes w64 stated ++ rest) × (length rows ≡ t.levels + 1) × (stated < 2 ^ 64)

-- the first reason in the bytes after an entry's start, if the given bits cost `found`
abbrev pub ReasonAfter : Version → Trellis → ℕ → List ℕ → CertReason → Type 0
ReasonAfter v t found bytes Cut = ReasonInRow v t bytes Cut ⊎ CutInCost v t bytes
ReasonAfter v t found bytes Bound = ReasonInRow v t bytes Bound
ReasonAfter v t found bytes (Row l) = ReasonInRow v t bytes (Row l)
ReasonAfter v t found bytes Start = ReasonInRow v t bytes Start
ReasonAfter v t found bytes (Step l q) = ReasonInRow v t bytes (Step l q)
ReasonAfter v t found bytes Cost = (rows : List (List ℕ)) × (stated : ℕ) × States v t bytes rows stated × (stated ≢ found)
ReasonAfter v t found bytes (End q) = (rows : List (List ℕ)) × States v t bytes rows found × (q < states t)
    × (value_in rows t.levels q + t.tail q < found) × ((k : ℕ) → k < q → found ≤ value_in rows t.levels k + t.tail k)
ReasonAfter v t found bytes Head = ⊥
ReasonAfter v t found bytes Length = ⊥
ReasonAfter v t found bytes Extra = ⊥

-- the first reason in an entry's start
abbrev pub StartReason : ℕ → ℕ → ℕ → List ℕ → CertReason → Type 0
StartReason cue channel levels bytes Cut = length bytes < 6
StartReason cue channel levels bytes Head = (c : ℕ) × (k : ℕ) × (n : ℕ) × (rest : List ℕ) × (bytes ≡ entry_start c k n ++ rest)
    × (c < 2 ^ 16) × (k < 2 ^ 16) × (n < 2 ^ 16) × ((c ≢ cue) ⊎ (k ≢ channel))
StartReason cue channel levels bytes Length = (n : ℕ) × (rest : List ℕ) × (bytes ≡ entry_start cue channel n ++ rest) × (n < 2 ^ 16) × (n ≢ levels)
StartReason cue channel levels bytes Bound = ⊥
StartReason cue channel levels bytes (Row l) = ⊥
StartReason cue channel levels bytes Start = ⊥
StartReason cue channel levels bytes (Step l q) = ⊥
StartReason cue channel levels bytes (End q) = ⊥
StartReason cue channel levels bytes Cost = ⊥
StartReason cue channel levels bytes Extra = ⊥

-- the first reason in the bytes of an entry, if the given bits cost `found`: in the entry's start, or after a right one
abbrev pub FirstReason : Version → Trellis → ℕ → ℕ → ℕ → List ℕ → CertReason → Type 0
FirstReason v t cue channel found bytes reason = StartReason cue channel t.levels bytes reason
    ⊎ ((after : List ℕ) × (bytes ≡ entry_start cue channel t.levels ++ after) × ReasonAfter v t found after reason)

-- the first reason from the cost on, after a clean last row
abbrev pub EndReason : Trellis → List ℕ → ℕ → List ℕ → CertReason → Type 0
EndReason t last found bytes Cut = length bytes < 8
EndReason t last found bytes Cost = (stated : ℕ) × (rest : List ℕ) × (bytes ≡ to_be_bytes w64 stated ++ rest) × (stated < 2 ^ 64) × (stated ≢ found)
EndReason t last found bytes (End q) = (rest : List ℕ) × (bytes ≡ to_be_bytes w64 found ++ rest) × (q < states t)
    × (slice_index_or last q 0 + t.tail q < found) × ((k : ℕ) → k < q → found ≤ slice_index_or last k 0 + t.tail k)
EndReason t last found bytes Head = ⊥
EndReason t last found bytes Length = ⊥
EndReason t last found bytes Bound = ⊥
EndReason t last found bytes (Row l) = ⊥
EndReason t last found bytes Start = ⊥
EndReason t last found bytes (Step l q) = ⊥
EndReason t last found bytes Extra = ⊥

-- the first reason in a head: fewer than twelve bytes, or others than those of the expected head in each version
abbrev pub HeadReason : ℕ → ℕ → List ℕ → CertReason → Type 0
HeadReason weights entries bytes reason = ((reason ≡ Cut) × (length bytes < 12))
    ⊎ ((reason ≡ Head) × ((prefix : List ℕ) × (rest : List ℕ) × (bytes ≡ prefix ++ rest) × (length prefix ≡ 12) × ((v : Version) → prefix ≢ cert_head v weights entries)))
