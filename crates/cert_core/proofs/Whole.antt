-- An entry as a whole: its start, its rows and its end.
use Rattle.std.proofs.Common.{◌≡◌, ℕ, ◌+◌, ◌^◌, ◌<◌, ◌≤◌, Bool, List, ◌++◌, Option, Result, Ok, Err, IfOk, refl, sym, ap, ◌∙◌, subst, length, get_or, inl, inr, arith}
use Rattle.std.specs.List.{flat_map}
use Rattle.std.specs.Int.{w64, to_be_bytes}
use Rattle.std.specs.Io.KnownBytes.{Consumes}
use Rattle.std.proofs.KnownBytes.{Consumes-trans}
use Rattle.cert_core.specs.Spelling.{row_text}
use Rattle.cert_core.specs.declared.version.Version.{Version}
use Rattle.cost_core.specs.Trellis.{Trellis, states, cost}
use Rattle.cost_core.specs.Tables.{row_in, value_in, IsTable}
use Rattle.cert_core.specs.Reasons.{RowBounded}
use Rattle.cost_core.specs.Bridges.{Bridging, IsLeastBridge}
use Rattle.cost_core.specs.Limits.{IsBridging}
use Rattle.cost_core.specs.StateCosts.{trellis_of}
use Rattle.cost_core.proofs.Leasts.{least_from_valid}
use Rattle.cert_core.proofs.Steps.{valid_from_clean}
use Rattle.cert_core.specs.declared.verdict.CertReason.{CertReason}
use Rattle.cert_core.specs.declared.verdict.CertReason.TheVariants.{Cut, Head, Length, Bound, Row, Start, Step, End, Cost, Extra}
use Rattle.cert_core.specs.declared.stop.Stop.{Stop}
use Rattle.cert_core.specs.Text.{entry_start, cert_entry}
use Rattle.cert_core.specs.Reasons.{AreClean, EndReason, ReasonAfter, ReasonInRow, FirstReason, StartReason}
use Rattle.cert_core.specs.Stops.{InEnd, InEntry, InRows, InStart, ReadsRows}
use Rattle.cert_core.specs.Entries.{ReadsEntry}
use Rattle.cert_core.proofs.Consuming.{before, if_some}

pub last_long : (v : Version) (t : Trellis) (a b : Option (List ℕ)) (last : List ℕ) → ReadsRows v t a b last → length last ≡ states t
last_long v t a b last (rows, consumed, clean, n, e) = ap length e ∙ clean.states t.levels (omega arith)

pub last_bounded : (v : Version) (t : Trellis) (a b : Option (List ℕ)) (last : List ℕ) → ReadsRows v t a b last → RowBounded t last
last_bounded v t a b last (rows, consumed, clean, n, e) = subst (RowBounded t) (sym e) (clean.clean t.levels (omega arith)).bounded

pub entry_read : (v : Version) (r : Result ℕ Stop) (t : Trellis) (cue channel found : ℕ) (x : List Bool) (a b c d : Option (List ℕ)) (last : List ℕ)
    → Consumes a b (entry_start cue channel t.levels) → ReadsRows v t b c last → found ≡ cost t x
    → IfOk r (λ v. Consumes c d (to_be_bytes w64 v)) → IfOk r (λ v. v ≡ found) → IfOk r (λ v. (q : ℕ) → q < states t → v ≤ get_or last q 0 + t.tail q)
    → IfOk r (λ _. ReadsEntry v t cue channel x a d)
entry_read v (Err e) t cue channel found x a b c d last p q is k ec ends = tt
entry_read v (Ok stated) t cue channel found x a b c d last p (rows, consumed, clean, n, e) is k ec ends =
    let ends2 : (q : ℕ) → q < states t → stated ≤ get_or (row_in rows t.levels) q 0 + t.tail q = subst (λ l. (q : ℕ) → q < states t → stated ≤ get_or l q 0 + t.tail q) e ends in
    let table : IsTable t rows = record { levels_in = n; states_in = λ i h. clean.states i (omega arith) } in (
      cert_entry v (record { cue = cue; channel = channel; levels = t.levels; rows = rows; cost = stated }),
      Consumes-trans a b d _ _ p (Consumes-trans b c d _ _ consumed k),
      (rows, stated, table, valid_from_clean t rows clean n stated ends2 x (ec ∙ is), refl),
    )

pub entry_least : (v : Version) (d : Bridging) (cue channel : ℕ) (x : List Bool) (a b : Option (List ℕ)) → IsBridging d → length x ≡ d.levels → ReadsEntry v (trellis_of d) cue channel x a b → IsLeastBridge d x
entry_least v d cue channel x a b fine long (entry, consumed, (rows, stated, table, valid, is)) = least_from_valid d (value_in rows) stated x fine long valid

-- a first reason in the rows is one after the start
rows_after : (v : Version) (t : Trellis) (found : ℕ) (bytes : List ℕ) (reason : CertReason) → ReasonInRow v t bytes reason → ReasonAfter v t found bytes reason
rows_after v t found bytes Cut w = inl w
rows_after v t found bytes Bound w = w
rows_after v t found bytes (Row l) w = w
rows_after v t found bytes Start w = w
rows_after v t found bytes (Step l q) w = w
rows_after v t found bytes Head (rows, rest, goes, few, inl k) = absurd k
rows_after v t found bytes Head (rows, rest, goes, few, inr (row, after, spells, k)) = absurd k
rows_after v t found bytes Length (rows, rest, goes, few, inl k) = absurd k
rows_after v t found bytes Length (rows, rest, goes, few, inr (row, after, spells, k)) = absurd k
rows_after v t found bytes (End q) (rows, rest, goes, few, inl k) = absurd k
rows_after v t found bytes (End q) (rows, rest, goes, few, inr (row, after, spells, k)) = absurd k
rows_after v t found bytes Cost (rows, rest, goes, few, inl k) = absurd k
rows_after v t found bytes Cost (rows, rest, goes, few, inr (row, after, spells, k)) = absurd k
rows_after v t found bytes Extra (rows, rest, goes, few, inl k) = absurd k
rows_after v t found bytes Extra (rows, rest, goes, few, inr (row, after, spells, k)) = absurd k

-- a reason in the start of an entry is its first
pub start_first : (v : Version) (t : Trellis) (cue channel levels found : ℕ) (a : Option (List ℕ)) → levels ≡ t.levels → (reason : CertReason) → InStart a cue channel levels reason → InEntry v t cue channel found a reason
start_first v t cue channel levels found a e reason is = if_some a _ _ (λ bytes s. inl (subst (λ n. StartReason cue channel n bytes reason) e s)) is

pub rows_first : (v : Version) (t : Trellis) (cue channel found : ℕ) (a b : Option (List ℕ)) → Consumes a b (entry_start cue channel t.levels) → (reason : CertReason) → InRows v t b reason → InEntry v t cue channel found a reason
rows_first v t cue channel found a b consumed reason w =
    before (λ bytes. ReasonInRow v t bytes reason) (λ bytes. FirstReason v t cue channel found bytes reason) a b (entry_start cue channel t.levels) consumed (λ rest k. inr (rest, refl, rows_after v t found rest reason k)) w

end_after : (v : Version) (t : Trellis) (found : ℕ) (rows : List (List ℕ)) (bytes : List ℕ) → found < 2 ^ 64 → AreClean t rows → length rows ≡ t.levels + 1
    → (reason : CertReason) → EndReason t (row_in rows t.levels) found bytes reason → ReasonAfter v t found (flat_map (row_text v) rows ++ bytes) reason
end_after v t found rows bytes small clean n Cut w = inr (rows, bytes, record { is = refl; are_clean = clean }, n, w)
end_after v t found rows bytes small clean n Cost (stated, rest, is, fits, ne) =
    (rows, stated, (rest, record { is = ap (λ l. flat_map (row_text v) rows ++ l) is; are_clean = clean }, n, fits), ne)
end_after v t found rows bytes small clean n (End q) (rest, is, hq, lt, low) =
    (rows, (rest, record { is = ap (λ l. flat_map (row_text v) rows ++ l) is; are_clean = clean }, n, small), hq, lt, low)
end_after v t found rows bytes small clean n Head w = absurd w
end_after v t found rows bytes small clean n Length w = absurd w
end_after v t found rows bytes small clean n Bound w = absurd w
end_after v t found rows bytes small clean n (Row l) w = absurd w
end_after v t found rows bytes small clean n Start w = absurd w
end_after v t found rows bytes small clean n (Step l q) w = absurd w
end_after v t found rows bytes small clean n Extra w = absurd w

pub end_first : (v : Version) (t : Trellis) (cue channel found : ℕ) (a b c : Option (List ℕ)) (last : List ℕ) → found < 2 ^ 64 → Consumes a b (entry_start cue channel t.levels) → ReadsRows v t b c last
    → (reason : CertReason) → InEnd t last found c reason → InEntry v t cue channel found a reason
end_first v t cue channel found a b c last small consumed (rows, read, clean, n, e) reason w =
    let bytes_of : (rest : List ℕ) → EndReason t last found rest reason → ReasonAfter v t found (flat_map (row_text v) rows ++ rest) reason =
    λ rest k. end_after v t found rows rest small clean n reason (subst (λ l. EndReason t l found rest reason) e k) in
    before (λ rest. ReasonAfter v t found rest reason) (λ bytes. FirstReason v t cue channel found bytes reason) a b (entry_start cue channel t.levels) consumed
    (λ rest k. inr (rest, refl, k))
    (before (λ rest. EndReason t last found rest reason) (λ bytes. ReasonAfter v t found bytes reason) b c (flat_map (row_text v) rows) read bytes_of w)
