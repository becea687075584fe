-- The parts of a certificate make the whole.
use Rattle.std.proofs.Common.{◌≡◌, ℕ, suc, Bool, List, [], ◌∷◌, ◌++◌, refl, sym, ap, ◌∙◌, subst, append_assoc, length, drop, get_or, arith}
use Rattle.std.proofs.lemmas.List.{length-append, append-nil}
use Rattle.std.proofs.lemmas.Grind.{flat_map-append}
use Rattle.std.specs.List.{flat_map}
use Rattle.std.specs.Int.{w64, to_be_bytes}
use Rattle.std.specs.Io.KnownBytes.{Appends}
use Rattle.std.proofs.KnownBytes.{Appends-trans}
use Rattle.cost_core.specs.Tables.{IsTable, value_in}
use Rattle.cost_core.specs.Validity.{IsValid}
use Rattle.cost_core.specs.Trellis.{Trellis, states}
use Rattle.cost_core.specs.StateCosts.{trellis_of}
use Rattle.cost_core.proofs.Leasts.{least_from_valid}
use Rattle.cert_core.specs.Certificates.{Claim, Shows, ShowsAll, IsEntryOf, AreEntries}
use Rattle.cert_core.specs.Composing.{PartsAreEntry, EntriesJoin, HeadAndEntries, ShownIsRead, ReadIsCert, CertHasHead, CertIsRead, ReadMore, NextIsRead, NothingFollows, ShownIsLeast}
use Rattle.cert_core.specs.Spelling.{row_text}
use Rattle.cert_core.specs.Text.{Entry, entry_start, cert_entry, cert_head}
use Rattle.cert_core.specs.declared.version.Version.{Version}
use Rattle.cert_core.specs.declared.version.Version.TheVariants.{One, Two}
use Rattle.cert_core.proofs.Held.{AreRows, are_rows, rows_inj}

pub parts_are_entry : PartsAreEntry
parts_are_entry v a b c d e p q r = Appends-trans a b d _ _ p (Appends-trans b c d _ _ q r)

pub entries_join : EntriesJoin
entries_join v a b c entries e p q =
    let is : flat_map (cert_entry v) (entries ++ e ∷ []) ≡ flat_map (cert_entry v) entries ++ cert_entry v e = flat_map-append (cert_entry v) entries (e ∷ []) ∙ ap (λ l. flat_map (cert_entry v) entries ++ l) (append-nil (cert_entry v e)) in
    subst (Appends a c) (sym is) (Appends-trans a b c _ _ p q)

pub head_and_entries : HeadAndEntries
head_and_entries v a b c weights entries p q = Appends-trans a b c _ _ p q

-- an entry by the parts of a claim is the entry itself
entry_is : (v : Version) (claim : Claim) (e : Entry) → Shows claim e → IsEntryOf v claim (cert_entry v e)
entry_is v claim e s =
    let levels = claim.bridging.levels in
    let start : entry_start e.cue e.channel e.levels ≡ entry_start claim.cue claim.channel levels = rw (s.cue, s.channel, s.levels) refl in
    (e.rows, e.cost, s.table, s.valid, ap (λ l. l ++ (flat_map (row_text v) e.rows ++ to_be_bytes w64 e.cost)) start)

pub shown_is_read : ShownIsRead
shown_is_read v claim e rest s = (cert_entry v e, rest, refl, entry_is v claim e s)

-- the entries of claims, from their bytes
entries_of : (v : Version) (claims : List Claim) (bytes : List ℕ) → AreEntries v claims bytes → (entries : List Entry) × ShowsAll claims entries × (bytes ≡ flat_map (cert_entry v) entries) × (length entries ≡ length claims)
entries_of v [] bytes e = ([], tt, e, refl)
entries_of v (claim ∷ claims) bytes (entry, rest, is, (rows, stated, table, valid, text), more) =
    let (entries, shown, all, n) = entries_of v claims rest more in
    let e : Entry = record { cue = claim.cue; channel = claim.channel; levels = claim.bridging.levels; rows = rows; cost = stated } in (
      e ∷ entries,
      (record { cue = refl; channel = refl; levels = refl; table = table; valid = valid }, shown),
      is ∙ ap (λ l. l ++ rest) text ∙ ap (λ l. cert_entry v e ++ l) all,
      ap suc n,
    )

pub read_is_cert : ReadIsCert
read_is_cert v weights claims rest are =
    let (entries, shown, all, n) = entries_of v claims rest are in
    (v, entries, shown, ap (λ l. cert_head v weights (length claims) ++ l) all ∙ ap (λ k. cert_head v weights k ++ flat_map (cert_entry v) entries) (sym n))

-- the bytes of entries that show claims
are_entries : (v : Version) (claims : List Claim) (entries : List Entry) → ShowsAll claims entries → AreEntries v claims (flat_map (cert_entry v) entries) × (length entries ≡ length claims)
are_entries v [] [] s = (refl, refl)
are_entries v [] (e ∷ entries) s = absurd s
are_entries v (claim ∷ claims) [] s = absurd s
are_entries v (claim ∷ claims) (e ∷ entries) (s, shown) =
    let (are, n) = are_entries v claims entries shown in
    ((cert_entry v e, flat_map (cert_entry v) entries, refl, entry_is v claim e s, are), ap suc n)

pub cert_has_head : CertHasHead
cert_has_head weights claims bytes (v, entries, shown, is) =
    let (are, n) = are_entries v claims entries shown in
    (v, flat_map (cert_entry v) entries, is ∙ ap (λ k. cert_head v weights k ++ flat_map (cert_entry v) entries) n)

-- a head states its version
head_tells : (v v2 : Version) (weights n weights2 n2 : ℕ) (r r2 : List ℕ) → cert_head v weights n ++ r ≡ cert_head v2 weights2 n2 ++ r2 → v ≡ v2
head_tells One One weights n weights2 n2 r r2 e = refl
head_tells Two Two weights n weights2 n2 r r2 e = refl
head_tells One Two weights n weights2 n2 r r2 e = absurd (omega (arith, ap (λ l. get_or l 5 0) e))
head_tells Two One weights n weights2 n2 r r2 e = absurd (omega (arith, ap (λ l. get_or l 5 0) e))

pub cert_is_read : CertIsRead
cert_is_read v weights claims rest (v2, entries, shown, is) =
    let (are, n) = are_entries v2 claims entries shown in
    let all : cert_head v weights (length claims) ++ rest ≡ cert_head v2 weights (length claims) ++ flat_map (cert_entry v2) entries = is ∙ ap (λ k. cert_head v2 weights k ++ flat_map (cert_entry v2) entries) n in
    let same : v ≡ v2 = head_tells v v2 weights (length claims) weights (length claims) rest _ all in
    let e : rest ≡ flat_map (cert_entry v2) entries = ap (drop 12) all in
    subst (AreEntries v claims) (sym e) (subst (λ k. AreEntries k claims (flat_map (cert_entry v2) entries)) (sym same) are)

pub read_more : ReadMore
read_more v [] claim bytes entry none e = (entry, [], ap (λ l. l ++ entry) none ∙ sym (append-nil entry), e, refl)
read_more v (c ∷ claims) claim bytes entry (first, rest, is, w, more) e =
    (first, rest ++ entry, ap (λ l. l ++ entry) is ∙ append_assoc first rest entry, w, read_more v claims claim rest entry more e)

-- the rows of a valid table
table_rows : (t : Trellis) (rows : List (List ℕ)) (stated : ℕ) (x : List Bool) → IsTable t rows → IsValid t (value_in rows) stated x → AreRows (states t) rows
table_rows t rows stated x table valid =
    are_rows (states t) rows (λ i h. table.states_in i (omega (arith, table.levels_in))) (λ i q h k. let b = valid.bounded i q (omega (arith, table.levels_in)) k in omega (arith, b))

-- rows, as many of them, and a cost are followed by one rest
rows_once : (v : Version) (m : ℕ) (rows rows2 : List (List ℕ)) (s s2 : ℕ) (r r2 : List ℕ) → AreRows m rows → AreRows m rows2 → length rows ≡ length rows2
    → flat_map (row_text v) rows ++ (to_be_bytes w64 s ++ r) ≡ flat_map (row_text v) rows2 ++ (to_be_bytes w64 s2 ++ r2) → r ≡ r2
rows_once v m rows rows2 s s2 r r2 are are2 n is = none (rows_inj v m rows2 rows are2 are (omega arith) _ _ is) where
  none : ((more : List (List ℕ)) × (rows ≡ rows2 ++ more) × AreRows m more × (to_be_bytes w64 s2 ++ r2 ≡ flat_map (row_text v) more ++ (to_be_bytes w64 s ++ r))) → r ≡ r2
  none ([], e, a, same) = sym (ap (drop 8) same)
  none (row ∷ more, e, a, same) = absurd (omega (arith, n, ap length e, length-append rows2 (row ∷ more)))

-- an entry of a claim, parted after its start and its rows
entry_parts : (v : Version) (claim : Claim) (rows : List (List ℕ)) (stated : ℕ) (e r : List ℕ) → e ≡ cert_entry v (record { cue = claim.cue; channel = claim.channel; levels = claim.bridging.levels; rows = rows; cost = stated })
    → drop 6 (e ++ r) ≡ flat_map (row_text v) rows ++ (to_be_bytes w64 stated ++ r)
entry_parts v claim rows stated e r is =
    let body = flat_map (row_text v) rows ++ to_be_bytes w64 stated in
    ap (λ l. drop 6 (l ++ r)) is ∙ append_assoc (flat_map (row_text v) rows) (to_be_bytes w64 stated) r

-- entries of the same claim at the start of the same bytes end at the same place
same_rest : (v : Version) (claim : Claim) (e e2 r r2 : List ℕ) → IsEntryOf v claim e → IsEntryOf v claim e2 → e ++ r ≡ e2 ++ r2 → r ≡ r2
same_rest v claim e e2 r r2 (rows, stated, table, valid, is) (rows2, stated2, table2, valid2, is2) whole =
    let t = trellis_of claim.bridging in
    rows_once v (states t) rows rows2 stated stated2 r r2 (table_rows t rows stated claim.bits table valid) (table_rows t rows2 stated2 claim.bits table2 valid2) (table.levels_in ∙ sym table2.levels_in)
    (sym (entry_parts v claim rows stated e r is) ∙ ap (drop 6) whole ∙ entry_parts v claim rows2 stated2 e2 r2 is2)

pub next_is_read : NextIsRead
next_is_read v [] claim more prefix after none (entry, rest, is, w, are) = (entry, rest, sym (ap (λ l. l ++ after) none) ∙ is, w)
next_is_read v (c ∷ claims) claim more prefix after (first, rest, is, w, are) (entry, rest2, is2, w2, are2) =
    let e : rest ++ after ≡ rest2 = same_rest v c first entry (rest ++ after) rest2 w w2 (sym (append_assoc first rest after) ∙ sym (ap (λ l. l ++ after) is) ∙ is2) in
    next_is_read v claims claim more rest after are (subst (AreEntries v (claims ++ claim ∷ more)) (sym e) are2)

pub nothing_follows : NothingFollows
nothing_follows v [] prefix after none all = sym (ap (λ l. l ++ after) none) ∙ all
nothing_follows v (c ∷ claims) prefix after (first, rest, is, w, are) (entry, rest2, is2, w2, are2) =
    let e : rest ++ after ≡ rest2 = same_rest v c first entry (rest ++ after) rest2 w w2 (sym (append_assoc first rest after) ∙ sym (ap (λ l. l ++ after) is) ∙ is2) in
    nothing_follows v claims rest after are (subst (AreEntries v claims) (sym e) are2)

pub shown_is_least : ShownIsLeast
shown_is_least v d cue channel x bytes fine long (rows, stated, table, valid, is) = least_from_valid d _ stated x fine long valid
