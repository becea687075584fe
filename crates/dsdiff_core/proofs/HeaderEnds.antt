-- The prefix of a file, cut where its sound starts.
use Rattle.std.proofs.Common.{◌≡◌, ℕ, ◌+◌, ◌-◌, ◌≤◌, inl, inr, Bool, List, [], ◌∷◌, ◌++◌, length, map, take, drop, Option, Some, Ok, refl, sym, ap, subst, ◌∙◌, arith}
use Rattle.std.specs.Prelude.{filter, find, slice_range}
use Rattle.std.proofs.lemmas.Bool.{le-ltb}
use Rattle.std.proofs.lemmas.List.{length-map, length-take-le, take-append-drop}
use Rattle.chunk_core.specs.declared.layout.Span.{Span}
use Rattle.chunk_core.specs.Chunks.{Chunk, chunks}
use Rattle.chunk_core.specs.Places.{span_chunk}
use Rattle.chunk_core.specs.Reading.{spans_in}
use Rattle.chunk_core.proofs.PlaceLaws.{spans_again, spans_found}
use Rattle.chunk_core.proofs.Steps.{bind_then}
use Rattle.dsd_bits.specs.declared.sound.Sound.{Sound}
use Rattle.dsd_bits.specs.Ids.{FS, CHNL, CMPR, DSD}
use Rattle.dsdiff_core.specs.Fields.{form_size}
use Rattle.dsdiff_core.specs.Forms.{known_version}
use Rattle.dsdiff_core.specs.Headers.{as_sound_at, form_of, frames_fit, leading_of, sound_head_place, seek, size_at, sound_with_head, sound_in}
use Rattle.dsdiff_core.specs.Kinds.{is_property}
use Rattle.dsdiff_core.specs.Laws.{HeaderEndsAtSound}
use Rattle.dsdiff_core.specs.Properties.{PropertyFields, property_of}
use Rattle.dsdiff_core.specs.Spans.{data_with, holds_property, once_each, span_has, top_kinds}
use Rattle.dsdiff_core.specs.Steps.{walked}
use Rattle.dsdiff_core.proofs.FileLaws.{after_type}
use Rattle.dsdiff_core.proofs.HeaderLaws.{found_leads, sought_of, sound_is_at, starts_inside}
use Rattle.dsdiff_core.proofs.KindLaws.{bool_cases, filter_chunks}
use Rattle.dsdiff_core.proofs.LeadLaws.{Sought, number_prefix, part_header, seek_again}
use Rattle.dsdiff_core.proofs.OnceLaws.{Once, none_yet, once_again, once_ok}
use Rattle.dsdiff_core.proofs.PropertyLaws.{property_again, property_ok}
use Rattle.dsdiff_core.proofs.Steps.{walked_ok}

-- ---- spans that hold the same chunks in two files

-- the spans hold the same chunks in both
abbrev pub Same : List ℕ → List ℕ → List Span → Type 0
Same short prefix ss = map (span_chunk short) ss ≡ map (span_chunk prefix) ss

pub firsts : (c d : Chunk) (cs ds : List Chunk) → c ∷ cs ≡ d ∷ ds → (c ≡ d) × (cs ≡ ds)
firsts c d cs ds e = (cc (e), cc (e))

-- the spans of the same bytes are the same, and hold the same chunks
pub same_spans : (short prefix : List ℕ) (start stop : ℕ) (ss : List Span) → slice_range short start stop ≡ slice_range prefix start stop → spans_in prefix start stop ≡ Ok ss → (spans_in short start stop ≡ Ok ss) × Same short prefix ss
same_spans short prefix start stop ss same e =
    let cs : List Chunk = map (span_chunk prefix) ss in
    let found = spans_found prefix start stop ss e in
    let again = spans_again short start stop cs (subst (λ (bs : List ℕ). chunks bs cs) (sym same) found.0) in
    (again.0 ∙ ap (λ (xs : List Span). Ok xs) (sym found.1), ap (map (span_chunk short)) found.1 ∙ again.1)

-- the first whose chunk passes a test is the same
same_find : (short prefix : List ℕ) (test : Chunk → Bool) (ss : List Span) → Same short prefix ss → find (λ s. test (span_chunk short s)) ss ≡ find (λ s. test (span_chunk prefix s)) ss
same_find short prefix test [] e = refl
same_find short prefix test (s ∷ ss) e =
    let p = firsts (span_chunk short s) (span_chunk prefix s) (map (span_chunk short) ss) (map (span_chunk prefix) ss) e in
    rw (p.0, same_find short prefix test ss p.1) refl

abbrev there : Span → Option Span
there s = Some s

some_same : (x s : Span) → there x ≡ there s → x ≡ s
some_same x s e = cc

-- the first that passes holds the same chunk
same_chunk : (short prefix : List ℕ) (test : Span → Bool) (ss : List Span) (p : Span) → Same short prefix ss → find test ss ≡ Some p → span_chunk short p ≡ span_chunk prefix p
same_chunk short prefix test [] p e f = absurd cc
same_chunk short prefix test (s ∷ ss) p e f =
    let h = firsts (span_chunk short s) (span_chunk prefix s) (map (span_chunk short) ss) (map (span_chunk prefix) ss) e in
    elim (bool_cases (test s)) [
      | inl y ↦ subst (λ (x : Span). span_chunk short x ≡ span_chunk prefix x) (some_same s p (rw y at f)) h.0
      | inr other ↦ same_chunk short prefix test ss p h.1 (rw other at f)
    ]

-- the first with an ID has the same data
pub same_data : (short prefix id : List ℕ) (ss : List Span) → Same short prefix ss → data_with short id ss ≡ data_with prefix id ss
same_data short prefix id [] e = refl
same_data short prefix id (s ∷ ss) e =
    let h = firsts (span_chunk short s) (span_chunk prefix s) (map (span_chunk short) ss) (map (span_chunk prefix) ss) e in
    elim (bool_cases (span_has id s)) [
      | inl y ↦ rw y (ap (λ (c : Chunk). let r : Option (List ℕ) = Some c.content in r) h.0)
      | inr other ↦ rw other (same_data short prefix id ss h.1)
    ]

-- how many chunks pass a test
counted : (file : List ℕ) (test : Chunk → Bool) (ss : List Span) → length (filter (λ s. test (span_chunk file s)) ss) ≡ length (filter test (map (span_chunk file) ss))
counted file test ss = sym (length-map (filter (λ s. test (span_chunk file s)) ss) (span_chunk file)) ∙ sym (ap length (filter_chunks file test ss))

same_once : (short prefix : List ℕ) (ss : List Span) → Same short prefix ss → Once (top_kinds prefix) ss → Once (top_kinds short) ss
same_once short prefix ss e o =
    let count : length (filter (holds_property short) ss) ≡ length (filter (holds_property prefix) ss) = counted short is_property ss ∙ ap (λ (cs : List Chunk). length (filter is_property cs)) e ∙ sym (counted prefix is_property ss) in
    (o.0, (omega (arith, count, o.1.0), o.1.1))

-- ---- the sound after them

-- the property of the sound states the same
same_property : (short prefix : List ℕ) (ss : List Span) (stated : PropertyFields) → Same short prefix ss → property_of prefix ss ≡ Ok stated → property_of short ss ≡ Ok stated
same_property short prefix ss stated e f =
    let p = property_ok prefix ss stated f in
    let chunk = same_chunk short prefix (holds_property prefix) ss p.property e p.found in
    let range : slice_range short (p.property.start + 4) (p.property.start + p.property.size) ≡ slice_range prefix (p.property.start + 4) (p.property.start + p.property.size) =
    after_type short p.property ∙ ap (λ (c : Chunk). drop 4 c.content) chunk ∙ sym (after_type prefix p.property) in
    let parts = same_spans short prefix (p.property.start + 4) (p.property.start + p.property.size) stated.parts range p.spans in
    property_again short ss stated (record {
      property = p.property;
      found = same_find short prefix is_property ss e ∙ p.found;
      spans = parts.0;
      once = p.once;
      rates = p.rates;
      names = p.names;
      kinds = p.kinds;
      at_rates = same_data short prefix FS stated.parts parts.1 ∙ p.at_rates;
      at_names = same_data short prefix CHNL stated.parts parts.1 ∙ p.at_names;
      at_kinds = same_data short prefix CMPR stated.parts parts.1 ∙ p.at_kinds;
      is_stated = p.is_stated;
    })

same_after : (short prefix : List ℕ) (at : ℕ) (s : Sound) → slice_range short 16 at ≡ slice_range prefix 16 at → size_at short at ≡ size_at prefix at → sound_with_head prefix at ≡ Ok s → sound_with_head short at ≡ Ok s
unfolding sound_with_head leading_of
same_after short prefix at s range size e =
    bind_then (leading_of prefix at) _ s e (λ top e1 h1.
    bind_then (property_of prefix top) _ s h1 (λ stated e2 h2.
    bind_then (frames_fit (size_at prefix at) (length stated.ids)) _ s h2 (λ u e3 h3.
    bind_then (walked (spans_in prefix 16 at)) _ top e1 (λ found e4 h4.
    bind_then (known_version (map (span_chunk prefix) found)) _ top h4 (λ v e5 h5.
    bind_then (once_each (top_kinds prefix) [] found) _ top h5 (λ w e6 h6.
    let is : found ≡ top = cc (h6) in
    let spans = same_spans short prefix 16 at found range (walked_ok (spans_in prefix 16 at) found e4) in
    let version : known_version (map (span_chunk short) found) ≡ Ok v = ap known_version spans.1 ∙ e5 in
    let once = once_again (top_kinds short) [] found (same_once short prefix found spans.1 (once_ok (top_kinds prefix) [] found w e6 (none_yet (top_kinds prefix)))) in
    let property : property_of short found ≡ Ok stated = same_property short prefix found stated spans.1 (ap (property_of prefix) is ∙ e2) in
    rw (spans.0, version, once, property, size, e3) h3))))))

-- ---- the law

pub form_prefix : (prefix rest : List ℕ) → 16 ≤ length prefix → form_of (prefix ++ rest) ≡ form_of prefix
unfolding form_of
form_prefix prefix rest long = rw (part_header 4 0 prefix rest (omega arith), part_header 4 12 prefix rest (omega arith), number_prefix 8 4 prefix rest (omega arith)) refl

-- the head of the sound that the whole leads to is found in a prefix that holds it
found_again : (prefix rest : List ℕ) (at : ℕ) → at + 12 ≤ length prefix → Sought (prefix ++ rest) 16 (form_size (prefix ++ rest)) at → seek prefix ≡ Ok (Some at)
unfolding seek
found_again prefix rest at whole s =
    let size : form_size (prefix ++ rest) ≡ form_size prefix = number_prefix 8 4 prefix rest (omega (arith, s.onward)) in
    let range : slice_range (prefix ++ rest) 16 at ≡ slice_range prefix 16 at = part_header (at - 16) 16 prefix rest (omega (arith, s.onward)) in
    let id : take 4 (drop at prefix) ≡ DSD = sym (part_header 4 at prefix rest (omega arith)) ∙ s.id in
    let here : size_at (prefix ++ rest) at ≡ size_at prefix at = number_prefix 8 (at + 4) prefix rest (omega arith) in
    seek_again (length prefix) 16 (form_size prefix) prefix at s.before (subst (λ (bs : List ℕ). chunks bs s.before) range s.are_before) s.no_gap s.none id whole s.onward (omega (arith, s.fits, here, size)) (omega arith)

ends_at : (prefix rest : List ℕ) (at : ℕ) (s : Sound) → at + 12 ≤ length prefix → form_of (prefix ++ rest) ≡ Ok tt → Sought (prefix ++ rest) 16 (form_size (prefix ++ rest)) at → sound_with_head (prefix ++ rest) at ≡ Ok s → sound_in prefix ≡ Ok (Some s)
unfolding sound_in sound_head_place
ends_at prefix rest at s whole form sought is =
    let form_here : form_of prefix ≡ Ok tt = sym (form_prefix prefix rest (omega (arith, sought.onward))) ∙ form in
    let range : slice_range prefix 16 at ≡ slice_range (prefix ++ rest) 16 at = sym (part_header (at - 16) 16 prefix rest (omega (arith, sought.onward))) in
    let size : size_at prefix at ≡ size_at (prefix ++ rest) at = sym (number_prefix 8 (at + 4) prefix rest (omega arith)) in
    rw (le-ltb (length prefix) 16 (omega (arith, sought.onward)), form_here, found_again prefix rest at whole sought, same_after prefix (prefix ++ rest) at s range size is) refl

pub ends_prefix : HeaderEndsAtSound
ends_prefix prefix s e =
    let l = found_leads prefix s e in
    let sought = sought_of prefix l.at l.sought in
    let start = (sound_is_at prefix l.at s l.is).0 in
    let short : List ℕ = take s.start prefix in
    let rest : List ℕ = drop s.start prefix in
    let whole : prefix ≡ short ++ rest = sym (take-append-drop s.start prefix) in
    let long : length short ≡ s.start = length-take-le s.start prefix (starts_inside prefix s e) in
    ap as_sound_at (ends_at short rest l.at s (omega (arith, long, start)) (ap form_of (sym whole) ∙ l.form) (subst (λ (bs : List ℕ). Sought bs 16 (form_size bs) l.at) whole sought) (ap (λ (bs : List ℕ). sound_with_head bs l.at) (sym whole) ∙ l.is))
