-- Where the first chunks of a form end, and what follows them.
use Rattle.std.proofs.Common.{◌≡◌, ℕ, ◌+◌, ◌-◌, ◌%◌, ◌≤◌, ◌<◌, ◌⊎◌, inl, inr, min, Bool, true, false, ◌&&◌, nat_eq, List, [], ◌∷◌, ◌++◌, length, map, take, drop, Option, Some, None, is_some, Result, Ok, Err, refl, sym, ap, ap₂, subst, ◌∙◌, arith}
use Rattle.std.specs.Prelude.{MatchOption, find, slice_range}
use Rattle.std.proofs.lemmas.List.{append-nil, drop-append-le, drop-drop, length-append, length-drop, length-take, take-append-le, take-take}
use Rattle.std.proofs.lemmas.Bool.{cases_lt, lt-ltb}
use Rattle.std.specs.List.{starts_with}
use Rattle.byteorder.specs.Endian.{big_number}
use Rattle.chunk_core.specs.declared.fault.ChunkFault.{ChunkFault}
use Rattle.chunk_core.specs.declared.fault.ChunkFault.TheVariants.{HeadCut, DataCut}
use Rattle.chunk_core.specs.declared.layout.Head.{Head}
use Rattle.chunk_core.specs.declared.layout.Span.{Span}
use Rattle.chunk_core.specs.declared.numbers.Order.TheVariants.{Big}
use Rattle.chunk_core.specs.Chunks.{Chunk, chunks, width}
use Rattle.chunk_core.specs.Heads.{IsHeadAt}
use Rattle.chunk_core.specs.Places.{span_chunk}
use Rattle.chunk_core.specs.Reading.{first_of, spans_in}
use Rattle.chunk_core.specs.Steps.{◌>>=◌}
use Rattle.chunk_core.proofs.PlaceLaws.{spans_found}
use Rattle.chunk_core.proofs.ReadingLaws.{no_chunks, walk_end, walk_step}
use Rattle.dsd_bits.specs.Contents.{Content}
use Rattle.dsd_bits.specs.Ids.{FVER, PROP, SND, DSD, same_id}
use Rattle.dsdiff_core.specs.declared.fault.DsdiffFault.{DsdiffFault}
use Rattle.dsdiff_core.specs.declared.fault.DsdiffFault.TheVariants as faults
use Rattle.dsdiff_core.specs.declared.faulty.FaultyStart.{FaultyStart}
use Rattle.dsdiff_core.specs.Faulty.{AreJudged, AreNext, EndsInNext, IsFaulty, IsNextHead, IsSeen, TellFault, first_fault, judged, kinds_of, next_place}
use Rattle.dsdiff_core.specs.Fields.{form_end, form_size}
use Rattle.dsdiff_core.specs.Forms.{cut_form, form_end_in, known_version, top_of}
use Rattle.dsdiff_core.specs.Headers.{form_of, place_after, size_at}
use Rattle.dsdiff_core.specs.Kinds.{FRM8, is_property}
use Rattle.dsdiff_core.specs.Properties.{property_of}
use Rattle.dsdiff_core.specs.Reading.{recording_of}
use Rattle.dsdiff_core.specs.Spans.{holds_property, once_each, span_has, top_kinds}
use Rattle.dsdiff_core.proofs.Alike.{find_alike, once_alike, property_same, same_alike}
use Rattle.dsdiff_core.proofs.CutLaws.{spans_cut, top_fails}
use Rattle.dsdiff_core.proofs.FaultyLaws.{told_judges}
use Rattle.dsdiff_core.proofs.FormLaws.{end_again, end_ok, form_cut, same_again}
use Rattle.dsdiff_core.proofs.HeaderEnds.{form_prefix, same_spans}
use Rattle.dsdiff_core.proofs.HeadLaws.{form_ok}
use Rattle.dsdiff_core.proofs.LeadLaws.{At, number_prefix, part_header, range_parts}
use Rattle.dsdiff_core.proofs.LocatedLaws.{end_is_read}
use Rattle.dsdiff_core.proofs.AnySound.{after_ok}
use Rattle.dsdiff_core.proofs.Steps.{walked_ok}
use Rattle.chunk_core.proofs.Steps.{bind_then}
use Rattle.dsdiff_core.specs.Steps.{walked}
use Rattle.dsdiff_core.proofs.WalkLaws.{after, after_both, place, walk_on, walk_over}

-- ---- places of chunks are even
place_even : (from : ℕ) (cs : List Chunk) → from % 2 ≡ 0 → place_after from cs % 2 ≡ 0
place_even from [] e = e
place_even from (c ∷ cs) e = place_even (from + width c) cs (omega (arith, e))

place_ends : (bytes : List ℕ) (from at : ℕ) (cs : List Chunk) → from ≤ at → at ≤ length bytes → chunks (slice_range bytes from at) cs → (place_after from cs ≡ at) ⊎ (place_after from cs ≡ at + 1)
place_ends bytes from at [] le inside h = inl (omega (arith, ap length h, length-take (at - from) (drop from bytes), length-drop from bytes, le, inside))
place_ends bytes from at (c ∷ cs) le inside h =
    let p = range_parts bytes from at c cs h in
    elim (cases_lt at (from + width c)) [
      | inl past ↦
          let none : at - (from + width c) ≡ 0 = omega (arith, past) in
          let rest : chunks [] cs = subst (λ (n : ℕ). chunks (take n (drop (from + width c) bytes)) cs) none p.1 in
          let end : cs ≡ [] = no_chunks cs rest in
          inr (rw end (omega (arith, past, p.0.fits)))
      | inr on ↦ place_ends bytes (from + width c) at cs on inside p.1
    ]

no_gap : (bytes : List ℕ) (at : ℕ) (cs : List Chunk) → 16 ≤ at → at % 2 ≡ 0 → at ≤ length bytes → chunks (slice_range bytes 16 at) cs → place_after 16 cs ≡ at
no_gap bytes at cs low even inside h = elim (place_ends bytes 16 at cs low inside h) [
  | inl is ↦ is
  | inr past ↦ absurd (omega (arith, past, even, place_even 16 cs (omega arith)))
]

-- ---- the first chunks of a prefix
module _ (prefix rest : List ℕ) (at : ℕ) (lead : List Span) (low : 16 ≤ at) (inside : at ≤ length prefix) (found : spans_in prefix 16 at ≡ Ok lead) where
  abbrev file : List ℕ
  file = prefix ++ rest

  range : slice_range (prefix ++ rest) 16 at ≡ slice_range prefix 16 at
  range = part_header (at - 16) 16 prefix rest (omega (arith, low, inside))

  alike_is : map (span_chunk (prefix ++ rest)) lead ≡ map (span_chunk prefix) lead
  alike_is = (same_spans (prefix ++ rest) prefix 16 at lead range found).1

  same_kinds : kinds_of (prefix ++ rest) lead ≡ kinds_of prefix lead
  same_kinds = ap₂ (λ (r q : Result (Unit {0}) DsdiffFault). r >>= λ u. q) (ap known_version alike_is) (once_alike (prefix ++ rest) prefix [] lead tt (same_alike (prefix ++ rest) prefix lead alike_is))

  same_first : find (holds_property (prefix ++ rest)) lead ≡ find (holds_property prefix) lead
  same_first = find_alike (prefix ++ rest) prefix lead (same_alike (prefix ++ rest) prefix lead alike_is)

  told_on : (fault : DsdiffFault) (is_open : Bool) → TellFault prefix lead fault is_open → TellFault (prefix ++ rest) lead fault is_open
  told_on fault false h = (h.0, same_kinds ∙ h.1)
  told_on fault true h = (same_kinds ∙ h.0, ap is_some same_first ∙ h.1, property_same (prefix ++ rest) prefix lead (same_alike (prefix ++ rest) prefix lead alike_is) ∙ h.2)

  pub starts : (s : FaultyStart) → form_of prefix ≡ Ok tt → s.form ≡ form_size prefix → at % 2 ≡ 0 → at ≤ 12 + s.form → TellFault prefix lead s.fault s.is_open → s.end ≡ at → s.pad ≡ 0
      → s.version ≡ is_some (find (span_has FVER) lead) → s.property ≡ is_some (find (holds_property prefix) lead) → s.sound ≡ is_some (find (span_has DSD) lead) → IsFaulty (prefix ++ rest) s
  starts s form size even fits told end pad version property sound =
      let cs : List Chunk = map (span_chunk prefix) lead in
      let is = spans_found prefix 16 at lead found in
      let next : next_place s ≡ at = omega (arith, end, pad) in
      let size_is : form_size (prefix ++ rest) ≡ form_size prefix = number_prefix 8 4 prefix rest (omega (arith, low, inside)) in
      record {
        form = form_prefix prefix rest (omega (arith, low, inside)) ∙ form;
        size = size ∙ sym size_is;
        low = omega (arith, low, end);
        inside = omega (arith, end, fits, inside, size, size_is, length-append prefix rest);
        lead = lead;
        found = λ stop le. walk_over (prefix ++ rest) 16 at stop cs (omega (arith, le, end)) (subst (λ (bs : List ℕ). chunks bs cs) (sym range) is.0) (no_gap prefix at cs low even inside is.0)
            ∙ ap (λ (l : List Span). after l (spans_in (prefix ++ rest) at stop)) (sym is.1) ∙ ap (λ (n : ℕ). after lead (spans_in (prefix ++ rest) n stop)) (sym next);
        judges = record {
          fault = told_judges (prefix ++ rest) lead s.fault s.is_open (told_on s.fault s.is_open told);
          version = version;
          property = property ∙ ap is_some (sym same_first);
          sound = sound;
        };
      }

-- ---- the next chunk
module _ (file : List ℕ) (s : FaultyStart) (bytes : List ℕ) (next : AreNext file s bytes) (head : 12 ≤ length bytes) where
  abbrev at : ℕ
  at = next_place s

  pub next_inside : next_place s + 12 ≤ length file
  next_inside = omega (arith, ap length next.are, length-drop (next_place s) file, length-append bytes next.more, head)

  after_head : (k : ℕ) → k ≤ length bytes → drop (next_place s + k) file ≡ drop k bytes ++ next.more
  after_head k le = sym (drop-drop k (next_place s) file) ∙ ap (drop k) next.are ∙ drop-append-le k bytes next.more le

  pub size_next : size_at bytes 0 ≡ size_at file (next_place s)
  size_next = sym (number_prefix 8 4 bytes next.more (omega (arith, head))) ∙ ap (λ (bs : List ℕ). big_number 8 (drop 4 bs)) (sym next.are) ∙ ap (big_number 8) (drop-drop 4 (next_place s) file)

  pub id_next : take 4 (drop (next_place s) file) ≡ take 4 bytes
  id_next = ap (take 4) next.are ∙ take-append-le 4 bytes next.more (omega (arith, head))

  type_in : (size : ℕ) (d more : List ℕ) → (4 ≤ length d) ⊎ (more ≡ []) ⊎ (size ≤ length d) → take 4 (take size (d ++ more)) ≡ take 4 (take size d)
  type_in size d more (inr (inl none)) = rw none (ap (λ (xs : List ℕ). take 4 (take size xs)) (append-nil d))
  type_in size d more (inr (inr short)) = ap (take 4) (take-append-le size d more short)
  type_in size d more (inl long) = elim (cases_lt size 4) [
    | inl short ↦ ap (take 4) (take-append-le size d more (omega (arith, short, long)))
    | inr enough ↦ take-take 4 size (d ++ more) enough ∙ take-append-le 4 d more long ∙ sym (take-take 4 size d enough)
  ]

  -- the first bytes of its data
  type_next : (size : ℕ) → next_place s + size ≤ form_size file → take 4 (take size (drop (next_place s + 12) file)) ≡ take 4 (take size (drop 12 bytes))
  type_next size fits = ap (λ (xs : List ℕ). take 4 (take size xs)) (after_head 12 head) ∙ type_in size (drop 12 bytes) next.more (elim next.enough [
    | inl long ↦ inl (omega (arith, long, length-drop 12 bytes))
    | inr rest ↦ elim rest [
      | inl none ↦ inr (inl none)
      | inr form ↦ inr (inr (omega (arith, fits, form, length-drop 12 bytes)))
    ]
  ])

  starts_by : (xs : List ℕ) → starts_with nat_eq (take 4 xs) SND ≡ starts_with nat_eq xs SND
  starts_by xs = rw (take-take 4 4 xs (omega arith)) refl

  property_by : (id : List ℕ) (a b : List ℕ) → take 4 a ≡ take 4 b → is_property (record { id = id; content = a }) ≡ is_property (record { id = id; content = b })
  property_by id a b e =
      ap (λ (x : Bool). same_id id PROP && x) (sym (starts_by a))
      ∙ ap (λ (xs : List ℕ). same_id id PROP && starts_with nat_eq xs SND) e
      ∙ ap (λ (x : Bool). same_id id PROP && x) (starts_by b)

  module _ (n : ℕ) (size : n ≡ size_at file (next_place s)) (held : next_place s + 12 + n ≤ length file) where
    abbrev chunk : Chunk
    chunk = record { id = take 4 (drop (next_place s) file); content = take n (drop (next_place s + 12) file) }

    pub chunk_long : length (take n (drop (next_place s + 12) file)) ≡ n
    chunk_long = omega (arith, length-take n (drop (next_place s + 12) file), length-drop (next_place s + 12) file, held)

    abbrev pub next_span : Span
    next_span = place (next_place s) chunk

    pub property_next : (id : List ℕ) → next_place s + n ≤ form_size file → id ≡ take 4 bytes → holds_property file next_span ≡ is_property (record { id = id; content = take n (drop 12 bytes) })
    property_next id fits is =
        ap (λ (k : ℕ). is_property (record { id = take 4 (drop (next_place s) file); content = take k (drop (next_place s + 12) file) })) chunk_long
        ∙ ap (λ (x : List ℕ). is_property (record { id = x; content = take n (drop (next_place s + 12) file) })) (id_next ∙ sym is)
        ∙ property_by id (take n (drop (next_place s + 12) file)) (take n (drop 12 bytes)) (type_next n fits)

    pub passed : (b : FaultyStart) → (old : IsFaulty file s) → next_place s + n ≤ s.form → b.form ≡ s.form → b.end ≡ next_place s + 12 + n → b.pad ≡ n % 2 → AreJudged file (old.lead ++ next_span ∷ []) b → IsFaulty file b
    passed b old fits form end pad j =
        let c : Chunk = chunk in
        let next_is : next_place s + width c ≡ next_place b = ap (λ (k : ℕ). next_place s + (12 + k + k % 2)) chunk_long ∙ omega (arith, end, pad) in
        record {
          form = old.form;
          size = form ∙ old.size;
          low = omega (arith, end, old.low);
          inside = omega (arith, end, fits, held, old.size);
          lead = old.lead ++ next_span ∷ [];
          found = λ stop le.
              let here : At file (next_place s) stop c = record {
                fits = omega (arith, chunk_long, le, end);
                inside = omega (arith, chunk_long, held);
                id = refl;
                size = sym size ∙ sym chunk_long;
                content = ap (λ (k : ℕ). take k (drop (next_place s + 12) file)) chunk_long;
              } in
              old.found stop (omega (arith, le, end))
              ∙ ap (after old.lead) (walk_on file (next_place s) stop c here)
              ∙ after_both old.lead (next_span ∷ []) (spans_in file (next_place s + width c) stop)
              ∙ ap (λ (k : ℕ). after (old.lead ++ next_span ∷ []) (spans_in file k stop)) next_is;
          judges = j;
        }

-- the head of the next chunk is that of these bytes
pub next_head : (file : List ℕ) (s : FaultyStart) (bytes : List ℕ) (next : Option Head) → AreNext file s bytes → MatchOption next (length bytes < 12) (IsHeadAt Big bytes 0) → IsNextHead file s next
next_head file s bytes (Some h) next is = record {
  whole = next_inside file s bytes next is.whole;
  id = is.id ∙ sym (id_next file s bytes next is.whole);
  size = is.size ∙ size_next file s bytes next is.whole;
}
next_head file s bytes None next short = elim next.enough [
  | inl long ↦ absurd (omega (arith, long, short))
  | inr rest ↦ elim rest [
    | inl none ↦ omega (arith, short, ap length none, ap length next.are, length-drop (next_place s) file, length-append bytes next.more)
    | inr form ↦ omega (arith, form, short)
  ]
]

-- the form ends in the next chunk, if its size goes past that
ends_by : (stop at n form m : ℕ) → stop ≤ 12 + form → n ≡ m → (form < at) ⊎ (form < at + n) → at + 12 ≤ stop → stop < at + 12 + m
ends_by stop at n form m le same (inl past) fits = absurd (omega (arith, le, past, fits))
ends_by stop at n form m le same (inr past) fits = omega (arith, le, past, same)

pub last_next : (file : List ℕ) (s : FaultyStart) (n : ℕ) → IsFaulty file s → n ≡ size_at file (next_place s) → (s.form < next_place s) ⊎ (s.form < next_place s + n) → EndsInNext file s
last_next file s n h size how = ends_by (form_end file) (next_place s) n s.form (size_at file (next_place s)) (omega (arith, h.size)) size how

-- ---- the fault of the file
abbrev Kinds : Type 0
Kinds = Result (Unit {0}) DsdiffFault

err_same : {A B : Type 0} (d e : DsdiffFault) → (let r : Result A DsdiffFault = Err d in r) ≡ Err e → (let r : Result B DsdiffFault = Err d in r) ≡ Err e
err_same d e h = let same : d ≡ e = cc (h) in ap (λ (x : DsdiffFault). Err x) same

then_fails : {P B : Type 0} (r : Result P DsdiffFault) (g : P → Result B DsdiffFault) (e : DsdiffFault) → (r >>= λ x. (let u : Kinds = Ok tt in u)) ≡ Err e → (r >>= g) ≡ Err e
then_fails (Ok x) g e h = absurd cc
then_fails (Err d) g e h = err_same d e h

fails_by : {P B : Type 0} (known once : Kinds) (top : List Span) (p : List Span → Result P DsdiffFault) (g : List Span → P → Result B DsdiffFault) (e : DsdiffFault)
    → ((known >>= λ u. once) >>= λ u. p top >>= λ x. (let v : Kinds = Ok tt in v)) ≡ Err e → ((known >>= λ u. once >>= λ v. (let t : Result (List Span) DsdiffFault = Ok top in t)) >>= λ t. p t >>= g t) ≡ Err e
fails_by (Err d) once top p g e h = err_same d e h
fails_by (Ok u) (Err d) top p g e h = err_same d e h
fails_by (Ok u) (Ok v) top p g e h = then_fails (p top) (g top) e h

recorded : (file : List ℕ) (stop : ℕ) (top : List Span) (e : DsdiffFault) → form_end_in file ≡ Ok stop → spans_in file 16 stop ≡ Ok top → judged file top ≡ Err e → recording_of file ≡ Err e
unfolding recording_of top_of
recorded file stop top e end spans h = rw (end, spans) (fails_by (known_version (map (span_chunk file) top)) (once_each (top_kinds file) [] top) top (property_of file) _ e h)

no_later : (file : List ℕ) (at stop : ℕ) → stop ≤ at → spans_in file at stop ≡ Ok []
unfolding spans_in
no_later file at stop le = (let none : stop - at ≡ 0 = omega (arith, le) in rw (none, walk_end at [] refl) refl)

head_cut_at : (at : ℕ) (bytes : List ℕ) → length bytes < 12 → first_of at bytes ≡ Err (HeadCut at)
unfolding first_of
head_cut_at at bytes short = rw (lt-ltb (length bytes) 12 short) refl

head_cut : (file : List ℕ) (at stop : ℕ) → at < stop → stop < at + 12 → stop ≤ length file → spans_in file at stop ≡ Err (HeadCut at)
unfolding spans_in
head_cut file at stop some short inside =
    let bytes : List ℕ = slice_range file at stop in
    let long : length bytes ≡ stop - at = omega (arith, length-take (stop - at) (drop at file), length-drop at file, inside) in
    rw (walk_step at bytes (omega (arith, long, some)), head_cut_at at bytes (omega (arith, long, short))) refl

module _ (file : List ℕ) (s : FaultyStart) (h : IsFaulty file s) where
  pub long_file : 16 ≤ length file
  long_file = omega (arith, h.low, h.inside)

  pub start_fails : (total missing : ℕ) → IsSeen file total → total + 1 < 12 + form_size file → missing ≡ s.form - (total - 12) → recording_of file ≡ Err (faults.FormCut s.form missing)
  start_fails total missing (inr seen) cut left = absurd (omega (arith, seen.0, cut))
  start_fails total missing (inl all) cut left =
      let f = form_ok file h.form in
      end_is_read file (cut_form (form_size file) (length file)) (form_cut file long_file (same_again (take 4 file) FRM8 refl f.0) (same_again (take 4 (drop 12 file)) DSD refl f.1) (omega (arith, all, cut)))
      ∙ ap₂ (λ (size few : ℕ). let r : Result Content DsdiffFault = Err (faults.FormCut size few) in r) (sym h.size) (omega (arith, all, left, h.size))

  module _ (whole : 12 + form_size file ≤ length file + 1) where
    end_is : form_end_in file ≡ Ok (form_end file)
    end_is = (let f = form_ok file h.form in end_again file (record { long = long_file; form = f.0; kind = f.1; holds_type = f.2; in_file = whole }))

    told_last : (fault : DsdiffFault) (is_open : Bool) → first_fault fault is_open (once_each (top_kinds file) h.lead []) ≡ fault
    unfolding once_each
    told_last fault true = refl
    told_last fault false = refl

    pub start_told : form_end file ≤ next_place s → recording_of file ≡ Err s.fault
    start_told last =
        let spans : spans_in file 16 (form_end file) ≡ Ok (h.lead ++ []) = h.found (form_end file) h.inside ∙ ap (after h.lead) (no_later file (next_place s) (form_end file) last) in
        recorded file (form_end file) (h.lead ++ []) s.fault end_is spans (h.judges.fault [] ∙ ap (λ (e : DsdiffFault). Err e) (told_last s.fault s.is_open))

    spans_fail : (e : ChunkFault) → spans_in file (next_place s) (form_end file) ≡ Err e → spans_in file 16 (form_end file) ≡ Err e
    spans_fail e is = h.found (form_end file) h.inside ∙ ap (after h.lead) is

    pub start_head_cut : next_place s < form_end file → form_end file < next_place s + 12 → recording_of file ≡ Err (faults.Chunk (HeadCut (next_place s)))
    start_head_cut some short = top_fails file (HeadCut (next_place s)) (form_end file) end_is (spans_fail (HeadCut (next_place s)) (head_cut file (next_place s) (form_end file) some short (omega arith)))

    pub start_data_cut : (place : ℕ) (head : Head) → next_place s ≡ place → IsHeadAt Big file (next_place s) head → next_place s + 12 ≤ form_end file → EndsInNext file s → recording_of file ≡ Err (faults.Chunk (DataCut place head.id head.size))
    start_data_cut place head at is fits cut =
        let e : ChunkFault = DataCut (next_place s) (take 4 (drop (next_place s) file)) (size_at file (next_place s)) in
        top_fails file e (form_end file) end_is (spans_fail e (spans_cut file (next_place s) (form_end file) fits (omega arith) (cut fits)))
        ∙ (λ i. let r : Result Content DsdiffFault = Err (faults.Chunk (DataCut (at i) (sym is.id i) (sym is.size i))) in r)

  pub left_is : (total : ℕ) → IsSeen file total → min (s.form - (s.end - 12)) (total - s.end) ≡ form_end file - s.end
  left_is total (inl all) = omega (arith, all, h.size, h.low, h.inside)
  left_is total (inr seen) = omega (arith, seen.0, seen.1, h.size, h.low, h.inside)

-- so many bytes are enough
pub seen_whole : (file : List ℕ) (total : ℕ) → IsSeen file total → 12 + form_size file ≤ total + 1 → 12 + form_size file ≤ length file + 1
seen_whole file total (inl all) whole = omega (arith, all, whole)
seen_whole file total (inr seen) whole = omega (arith, seen.0, seen.1)

-- such a file holds no recording
pub faulty_fails : (file : List ℕ) (s : FaultyStart) (r : Content) → IsFaulty file s → recording_of file ≡ Ok r → ⊥
unfolding recording_of top_of
faulty_fails file s r h e =
    bind_then (top_of file) _ r e (λ top e0 h0.
    bind_then (property_of file top) _ r h0 (λ stated ep hp.
    bind_then (form_end_in file) _ top e0 (λ stop e1 h1.
    bind_then (walked (spans_in file 16 stop)) _ top h1 (λ found e2 h2.
    bind_then (known_version (map (span_chunk file) found)) _ top h2 (λ u e3 h3.
    bind_then (once_each (top_kinds file) [] found) _ top h3 (λ w e4 h4.
    let is : found ≡ top = cc (h4) in
    let end : form_end file ≡ stop = (end_ok file stop e1).1 in
    let parts = after_ok h.lead (spans_in file (next_place s) stop) found (sym (h.found stop (omega (arith, end, h.inside))) ∙ walked_ok _ found e2) in
    let stated_here : property_of file found ≡ Ok stated = ap (property_of file) is ∙ ep in
    let ok : judged file found ≡ Ok tt = rw (e3, e4, stated_here) refl in
    let fails : judged file found ≡ Err (first_fault s.fault s.is_open (once_each (top_kinds file) h.lead parts.0)) = ap (judged file) parts.2 ∙ h.judges.fault parts.0 in
    both (judged file found) _ ok fails))))))
  where
    both : (r : Kinds) (d : DsdiffFault) → r ≡ Ok tt → r ≡ Err d → ⊥
    both r d x y = (let z : (let q : Kinds = Ok tt in q) ≡ Err d = sym x ∙ y in absurd cc)
