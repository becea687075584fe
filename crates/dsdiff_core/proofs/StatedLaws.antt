-- The sound that a prefix states, in lists of chunks and by reading in order.
use Rattle.std.proofs.Common.{◌≡◌, ℕ, ◌+◌, ◌*◌, ◌/◌, ◌%◌, ◌^◌, ◌≤◌, inl, inr, not, List, [], ◌∷◌, length, map, take, drop, Some, Result, Ok, refl, sym, ap, subst, ◌∙◌, arith, append-nil, cond, ltb, eqb, Err, eq-eqb}
use Rattle.std.specs.Prelude.{filter}
use Rattle.std.proofs.lemmas.Bool.{eqb-true, le-ltb, ltb-false}
use Rattle.std.proofs.lemmas.List.{length-map}
use Rattle.std.proofs.lemmas.List.FromFn.{length-map-range_with_len}
use Rattle.chunk_core.specs.declared.fault.ChunkFault.{ChunkFault}
use Rattle.chunk_core.specs.declared.layout.Span.{Span}
use Rattle.chunk_core.specs.Chunks.{Chunk}
use Rattle.chunk_core.specs.Places.{places, span_chunk}
use Rattle.chunk_core.specs.Reading.{spans_in}
use Rattle.chunk_core.proofs.PlaceLaws.{spans_again}
use Rattle.chunk_core.proofs.Steps.{bind_then, guard_ok}
use Rattle.dsd_bits.specs.declared.sound.Sound.{Sound}
use Rattle.dsd_bits.specs.declared.sound.SoundAt.TheVariants.{More, Found}
use Rattle.dsd_bits.specs.Ids.{FVER, DSD}
use Rattle.dsd_bits.specs.Sounds.{HasSound}
use Rattle.dsdiff_core.specs.declared.fault.DsdiffFault.{DsdiffFault}
use Rattle.dsdiff_core.specs.declared.fault.DsdiffFault.TheVariants as faults
use Rattle.dsdiff_core.specs.Fields.{form_size, ids_in}
use Rattle.dsdiff_core.specs.Files.{IsDsdiff}
use Rattle.dsdiff_core.specs.Forms.{known_version}
use Rattle.dsdiff_core.specs.Headers.{StatesSound, as_sound_at, form_of, frames_fit, leading_of, sound_head_place, seek, size_at, sound_at, sound_with_head, sound_in, sound_of_fields}
use Rattle.dsdiff_core.specs.Kinds.{FRM8, has_id, is_property}
use Rattle.dsdiff_core.specs.Laws.{FoundIsStated, SoundIsStated}
use Rattle.dsdiff_core.specs.Properties.{property_of}
use Rattle.dsdiff_core.specs.Spans.{once_each, span_has, top_kinds}
use Rattle.dsdiff_core.specs.Steps.{walked}
use Rattle.dsdiff_core.proofs.FileLaws.{one_chunk, property_stated, stands, stated_property, version_alone}
use Rattle.dsdiff_core.proofs.FormLaws.{IsVersion, same_again, version_again, version_ok}
use Rattle.dsdiff_core.proofs.HeaderLaws.{answers, found_leads, if_more, sought_of}
use Rattle.dsdiff_core.proofs.KindLaws.{filter_chunks, id_is, passes}
use Rattle.dsdiff_core.proofs.LeadLaws.{Sought, after_on, seek_again}
use Rattle.dsdiff_core.proofs.OnceLaws.{Once, none_yet, once_again, once_ok}
use Rattle.dsdiff_core.proofs.OtherSound.{has_head}
use Rattle.dsdiff_core.proofs.PropertyLaws.{property_again, property_ok, stated_by}
use Rattle.dsdiff_core.proofs.Steps.{not_false, walked_ok}

-- ---- the chunks that lead up to the sound
record IsLeading (prefix : List ℕ) (at : ℕ) (top : List Span) : Type 0 where
  pub spans : spans_in prefix 16 at ≡ Ok top
  pub version : IsVersion (map (span_chunk prefix) top)
  pub once : Once (top_kinds prefix) top

leading_ok : (prefix : List ℕ) (at : ℕ) (top : List Span) → leading_of prefix at ≡ Ok top → IsLeading prefix at top
unfolding leading_of
leading_ok prefix at top e =
    bind_then (walked (spans_in prefix 16 at)) _ top e (λ found e1 h1.
    bind_then (known_version (map (span_chunk prefix) found)) _ top h1 (λ u e2 h2.
    bind_then (once_each (top_kinds prefix) [] found) _ top h2 (λ w e3 h3.
    let same : found ≡ top = cc (h3) in
    subst (IsLeading prefix at) same (record {
      spans = walked_ok (spans_in prefix 16 at) found e1;
      version = version_ok (map (span_chunk prefix) found) u e2;
      once = once_ok (top_kinds prefix) [] found w e3 (none_yet (top_kinds prefix));
    }))))

leading_again : (prefix : List ℕ) (at : ℕ) (top : List Span) → IsLeading prefix at top → leading_of prefix at ≡ Ok top
unfolding leading_of
leading_again prefix at top l = rw (l.spans, version_again (map (span_chunk prefix) top) l.version, once_again (top_kinds prefix) [] top l.once) refl

-- ---- what is found is stated

form_ok : (prefix : List ℕ) → form_of prefix ≡ Ok tt → (take 4 prefix ≡ FRM8) × (take 4 (drop 12 prefix) ≡ DSD)
unfolding form_of
form_ok prefix e =
    let a = guard_ok _ _ _ _ e in
    let b = guard_ok _ _ _ _ a.1 in
    (id_is _ _ (not_false _ a.0), id_is _ _ (not_false _ b.0))

frames_ok : (size number : ℕ) (u : Unit {0}) → frames_fit size number ≡ Ok u → (size % number ≡ 0) × (8 * (size / number) ≤ 2 ^ 36)
frames_ok size number u e =
    let a = guard_ok (not (eqb (size % number) 0)) (faults.PartFrame size number) (cond (ltb (2 ^ 36) (8 * (size / number))) (Err (faults.TooLong size number)) (Ok tt)) u e in
    let b = guard_ok (ltb (2 ^ 36) (8 * (size / number))) (faults.TooLong size number) (Ok tt) u a.1 in
    (eqb-true _ _ (not_false _ a.0), ltb-false _ _ b.0)

same_spans : (ss rs : List Span) → (let x : Result (List Span) ChunkFault = Ok ss in x) ≡ Ok rs → ss ≡ rs
same_spans ss rs e = cc

stated_at : (prefix : List ℕ) (at : ℕ) (s : Sound) → (take 4 prefix ≡ FRM8) × (take 4 (drop 12 prefix) ≡ DSD) → Sought prefix 16 (form_size prefix) at → sound_with_head prefix at ≡ Ok s → StatesSound prefix s
unfolding sound_with_head
stated_at prefix at s form t e =
    bind_then (leading_of prefix at) _ s e (λ top e1 h1.
    bind_then (property_of prefix top) _ s h1 (λ stated e2 h2.
    bind_then (frames_fit (size_at prefix at) (length stated.ids)) _ s h2 (λ u e3 h3.
    let l = leading_ok prefix at top e1 in
    let p = property_ok prefix top stated e2 in
    let f = frames_ok (size_at prefix at) (length stated.ids) u e3 in
    let same : sound_of_fields stated.rate (length stated.ids) at (size_at prefix at) ≡ s = cc (h3) in
    let again = spans_again prefix 16 at t.before t.are_before in
    let is_top : map (span_chunk prefix) top ≡ t.before = ap (map (span_chunk prefix)) (same_spans top (places 16 t.before) (sym l.spans ∙ again.0)) ∙ again.1 in
    subst (StatesSound prefix) same (record {
      form = form.0;
      kind = form.1;
      at = at;
      before = t.before;
      are_before = t.are_before;
      no_gap = t.no_gap;
      no_sound = t.none;
      version = l.version.version;
      later = l.version.later;
      version_first = sym is_top ∙ l.version.is;
      version_once = subst (λ (cs : List Chunk). filter (has_id FVER) cs ≡ l.version.version ∷ []) is_top (version_alone prefix top l.version.version l.version.later l.once.0 l.version.is l.version.id);
      version_long = l.version.long;
      version_main = l.version.main;
      property = span_chunk prefix p.property;
      one_property = subst (λ (cs : List Chunk). filter is_property cs ≡ span_chunk prefix p.property ∷ []) is_top (one_chunk prefix is_property top p.property l.once.1.0 p.found);
      property_states = (stated_property prefix top stated p).states;
      id = t.id;
      whole_head = t.whole;
      in_form = t.fits;
      start = refl;
      size = refl;
      whole = f.0;
      count = refl;
      not_long = f.1;
      interleaving = refl;
    }))))

found_stated : (prefix : List ℕ) (s : Sound) → sound_at prefix ≡ Found s → StatesSound prefix s
found_stated prefix s e =
    let l = found_leads prefix s e in
    stated_at prefix l.at s (form_ok prefix l.form) (sought_of prefix l.at l.sought) l.is

-- ---- what is stated is found

form_again : (prefix : List ℕ) → take 4 prefix ≡ FRM8 → take 4 (drop 12 prefix) ≡ DSD → 4 ≤ form_size prefix → form_of prefix ≡ Ok tt
unfolding form_of
form_again prefix form kind holds = rw (same_again (take 4 prefix) FRM8 refl form, same_again (take 4 (drop 12 prefix)) DSD refl kind, le-ltb (form_size prefix) 4 holds) refl

abbrev done : Sound → Result Sound DsdiffFault
done s = Ok s

after_again : (prefix : List ℕ) (s : Sound) (t : StatesSound prefix s) → sound_with_head prefix t.at ≡ Ok s
unfolding sound_with_head
after_again prefix s t =
    let top : List Span = places 16 t.before in
    let again = spans_again prefix 16 t.at t.before t.are_before in
    let vs = stands prefix (has_id FVER) top t.before t.version again.1 t.version_once in
    let ps = stands prefix is_property top t.before t.property again.1 t.one_property in
    let no_sound : map (span_chunk prefix) (filter (span_has DSD) top) ≡ [] = sym (filter_chunks prefix (has_id DSD) top) ∙ ap (filter (has_id DSD)) again.1 ∙ t.no_sound in
    let none : length (filter (span_has DSD) top) ≤ 1 = omega (arith, length-map (filter (span_has DSD) top) (span_chunk prefix), ap length no_sound) in
    let version : IsVersion (map (span_chunk prefix) top) = record {
      version = t.version;
      later = t.later;
      is = again.1 ∙ t.version_first;
      id = passes (has_id FVER) t.before t.version [] t.version_once;
      long = t.version_long;
      main = t.version_main;
    } in
    let leading = leading_again prefix t.at top (record { spans = again.0; version = version; once = (vs.once, (ps.once, (none, tt))) }) in
    let bytes : List ℕ = drop 2 t.property_states.names.content in
    let ids : List (List ℕ) = ids_in s.channels bytes in
    let property = property_again prefix top (stated_by s.rate ids (places (ps.span.start + 4) t.property_states.parts)) (property_stated prefix top (places (ps.span.start + 4) t.property_states.parts) ps.span t.property s.rate s.channels t.property_states ps.found ps.is refl) in
    let number : length ids ≡ s.channels = length-map-range_with_len (λ k. take 4 (drop (4 * k) bytes)) 0 s.channels in
    let size : ℕ = size_at prefix t.at in
    let count : 8 * (size / length ids) ≡ s.count = ap (λ (k : ℕ). 8 * (size / k)) number ∙ ap (λ (k : ℕ). 8 * (k / s.channels)) (sym t.size) ∙ sym t.count in
    let whole : size % length ids ≡ 0 = ap (λ (k : ℕ). size % k) number ∙ ap (λ (k : ℕ). k % s.channels) (sym t.size) ∙ t.whole in
    let short : 8 * (size / length ids) ≤ 2 ^ 36 = subst (λ (k : ℕ). k ≤ 2 ^ 36) (sym count) t.not_long in
    let frames : frames_fit size (length ids) ≡ Ok tt = rw (eq-eqb (size % length ids) 0 whole, le-ltb (2 ^ 36) (8 * (size / length ids)) short) refl in
    let same : sound_of_fields s.rate (length ids) t.at size ≡ s = λ i. record { rate = s.rate; channels = number i; count = count i; start = sym t.start i; size = sym t.size i; interleaving = sym t.interleaving i } in
    rw (leading, property, frames) (ap done same)

seek_there : (prefix : List ℕ) (s : Sound) (t : StatesSound prefix s) → 16 ≤ t.at → seek prefix ≡ Ok (Some t.at)
unfolding seek
seek_there prefix s t onward = seek_again (length prefix) 16 (form_size prefix) prefix t.at t.before t.are_before t.no_gap t.no_sound t.id t.whole_head onward t.in_form (omega arith)

stated_found : (prefix : List ℕ) (s : Sound) → StatesSound prefix s → sound_at prefix ≡ Found s
unfolding sound_in sound_head_place
stated_found prefix s t =
    let onward : 16 ≤ t.at = omega (arith, after_on 16 t.before, t.no_gap) in
    let form = form_again prefix t.form t.kind (omega (arith, onward, t.in_form)) in
    let found : sound_in prefix ≡ Ok (Some s) = rw (le-ltb (length prefix) 16 (omega (arith, onward, t.whole_head)), form, seek_there prefix s t onward, after_again prefix s t) refl in
    ap as_sound_at found

-- ---- the laws

pub found_is_stated : FoundIsStated
found_is_stated prefix s = (found_stated prefix s, stated_found prefix s)

pub sound_is_stated : SoundIsStated
sound_is_stated file r h = elim (answers file [] r (subst (λ (f : List ℕ). IsDsdiff f r) (sym (append-nil file)) h)) [
  | inl stated ↦ (stated.0, found_stated file stated.0 stated.1, subst (λ (f : List ℕ). HasSound f r stated.0) (append-nil file) stated.2)
  | inr more ↦ absurd (if_more file More (sym more) (has_head file (r, h)))
]
