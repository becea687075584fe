-- Files that are cut inside a chunk of the form, and bytes after the form.
use Rattle.std.proofs.Common.{◌≡◌, ℕ, ◌+◌, ◌-◌, ◌≤◌, ◌<◌, inl, inr, min, cond, ltb, not, List, [], ◌++◌, length, map, take, drop, Result, Ok, Err, refl, sym, ap, ap₂, subst, ◌∙◌, arith}
use Rattle.std.specs.Prelude.{filter, slice_range}
use Rattle.std.proofs.lemmas.Bool.{cases_lt, lt-ltb, le-ltb}
use Rattle.std.proofs.lemmas.List.{length-append, length-drop, length-take, take-take}
use Rattle.byteorder.specs.Endian.{big_number}
use Rattle.byteorder.specs.Numbers.{big_from-take}
use Rattle.chunk_core.specs.declared.fault.ChunkFault.{ChunkFault}
use Rattle.chunk_core.specs.declared.fault.ChunkFault.TheVariants.{DataCut}
use Rattle.chunk_core.specs.declared.layout.Span.{Span}
use Rattle.chunk_core.specs.Chunks.{Chunk, chunks}
use Rattle.chunk_core.specs.Places.{places, span_chunk}
use Rattle.chunk_core.specs.Reading.{first_of, size_of, spans_in}
use Rattle.chunk_core.specs.Steps.{◌>>=◌}
use Rattle.chunk_core.proofs.Ranges.{range_inner}
use Rattle.chunk_core.proofs.ReadingLaws.{walk_step}
use Rattle.dsd_bits.specs.declared.marks.Place.TheVariants.{Property, Master, Form}
use Rattle.dsd_bits.specs.Contents.{Content}
use Rattle.dsd_bits.specs.Ids.{same_id, DSD, MARK}
use Rattle.dsd_bits.specs.Lacing.{unlaced_all}
use Rattle.dsd_bits.specs.Layouts.{usual_layout}
use Rattle.dsdiff_core.specs.declared.fault.DsdiffFault.{DsdiffFault}
use Rattle.dsdiff_core.specs.declared.fault.DsdiffFault.TheVariants as faults
use Rattle.dsdiff_core.specs.Cuts.{CutIsRefused, EndsAtChunk, FormIsRead, cut_fault, last_size}
use Rattle.dsdiff_core.specs.Fields.{form_end, form_size}
use Rattle.dsdiff_core.specs.Forms.{cut_form, form_end_in, top_of}
use Rattle.dsdiff_core.specs.Headers.{data_cut, size_at}
use Rattle.dsdiff_core.specs.Kinds.{FRM8, has_id}
use Rattle.dsdiff_core.specs.Located.{EndsAtHead}
use Rattle.dsdiff_core.specs.Marks.{mark_in}
use Rattle.dsdiff_core.specs.Masters.{masters_of}
use Rattle.dsdiff_core.specs.Others.{kept}
use Rattle.dsdiff_core.specs.Properties.{PropertyFields, property_of}
use Rattle.dsdiff_core.specs.Reading.{marks_of, kept_others, recording_of}
use Rattle.dsdiff_core.specs.Sounds.{sound_leads, bytes_of_sound}
use Rattle.dsdiff_core.specs.Spans.{data_with}
use Rattle.dsdiff_core.specs.Steps.{walked}
use Rattle.dsdiff_core.proofs.Alike.{bind_same, inner_same, masters_same, once_alike, parts_same, property_same, same_alike, spans_same, version_alike}
use Rattle.dsdiff_core.proofs.FormLaws.{IsForm, end_again, end_ok, form_cut, same_again, top_ok}
use Rattle.dsdiff_core.proofs.HeaderEnds.{Same, same_data, same_spans}
use Rattle.dsdiff_core.proofs.LeadLaws.{after_on, number_prefix, part_header}
use Rattle.dsdiff_core.proofs.LocatedLaws.{end_is_read}
use Rattle.dsdiff_core.proofs.Steps.{walked_ok}
use Rattle.dsdiff_core.proofs.WalkLaws.{after, walk_over}

-- ---- a chunk whose data go past the end
first_cut : (at : ℕ) (bytes : List ℕ) → 12 ≤ length bytes → length bytes - 12 < size_of bytes → first_of at bytes ≡ Err (DataCut at (take 4 bytes) (size_of bytes))
unfolding first_of
first_cut at bytes head short = rw (le-ltb (length bytes) 12 head, lt-ltb (length bytes - 12) (size_of bytes) short) refl

pub spans_cut : (file : List ℕ) (at stop : ℕ) → at + 12 ≤ stop → stop ≤ length file → stop < at + 12 + size_at file at → spans_in file at stop ≡ Err (DataCut at (take 4 (drop at file)) (size_at file at))
unfolding spans_in
spans_cut file at stop head inside short =
    let bytes : List ℕ = slice_range file at stop in
    let long : length bytes ≡ stop - at = omega (arith, length-take (stop - at) (drop at file), length-drop at file) in
    let size : size_of bytes ≡ size_at file at =
    sym (big_from-take 0 8 8 (drop 4 bytes) (omega arith)) ∙ ap (big_number 8) (range_inner file at stop 4 8 (omega arith)) ∙ big_from-take 0 8 8 (drop (at + 4) file) (omega arith) in
    rw (walk_step at bytes (omega (arith, long, head)), first_cut at bytes (omega (arith, long, head)) (omega (arith, long, size, short)))
    (ap₂ (λ (id : List ℕ) (n : ℕ). let r : Result (List Span) ChunkFault = Err (DataCut at id n) in r) (take-take 4 (stop - at) (drop at file) (omega arith)) size)

pub top_fails : (file : List ℕ) (e : ChunkFault) (stop : ℕ) → form_end_in file ≡ Ok stop → spans_in file 16 stop ≡ Err e → recording_of file ≡ (walked (Err e) >>= λ (u : Unit {0}). Err faults.Memory)
unfolding recording_of top_of
top_fails file e stop end spans = rw (end, spans) refl

module _ (prefix rest : List ℕ) (h : EndsAtChunk prefix) where
  abbrev file : List ℕ
  file = prefix ++ rest

  long : 28 ≤ length prefix
  long = omega (arith, after_on 16 h.before, h.no_gap, h.ends)

  size : form_size file ≡ form_size prefix
  size = number_prefix 8 4 prefix rest (omega (arith, long))

  total : length file ≡ length prefix + length rest
  total = length-append prefix rest

  here : length prefix - 12 ≡ h.at
  here = omega (arith, h.ends)

  not_form : (take 4 file ≡ take 4 prefix) × (take 4 (drop 12 file) ≡ take 4 (drop 12 prefix))
  not_form = (part_header 4 0 prefix rest (omega (arith, long)), part_header 4 12 prefix rest (omega (arith, long)))

  -- the form ends in the file
  ended : 12 + form_size file ≤ length file + 1 → form_end file < length prefix + last_size prefix → recording_of file ≡ Err (data_cut prefix (length prefix - 12))
  ended fits short =
      let last : size_at file h.at ≡ last_size prefix = number_prefix 8 (h.at + 4) prefix rest (omega (arith, h.ends)) ∙ ap (size_at prefix) (sym here) in
      let low : 16 ≤ h.at = omega (arith, after_on 16 h.before, h.no_gap) in
      let range : slice_range file 16 h.at ≡ slice_range prefix 16 h.at = part_header (h.at - 16) 16 prefix rest (omega (arith, low, h.ends)) in
      let head : h.at + 12 ≤ form_end file = omega (arith, h.ends, h.head_in_form, size, total) in
      let form : IsForm file = record {
        long = omega (arith, long, total);
        form = not_form.0 ∙ h.form;
        kind = not_form.1 ∙ h.kind;
        holds_type = omega (arith, low, h.head_in_form, size);
        in_file = fits;
      } in
      let id : take 4 (drop h.at file) ≡ take 4 (drop (length prefix - 12) prefix) = part_header 4 h.at prefix rest (omega (arith, h.ends)) ∙ ap (λ (n : ℕ). take 4 (drop n prefix)) (sym here) in
      let cut : ChunkFault = DataCut h.at (take 4 (drop h.at file)) (size_at file h.at) in
      let spans : spans_in file 16 (form_end file) ≡ Err cut =
      walk_over file 16 h.at (form_end file) h.before (omega (arith, head)) (subst (λ (bs : List ℕ). chunks bs h.before) (sym range) h.are_before) h.no_gap
      ∙ ap (after (places 16 h.before)) (spans_cut file h.at (form_end file) head (omega arith) (omega (arith, short, last, h.ends))) in
      top_fails file cut (form_end file) (end_again file form) spans ∙ (λ i. let r : Result Content DsdiffFault = Err (faults.Chunk (DataCut (sym here i) (id i) (last i))) in r)

  cut_is : form_end file < length prefix + last_size prefix → recording_of file ≡ Err (cut_fault prefix (length file))
  cut_is short = elim (cases_lt (length file + 1) (12 + form_size prefix)) [
    | inl less ↦
        rw (lt-ltb (length file + 1) (12 + form_size prefix) less)
        (end_is_read file (cut_form (form_size file) (length file)) (form_cut file (omega (arith, long, total)) (same_again (take 4 file) FRM8 refl (not_form.0 ∙ h.form)) (same_again (take 4 (drop 12 file)) DSD refl (not_form.1 ∙ h.kind)) (omega (arith, less, size)))
        ∙ ap (λ (n : ℕ). let r : Result Content DsdiffFault = Err (cut_form n (length file)) in r) size)
    | inr enough ↦ rw (le-ltb (length file + 1) (12 + form_size prefix) enough) (ended (omega (arith, enough, size)) short)
  ]

pub cut_is_refused : CutIsRefused
cut_is_refused prefix rest h short = cut_is prefix rest h short

-- a prefix that ends with the head of its sound
pub head_is_chunk : (prefix : List ℕ) → EndsAtHead prefix → EndsAtChunk prefix
head_is_chunk prefix h = record {
  form = h.form;
  kind = h.kind;
  at = h.head.at;
  before = h.head.before;
  are_before = h.head.are_before;
  no_gap = h.head.no_gap;
  ends = h.ends;
  head_in_form = omega (arith, h.ends, h.in_form);
}

-- ---- bytes after the form
module _ (file rest : List ℕ) (long : 16 ≤ length file) (whole : 12 + form_size file ≤ length file) where
  abbrev F : List ℕ
  F = file ++ rest

  size_same : form_size F ≡ form_size file
  size_same = number_prefix 8 4 file rest (omega (arith, long))

  mins : min (12 + form_size file) (length F) ≡ min (12 + form_size file) (length file)
  mins = omega (arith, whole, length-append file rest)

  ends_alike : form_end_in F ≡ form_end_in file
  unfolding form_end_in
  ends_alike =
      rw (
        le-ltb (length F) 16 (omega (arith, long, length-append file rest)),
        le-ltb (length file) 16 long,
        part_header 4 0 file rest (omega (arith, long)),
        part_header 4 12 file rest (omega (arith, long)),
        size_same,
        le-ltb (length F + 1) (12 + form_size file) (omega (arith, whole, length-append file rest)),
        le-ltb (length file + 1) (12 + form_size file) (omega (arith, whole)),
      )
      (ap (λ (n : ℕ). let r : Result ℕ DsdiffFault = cond (not (same_id (take 4 file) FRM8)) (Err faults.NotDsdiff) (cond (not (same_id (take 4 (drop 12 file)) DSD)) (Err faults.NotDsdiff) (cond (ltb (form_size file) 4) (Err (faults.FormCut (form_size file) 0)) (Ok n))) in r) mins)

  range_same : (stop : ℕ) → stop ≤ length file → slice_range F 16 stop ≡ slice_range file 16 stop
  range_same stop le = part_header (stop - 16) 16 file rest (omega (arith, le, long))

  top_same : (top : List Span) → top_of file ≡ Ok top → Same F file top
  top_same top e =
      let t = top_ok file top e in
      (same_spans F file 16 (form_end file) top (range_same (form_end file) (omega arith)) t.spans).1

  stop_in : (stop : ℕ) → form_end_in file ≡ Ok stop → stop ≤ length file
  stop_in stop e = omega (arith, (end_ok file stop e).1)

  tops_alike : top_of F ≡ top_of file
  unfolding top_of
  tops_alike =
      bind_same (form_end_in F) (form_end_in file) _ _ ends_alike (λ stop e1.
      let range = range_same stop (stop_in stop e1) in
      bind_same (walked (spans_in F 16 stop)) (walked (spans_in file 16 stop)) _ _ (ap walked (spans_same F file 16 stop range)) (λ top e2.
      let a = same_alike F file top (same_spans F file 16 stop top range (walked_ok _ top e2)).1 in
      rw (version_alike F file top a, once_alike F file [] top tt a) refl))

  abbrev made : List ℕ → List Span → PropertyFields → List ℕ → List Span → Result Content DsdiffFault
  made G top stated sound inner = Ok (record {
    rate = stated.rate;
    channels = unlaced_all sound (length stated.ids);
    ids = stated.ids;
    layout = usual_layout (length stated.ids);
    marks = marks_of G inner;
    others = kept_others G stated.parts inner top;
    tag = [];
  })

  made_same : (top inner : List Span) (stated : PropertyFields) (sound : List ℕ) → Same F file top → property_of file top ≡ Ok stated → masters_of file top ≡ Ok inner → made F top stated sound inner ≡ made file top stated sound inner
  made_same top inner stated sound same e2 e3 =
      let a = same_alike F file top same in
      let own = inner_same F file top inner a e3 in
      let marks : marks_of F inner ≡ marks_of file inner = ap (λ (cs : List Chunk). map mark_in (filter (has_id MARK) cs)) own in
      let others : kept_others F stated.parts inner top ≡ kept_others file stated.parts inner top =
      λ i. kept Property (parts_same F file top stated a e2 i) ++ (kept Master (own i) ++ kept Form (same i)) in
      λ i. Ok (record {
        rate = stated.rate;
        channels = unlaced_all sound (length stated.ids);
        ids = stated.ids;
        layout = usual_layout (length stated.ids);
        marks = marks i;
        others = others i;
        tag = [];
      })

  read_same : recording_of F ≡ recording_of file
  unfolding recording_of
  read_same =
      bind_same (top_of F) (top_of file) _ _ tops_alike (λ top e1.
      let same = top_same top e1 in
      let a = same_alike F file top same in
      bind_same (property_of F top) (property_of file top) _ _ (property_same F file top a) (λ stated e2.
      bind_same (bytes_of_sound (sound_leads (map (span_chunk F) top)) (data_with F DSD top) (length stated.ids)) (bytes_of_sound (sound_leads (map (span_chunk file) top)) (data_with file DSD top) (length stated.ids)) _ _ (rw (same, same_data F file DSD top same) refl) (λ sound e3.
      bind_same (masters_of F top) (masters_of file top) _ _ (masters_same F file top a) (λ inner e4. made_same top inner stated sound same e2 e4))))

pub form_is_read : FormIsRead
form_is_read file rest long whole = read_same file rest long whole
