-- Reading in order, and what a file is.
use Rattle.std.proofs.Common.{◌≡◌, ℕ, ◌+◌, ◌-◌, ◌*◌, ◌/◌, ◌%◌, ◌^◌, ◌≤◌, Bool, true, List, [], ◌∷◌, ◌++◌, Some, length, map, take, drop, Result, Ok, refl, sym, ap, subst, ◌∙◌, arith}
use Rattle.std.specs.Prelude.{All, filter, find, slice_range}
use Rattle.std.proofs.lemmas.List.FromFn.{length-map-range_with_len}
use Rattle.byteorder.specs.Endian.{big_number}
use Rattle.chunk_core.specs.declared.layout.Span.{Span}
use Rattle.chunk_core.specs.Chunks.{Chunk, chunks}
use Rattle.chunk_core.specs.Places.{places, span_chunk}
use Rattle.chunk_core.proofs.PlaceLaws.{spans_found, spans_again}
use Rattle.chunk_core.proofs.Ranges.{range_after}
use Rattle.chunk_core.proofs.Steps.{bind_then}
use Rattle.dsd_bits.specs.declared.marks.Place.TheVariants.{Property, Master, Form}
use Rattle.dsd_bits.specs.Contents.{Content}
use Rattle.dsd_bits.specs.Ids.{FVER, FS, CHNL, CMPR, DSD, MARK}
use Rattle.dsd_bits.specs.Lacing.{unlaced_all}
use Rattle.dsd_bits.specs.Layouts.{usual_layout}
use Rattle.dsdiff_core.specs.declared.fault.DsdiffFault.{DsdiffFault}
use Rattle.dsdiff_core.specs.Fields.{form_end, ids_in}
use Rattle.dsdiff_core.specs.Files.{IsDsdiff, StatesProperty, joined}
use Rattle.dsdiff_core.specs.Forms.{top_of}
use Rattle.dsdiff_core.specs.Kinds.{has_id, is_property}
use Rattle.dsdiff_core.specs.Marks.{IsWholeMark, mark_in}
use Rattle.dsdiff_core.specs.Masters.{masters_of}
use Rattle.dsdiff_core.specs.Others.{kept}
use Rattle.dsdiff_core.specs.Properties.{PropertyFields, property_of}
use Rattle.dsdiff_core.specs.Reading.{marks_of, kept_others, recording_of}
use Rattle.dsdiff_core.specs.Sounds.{sound_leads, bytes_of_sound}
use Rattle.dsdiff_core.specs.Spans.{data_with, holds_property, span_has}
use Rattle.dsdiff_core.proofs.FormLaws.{IsTop, top_ok, top_again}
use Rattle.dsdiff_core.proofs.KindLaws.{filter_chunks, leads_again, order_again, order_ok, passes}
use Rattle.dsdiff_core.proofs.MarkLaws.{none_cut_again, whole_marks}
use Rattle.dsdiff_core.proofs.MasterLaws.{masters_again, masters_ok}
use Rattle.dsdiff_core.proofs.OnceLaws.{AtMostOne, is_found, only_one}
use Rattle.dsdiff_core.proofs.PropertyLaws.{IsProperty, IsStatedAt, data_ok, property_again, property_ok, stated_by}
use Rattle.dsdiff_core.proofs.SoundLaws.{IsSound, sound_again, sound_ok}

-- the recording that the four parts of reading make
abbrev made_of : List ℕ → List Span → PropertyFields → List ℕ → List Span → Content
made_of file top stated sound inner = record {
  rate = stated.rate;
  channels = unlaced_all sound (length stated.ids);
  ids = stated.ids;
  layout = usual_layout (length stated.ids);
  marks = marks_of file inner;
  others = kept_others file stated.parts inner top;
  tag = [];
}

-- the parts of reading, each with its value
pub record Parts (file : List ℕ) (r : Content) : Type 0 where
  pub top : List Span
  pub at_top : top_of file ≡ Ok top
  pub stated : PropertyFields
  pub at_stated : property_of file top ≡ Ok stated
  pub sound : List ℕ
  pub at_sound : bytes_of_sound (sound_leads (map (span_chunk file) top)) (data_with file DSD top) (length stated.ids) ≡ Ok sound
  pub inner : List Span
  pub at_inner : masters_of file top ≡ Ok inner
  pub made : made_of file top stated sound inner ≡ r

abbrev done : Content → Result Content DsdiffFault
done r = Ok r

pub same_content : (x y : Content) → done x ≡ done y → x ≡ y
same_content x y e = cc

pub parts_ok : (file : List ℕ) (r : Content) → recording_of file ≡ Ok r → Parts file r
unfolding recording_of
parts_ok file r e =
    bind_then (top_of file) _ r e (λ top e1 h1.
    bind_then (property_of file top) _ r h1 (λ stated e2 h2.
    bind_then (bytes_of_sound (sound_leads (map (span_chunk file) top)) (data_with file DSD top) (length stated.ids)) _ r h2 (λ sound e3 h3.
    bind_then (masters_of file top) _ r h3 (λ inner e4 h4.
    record {
      top = top;
      at_top = e1;
      stated = stated;
      at_stated = e2;
      sound = sound;
      at_sound = e3;
      inner = inner;
      at_inner = e4;
      made = same_content (made_of file top stated sound inner) r h4;
    }))))

pub parts_again : (file : List ℕ) (r : Content) → Parts file r → recording_of file ≡ Ok r
unfolding recording_of
parts_again file r p = rw (p.at_top, p.at_stated, p.at_sound, p.at_inner) (ap done p.made)

-- ---- chunks that occur once

pub one_chunk : (file : List ℕ) (test : Chunk → Bool) (ss : List Span) (s : Span) → AtMostOne ss (λ x. test (span_chunk file x)) → find (λ x. test (span_chunk file x)) ss ≡ Some s → filter test (map (span_chunk file) ss) ≡ span_chunk file s ∷ []
one_chunk file test ss s once found = filter_chunks file test ss ∙ ap (map (span_chunk file)) (only_one (λ x. test (span_chunk file x)) ss s once found)

one_of : (file : List ℕ) (xs : List Span) (c : Chunk) → map (span_chunk file) xs ≡ c ∷ [] → (s : Span) × (xs ≡ s ∷ []) × (span_chunk file s ≡ c)
one_of file [] c e = absurd cc
one_of file (s ∷ []) c e = (s, refl, cc (e))
one_of file (s ∷ t ∷ xs) c e = absurd cc

-- the span of a chunk that occurs once
pub record Stands (file : List ℕ) (test : Chunk → Bool) (ss : List Span) (c : Chunk) : Type 0 where
  pub span : Span
  pub found : find (λ x. test (span_chunk file x)) ss ≡ Some span
  pub is : span_chunk file span ≡ c
  pub once : AtMostOne ss (λ x. test (span_chunk file x))

pub stands : (file : List ℕ) (test : Chunk → Bool) (ss : List Span) (cs : List Chunk) (c : Chunk) → map (span_chunk file) ss ≡ cs → filter test cs ≡ c ∷ [] → Stands file test ss c
stands file test ss cs c back e =
    let o = one_of file (filter (λ x. test (span_chunk file x)) ss) c (sym (filter_chunks file test ss) ∙ ap (filter test) back ∙ e) in
    record { span = o.0; found = is_found (λ x. test (span_chunk file x)) ss o.0 [] o.1; is = o.2; once = omega (arith, ap length o.1) }

-- ---- the version

pub version_alone : (file : List ℕ) (top : List Span) (c : Chunk) (later : List Chunk) → AtMostOne top (span_has FVER) → map (span_chunk file) top ≡ c ∷ later → has_id FVER c ≡ true → filter (has_id FVER) (map (span_chunk file) top) ≡ c ∷ []
version_alone file [] c later once e h = absurd cc
version_alone file (s ∷ ss) c later once e h =
    let same : span_chunk file s ≡ c = cc (e) in
    let y : span_has FVER s ≡ true = rw (← same) at h in
    let found : find (span_has FVER) (s ∷ ss) ≡ Some s = rw y refl in
    one_chunk file (has_id FVER) (s ∷ ss) s once found ∙ ap (λ (x : Chunk). x ∷ []) same

-- ---- the property's range

pub after_type : (file : List ℕ) (s : Span) → slice_range file (s.start + 4) (s.start + s.size) ≡ drop 4 (span_chunk file s).content
after_type file s =
    let whole : s.start + s.size - s.start ≡ s.size = omega arith in
    sym (range_after file s.start (s.start + s.size) 4) ∙ ap (λ (k : ℕ). drop 4 (take k (drop s.start file))) whole

-- what was read of a sound property is what it states
pub record ArePropertyFields (file : List ℕ) (property : Span) (stated : PropertyFields) : Type 0 where
  pub states : StatesProperty (span_chunk file property) stated.rate (length stated.ids)
  pub ids : stated.ids ≡ ids_in (length stated.ids) (drop 2 states.names.content)
  pub parts : states.parts ≡ map (span_chunk file) stated.parts

pub stated_property : (file : List ℕ) (top : List Span) (stated : PropertyFields) (p : IsProperty file top stated) → ArePropertyFields file p.property stated
stated_property file top stated p =
    let parts : List Chunk = map (span_chunk file) stated.parts in
    let in_parts = spans_found file (p.property.start + 4) (p.property.start + p.property.size) stated.parts p.spans in
    let rates = data_ok file FS stated.parts p.rates p.at_rates in
    let names = data_ok file CHNL stated.parts p.names p.at_names in
    let kinds = data_ok file CMPR stated.parts p.kinds p.at_kinds in
    let states : IsStatedAt (span_chunk file rates.0).content (span_chunk file names.0).content (span_chunk file kinds.0).content stated.rate stated.ids = rw (rates.2, names.2, kinds.2) p.is_stated in
    let n : ℕ = big_number 2 (span_chunk file names.0).content in
    let number : length stated.ids ≡ n = ap length states.ids ∙ length-map-range_with_len (λ k. take 4 (drop (4 * k) (drop 2 (span_chunk file names.0).content))) 0 n in
    let stated_so : StatesProperty (span_chunk file p.property) stated.rate (length stated.ids) = record {
      parts = parts;
      are_parts = subst (λ (bs : List ℕ). chunks bs parts) (after_type file p.property) in_parts.0;
      rates = span_chunk file rates.0;
      names = span_chunk file names.0;
      kinds = span_chunk file kinds.0;
      one_rate = one_chunk file (has_id FS) stated.parts rates.0 p.once.0 rates.1;
      one_names = one_chunk file (has_id CHNL) stated.parts names.0 p.once.1.0 names.1;
      one_kind = one_chunk file (has_id CMPR) stated.parts kinds.0 p.once.1.1.0 kinds.1;
      rate_long = states.rate_long;
      rate_is = states.rate;
      rate_low = states.rate_low;
      rate_high = states.rate_high;
      number_is = number;
      some_channel = omega (arith, number, states.some_channel);
      six_channels = omega (arith, number, states.six_channels);
      names_long = omega (arith, number, states.names_long);
      raw = states.raw;
    } in
    record {
      states = stated_so;
      ids = states.ids ∙ ap (λ (k : ℕ). ids_in k (drop 2 (span_chunk file names.0).content)) (sym number);
      parts = refl;
    }

is_made : (file : List ℕ) (r : Content) (g : Parts file r) → IsDsdiff file (made_of file g.top g.stated g.sound g.inner)
is_made file r g =
    let top : List Chunk = map (span_chunk file) g.top in
    let t = top_ok file g.top g.at_top in
    let in_top = spans_found file 16 (form_end file) g.top t.spans in
    let p = property_ok file g.top g.stated g.at_stated in
    let property : Chunk = span_chunk file p.property in
    let property_is_stated = stated_property file g.top g.stated p in
    let sounds = sound_ok (sound_leads top) (data_with file DSD g.top) (length g.stated.ids) g.sound g.at_sound in
    let sound = data_ok file DSD g.top g.sound sounds.0 in
    let once : filter is_property top ≡ property ∷ [] = one_chunk file is_property g.top p.property t.once.1.0 p.found in
    let sound_once : filter (has_id DSD) top ≡ span_chunk file sound.0 ∷ [] = one_chunk file (has_id DSD) g.top sound.0 t.once.1.1.0 sound.1 in
    let is_sound : IsSound (sound_leads top) (span_chunk file sound.0).content (length g.stated.ids) = subst (λ (bs : List ℕ). IsSound (sound_leads top) bs (length g.stated.ids)) (sym sound.2) sounds.1 in
    let m = masters_ok file g.top g.inner g.at_inner in
    record {
      long = t.form.long;
      form = t.form.form;
      kind = t.form.kind;
      holds_type = t.form.holds_type;
      in_file = t.form.in_file;
      top = top;
      are_top = in_top.0;
      version = t.version.version;
      later = t.version.later;
      version_first = t.version.is;
      version_once = version_alone file g.top t.version.version t.version.later t.once.0 t.version.is t.version.id;
      version_long = t.version.long;
      version_main = t.version.main;
      property = property;
      sound = span_chunk file sound.0;
      property_then_sound = order_ok top property (span_chunk file sound.0) is_sound.after once sound_once;
      property_is = passes is_property top property [] once;
      sound_is = passes (has_id DSD) top (span_chunk file sound.0) [] sound_once;
      number = length g.stated.ids;
      states = property_is_stated.states;
      ids = property_is_stated.ids;
      whole = is_sound.whole;
      not_long = is_sound.not_long;
      channels = ap (λ (bs : List ℕ). unlaced_all bs (length g.stated.ids)) (sym sound.2);
      masters = m.masters;
      are_masters = m.each;
      whole_marks = subst (λ (cs : List Chunk). All IsWholeMark (filter (has_id MARK) cs)) (sym m.inner) (whole_marks (map (span_chunk file) g.inner) m.none_is_cut);
      marks = ap (λ (cs : List Chunk). map mark_in (filter (has_id MARK) cs)) (sym m.inner);
      others = ap (λ (cs : List Chunk). kept Property cs ++ (kept Master (map (span_chunk file) g.inner) ++ kept Form top)) (sym property_is_stated.parts) ∙ ap (λ (cs : List Chunk). kept Property property_is_stated.states.parts ++ (kept Master cs ++ kept Form top)) (sym m.inner);
      layout = refl;
      tag = refl;
    }

-- what is read is what the file is
pub is_dsdiff : (file : List ℕ) (r : Content) → Parts file r → IsDsdiff file r
is_dsdiff file r g =
    subst (IsDsdiff file) g.made (is_made file r g)

-- ---- the other way

-- the form's chunks of such a file
is_top : (file : List ℕ) (r : Content) (h : IsDsdiff file r) (top : List Span) → top ≡ places 16 h.top → map (span_chunk file) top ≡ h.top → IsTop file top
is_top file r h top e back =
    let order = order_again h.top h.property h.sound h.property_then_sound h.property_is h.sound_is in
    let v = stands file (has_id FVER) top h.top h.version back h.version_once in
    let p = stands file is_property top h.top h.property back order.0 in
    let s = stands file (has_id DSD) top h.top h.sound back order.1 in
    record {
      form = record { long = h.long; form = h.form; kind = h.kind; holds_type = h.holds_type; in_file = h.in_file };
      spans = (spans_again file 16 (form_end file) h.top h.are_top).0 ∙ ap (λ (ss : List Span). Ok ss) (sym e);
      version = record { version = h.version; later = h.later; is = back ∙ h.version_first; id = passes (has_id FVER) h.top h.version [] h.version_once; long = h.version_long; main = h.version_main };
      once = (v.once, (p.once, (s.once, tt)));
    }

content_at : (file id : List ℕ) (ss : List Span) (c : Chunk) → Stands file (has_id id) ss c → data_with file id ss ≡ Some c.content
content_at file id ss c s = rw s.found (ap (λ (x : Chunk). Some x.content) s.is)

-- a chunk that states rate and channels is read as that
pub property_stated : (file : List ℕ) (top parts : List Span) (span : Span) (property : Chunk) (rate number : ℕ) (t : StatesProperty property rate number) → find (holds_property file) top ≡ Some span → span_chunk file span ≡ property → parts ≡ places (span.start + 4) t.parts
    → IsProperty file top (stated_by rate (ids_in number (drop 2 t.names.content)) parts)
property_stated file top parts span property rate number t found same e =
    let range : slice_range file (span.start + 4) (span.start + span.size) ≡ drop 4 property.content = after_type file span ∙ ap (λ (c : Chunk). drop 4 c.content) same in
    let inner = spans_again file (span.start + 4) (span.start + span.size) t.parts (subst (λ (bs : List ℕ). chunks bs t.parts) (sym range) t.are_parts) in
    let back : map (span_chunk file) parts ≡ t.parts = ap (map (span_chunk file)) e ∙ inner.1 in
    let rs = stands file (has_id FS) parts t.parts t.rates back t.one_rate in
    let ns = stands file (has_id CHNL) parts t.parts t.names back t.one_names in
    let ks = stands file (has_id CMPR) parts t.parts t.kinds back t.one_kind in
    record {
      property = span;
      found = found;
      spans = inner.0 ∙ ap (λ (ss : List Span). Ok ss) (sym e);
      once = (rs.once, (ns.once, (ks.once, tt)));
      rates = t.rates.content;
      names = t.names.content;
      kinds = t.kinds.content;
      at_rates = content_at file FS parts t.rates rs;
      at_names = content_at file CHNL parts t.names ns;
      at_kinds = content_at file CMPR parts t.kinds ks;
      is_stated = record {
        rate_long = t.rate_long;
        rate = t.rate_is;
        rate_low = t.rate_low;
        rate_high = t.rate_high;
        some_channel = subst (λ (n : ℕ). 1 ≤ n) t.number_is t.some_channel;
        six_channels = subst (λ (n : ℕ). n ≤ 6) t.number_is t.six_channels;
        names_long = subst (λ (n : ℕ). 2 + 4 * n ≤ length t.names.content) t.number_is t.names_long;
        ids = ap (λ (n : ℕ). ids_in n (drop 2 t.names.content)) t.number_is;
        raw = t.raw;
      };
    }

pub is_property_of : (whole : List ℕ) (r : Content) (h : IsDsdiff whole r) (file : List ℕ) (top parts : List Span) (span : Span) → find (holds_property file) top ≡ Some span → span_chunk file span ≡ h.property → parts ≡ places (span.start + 4) h.states.parts
    → IsProperty file top (stated_by r.rate r.ids parts)
is_property_of whole r h file top parts span found same e =
    subst (λ (ids : List (List ℕ)). IsProperty file top (stated_by r.rate ids parts)) (sym h.ids) (property_stated file top parts span h.property r.rate h.number h.states found same e)

-- what the file is, is what is read
pub parts_from : (file : List ℕ) (r : Content) → IsDsdiff file r → Parts file r
parts_from file r h =
    let top : List Span = places 16 h.top in
    let back : map (span_chunk file) top ≡ h.top = (spans_again file 16 (form_end file) h.top h.are_top).1 in
    let order = order_again h.top h.property h.sound h.property_then_sound h.property_is h.sound_is in
    let p = stands file is_property top h.top h.property back order.0 in
    let s = stands file (has_id DSD) top h.top h.sound back order.1 in
    let parts : List Span = places (p.span.start + 4) h.states.parts in
    let stated : PropertyFields = stated_by r.rate r.ids parts in
    let range : slice_range file (p.span.start + 4) (p.span.start + p.span.size) ≡ drop 4 h.property.content = after_type file p.span ∙ ap (λ (c : Chunk). drop 4 c.content) p.is in
    let parts_back : map (span_chunk file) parts ≡ h.states.parts = (spans_again file (p.span.start + 4) (p.span.start + p.span.size) h.states.parts (subst (λ (bs : List ℕ). chunks bs h.states.parts) (sym range) h.states.are_parts)).1 in
    let number : length r.ids ≡ h.number = ap length h.ids ∙ length-map-range_with_len (λ k. take 4 (drop (4 * k) (drop 2 h.states.names.content))) 0 h.number in
    let sounds : IsSound (sound_leads (map (span_chunk file) top)) h.sound.content (length r.ids) = record {
      after = ap sound_leads back ∙ leads_again h.top h.property (h.sound ∷ []) h.property_then_sound h.property_is;
      whole = ap (λ (n : ℕ). length h.sound.content % n) number ∙ h.whole;
      not_long = subst (λ (n : ℕ). 8 * (length h.sound.content / n) ≤ 2 ^ 36) (sym number) h.not_long;
    } in
    let m = masters_again file top h.masters (rw back h.are_masters) (none_cut_again (joined h.masters) h.whole_marks) in
    let others_are : kept_others file parts m.0 top ≡ r.others = rw (parts_back, m.2, back) (sym h.others) in
    record {
      top = top;
      at_top = top_again file top (is_top file r h top refl back);
      stated = stated;
      at_stated = property_again file top stated (is_property_of file r h file top parts p.span p.found p.is refl);
      sound = h.sound.content;
      at_sound = rw (content_at file DSD top h.sound s) (sound_again (sound_leads (map (span_chunk file) top)) h.sound.content (length r.ids) sounds);
      inner = m.0;
      at_inner = m.1;
      made = λ i. record {
        rate = r.rate;
        channels = (ap (λ (n : ℕ). unlaced_all h.sound.content n) number ∙ sym h.channels) i;
        ids = r.ids;
        layout = (ap usual_layout number ∙ sym h.layout) i;
        marks = (ap (λ (cs : List Chunk). map mark_in (filter (has_id MARK) cs)) m.2 ∙ sym h.marks) i;
        others = others_are i;
        tag = sym h.tag i;
      };
    }
