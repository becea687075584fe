-- Other sound bytes change nothing of what is read but the channels.
use Rattle.std.proofs.Common.{◌≡◌, ℕ, ◌+◌, ◌-◌, ◌*◌, ◌/◌, ◌%◌, ◌^◌, ◌≤◌, inr, Bool, true, false, cond, ltb, eqb, not, List, [], ◌∷◌, ◌++◌, length, map, take, drop, Option, Some, Result, Ok, Err, refl, sym, ap, ap₂, subst, ◌∙◌, arith}
use Rattle.std.specs.Prelude.{filter, find, slice_range}
use Rattle.std.proofs.lemmas.List.{append_assoc, drop_at, length-append, take_at}
use Rattle.chunk_core.specs.declared.fault.ChunkFault.{ChunkFault}
use Rattle.chunk_core.specs.declared.layout.Span.{Span}
use Rattle.chunk_core.specs.Chunks.{Chunk, width}
use Rattle.chunk_core.specs.Places.{places, span_chunk}
use Rattle.chunk_core.specs.Reading.{spans_in}
use Rattle.chunk_core.specs.Steps.{◌>>=◌}
use Rattle.chunk_core.proofs.PlaceLaws.{spans_again}
use Rattle.chunk_core.proofs.Steps.{bind_then}
use Rattle.dsd_bits.specs.declared.marks.Place.TheVariants.{Property, Master, Form}
use Rattle.dsd_bits.specs.Contents.{Content, OtherContent}
use Rattle.dsd_bits.specs.Ids.{DSD, MARK}
use Rattle.dsd_bits.specs.Lacing.{unlaced_all}
use Rattle.dsd_bits.specs.Layouts.{usual_layout}
use Rattle.dsdiff_core.specs.declared.fault.DsdiffFault.{DsdiffFault}
use Rattle.dsdiff_core.specs.declared.fault.DsdiffFault.TheVariants as faults
use Rattle.dsdiff_core.specs.Fields.{form_end, form_size}
use Rattle.dsdiff_core.specs.Forms.{form_end_in, top_of, known_version}
use Rattle.dsdiff_core.specs.Kinds.{has_id}
use Rattle.dsdiff_core.specs.Located.{EndsAtHead, stated_size}
use Rattle.dsdiff_core.specs.Marks.{mark_in}
use Rattle.dsdiff_core.specs.Masters.{masters_of}
use Rattle.dsdiff_core.specs.Others.{kept}
use Rattle.dsdiff_core.specs.Properties.{PropertyFields, property_of}
use Rattle.dsdiff_core.specs.Reading.{marks_of, kept_others, recording_of}
use Rattle.dsdiff_core.specs.SoundBytes.{SoundIsFree, read_with_sound}
use Rattle.dsdiff_core.specs.Sounds.{sound_leads, bytes_of_sound}
use Rattle.dsdiff_core.specs.Spans.{data_with, once_each, span_has, top_kinds}
use Rattle.dsdiff_core.specs.Steps.{walked}
use Rattle.dsdiff_core.proofs.Alike.{Alike, alike_join, bind_same, inner_same, kept_alike, leads_alike, masters_same, once_alike, parts_same, property_same, same_alike, spans_same, version_alike}
use Rattle.dsdiff_core.proofs.FileLaws.{parts_ok}
use Rattle.dsdiff_core.proofs.FormLaws.{end_ok}
use Rattle.dsdiff_core.proofs.SoundLaws.{sound_ok}
use Rattle.dsdiff_core.proofs.HeaderEnds.{same_spans}
use Rattle.dsdiff_core.proofs.LeadLaws.{none_first, number_prefix, part_header}
use Rattle.dsdiff_core.proofs.OtherSound.{tail_is}
use Rattle.dsdiff_core.proofs.Steps.{walked_ok}
use Rattle.dsdiff_core.proofs.WalkLaws.{after, lead_chunks, long, sound_span, walk_across}

-- a step that is the same but for the sound, and what follows from its value
with_step : {A : Type 0} (sound : List ℕ) (r q : Result A DsdiffFault) (f g : A → Result Content DsdiffFault) → r ≡ q → ((x : A) → q ≡ Ok x → f x ≡ read_with_sound sound (g x)) → (r >>= f) ≡ read_with_sound sound (q >>= g)
with_step sound r (Ok x) f g e h = rw e (h x refl)
with_step sound r (Err d) f g e h = rw e refl

-- sound bytes of one number are taken alike
taken_alike : (leads : Bool) (bytes other : List ℕ) (n : ℕ) (f g : List ℕ → Result Content DsdiffFault) → length other ≡ length bytes → f other ≡ read_with_sound other (g bytes)
    → (bytes_of_sound leads (Some other) n >>= f) ≡ read_with_sound other (bytes_of_sound leads (Some bytes) n >>= g)
taken_alike leads bytes other n f g e h = rw e (by leads (not (eqb (length bytes % n) 0)) (ltb (2 ^ 36) (8 * (length bytes / n))))
  where
    by : (a b c : Bool) → (cond a (Err faults.SoundBeforeProperty) (cond b (Err (faults.PartFrame (length bytes) n)) (cond c (Err (faults.TooLong (length bytes) n)) (Ok other))) >>= f) ≡ read_with_sound other (cond a (Err faults.SoundBeforeProperty) (cond b (Err (faults.PartFrame (length bytes) n)) (cond c (Err (faults.TooLong (length bytes) n)) (Ok bytes))) >>= g)
    by true b c = refl
    by false true c = refl
    by false false true = refl
    by false false false = h

-- the first sound after chunks of which none is one
first_sound : (from : ℕ) (before : List Chunk) (s : Span) (ss : List Span) → filter (has_id DSD) before ≡ [] → span_has DSD s ≡ true → find (span_has DSD) (places from before ++ s ∷ ss) ≡ Some s
first_sound from [] s ss none is = rw is refl
first_sound from (c ∷ cs) s ss none is = let p = none_first c cs none in rw p.0 (first_sound (from + width c) cs s ss p.1 is)

-- what was found after others
pub after_ok : (prefix : List Span) (found : Result (List Span) ChunkFault) (top : List Span) → after prefix found ≡ Ok top → (ss : List Span) × (found ≡ Ok ss) × (top ≡ prefix ++ ss)
after_ok prefix (Ok ss) top e = (ss, refl, cc (e))
after_ok prefix (Err d) top e = absurd cc

module _ (prefix back : List ℕ) (h : EndsAtHead prefix) where
  -- the form ends at the same place, after the sound
  file_long : (sound : List ℕ) → length sound ≡ stated_size prefix → length (prefix ++ (sound ++ back)) ≡ length prefix + stated_size prefix + length back
  file_long sound size = omega (arith, size, length-append prefix (sound ++ back), length-append sound back)

  size_is : (sound : List ℕ) → form_size (prefix ++ (sound ++ back)) ≡ form_size prefix
  size_is sound = number_prefix 8 4 prefix (sound ++ back) (omega (arith, long prefix h))

  pub end_same : (sound other : List ℕ) → length sound ≡ stated_size prefix → length other ≡ stated_size prefix → form_end_in (prefix ++ (other ++ back)) ≡ form_end_in (prefix ++ (sound ++ back))
  unfolding form_end_in
  end_same sound other size_s size_o =
      let l = long prefix h in
      rw (
        file_long sound size_s,
        file_long other size_o,
        size_is sound,
        size_is other,
        part_header 4 0 prefix (sound ++ back) (omega (arith, l)),
        part_header 4 0 prefix (other ++ back) (omega (arith, l)),
        part_header 4 12 prefix (sound ++ back) (omega (arith, l)),
        part_header 4 12 prefix (other ++ back) (omega (arith, l)),
      ) refl

  pub end_fits : (sound : List ℕ) (stop : ℕ) → length sound ≡ stated_size prefix → form_end (prefix ++ (sound ++ back)) ≡ stop → length prefix + length sound ≤ stop
  end_fits sound stop size e = omega (arith, sym e, size, file_long sound size, size_is sound, h.in_form)

  module _ (sound other : List ℕ) (size_s : length sound ≡ stated_size prefix) (size_o : length other ≡ stated_size prefix) where
    abbrev F : List ℕ
    F = prefix ++ (other ++ back)

    abbrev G : List ℕ
    G = prefix ++ (sound ++ back)

    -- after the sound the same bytes follow
    abbrev start : ℕ
    start = length prefix + stated_size prefix + stated_size prefix % 2

    same_tail : (stop : ℕ) → slice_range F start stop ≡ slice_range G start stop
    same_tail stop =
        let q : ℕ = stated_size prefix % 2 in
        let of_F : drop start F ≡ drop q back = ap (λ (n : ℕ). drop (length prefix + n + q) F) (sym size_o) ∙ tail_is prefix other back q in
        let of_G : drop start G ≡ drop q back = ap (λ (n : ℕ). drop (length prefix + n + q) G) (sym size_s) ∙ tail_is prefix sound back q in
        ap (take (stop - start)) (of_F ∙ sym of_G)

    -- the chunks are at the same places, and are alike but for the sound
    spans_alike : (stop : ℕ) → length prefix + stated_size prefix ≤ stop → spans_in F 16 stop ≡ spans_in G 16 stop
    spans_alike stop fits =
        walk_across prefix h other back size_o stop (omega (arith, size_o, fits))
        ∙ ap (after (places 16 h.head.before ++ sound_span prefix h ∷ [])) (spans_same F G start stop (same_tail stop))
        ∙ sym (walk_across prefix h sound back size_s stop (omega (arith, size_s, fits)))

    record AlikeTop (top : List Span) : Type 0 where
      pub later : List Span
      pub is : top ≡ places 16 h.head.before ++ sound_span prefix h ∷ later
      pub alike : Alike F G top

    top_alike : (stop : ℕ) (top : List Span) → length prefix + stated_size prefix ≤ stop → spans_in G 16 stop ≡ Ok top → AlikeTop top
    top_alike stop top fits e =
        let lead : List Span = places 16 h.head.before in
        let p = after_ok (lead ++ sound_span prefix h ∷ []) (spans_in G start stop) top (sym (walk_across prefix h sound back size_s stop (omega (arith, size_s, fits))) ∙ e) in
        let is : top ≡ lead ++ sound_span prefix h ∷ p.0 = p.2 ∙ append_assoc lead (sound_span prefix h ∷ []) p.0 in
        let before_F = (spans_again F 16 h.head.at h.head.before (lead_chunks prefix h other back size_o)).1 in
        let before_G = (spans_again G 16 h.head.at h.head.before (lead_chunks prefix h sound back size_s)).1 in
        let after_it = same_alike F G p.0 (same_spans F G start stop p.0 (same_tail stop) p.1).1 in
        record {
          later = p.0;
          is = is;
          alike = subst (Alike F G) (sym is) (alike_join F G lead (sound_span prefix h ∷ p.0) (same_alike F G lead (before_F ∙ sym before_G)) (inr refl, after_it));
        }

    -- the form's chunks
    top_same : top_of F ≡ top_of G
    unfolding top_of
    top_same =
        bind_same (form_end_in F) (form_end_in G) _ _ (end_same sound other size_s size_o) (λ stop e1.
        let fits = end_fits sound stop size_s (end_ok G stop e1).1 in
        bind_same (walked (spans_in F 16 stop)) (walked (spans_in G 16 stop)) _ _ (ap walked (spans_alike stop (omega (arith, fits, size_s)))) (λ top e2.
        let a = (top_alike stop top (omega (arith, fits, size_s)) (walked_ok _ top e2)).alike in
        rw (version_alike F G top a, once_alike F G [] top tt a) refl))

    top_is : (top : List Span) → top_of G ≡ Ok top → AlikeTop top
    unfolding top_of
    top_is top e =
        bind_then (form_end_in G) _ top e (λ stop e1 h1.
        bind_then (walked (spans_in G 16 stop)) _ top h1 (λ found e2 h2.
        bind_then (known_version (map (span_chunk G) found)) _ top h2 (λ u e3 h3.
        bind_then (once_each (top_kinds G) [] found) _ top h3 (λ w e4 h4.
        let same : found ≡ top = cc (h4) in
        let fits = end_fits sound stop size_s (end_ok G stop e1).1 in
        subst AlikeTop same (top_alike stop found (omega (arith, fits, size_s)) (walked_ok _ found e2))))))

    -- the bytes of the sound
    bytes_of : (bytes : List ℕ) (top : List Span) → length bytes ≡ stated_size prefix → AlikeTop top → data_with (prefix ++ (bytes ++ back)) DSD top ≡ Some bytes
    bytes_of bytes top size t =
        rw (t.is, first_sound 16 h.head.before (sound_span prefix h) t.later h.head.no_sound refl)
        (ap (λ (bs : List ℕ). let r : Option (List ℕ) = Some bs in r) (ap (take (stated_size prefix)) (drop_at prefix (bytes ++ back) (length prefix) refl) ∙ take_at bytes back (stated_size prefix) size))

    -- what the steps state
    abbrev made : List ℕ → List Span → PropertyFields → List ℕ → List Span → Result Content DsdiffFault
    made file top stated bytes inner = Ok (record {
      rate = stated.rate;
      channels = unlaced_all bytes (length stated.ids);
      ids = stated.ids;
      layout = usual_layout (length stated.ids);
      marks = marks_of file inner;
      others = kept_others file stated.parts inner top;
      tag = [];
    })

    same_made : (top inner : List Span) (stated : PropertyFields) → AlikeTop top → property_of G top ≡ Ok stated → masters_of G top ≡ Ok inner → made F top stated other inner ≡ read_with_sound other (made G top stated sound inner)
    same_made top inner stated t e2 e3 =
        let marks : marks_of F inner ≡ marks_of G inner = ap (λ (cs : List Chunk). map mark_in (filter (has_id MARK) cs)) (inner_same F G top inner t.alike e3) in
        let others : kept_others F stated.parts inner top ≡ kept_others G stated.parts inner top =
        ap₂ (λ (cs ds : List Chunk). kept Property cs ++ (kept Master ds ++ kept Form (map (span_chunk F) top))) (parts_same F G top stated t.alike e2) (inner_same F G top inner t.alike e3)
        ∙ ap (λ (os : List OtherContent). kept Property (map (span_chunk G) stated.parts) ++ (kept Master (map (span_chunk G) inner) ++ os)) (kept_alike F G top t.alike) in
        λ i. Ok (record {
          rate = stated.rate;
          channels = unlaced_all other (length stated.ids);
          ids = stated.ids;
          layout = usual_layout (length stated.ids);
          marks = marks i;
          others = others i;
          tag = [];
        })

    same_recording : recording_of F ≡ read_with_sound other (recording_of G)
    unfolding recording_of
    same_recording =
        with_step other (top_of F) (top_of G) _ _ top_same (λ top e1.
        let t = top_is top e1 in
        with_step other (property_of F top) (property_of G top) _ _ (property_same F G top t.alike) (λ stated e2.
        rw (leads_alike F G top t.alike, bytes_of other top size_o t, bytes_of sound top size_s t)
        (taken_alike (sound_leads (map (span_chunk G) top)) sound other (length stated.ids) (λ bytes. masters_of F top >>= λ inner. made F top stated bytes inner) (λ bytes. masters_of G top >>= λ inner. made G top stated bytes inner) (size_o ∙ sym size_s)
        (with_step other (masters_of F top) (masters_of G top) _ _ (masters_same F G top t.alike) (λ inner e3. same_made top inner stated t e2 e3)))))

    -- the sound of what is read is whole, and not too long
    pub sound_fits : (r : Content) → recording_of G ≡ Ok r → (length sound % length r.ids ≡ 0) × (8 * (length sound / length r.ids) ≤ 2 ^ 36)
    sound_fits r e =
        let p = parts_ok G r e in
        let leads : Bool = sound_leads (map (span_chunk G) p.top) in
        let taken = subst (λ (o : Option (List ℕ)). bytes_of_sound leads o (length p.stated.ids) ≡ Ok p.sound) (bytes_of sound p.top size_s (top_is p.top p.at_top)) p.at_sound in
        let s = sound_ok leads (Some sound) (length p.stated.ids) p.sound taken in
        let same : p.sound ≡ sound = cc (s.0) in
        let ids : length p.stated.ids ≡ length r.ids = ap (λ (x : Content). length x.ids) p.made in
        (ap₂ (λ (k n : ℕ). k % n) (sym (ap length same)) (sym ids) ∙ s.1.whole, subst (λ (n : ℕ). 8 * (length sound / n) ≤ 2 ^ 36) ids (subst (λ (bs : List ℕ). 8 * (length bs / length p.stated.ids) ≤ 2 ^ 36) same s.1.not_long))

-- the law
pub sound_is_free : SoundIsFree
sound_is_free prefix sound other back h size_s size_o = same_recording prefix back h sound other size_s size_o
