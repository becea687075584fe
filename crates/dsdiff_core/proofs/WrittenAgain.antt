-- What is written is read again.
use Rattle.std.proofs.Common.{◌≡◌, ◌≤◌, ℕ, suc, ◌+◌, ◌*◌, ◌/◌, ◌%◌, ◌^◌, ◌<◌, Bool, true, false, cond, List, [], ◌∷◌, ◌++◌, None, Some, All, filter, flat_map, length, map, refl, sym, ap, subst, ◌∙◌, arith, add-zero}
use Rattle.std.specs.Prelude.{◌==◌, if◌then◌else◌, ◌||◌, ◌&&◌, nat_eq}
use Rattle.std.specs.List.{AllByRecursion, AllZip, starts_with}
use Rattle.std.proofs.lemmas.List.{append-nil, length-append, map-append}
use Rattle.std.proofs.lemmas.List.Elements.{All-nil, All-cons, All-append, All-map, All-filter, All-weaker, All-from_recursion, recursion_from_All, filter-append}
use Rattle.std.proofs.lemmas.List.FromFn.{length-map-range_with_len}
use Rattle.std.proofs.lemmas.Bool.{eqb-true}
use Rattle.std.proofs.lemmas.Grind.{flat_map-append}
use Rattle.std.proofs.lemmas.Nat.{div-mul-add, mod-mul-add}
use Rattle.byteorder.specs.Endian.{big_number, big_bytes}
use Rattle.byteorder.specs.Numbers.{big_number-reads_back}
use Rattle.chunk_core.specs.Chunks.{Chunk, CanBeWritten, chunks, spell}
use Rattle.chunk_core.specs.Laws.{SpelledAgain}
use Rattle.dsd_bits.specs.declared.marks.Place.{Place}
use Rattle.dsd_bits.specs.declared.marks.Place.TheVariants.{Property, Master, Form}
use Rattle.dsd_bits.specs.Channels.{count_of}
use Rattle.dsd_bits.specs.Contents.{Content, MarkContent, OtherContent}
use Rattle.dsd_bits.specs.Ids.{same_id, FVER, PROP, SND, FS, CHNL, CMPR, DSD, DIIN, MARK}
use Rattle.dsd_bits.specs.Lacing.{LacedReadAgain, frame_number, laced_byte, laced}
use Rattle.dsd_bits.specs.Shape.{HasShape, same_place, at_place, has_part}
use Rattle.dsdiff_core.specs.Fields.{ids_in}
use Rattle.dsdiff_core.specs.Files.{IsDsdiff, joined}
use Rattle.dsdiff_core.specs.Kinds.{has_id, is_property}
use Rattle.dsdiff_core.specs.Marks.{IsWholeMark, mark_in}
use Rattle.dsdiff_core.specs.Others.{other_in, kept}
use Rattle.dsdiff_core.specs.ReadAgain.{FitsFields, FitsMark, WrittenReadAgain, as_stored}
use Rattle.dsdiff_core.specs.Writing.{version_chunk, rate_chunk, channels_chunk, compression_chunk, mark_chunk, other_chunk, others_of, property_chunks, property_chunk, sound_chunk, master_chunks, edited_master, last_chunks, form_chunks, form_text}
use Rattle.dsdiff_core.proofs.WrittenForms.{joined_ids, joined_long, ids_again, length-form_text, form_again, all_fit, master_shorter}
use Rattle.dsdiff_core.proofs.WrittenMarks.{mark_whole, marks_again}
use Rattle.dsdiff_core.proofs.WrittenOthers.{IsKeptAt, or_left, or_right, stand_there, none_found, kept_again}

-- ---- the edited master
-- its list of chunks, where there is one
abbrev lists_of : List Chunk → List (List Chunk)
lists_of [] = []
lists_of (c ∷ cs) = (c ∷ cs) ∷ []

joined_lists : (cs : List Chunk) → joined (lists_of cs) ≡ cs
joined_lists [] = refl
joined_lists (c ∷ cs) = append-nil (c ∷ cs)

-- each master is made of its chunks
masters_zip : SpelledAgain → (cs : List Chunk) → All CanBeWritten cs → AllZip (λ c list. chunks c.content list) (edited_master cs) (lists_of cs)
masters_zip law [] fits = tt
masters_zip law (c ∷ cs) fits = (law (c ∷ cs) fits, tt)

master_found : (cs : List Chunk) → filter (has_id DIIN) (edited_master cs) ≡ edited_master cs
master_found [] = refl
master_found (c ∷ cs) = refl

master_dropped : (cs : List Chunk) → kept Form (edited_master cs) ≡ []
master_dropped [] = refl
master_dropped (c ∷ cs) = refl

no_masters : (p : Chunk → Bool) → ((content : List ℕ) → p (record { id = DIIN; content = content }) ≡ false) → (cs : List Chunk) → filter p (edited_master cs) ≡ []
no_masters p fails [] = refl
no_masters p fails (c ∷ cs) = ap (λ b. cond b (record { id = DIIN; content = flat_map spell (c ∷ cs) } ∷ []) []) (fails (flat_map spell (c ∷ cs)))

masters_named : (cs : List Chunk) → All (λ c. length c.id ≡ 4) (edited_master cs)
masters_named [] = All-nil (λ c. length c.id ≡ 4)
masters_named (c ∷ cs) = All-cons (λ c. length c.id ≡ 4) (record { id = DIIN; content = flat_map spell (c ∷ cs) }) [] refl (All-nil (λ c. length c.id ≡ 4))

-- ---- marks
marks_found : (ms : List MarkContent) → filter (has_id MARK) (map mark_chunk ms) ≡ map mark_chunk ms
marks_found [] = refl
marks_found (m ∷ ms) = ap (λ cs. mark_chunk m ∷ cs) (marks_found ms)

marks_dropped : (ms : List MarkContent) → kept Master (map mark_chunk ms) ≡ []
marks_dropped [] = refl
marks_dropped (m ∷ ms) = marks_dropped ms

marks_named : (ms : List MarkContent) → All (λ c. length c.id ≡ 4) (map mark_chunk ms)
marks_named ms = All-map (λ c. length c.id ≡ 4) mark_chunk ms (λ k d lt. refl)

-- ---- what is kept
kept-append : (place : Place) (xs ys : List Chunk) → kept place (xs ++ ys) ≡ kept place xs ++ kept place ys
kept-append place xs ys = ap (map (other_in place)) (filter-append _ xs ys) ∙ map-append (other_in place) _ _

-- a chunk that is kept in the form is neither of these
record IsOther (o : OtherContent) : Type 0 where
  version : same_id o.id FVER ≡ false
  sound : same_id o.id DSD ≡ false
  master : same_id o.id DIIN ≡ false
  property : (same_id o.id PROP && starts_with nat_eq o.bytes SND) ≡ false

is_other : (o : OtherContent) → has_part Form o.id o.bytes ≡ false → IsOther o
is_other o h =
    let a = same_id o.id FVER in
    let b = same_id o.id DSD in
    let c = same_id o.id DIIN in
    let d = same_id o.id PROP && starts_with nat_eq o.bytes SND in
    let three = or_left (a || b || c) d h in
    let two = or_left (a || b) c three in
    record { version = or_left a b two; sound = or_right a b two; master = or_right (a || b) c three; property = or_right (a || b || c) d h }

module _ (r : Content) (h : HasShape r) (f : FitsFields r) where
  named : (place : Place) → All (λ c. length c.id ≡ 4) (others_of place r.others)
  named place = All-map (λ c. length c.id ≡ 4) other_chunk (at_place place r.others) (All-filter (λ o. same_place o.place place) (λ o. length o.id ≡ 4) r.others f.others)

  stands : (place : Place) → AllByRecursion (IsKeptAt place) (at_place place r.others)
  stands place = recursion_from_All (IsKeptAt place) (at_place place r.others) (stand_there place r.others h.no_parts)

  kept_there : (place : Place) → kept place (others_of place r.others) ≡ at_place place r.others
  kept_there place = kept_again place (at_place place r.others) (stands place)

  -- after the sound there is nothing that the form has once
  none_last : (p : Chunk → Bool) → ((content : List ℕ) → p (record { id = DIIN; content = content }) ≡ false) → ((o : OtherContent) → has_part Form o.id o.bytes ≡ false → p (other_chunk o) ≡ false)
      → filter p (last_chunks r) ≡ []
  none_last p fails_master fails =
      filter-append p (edited_master (master_chunks r)) (others_of Form r.others)
      ∙ ap (λ cs. cs ++ filter p (others_of Form r.others)) (no_masters p fails_master (master_chunks r))
      ∙ none_found p Form (at_place Form r.others) fails (stands Form)

  no_version : filter (has_id FVER) (last_chunks r) ≡ []
  no_version = none_last (has_id FVER) (λ content. refl) (λ o free. (is_other o free).version)

  no_property_or_sound : filter (λ c. is_property c || has_id DSD c) (last_chunks r) ≡ []
  no_property_or_sound =
      none_last (λ c. is_property c || has_id DSD c) (λ content. refl) (λ o free. ap (λ b. b || same_id o.id DSD) (is_other o free).property ∙ (is_other o free).sound)

  masters_found : filter (has_id DIIN) (form_chunks r) ≡ edited_master (master_chunks r)
  masters_found =
      filter-append (has_id DIIN) (edited_master (master_chunks r)) (others_of Form r.others)
      ∙ ap (λ cs. cs ++ filter (has_id DIIN) (others_of Form r.others)) (master_found (master_chunks r))
      ∙ ap (λ cs. edited_master (master_chunks r) ++ cs) (none_found (has_id DIIN) Form (at_place Form r.others) (λ o free. (is_other o free).master) (stands Form))
      ∙ append-nil (edited_master (master_chunks r))

  marks_in_master : filter (has_id MARK) (joined (lists_of (master_chunks r))) ≡ map mark_chunk r.marks
  marks_in_master =
      ap (filter (has_id MARK)) (joined_lists (master_chunks r))
      ∙ filter-append (has_id MARK) (map mark_chunk r.marks) (others_of Master r.others)
      ∙ ap (λ cs. cs ++ filter (has_id MARK) (others_of Master r.others)) (marks_found r.marks)
      ∙ ap (λ cs. map mark_chunk r.marks ++ cs) (none_found (has_id MARK) Master (at_place Master r.others) (λ o free. free) (stands Master))
      ∙ append-nil (map mark_chunk r.marks)

  kept_master : kept Master (joined (lists_of (master_chunks r))) ≡ at_place Master r.others
  kept_master =
      ap (kept Master) (joined_lists (master_chunks r))
      ∙ kept-append Master (map mark_chunk r.marks) (others_of Master r.others)
      ∙ ap (λ os. os ++ kept Master (others_of Master r.others)) (marks_dropped r.marks)
      ∙ kept_there Master

  kept_form : kept Form (form_chunks r) ≡ at_place Form r.others
  kept_form =
      kept-append Form (edited_master (master_chunks r)) (others_of Form r.others)
      ∙ ap (λ os. os ++ kept Form (others_of Form r.others)) (master_dropped (master_chunks r))
      ∙ kept_there Form

  -- nothing else is kept
  others_again : r.others ≡ kept Property (property_chunks r) ++ (kept Master (joined (lists_of (master_chunks r))) ++ kept Form (form_chunks r))
  others_again =
      h.in_order ∙ sym (ap (λ os. os ++ (kept Master (joined (lists_of (master_chunks r))) ++ kept Form (form_chunks r))) (kept_there Property)
      ∙ ap (λ os. at_place Property r.others ++ (os ++ kept Form (form_chunks r))) kept_master
      ∙ ap (λ os. at_place Property r.others ++ (at_place Master r.others ++ os)) kept_form)

  -- ---- what fits
  top_named : AllByRecursion (λ c. length c.id ≡ 4) (form_chunks r)
  top_named =
      (refl, (refl, (refl, recursion_from_All (λ c. length c.id ≡ 4) (last_chunks r) (All-append (λ c. length c.id ≡ 4) (edited_master (master_chunks r)) (others_of Form r.others) (masters_named (master_chunks r)) (named Form)))))

  parts_named : AllByRecursion (λ c. length c.id ≡ 4) (property_chunks r)
  parts_named = (refl, (refl, (refl, recursion_from_All (λ c. length c.id ≡ 4) (others_of Property r.others) (named Property))))

  master_named : AllByRecursion (λ c. length c.id ≡ 4) (master_chunks r)
  master_named = recursion_from_All (λ c. length c.id ≡ 4) (master_chunks r) (All-append (λ c. length c.id ≡ 4) (map mark_chunk r.marks) (others_of Master r.others) (marks_named r.marks) (named Master))

  -- the chunks of each list have sizes that can be written
  record AllFit : Type 0 where
    top : All CanBeWritten (form_chunks r)
    parts : All CanBeWritten (property_chunks r)
    master : All CanBeWritten (master_chunks r)

  -- the chunks of the edited master are fewer bytes than the form
  master_short : length (flat_map spell (master_chunks r)) ≤ length (flat_map spell (form_chunks r))
  master_short =
      let first : List ℕ = flat_map spell (edited_master (master_chunks r)) in
      let second : List ℕ = flat_map spell (others_of Form r.others) in
      let last : List ℕ = flat_map spell (last_chunks r) in
      let e : length last ≡ length first + length second = ap length (flat_map-append spell (edited_master (master_chunks r)) (others_of Form r.others)) ∙ length-append first second in
      let after_sound = length-append (spell (sound_chunk r)) last in
      let after_property = length-append (spell (property_chunk r)) (spell (sound_chunk r) ++ last) in
      let after_version = length-append (spell version_chunk) (spell (property_chunk r) ++ (spell (sound_chunk r) ++ last)) in
      omega (arith, e, after_sound, after_property, after_version, master_shorter (master_chunks r))

  all_fits : length (flat_map spell (form_chunks r)) < 2 ^ 64 → AllFit
  all_fits short =
      let top = all_fit (form_chunks r) top_named short in
      let property_size : length (property_chunk r).content < 2 ^ 64 = top.1.0.size in
      record {
        top = All-from_recursion CanBeWritten (form_chunks r) top;
        parts = All-from_recursion CanBeWritten (property_chunks r) (all_fit (property_chunks r) parts_named (omega arith));
        master = All-from_recursion CanBeWritten (master_chunks r) (all_fit (master_chunks r) master_named (omega (arith, master_short)));
      }

  -- ---- the sound
  sound_long : length (laced r.channels) ≡ frame_number r.channels * length r.channels
  sound_long = length-map-range_with_len (laced_byte r.channels) 0 _

  whole_frames : length (laced r.channels) % length r.channels ≡ 0
  whole_frames = rw (sound_long, ← add-zero (frame_number r.channels * length r.channels)) (mod-mul-add (frame_number r.channels) (length r.channels) 0 h.some_channel)

  frames_again : length (laced r.channels) / length r.channels ≡ frame_number r.channels
  frames_again = rw (sound_long, ← add-zero (frame_number r.channels * length r.channels)) (div-mul-add (frame_number r.channels) (length r.channels) 0 h.some_channel)

  -- ---- the file
  is_written : SpelledAgain → LacedReadAgain → count_of r.channels % 8 ≡ 0 → length (form_text (form_chunks r)) < 2 ^ 63 → IsDsdiff (form_text (form_chunks r)) (as_stored r)
  is_written spelled_law laced_law whole short =
      let top : List Chunk = form_chunks r in
      let body_short : 16 + length (flat_map spell top) < 2 ^ 63 = omega (arith, length-form_text top) in
      let form = form_again top (omega arith) in
      let fits = all_fits (omega arith) in
      let named_ids = recursion_from_All (λ id. length id ≡ 4) r.ids f.ids in
      let names : List ℕ = (channels_chunk r.ids).content in
      let names_long : length names ≡ 2 + 4 * length r.ids = ap (λ (k : ℕ). suc (suc k)) (joined_long r.ids named_ids) ∙ omega arith in
      let rate_bytes : big_number 4 (big_bytes 4 r.rate ++ []) ≡ r.rate = big_number-reads_back 4 r.rate [] (omega (arith, h.rate_high)) in
      let number : big_number 2 names ≡ length r.ids = big_number-reads_back 2 (length r.ids) (joined_ids r.ids) (omega (arith, h.six_channels, h.id_for_each)) in
      record {
        long = omega (arith, form.long);
        form = refl;
        kind = refl;
        holds_type = omega (arith, form.size);
        in_file = omega (arith, form.size, form.long);
        top = top;
        are_top = subst (λ (bytes : List ℕ). chunks bytes top) (sym form.range) (spelled_law top fits.top);
        version = version_chunk;
        later = property_chunk r ∷ sound_chunk r ∷ last_chunks r;
        version_first = refl;
        version_once = ap (λ cs. version_chunk ∷ cs) no_version;
        version_long = omega arith;
        version_main = refl;
        property = property_chunk r;
        sound = sound_chunk r;
        property_then_sound = ap (λ cs. property_chunk r ∷ sound_chunk r ∷ cs) no_property_or_sound;
        property_is = refl;
        sound_is = refl;
        number = length r.channels;
        states = record {
          parts = property_chunks r;
          are_parts = spelled_law (property_chunks r) fits.parts;
          rates = rate_chunk r.rate;
          names = channels_chunk r.ids;
          kinds = compression_chunk;
          one_rate = ap (λ cs. rate_chunk r.rate ∷ cs) (none_found (has_id FS) Property (at_place Property r.others) (λ o free. or_left _ _ (or_left _ _ free)) (stands Property));
          one_names = ap (λ cs. channels_chunk r.ids ∷ cs) (none_found (has_id CHNL) Property (at_place Property r.others) (λ o free. or_right (same_id o.id FS) _ (or_left _ _ free)) (stands Property));
          one_kind = ap (λ cs. compression_chunk ∷ cs) (none_found (has_id CMPR) Property (at_place Property r.others) (λ o free. or_right (same_id o.id FS || same_id o.id CHNL) _ free) (stands Property));
          rate_long = omega arith;
          rate_is = sym rate_bytes ∙ ap (big_number 4) (append-nil (big_bytes 4 r.rate));
          rate_low = h.rate_low;
          rate_high = h.rate_high;
          number_is = sym h.id_for_each ∙ sym number;
          some_channel = h.some_channel;
          six_channels = h.six_channels;
          names_long = omega (arith, names_long, h.id_for_each);
          raw = refl;
        };
        ids = sym (ap (λ n. ids_in n (joined_ids r.ids)) (sym h.id_for_each) ∙ ids_again r.ids named_ids);
        whole = whole_frames;
        not_long = omega (arith, frames_again, h.in_limit);
        channels = sym (laced_law r.channels h.level whole h.some_channel);
        masters = lists_of (master_chunks r);
        are_masters = subst (λ cs. AllZip (λ c list. chunks c.content list) cs (lists_of (master_chunks r))) (sym masters_found) (masters_zip spelled_law (master_chunks r) fits.master);
        whole_marks = subst (All IsWholeMark) (sym marks_in_master) (All-map IsWholeMark mark_chunk r.marks (All-weaker (λ m. length m.text < 2 ^ 32) (λ m. IsWholeMark (mark_chunk m)) (λ m short_text. mark_whole m short_text) r.marks h.short_texts));
        marks = sym (ap (map mark_in) marks_in_master ∙ marks_again r.marks (recursion_from_All FitsMark r.marks f.marks) (recursion_from_All (λ m. length m.text < 2 ^ 32) r.marks h.short_texts));
        others = others_again;
        layout = refl;
        tag = refl;
      }

-- a text that is there
some_text : (b : Bool) (text file : List ℕ) → (if b then Some text else None) ≡ Some file → (b ≡ true) × (text ≡ file)
some_text true text file e = (refl, cc)
some_text false text file e = let no : ⊥ = cc in absurd no

-- the law
pub written_again : SpelledAgain → LacedReadAgain → WrittenReadAgain
written_again spelled_law laced_law r file h f text short =
    let found = some_text (count_of r.channels % 8 == 0) (form_text (form_chunks r)) file text in
    let IsShort : List ℕ → Type 0 = λ bytes. length bytes < 2 ^ 63 in
    subst (λ (bytes : List ℕ). IsDsdiff bytes (as_stored r)) found.1
    (is_written r h f spelled_law laced_law (eqb-true (count_of r.channels % 8) 0 found.0) (subst IsShort (sym found.1) short))
