-- Prefixes that end at the head of their sound.
use Rattle.std.proofs.Common.{◌≡◌, ℕ, ◌+◌, ◌-◌, ◌*◌, ◌≤◌, List, ◌++◌, length, take, drop, Some, Ok, sym, ap, subst, ◌∙◌, arith}
use Rattle.std.specs.Prelude.{slice_range}
use Rattle.std.proofs.lemmas.Bool.{ltb-false}
use Rattle.std.proofs.lemmas.List.{length-take-le, take-append-drop, take_all}
use Rattle.std.proofs.lemmas.List.FromFn.{length-map-range_with_len}
use Rattle.chunk_core.specs.Chunks.{chunks}
use Rattle.chunk_core.proofs.Steps.{guard_ok}
use Rattle.dsd_bits.specs.declared.sound.Sound.{Sound}
use Rattle.dsd_bits.specs.declared.sound.SoundAt.TheVariants.{Found}
use Rattle.dsd_bits.specs.Ids.{DSD}
use Rattle.dsd_bits.specs.Lacing.{unlaced, unlaced_all}
use Rattle.dsdiff_core.specs.Fields.{form_size}
use Rattle.dsdiff_core.specs.Files.{IsDsdiff}
use Rattle.dsdiff_core.specs.Headers.{EndsAt, form_of, seek, size_at}
use Rattle.dsdiff_core.specs.Kinds.{FRM8}
use Rattle.dsdiff_core.specs.Laws.{OtherSound}
use Rattle.dsdiff_core.specs.Located.{EndsAtHead, stated_size}
use Rattle.dsdiff_core.specs.SoundBytes.{read_with_sound}
use Rattle.dsdiff_core.proofs.AnySound.{sound_is_free}
use Rattle.dsdiff_core.proofs.FileLaws.{is_dsdiff, parts_again, parts_from, parts_ok}
use Rattle.dsdiff_core.proofs.HeaderLaws.{found_leads, if_found, sought_of, sound_is_at}
use Rattle.dsdiff_core.proofs.KindLaws.{id_is}
use Rattle.dsdiff_core.proofs.LeadLaws.{Sought, number_prefix, part_header}
use Rattle.dsdiff_core.proofs.Steps.{not_false}

-- a form that begins
pub form_ok : (prefix : List ℕ) → form_of prefix ≡ Ok tt → (take 4 prefix ≡ FRM8) × (take 4 (drop 12 prefix) ≡ DSD) × (4 ≤ form_size prefix)
unfolding form_of
form_ok prefix e =
    let a = guard_ok _ _ _ _ e in
    let b = guard_ok _ _ _ _ a.1 in
    let c = guard_ok _ _ _ _ b.1 in
    (id_is _ _ (not_false _ a.0), id_is _ _ (not_false _ b.0), ltb-false _ _ c.0)

-- a prefix that is cut after the head of its sound
cut_at : (prefix rest : List ℕ) (at : ℕ) → at + 12 ≡ length prefix → form_of (prefix ++ rest) ≡ Ok tt → Sought (prefix ++ rest) 16 (form_size (prefix ++ rest)) at → EndsAtHead prefix
cut_at prefix rest at ends form s =
    let f = form_ok (prefix ++ rest) form in
    let size : form_size (prefix ++ rest) ≡ form_size prefix = number_prefix 8 4 prefix rest (omega (arith, s.onward, ends)) in
    let range : slice_range (prefix ++ rest) 16 at ≡ slice_range prefix 16 at = part_header (at - 16) 16 prefix rest (omega (arith, s.onward, ends)) in
    let back : length prefix - 12 ≡ at = omega (arith, ends) in
    let here : size_at (prefix ++ rest) at ≡ stated_size prefix = number_prefix 8 (at + 4) prefix rest (omega (arith, ends)) ∙ ap (size_at prefix) (sym back) in
    record {
      form = sym (part_header 4 0 prefix rest (omega (arith, s.onward, ends))) ∙ f.0;
      kind = sym (part_header 4 12 prefix rest (omega (arith, s.onward, ends))) ∙ f.1;
      head = record {
        at = at;
        before = s.before;
        are_before = subst (λ (bs : List ℕ). chunks bs s.before) range s.are_before;
        no_gap = s.no_gap;
        no_sound = s.none;
        id = sym (part_header 4 at prefix rest (omega (arith, ends))) ∙ s.id;
        whole = omega (arith, ends);
      };
      ends = ends;
      in_form = omega (arith, ends, s.fits, here, size);
    }

pub head_cut : (file : List ℕ) (at : ℕ) → form_of file ≡ Ok tt → seek file ≡ Ok (Some at) → EndsAtHead (take (at + 12) file)
head_cut file at form sought =
    let s = sought_of file at sought in
    let prefix : List ℕ = take (at + 12) file in
    let rest : List ℕ = drop (at + 12) file in
    let whole : file ≡ prefix ++ rest = sym (take-append-drop (at + 12) file) in
    cut_at prefix rest at (sym (length-take-le (at + 12) file s.whole)) (ap form_of (sym whole) ∙ form) (subst (λ (bs : List ℕ). Sought bs 16 (form_size bs) at) whole s)

-- a prefix that ends at its sound
pub ends_at_head : (prefix : List ℕ) (s : Sound) → EndsAt prefix s → EndsAtHead prefix × (s.size ≡ stated_size prefix)
ends_at_head prefix s e =
    let lead = found_leads prefix s e.found in
    let place = sound_is_at prefix lead.at s lead.is in
    let ends : lead.at + 12 ≡ length prefix = sym place.0 ∙ e.start in
    let back : length prefix - 12 ≡ lead.at = omega (arith, ends) in
    let all : take (lead.at + 12) prefix ≡ prefix = take_all (lead.at + 12) prefix (omega (arith, ends)) in
    (subst EndsAtHead all (head_cut prefix lead.at lead.form lead.sought), place.1 ∙ ap (size_at prefix) (sym back))

-- other sound bytes in a file that holds a recording
pub other_sound : OtherSound
other_sound prefix sound other back s r e size_s size_o h =
    let p = ends_at_head prefix s e in
    let file : List ℕ = prefix ++ (sound ++ back) in
    let sounds = (if_found prefix (Found s) (sym e.found)) (sound ++ back) r h in
    let read = sound_is_free prefix sound other back p.0 (size_s ∙ p.1) (size_o ∙ p.1) ∙ ap (read_with_sound other) (parts_again file r (parts_from file r h)) in
    let named : length r.ids ≡ h.number = ap length h.ids ∙ length-map-range_with_len (λ k. take 4 (drop (4 * k) (drop 2 h.states.names.content))) 0 h.number in
    let number : length r.ids ≡ s.channels = named ∙ sym (ap length h.channels ∙ length-map-range_with_len (unlaced h.sound.content h.number) 0 h.number) ∙ sounds.number in
    subst (λ (n : ℕ). IsDsdiff (prefix ++ (other ++ back)) (record r { channels = unlaced_all other n })) number (is_dsdiff (prefix ++ (other ++ back)) (record r { channels = unlaced_all other (length r.ids) }) (parts_ok (prefix ++ (other ++ back)) (record r { channels = unlaced_all other (length r.ids) }) read))
