-- What is around the sound of a DSF file: what its tag says, and where it is missing.
use Rattle.std.proofs.Common.{◌≡◌, ◌≢◌, ℕ, ◌+◌, ◌-◌, ◌<◌, ◌≤◌, ◌⊎◌, inl, inr, true, List, [], ◌++◌, length, take, drop, Option, Some, None, Result, Err, refl, sym, subst, ap, ap₂, ◌∙◌, arith, append_assoc, append-nil, length-append}
use Rattle.std.proofs.lemmas.Bool.{cases_lt, ne_eqb}
use Rattle.std.proofs.Math.Seq.{drop-append_seam, take-append_seam}
use Rattle.std.specs.Prelude.{nat_eq, if◌then◌else◌}
use Rattle.chunk_core.specs.Inlets.{inlet_reader}
use Rattle.chunk_core.specs.declared.inlet.Inlet.{Inlet}
use Rattle.dsd_bits.specs.declared.blocks.BitOrder.{BitOrder}
use Rattle.dsd_bits.specs.declared.interleaving.Interleaving.TheVariants.{Bytes, Blocks}
use Rattle.dsd_bits.specs.declared.sound.Sound.{Sound}
use Rattle.dsd_bits.specs.Contents.{Content}
use Rattle.dsd_bits.specs.Sounds.{IsSound, sound_bytes, sound_channels}
use Rattle.form_core.specs.Faults.{dsf_fault}
use Rattle.form_core.specs.Opening.{opened_of}
use Rattle.form_core.specs.declared.fault.ReadFault.{ReadFault}
use Rattle.dsf_core.specs.Fields.{needed, pointer, stated_tag}
use Rattle.dsf_core.specs.declared.fault.DsfFault.{DsfFault}
use Rattle.dsf_core.specs.declared.fault.DsfFault.TheVariants as dsf_faults
use Rattle.dsf_core.specs.Reading as dsf_reading
use Rattle.dsf_core.specs.Reading.{pointer_fault}
use Rattle.dsf_core.specs.Files.{IsDsf}
use Rattle.dsf_core.specs.Headers as dsf
use Rattle.dsf_core.proofs.FileLaws.{dsf_is_read}
use Rattle.dsf_core.proofs.HeaderLaws.{found_leads}
use Rattle.dsf_core.specs.Steps.{Fails as DsfFails}
use Rattle.sound_core.specs.Files.{IsHeaderOf}
use Rattle.sound_core.specs.Outlines.{AreStated, HoldsIn, KeepsAfter, IsRestFault, IsTagFault, ReadsTag, StopsAtTag, Surroundings, Surrounds, with_sound}
use Rattle.sound_core.specs.Naming.{IsSure}
use Rattle.sound_core.specs.Readers.{FallsShort}
use Rattle.sound_core.specs.declared.fault.StreamFault.{StreamFault}
use Rattle.sound_core.specs.declared.fault.StreamFault.TheVariants.{FileRefused, RateNotDivided, TooLarge, ReadFailed, WriteFailed, TurnLimit, Memory}
use Rattle.sound_core.proofs.NamingLaws.{blocks_named, blocks_pointer, no_form_read, sure_all, sure_end}
use Rattle.sound_core.proofs.ClosingLaws.{leads, no_form, nothing_left}
use Rattle.sound_core.proofs.OutlineLaws.{left_is}
use Rattle.sound_core.proofs.StatedLaws.{states_at}

-- ---- faults that are known
pub dsf_fails_is : {A : Type 0} (e : DsfFault) (r : Result A DsfFault) → e ≢ dsf_faults.Memory → DsfFails e r → r ≡ Err e
dsf_fails_is dsf_faults.Memory r some h = absurd (some refl)
dsf_fails_is e r some h = h

pub dsf_not_accepted : (file : List ℕ) (e : DsfFault) → e ≢ dsf_faults.Memory → DsfFails e (dsf_reading.recording_of file) → dsf.IsAccepted file → ⊥
dsf_not_accepted file e some fails accepted =
    let read = dsf_is_read file accepted.0 accepted.1 accepted.2 in
    let failed = dsf_fails_is e (dsf_reading.recording_of file) some fails in
    let both = sym read ∙ failed in
    absurd cc

-- ---- a DSF file
module _ (head : List ℕ) (s : Sound) (at : IsHeaderOf head s) (order : BitOrder) (stated : s.interleaving ≡ Blocks order) (is_sound : IsSound s) where
  -- the sound bytes after the head
  own_bytes : (sound rest : List ℕ) → length sound ≡ s.size → sound_bytes (head ++ (sound ++ rest)) s ≡ sound
  own_bytes sound rest long =
      ap (take s.size) (ap (λ n. drop n (head ++ (sound ++ rest))) at.start ∙ drop-append_seam head (sound ++ rest))
      ∙ ap (λ n. take n (sound ++ rest)) (sym long) ∙ take-append_seam sound rest

  module _ (place gap : ℕ) (tag : List ℕ) (tag_place : dsf.IsTagPlace head place) (none : place ≡ 0 → tag ≡ []) (at_place : place ≢ 0 → length head + s.size + gap ≡ place) where
    -- the tag after a gap is that of the file
    own_tag : (sound passed : List ℕ) → length sound ≡ s.size → length passed ≡ gap → tag ≡ stated_tag (head ++ (sound ++ (passed ++ tag)))
    own_tag sound passed long gap_long = elim (cases_lt 0 place) [
      | inl some ↦ (
          let differs : place ≢ 0 = λ zero. omega (arith, some, zero) in
          let file = head ++ (sound ++ (passed ++ tag)) in
          let parted : file ≡ (head ++ (sound ++ passed)) ++ tag = ap (λ xs. head ++ xs) (sym (append_assoc sound passed tag)) ∙ sym (append_assoc head (sound ++ passed) tag) in
          let before : place ≡ length (head ++ (sound ++ passed)) = omega (arith, at_place differs, length-append head (sound ++ passed), length-append sound passed, long, gap_long) in
          let dropped : drop place file ≡ tag = ap₂ (λ n xs. drop n xs) before parted ∙ drop-append_seam (head ++ (sound ++ passed)) tag in
          sym (tag_place.tag (sound ++ (passed ++ tag)) ∙ chosen place (drop place file) differs ∙ dropped))
      | inr least ↦ (
          let is : place ≡ 0 = omega (arith, least) in
          none is ∙ sym (tag_place.tag (sound ++ (passed ++ tag)) ∙ nothing place (drop place (head ++ (sound ++ (passed ++ tag)))) is))
    ]
      where
        chosen : (n : ℕ) (xs : List ℕ) → n ≢ 0 → (if nat_eq n 0 then [] else xs) ≡ xs
        chosen n xs some = rw (ne_eqb n 0 some) refl

        nothing : (n : ℕ) (xs : List ℕ) → n ≡ 0 → (if nat_eq n 0 then [] else xs) ≡ []
        nothing n xs is = rw is refl

    module _ (recording : Content) (total : ℕ) (size : total ≡ length head + s.size + gap + length tag) (outline : dsf.IsOutline head total tag recording) where
      abbrev around : Surroundings
      around = record { sound = s; head = head; gap = gap; back = tag; ends = true; recording = recording }

      blocks_stated : AreStated around
      blocks_stated = record {
        states = states_at head s at;
        start = at.start;
        is_sound = is_sound;
        whole = λ other. (let both : Blocks order ≡ Bytes = sym stated ∙ other in absurd cc);
        silent = outline.no_bits s (leads head s at order stated);
        keeps = λ file sound stands.
            let is : head ++ (sound ++ (stands.gap ++ tag)) ≡ file = sym (stands.file_is ∙ ap (λ xs. head ++ (sound ++ (stands.gap ++ xs))) (ap (λ xs. tag ++ xs) (stands.ended refl) ∙ append-nil tag)) in
            subst (λ i. KeepsAfter i around file) (sym stated) (own_tag sound stands.gap stands.sound_long stands.gap_long ∙ ap stated_tag is, refl);
        holds = λ file sound stands.
            let rest = sound ++ (stands.gap ++ tag) in
            let ended : stands.gap ++ (tag ++ stands.rest) ≡ stands.gap ++ tag = ap (λ xs. stands.gap ++ xs) (ap (λ xs. tag ++ xs) (stands.ended refl) ∙ append-nil tag) in
            let is : head ++ rest ≡ file = sym (stands.file_is ∙ ap (λ xs. head ++ (sound ++ xs)) ended) in
            let long : length (head ++ rest) ≡ total = omega (arith, size, length-append head rest, length-append sound (stands.gap ++ tag), length-append stands.gap tag, stands.sound_long, stands.gap_long) in
            let holds = outline.filled rest s order long (own_tag sound stands.gap stands.sound_long stands.gap_long) (leads head s at order stated) stated in
            let bytes : sound_bytes (head ++ rest) s ≡ sound = own_bytes sound (stands.gap ++ tag) stands.sound_long in
            subst (λ o. HoldsIn o file (with_sound recording s sound)) (sym stated)
            (subst (λ f. IsDsf f (with_sound recording s sound) order) is (subst (λ xs. IsDsf (head ++ rest) (record recording { channels = sound_channels s.interleaving s.channels s.count xs }) order) bytes holds));
      }

  pub blocks_around : {R : Type 0} (left : R → Option (List ℕ)) (i j : Inlet R) (place gap total stop : ℕ) (back tag : List ℕ) (recording : Content) → dsf.IsTagPlace head place → stop ≡ length head + s.size → (read : ReadsTag left i j place stop back tag gap)
      → total ≡ length head + s.size + length back + length read.read → dsf.IsOutline head total tag recording → Surrounds left i j back (record { sound = s; head = head; gap = gap; back = tag; ends = true; recording = recording })
  blocks_around left i j place gap total stop back tag recording tag_place stop_is read size outline =
      let whole : total ≡ length head + s.size + gap + length tag = omega (arith, size, ap length read.parts, length-append back read.read, length-append read.passed tag, read.long) in
      record {
        read = read.read;
        reads = read.reads;
        stated = blocks_stated place gap tag tag_place read.none (λ some. omega (arith, read.at_place some, stop_is)) recording total whole outline;
        given = λ sound long. record {
          gap = read.passed;
          rest = [];
          file_is = ap (λ xs. head ++ (sound ++ xs)) (read.parts ∙ ap (λ xs. read.passed ++ xs) (sym (append-nil tag)));
          sound_long = long;
          gap_long = read.long;
          ended = λ _. refl;
        };
        stands = λ sound rest long known.
            let none : rest ≡ [] = nothing_left (left (inlet_reader j)) rest read.at_end known in
            record {
              gap = read.passed;
              rest = [];
              file_is = ap (λ xs. head ++ (sound ++ xs)) (ap (λ xs. back ++ (read.read ++ xs)) none ∙ ap (λ xs. back ++ xs) (append-nil read.read) ∙ read.parts ∙ ap (λ xs. read.passed ++ xs) (sym (append-nil tag)));
              sound_long = long;
              gap_long = read.long;
              ended = λ _. refl;
            };
      }

  -- what holds of each file that goes on so with a sound holds of what is left
  pub tag_fault : (left : Option (List ℕ)) (place stop : ℕ) (back : List ℕ) (f : StreamFault) → dsf.IsTagPlace head place → stop ≡ length head + s.size → IsTagFault left place stop back f → IsRestFault left s head back f
  tag_fault None place stop back FileRefused tag_place stop_is h = tt
  tag_fault (Some xs) place stop back FileRefused tag_place stop_is h = λ sound long r holds.
      let rest = sound ++ (back ++ xs) in
      elim holds [
        | inl form ↦ no_form head s at order stated rest r form
        | inr (other, is) ↦ (
            let needs : s.size ≡ needed head = ap (λ (t : Sound). t.size) (found_leads head s (leads head s at order stated)).stated in
            elim (tag_place.after rest (r, other, is)) [
              | inl nowhere ↦ h.0 nowhere
              | inr there ↦ outside sound long there needs h.1
            ])
      ]
    where
      outside : (sound : List ℕ) → length sound ≡ s.size → (length head + needed head ≤ place) × (place ≤ length (head ++ (sound ++ (back ++ xs)))) → s.size ≡ needed head → (place < stop) ⊎ (stop + length (back ++ xs) < place) → ⊥
      outside sound long there needs (inl early) = omega (arith, there.0, needs, early, stop_is)
      outside sound long there needs (inr late) = omega (arith, there.1, late, stop_is, long, length-append head (sound ++ (back ++ xs)), length-append sound (back ++ xs))
  tag_fault left place stop back RateNotDivided tag_place stop_is h = absurd h
  tag_fault left place stop back TooLarge tag_place stop_is h = absurd h
  tag_fault left place stop back ReadFailed tag_place stop_is h = tt
  tag_fault left place stop back WriteFailed tag_place stop_is h = absurd h
  tag_fault left place stop back TurnLimit tag_place stop_is h = tt
  tag_fault left place stop back Memory tag_place stop_is h = tt

  -- the tag is not where it may be
  pub tag_named : {R : Type 0} (left : R → Option (List ℕ)) (i j : Inlet R) (place stop total : ℕ) (back : List ℕ) → place ≡ pointer head → stop ≡ length head + s.size → (off : StopsAtTag left i j place stop back) → total ≡ stop + length (back ++ off.read)
      → (sound : List ℕ) → length sound ≡ s.size → IsSure (left (inlet_reader j)) (head ++ (sound ++ (back ++ off.read))) (dsf_fault (pointer_fault place stop total))
  tag_named left i j place stop total back place_is stop_is off total_is sound long =
      let e : ReadFault = dsf_fault (pointer_fault place stop total) in
      let same : pointer_fault (pointer head) (length head + s.size) total ≡ pointer_fault place stop total = λ j. pointer_fault (sym place_is j) (sym stop_is j) total in
      let own : (f : List ℕ) → opened_of f ≡ Err (dsf_fault (pointer_fault (pointer head) (length head + s.size) total)) → opened_of f ≡ Err e = λ f h. subst (λ (d : DsfFault). opened_of f ≡ Err (dsf_fault d)) same h in
      let more : List ℕ = sound ++ (back ++ off.read) in
      let some : pointer head ≢ 0 = λ zero. off.some (place_is ∙ zero) in
      elim off.how [
        | inl early ↦
            sure_all (left (inlet_reader j)) (head ++ more) e (λ rest. subst (λ f. opened_of f ≡ Err e) (sym (append_assoc head more rest)) (own (head ++ (more ++ rest)) (blocks_pointer head (more ++ rest) s total at order stated (omega (arith, long, length-append head (more ++ rest), length-append more rest, length-append sound (back ++ off.read))) some (inl (omega (arith, early, place_is, stop_is))))))
        | inr late ↦
            sure_end (left (inlet_reader j)) (head ++ more) e late.1 (own (head ++ more) (blocks_pointer head more s total at order stated (omega (arith, long, length-append head more, length-append sound (back ++ off.read))) some (inr (omega (arith, late.0, place_is, stop_is, long, length-append head more, length-append sound (back ++ off.read)), omega (arith, total_is, stop_is, long, length-append head more, length-append sound (back ++ off.read))))))
      ]

  -- a fault of what is around the sound
  pub blocks_around_named : {R : Type 0} (left : R → Option (List ℕ)) (i j : Inlet R) (place gap total stop : ℕ) (back tag : List ℕ) (e : DsfFault) → (read : ReadsTag left i j place stop back tag gap) → total ≡ length head + s.size + length back + length read.read → e ≢ dsf_faults.Memory
      → ((rest : List ℕ) → length (head ++ rest) ≡ total → DsfFails e (dsf_reading.recording_of (head ++ rest))) → (sound : List ℕ) → length sound ≡ s.size → IsSure (left (inlet_reader j)) (head ++ (sound ++ (back ++ read.read))) (dsf_fault e)
  blocks_around_named left i j place gap total stop back tag e read size some fails sound long =
      let more : List ℕ = sound ++ (back ++ read.read) in
      let holds = found_leads head s (leads head s at order stated) in
      sure_end (left (inlet_reader j)) (head ++ more) (dsf_fault e) read.at_end (blocks_named (head ++ more) e (no_form_read head more (omega (arith, holds.holds.fields)) holds.heads.first) (dsf_fails_is e (dsf_reading.recording_of (head ++ more)) some (fails more (omega (arith, size, long, length-append head more, length-append sound (back ++ read.read), length-append back read.read)))))

  pub blocks_refused : {R : Type 0} (left : R → Option (List ℕ)) (i j : Inlet R) (place gap total stop : ℕ) (back tag : List ℕ) → (read : ReadsTag left i j place stop back tag gap) → total ≡ length head + s.size + length back + length read.read
      → ((rest : List ℕ) → length (head ++ rest) ≡ total → dsf.IsAccepted (head ++ rest) → ⊥) → IsRestFault (left (inlet_reader i)) s head back FileRefused
  blocks_refused left i j place gap total stop back tag read size refused = by (left (inlet_reader i)) refl
    where
      by : (o : Option (List ℕ)) → left (inlet_reader i) ≡ o → IsRestFault o s head back FileRefused
      by None known = tt
      by (Some xs) known =
          let ys = left_is left i j read.read read.reads xs known in
          let none : ys.0 ≡ [] = nothing_left (left (inlet_reader j)) ys.0 read.at_end ys.1 in
          let long_is : length xs ≡ length read.read = ap length (ys.2 ∙ ap (λ zs. read.read ++ zs) none ∙ append-nil read.read) in
          λ sound long r holds.
          let rest = sound ++ (back ++ xs) in
          elim holds [
            | inl form ↦ no_form head s at order stated rest r form
            | inr (other, is) ↦ refused rest (omega (arith, size, long, long_is, length-append head rest, length-append sound (back ++ xs), length-append back xs)) (r, other, is)
          ]

-- the file ends before the tag
pub short_in_tag : {R : Type 0} (left : R → Option (List ℕ)) (i j : Inlet R) (place stop : ℕ) (back : List ℕ) → place ≢ 0 → FallsShort left i j (place - stop) back → IsTagFault (left (inlet_reader i)) place stop back FileRefused
short_in_tag left i j place stop back some short = by (left (inlet_reader i)) refl
  where
    by : (o : Option (List ℕ)) → left (inlet_reader i) ≡ o → IsTagFault o place stop back FileRefused
    by None known = tt
    by (Some xs) known =
        let ys = left_is left i j short.read short.reads xs known in
        let all : xs ≡ short.read = ys.2 ∙ ap (λ zs. short.read ++ zs) (nothing_left (left (inlet_reader j)) ys.0 short.at_end ys.1) ∙ append-nil short.read in
        (some, inr (omega (arith, short.few, ap length all, length-append back xs, length-append back short.read)))

pub short_at_tag : {R : Type 0} (left : R → Option (List ℕ)) (i j : Inlet R) (place stop : ℕ) (back : List ℕ) → place ≢ 0 → FallsShort left i j (place - stop) back → StopsAtTag left i j place stop back
short_at_tag left i j place stop back some short = record { read = short.read; reads = short.reads; some = some; how = inr (omega (arith, short.few), short.at_end) }
