-- Which fault a file has, by what was read of it.
use Rattle.std.proofs.Common.{◌≡◌, ◌≢◌, ℕ, ◌+◌, ◌≤◌, ◌<◌, inl, inr, false, List, [], ◌++◌, length, take, Option, Some, None, IfSome, Result, Ok, Err, refl, sym, ap, subst, ◌∙◌, arith, append-nil, length-append}
use Rattle.std.specs.Prelude.{◌⊎◌}
use Rattle.std.proofs.lemmas.Bool.{cases_lt, le-ltb, lt-ltb, ne_eqb}
use Rattle.std.proofs.lemmas.List.{length-take, take-append-le, take-take}
use Rattle.std.specs.Io.KnownBytes.{IsAtEnd}
use Rattle.chunk_core.specs.Inlets.{inlet_reader}
use Rattle.chunk_core.specs.declared.inlet.Inlet.{Inlet}
use Rattle.dsd_bits.specs.declared.blocks.BitOrder.{BitOrder}
use Rattle.dsd_bits.specs.declared.interleaving.Interleaving.TheVariants.{Blocks}
use Rattle.dsd_bits.specs.declared.sound.Sound.{Sound}
use Rattle.dsd_bits.specs.declared.sound.SoundAt.{SoundAt}
use Rattle.dsd_bits.specs.declared.sound.SoundAt.TheVariants.{More, Refused, Found}
use Rattle.dsd_bits.specs.Contents.{Content}
use Rattle.dsd_bits.specs.Ids.{DSD}
use Rattle.dsd_bits.specs.Sounds.{IfFound, IfMore}
use Rattle.dsdiff_core.specs.declared.fault.DsdiffFault.{DsdiffFault}
use Rattle.dsdiff_core.specs.declared.fault.DsdiffFault.TheVariants as faults
use Rattle.dsdiff_core.specs.Headers as dsdiff
use Rattle.dsdiff_core.specs.Cuts.{GoesPastForm, last_size}
use Rattle.dsdiff_core.specs.declared.faulty.FaultyStart.{FaultyStart}
use Rattle.dsdiff_core.specs.Faulty.{IsFaulty}
use Rattle.dsdiff_core.specs.Fields.{form_end}
use Rattle.dsdiff_core.specs.Kinds.{FRM8}
use Rattle.dsdiff_core.specs.Reading as dsdiff_reading
use Rattle.dsdiff_core.proofs.FaultyPlaces.{faulty_fails}
use Rattle.dsdiff_core.proofs.FileLaws.{parts_again, parts_from}
use Rattle.dsdiff_core.proofs.HeaderLaws as form_headers
use Rattle.dsdiff_core.specs.Located.{EndsAtHead}
use Rattle.dsdiff_core.proofs.HeadLaws.{ends_at_head, form_ok}
use Rattle.dsdiff_core.proofs.LocatedLaws.{form_refused}
use Rattle.dsdiff_core.proofs.WalkLaws.{long as form_long}
use Rattle.dsf_core.specs.declared.fault.DsfFault.{DsfFault}
use Rattle.dsf_core.specs.declared.fault.DsfFault.TheVariants as dsf_faults
use Rattle.dsf_core.specs.Fields.{pointer}
use Rattle.dsf_core.specs.Files.{IsDsf}
use Rattle.dsf_core.specs.Headers as dsf
use Rattle.dsf_core.specs.Reading as dsf_reading
use Rattle.dsf_core.specs.Reading.{cut_fault, pointer_fault}
use Rattle.dsf_core.proofs.DescribingLaws.{refused}
use Rattle.dsf_core.proofs.FileLaws.{prefix_ok}
use Rattle.dsf_core.specs.declared.locating.Located.{Located}
use Rattle.dsf_core.specs.declared.locating.Located.TheVariants as answers
use Rattle.dsf_core.proofs.HeaderLaws as blocks
use Rattle.dsf_core.proofs.HeaderLaws.{found_leads as blocks_found, found_prefix}
use Rattle.form_core.specs.Faults.{dsdiff_fault, dsf_fault}
use Rattle.form_core.specs.Opening.{from_dsdiff, is_other, opened_of}
use Rattle.form_core.specs.declared.fault.ReadFault.{ReadFault}
use Rattle.form_core.specs.declared.fault.ReadFault.TheVariants.{UnknownForm}
use Rattle.form_core.specs.declared.opening.Opened.{Opened}
use Rattle.sound_core.specs.Files.{IsBeforeSound, IsHeaderOf, IsRefused, LeadsToSound}
use Rattle.sound_core.specs.Naming.{IsSure, NamesFault}
use Rattle.sound_core.specs.Reads.{Reads}
use Rattle.sound_core.proofs.ClosingLaws.{apart, leads}
use Rattle.sound_core.proofs.OutlineLaws.{left_is}
use Rattle.sound_core.proofs.HeadLaws.{dsdiff_found, dsdiff_more, dsf_found, dsf_more, dsf_refused}
use Rattle.sound_core.proofs.StatedLaws.{dsf_wanted, form_wanted}

-- ---- by the DSDIFF reading
module _ (prefix : List ℕ) (x : SoundAt) (is : x ≡ dsdiff.sound_at prefix) where
  pub form_found : IfFound x (LeadsToSound prefix)
  form_found = dsdiff_found prefix x is (form_headers.if_found prefix x is) (form_headers.in_limits prefix x is) (form_headers.inside prefix x is)

  pub form_more : IfMore x (IsRefused prefix)
  form_more = dsdiff_more prefix x is (form_headers.if_more prefix x is)

  pub form_before : IfMore x (IsBeforeSound prefix)
  form_before = form_wanted prefix x is (form_headers.if_more prefix x is)

-- ---- a file of one format is none of the other
form_differs : (file : List ℕ) → take 4 file ≡ DSD → dsdiff.form_of file ≡ Err faults.NotDsdiff
unfolding dsdiff.form_of
form_differs file id = rw id refl

pub no_form_read : (prefix rest : List ℕ) → 16 ≤ length prefix → take 4 prefix ≡ DSD → dsdiff_reading.recording_of (prefix ++ rest) ≡ Err faults.NotDsdiff
no_form_read prefix rest long id = form_refused prefix rest faults.NotDsdiff long (form_differs prefix id)

dsf_no_form : (file : List ℕ) (r : Content) (order : BitOrder) → IsDsf file r order → dsdiff_reading.recording_of file ≡ Err faults.NotDsdiff
dsf_no_form file r order is = subst (λ f. dsdiff_reading.recording_of f ≡ Err faults.NotDsdiff) (append-nil file) (no_form_read file [] (omega (arith, is.in_file, is.second_long)) is.first)

abbrev failed : DsdiffFault → Result Content DsdiffFault
failed e = Err e

pub no_recording : (file : List ℕ) (e : DsdiffFault) → dsdiff_reading.recording_of file ≡ Err e → dsdiff.IsAccepted file → ⊥
no_recording file e fails (r, h) =
    let read = parts_again file r (parts_from file r h) in
    let both : Ok r ≡ failed e = sym read ∙ fails in
    absurd cc

-- a DSDIFF file with a fault holds nothing
pub refused_by : (file : List ℕ) (e : DsdiffFault) → dsdiff_reading.recording_of file ≡ Err e → e ≢ faults.NotDsdiff → IsRefused file
refused_by file e fails other r (inl form) = no_recording file e fails (r, form)
refused_by file e fails other r (inr (order, is)) = (let both : failed e ≡ failed faults.NotDsdiff = sym fails ∙ dsf_no_form file r order is in other (let same : e ≡ faults.NotDsdiff = cc (both) in same))

-- a form that begins is no DSF file
pub form_refuses : (prefix : List ℕ) → take 4 prefix ≡ FRM8 → Refused ≡ dsdiff.sound_at prefix → (rest : List ℕ) → IsRefused (prefix ++ rest)
form_refuses prefix id is rest r (inl form) = form_headers.if_refused prefix Refused is rest (r, form)
form_refuses prefix id is rest r (inr (order, other)) = apart (sym id ∙ sym (take-append-le 4 prefix rest (omega (arith, ap length id, length-take 4 prefix))) ∙ other.first)

pub unstated_refuses : (prefix : List ℕ) (at : ℕ) → EndsAtHead (take (at + 12) prefix) → Refused ≡ dsdiff.sound_at prefix → (rest : List ℕ) → IsRefused (prefix ++ rest)
unstated_refuses prefix at head is = form_refuses prefix (sym (take-take 4 (at + 12) prefix (omega arith)) ∙ head.form) is

pub past_refuses : (prefix : List ℕ) (at : ℕ) → GoesPastForm (take (at + 12) prefix) → Refused ≡ dsdiff.sound_at prefix → (rest : List ℕ) → IsRefused (prefix ++ rest)
past_refuses prefix at past is = form_refuses prefix (sym (take-take 4 (at + 12) prefix (omega arith)) ∙ past.0.form) is

pub lost_refuses : (prefix : List ℕ) → dsdiff.form_of prefix ≡ Ok tt → Refused ≡ dsdiff.sound_at prefix → (rest : List ℕ) → IsRefused (prefix ++ rest)
lost_refuses prefix form is = form_refuses prefix (form_ok prefix form).0 is

pub faulty_refuses : (file : List ℕ) (s : FaultyStart) → IsFaulty file s → IsRefused file
faulty_refuses file s h r (inl form) = faulty_fails file s r h (parts_again file r (parts_from file r form))
faulty_refuses file s h r (inr (order, is)) = apart (sym (form_ok file h.form).0 ∙ is.first)

-- ---- by the DSF reading, of a prefix with which no DSDIFF file begins
module _ (prefix : List ℕ) (no_form : (rest : List ℕ) → dsdiff_reading.recording_of (prefix ++ rest) ≡ Err faults.NotDsdiff) where
  none : (rest : List ℕ) → dsdiff.IsAccepted (prefix ++ rest) → ⊥
  none rest = no_recording (prefix ++ rest) faults.NotDsdiff (no_form rest)

  located_is : (x : Located) → x ≡ dsf.located prefix → dsf.without_fault x ≡ dsf.sound_at prefix
  unfolding dsf.sound_at
  located_is x e = ap dsf.without_fault e

  pub blocks_state : (s : Sound) → answers.Found s ≡ dsf.located prefix → LeadsToSound prefix s
  blocks_state s e =
      let is : Found s ≡ dsf.sound_at prefix = located_is (answers.Found s) e in
      dsf_found prefix none (Found s) is (blocks.if_found prefix (Found s) is) (blocks.in_limits prefix (Found s) is) (blocks.inside prefix (Found s) is) (blocks.in_blocks prefix (Found s) is)

  pub blocks_more : (d : DsfFault) → answers.More d ≡ dsf.located prefix → dsf.IsLocated prefix (answers.More d) → IsRefused prefix
  blocks_more d e stated = dsf_more prefix none More (located_is (answers.More d) e) stated.0

  pub blocks_before : (d : DsfFault) → dsf.IsLocated prefix (answers.More d) → IsBeforeSound prefix
  blocks_before d stated = dsf_wanted prefix none More stated.0

  pub blocks_refuse : (d : DsfFault) → answers.Refused d ≡ dsf.located prefix → dsf.IsLocated prefix (answers.Refused d) → (rest : List ℕ) → IsRefused (prefix ++ rest)
  blocks_refuse d e stated = dsf_refused prefix none Refused (located_is (answers.Refused d) e) (blocks.if_refused prefix (answers.Refused d) stated)

-- ---- the fault, by the fault of its format
not_other : (e : DsdiffFault) → e ≢ faults.NotDsdiff → is_other e ≡ false
not_other faults.NotDsdiff h = absurd (h refl)
not_other e h = refl

pub form_named : (file : List ℕ) (e : DsdiffFault) → dsdiff_reading.recording_of file ≡ Err e → e ≢ faults.NotDsdiff → opened_of file ≡ Err (dsdiff_fault e)
unfolding opened_of
form_named file e fails other = rw (fails, not_other e other) refl

pub blocks_named : (file : List ℕ) (e : DsfFault) → dsdiff_reading.recording_of file ≡ Err faults.NotDsdiff → dsf_reading.recording_of file ≡ Err e → opened_of file ≡ Err (dsf_fault e)
unfolding opened_of
blocks_named file e no_form fails = rw (no_form, fails) refl

-- a file that begins with the head of a form is no DSF file
not_dsf : (file : List ℕ) → 4 ≤ length file → take 4 file ≡ FRM8 → dsf_reading.recording_of file ≡ Err dsf_faults.NotDsf
unfolding dsf_reading.recording_of dsf_reading.file_header dsf_reading.chunks_of
not_dsf file long id = rw (le-ltb (length file) 4 long, id) refl

otherwise_is : (e : DsdiffFault) (other : Result Opened ReadFault) → other ≡ Err UnknownForm → from_dsdiff (Err e) other ≡ Err (dsdiff_fault e)
otherwise_is faults.NotDsdiff other h = h
otherwise_is e other h = refl

pub form_starts : (file : List ℕ) (e : DsdiffFault) → 4 ≤ length file → take 4 file ≡ FRM8 → dsdiff_reading.recording_of file ≡ Err e → opened_of file ≡ Err (dsdiff_fault e)
unfolding opened_of
form_starts file e long id fails = rw (fails, not_dsf file long id) (otherwise_is e (Err UnknownForm) refl)

-- ---- a fault that is sure
pub sure_end : (left : Option (List ℕ)) (read : List ℕ) (e : ReadFault) → IsAtEnd left → opened_of read ≡ Err e → IsSure left read e
sure_end None read e end fails = record { now = fails; later = tt }
sure_end (Some rest) read e end fails = record { now = fails; later = subst (λ f. opened_of f ≡ Err e) (sym (ap (λ xs. read ++ xs) end ∙ append-nil read)) fails }

pub sure_all : (left : Option (List ℕ)) (read : List ℕ) (e : ReadFault) → ((rest : List ℕ) → opened_of (read ++ rest) ≡ Err e) → IsSure left read e
sure_all None read e fails = record { now = subst (λ f. opened_of f ≡ Err e) (append-nil read) (fails []); later = tt }
sure_all (Some rest) read e fails = record { now = subst (λ f. opened_of f ≡ Err e) (append-nil read) (fails []); later = fails rest }

-- of the reader's file
pub file_named : {R : Type 0} (left : R → Option (List ℕ)) (i j : Inlet R) (e : ReadFault) → NamesFault left i j e → IfSome (left (inlet_reader i)) (λ file. opened_of file ≡ Err e)
file_named left i j e named = by (left (inlet_reader i)) refl
  where
    by : (o : Option (List ℕ)) → left (inlet_reader i) ≡ o → IfSome o (λ file. opened_of file ≡ Err e)
    by None known = tt
    by (Some xs) known =
        let ys = left_is left i j named.read named.reads xs known in
        subst (λ f. opened_of f ≡ Err e) (sym ys.2) (subst (λ o. IfSome o (λ rest. opened_of (named.read ++ rest) ≡ Err e)) ys.1 named.sure.later)

-- ---- a file that ends inside its sound
blocks_cut : (head rest : List ℕ) (s : Sound) → dsf.sound_at head ≡ Found s → s.start ≡ length head → length (head ++ rest) < length head + s.size → dsf_reading.recording_of (head ++ rest) ≡ Err (cut_fault s (length (head ++ rest)))
unfolding dsf_reading.ends_fit
blocks_cut head rest s leads start short =
    let f = found_prefix head s leads in
    let n : ℕ = length (head ++ rest) in
    let end : n < f.1.sound.start + f.1.sound.size = omega (arith, short, start, ap (λ (t : Sound). t.start) f.3, ap (λ (t : Sound). t.size) f.3) in
    subst (λ (t : Sound). dsf_reading.recording_of (head ++ rest) ≡ Err (cut_fault t n)) f.3 (refused head f.1 f.2 [] n (cut_fault f.1.sound n) (rw (lt-ltb n (f.1.sound.start + f.1.sound.size) end) refl) rest refl)

pub cut_blocks : (head rest : List ℕ) (s : Sound) (at : IsHeaderOf head s) (order : BitOrder) → s.interleaving ≡ Blocks order → length (head ++ rest) < length head + s.size → opened_of (head ++ rest) ≡ Err (dsf_fault (cut_fault s (length (head ++ rest))))
cut_blocks head rest s at order stated short =
    let lead = leads head s at order stated in
    let holds = blocks_found head s lead in
    blocks_named (head ++ rest) _ (no_form_read head rest (omega (arith, holds.holds.fields)) holds.heads.first) (blocks_cut head rest s lead at.start short)

-- a wrong place of the tag
pointer_off : (head rest : List ℕ) (s : Sound) (total : ℕ) → dsf.sound_at head ≡ Found s → s.start ≡ length head → length head + s.size ≤ length (head ++ rest) → pointer head ≢ 0
    → (pointer head < length head + s.size) ⊎ ((length (head ++ rest) < pointer head) × (total ≡ length (head ++ rest))) → dsf_reading.recording_of (head ++ rest) ≡ Err (pointer_fault (pointer head) (length head + s.size) total)
unfolding dsf_reading.ends_fit
pointer_off head rest s total leads start whole some off =
    let f = found_prefix head s leads in
    let n : ℕ = length (head ++ rest) in
    let tag : ℕ = f.1.tag_at in
    let stop : ℕ = f.1.sound.start + f.1.sound.size in
    let stop_is : stop ≡ length head + s.size = omega (arith, start, ap (λ (t : Sound). t.start) f.3, ap (λ (t : Sound). t.size) f.3) in
    let at : tag ≡ pointer head = ap (λ g. g.tag_at) (prefix_ok head f.1 f.2).1 in
    let differs : tag ≢ 0 = λ zero. some (sym at ∙ zero) in
    refused head f.1 f.2 [] n (pointer_fault tag stop total) (elim (cases_lt tag stop) [
      | inl early ↦ rw (le-ltb n stop (omega (arith, whole, stop_is)), ne_eqb tag 0 differs, lt-ltb tag stop early) refl
      | inr later ↦ elim off [
        | inl early ↦ absurd (omega (arith, early, later, stop_is, at))
        | inr late ↦ rw (le-ltb n stop (omega (arith, whole, stop_is)), ne_eqb tag 0 differs, le-ltb tag stop later, lt-ltb n tag (omega (arith, late.0, at)), late.1) refl
      ]
    ]) rest refl
    ∙ (λ j. Err (pointer_fault (at j) (stop_is j) total))

pub blocks_pointer : (head rest : List ℕ) (s : Sound) (total : ℕ) (at : IsHeaderOf head s) (order : BitOrder) → s.interleaving ≡ Blocks order → length head + s.size ≤ length (head ++ rest) → pointer head ≢ 0
    → (pointer head < length head + s.size) ⊎ ((length (head ++ rest) < pointer head) × (total ≡ length (head ++ rest))) → opened_of (head ++ rest) ≡ Err (dsf_fault (pointer_fault (pointer head) (length head + s.size) total))
blocks_pointer head rest s total at order stated whole some off =
    let lead = leads head s at order stated in
    let holds = blocks_found head s lead in
    blocks_named (head ++ rest) _ (no_form_read head rest (omega (arith, holds.holds.fields)) holds.heads.first) (pointer_off head rest s total lead at.start whole some off)

pub form_cut_size : (head rest : List ℕ) (s : Sound) → dsdiff.EndsAt head s → length (head ++ rest) < length head + s.size → form_end (head ++ rest) < length head + last_size head
form_cut_size head rest s ends short = omega (arith, short, (ends_at_head head s ends).1)

pub cut_form : (head rest : List ℕ) (s : Sound) (e : DsdiffFault) → dsdiff.EndsAt head s → dsdiff_reading.recording_of (head ++ rest) ≡ Err e → opened_of (head ++ rest) ≡ Err (dsdiff_fault e)
cut_form head rest s e ends fails =
    let h = (ends_at_head head s ends).0 in
    let long : 28 ≤ length head = form_long head h in
    form_starts (head ++ rest) e (omega (arith, long, length-append head rest)) (take-append-le 4 head rest (omega (arith, long)) ∙ h.form) fails

-- ---- the prefix that was read
pub prefix_sure : {R : Type 0} (left : R → Option (List ℕ)) (i j : Inlet R) (prefix : List ℕ) (e : ReadFault) → Reads left i j prefix → ((rest : List ℕ) → opened_of (prefix ++ rest) ≡ Err e) → NamesFault left i j e
prefix_sure left i j prefix e reads fails = record { read = prefix; reads = reads; sure = sure_all (left (inlet_reader j)) prefix e fails }

pub whole_sure : {R : Type 0} (left : R → Option (List ℕ)) (i j : Inlet R) (file : List ℕ) (e : ReadFault) → Reads left i j file → IsAtEnd (left (inlet_reader j)) → opened_of file ≡ Err e → NamesFault left i j e
whole_sure left i j file e reads end h = record { read = file; reads = reads; sure = sure_end (left (inlet_reader j)) file e end h }
