-- Files with other bytes of the sound: what they hold, and their first fault.
use Rattle.std.proofs.Common.{◌≡◌, ℕ, ◌+◌, ◌<◌, ◌≤◌, inl, inr, List, ◌++◌, length, take, drop, Result, Ok, Err, refl, sym, ap, ap₂, subst, ◌∙◌, arith, length-append, length-drop, length-take-le, take-append-drop}
use Rattle.std.proofs.lemmas.Bool.{cases_lt}
use Rattle.std.proofs.lemmas.Grind.{same_number_lists}
use Rattle.std.proofs.lemmas.List.{append_assoc, drop-append-le, drop-drop, drop_at, get_or-drop, take-append-le, take_at}
use Rattle.chunk_core.specs.Steps.{◌>>=◌}
use Rattle.dsd_bits.specs.declared.blocks.BitOrder.{BitOrder}
use Rattle.dsd_bits.specs.declared.blocks.BitOrder.TheVariants.{LeastFirst, MostFirst}
use Rattle.dsd_bits.specs.declared.interleaving.Interleaving.{Interleaving}
use Rattle.dsd_bits.specs.declared.interleaving.Interleaving.TheVariants.{Bytes, Blocks}
use Rattle.dsd_bits.specs.declared.sound.Sound.{Sound}
use Rattle.dsd_bits.specs.Contents.{Content}
use Rattle.dsd_bits.specs.Lacing.{unlaced_all}
use Rattle.dsd_bits.specs.Sounds.{sound_bytes}
use Rattle.dsdiff_core.specs.Cuts.{cut_fault}
use Rattle.dsdiff_core.specs.SoundBytes.{read_with_sound}
use Rattle.dsdiff_core.specs.Files.{IsDsdiff}
use Rattle.dsdiff_core.specs.Located.{EndsAtHead, stated_size}
use Rattle.dsdiff_core.specs.Reading as form_reading
use Rattle.dsdiff_core.specs.declared.fault.DsdiffFault.{DsdiffFault}
use Rattle.dsdiff_core.specs.declared.fault.DsdiffFault.TheVariants as form_faults
use Rattle.dsdiff_core.proofs.AnySound.{sound_is_free}
use Rattle.dsdiff_core.proofs.CutLaws.{cut_is_refused, head_is_chunk}
use Rattle.dsdiff_core.proofs.HeadLaws.{ends_at_head, other_sound}
use Rattle.dsf_core.specs.Headers.{HoldsHead}
use Rattle.dsf_core.specs.Reading as blocks_reading
use Rattle.dsf_core.specs.Reading.{ends_fit, file_header}
use Rattle.dsf_core.specs.declared.fault.DsfFault.{DsfFault}
use Rattle.dsf_core.proofs.DescribingLaws.{other_bytes}
use Rattle.dsf_core.proofs.HeaderLaws.{found_leads, prefix_same}
use Rattle.form_core.specs.declared.fault.ReadFault.{ReadFault}
use Rattle.form_core.specs.declared.form.Form.{Form}
use Rattle.form_core.specs.declared.form.Form.TheVariants as forms
use Rattle.form_core.specs.declared.opening.Opened.{Opened}
use Rattle.form_core.specs.Faults.{dsdiff_fault}
use Rattle.form_core.specs.Forms.{HoldsAs}
use Rattle.form_core.specs.Opening.{from_dsf, opened_of}
use Rattle.sound_core.specs.Files.{HoldsRecording, IsHeaderOf, LeadsToSound}
use Rattle.sound_core.specs.Outlines.{AreAround, AreStated, Surroundings}
use Rattle.sound_core.proofs.ClosingLaws.{ends, ends_at, form_ends_at, found, leads, no_form}
use Rattle.sound_core.proofs.HeadLaws.{never_found}
use Rattle.sound_core.proofs.NamingLaws.{blocks_named, cut_form, form_cut_size, no_form_read}
use Rattle.sound_core.proofs.SameLaws.{stated_same}
use Rattle.sound_core.proofs.StatedLaws.{states_at}
use Rattle.transfer_core.specs.Unread.{AreSameBut, IsOfSound}

-- ---- a recording in a form
pub recording_as : (file : List ℕ) (form : Form) (r : Content) → HoldsAs file form r → HoldsRecording file r
recording_as file forms.Dsdiff r h = inl h
recording_as file forms.Dsf r h = inr (LeastFirst, h)
recording_as file forms.Dsf8 r h = inr (MostFirst, h)

pub as_recording : (file : List ℕ) (r : Content) → HoldsRecording file r → (form : Form) × HoldsAs file form r
as_recording file r (inl h) = (forms.Dsdiff, h)
as_recording file r (inr (LeastFirst, h)) = (forms.Dsf, h)
as_recording file r (inr (MostFirst, h)) = (forms.Dsf8, h)

-- ---- what a file is opened as, by the reading of its format
abbrev failed_by : ReadFault → Result Opened ReadFault
failed_by e = Err e

abbrev done_by : Opened → Result Opened ReadFault
done_by x = Ok x

form_opened : (file : List ℕ) (r : Content) → form_reading.recording_of file ≡ Ok r → opened_of file ≡ Ok (record { form = forms.Dsdiff; recording = r })
unfolding opened_of
form_opened file r is = rw is refl

blocks_opened : (file : List ℕ) → form_reading.recording_of file ≡ Err form_faults.NotDsdiff → opened_of file ≡ from_dsf (blocks_reading.recording_of file)
unfolding opened_of
blocks_opened file is = rw is refl

-- two steps of a reading, which fail alike
same_steps : {A B C E : Type 0} (x y : Result A E) → x ≡ y → (f g : A → Result B E) → ((a : A) → f a ≡ g a) → (k l : A → C) (e : E) → (x >>= (λ a. f a >>= (λ b. Ok (k a)))) ≡ Err e → (y >>= (λ a. g a >>= (λ b. Ok (l a)))) ≡ Err e
same_steps {A} {B} {C} {E} x y same f g alike k l e fails = subst (λ z. (z >>= (λ a. g a >>= (λ b. Ok (l a)))) ≡ Err e) same (by x fails)
  where
    one : (a : A) (z : Result B E) → f a ≡ z → (z >>= (λ b. Ok (k a))) ≡ Err e → (z >>= (λ b. Ok (l a))) ≡ Err e
    one a (Ok b) is h = absurd cc
    one a (Err d) is h = h

    by : (x : Result A E) → (x >>= (λ a. f a >>= (λ b. Ok (k a)))) ≡ Err e → (x >>= (λ a. g a >>= (λ b. Ok (l a)))) ≡ Err e
    by (Ok a) h = subst (λ z. (z >>= (λ b. Ok (l a))) ≡ Err e) (alike a) (one a (f a) refl h)
    by (Err d) h = h

-- ---- files that begin with one head, and are the same after the sound
module _ (head xs ys : List ℕ) (s : Sound) (at : IsHeaderOf head s) (long : length xs ≡ length ys) (after : drop s.size xs ≡ drop s.size ys) where
  whole_x : head ++ xs ≡ head ++ (take s.size xs ++ drop s.size xs)
  whole_x = ap (λ bs. head ++ bs) (sym (take-append-drop s.size xs))

  whole_y : head ++ ys ≡ head ++ (take s.size ys ++ drop s.size xs)
  whole_y = ap (λ bs. head ++ bs) (sym (take-append-drop s.size ys) ∙ ap (λ bs. take s.size ys ++ bs) (sym after))

  -- what the one holds, the other does with another sound
  pub holds_other : (r : Content) → HoldsRecording (head ++ xs) r → (t : Content) × HoldsRecording (head ++ ys) t
  holds_other r holds =
      let states = states_at head s at in
      let has = states.has xs r holds in
      let enough : s.size ≤ length xs = omega (arith, has.in_file, at.start, length-append head xs) in
      by s.interleaving refl enough holds
    where
      by : (o : Interleaving) → s.interleaving ≡ o → s.size ≤ length xs → HoldsRecording (head ++ xs) r → (t : Content) × HoldsRecording (head ++ ys) t
      by Bytes stated enough (inl is) =
          let t : Content = record r { channels = unlaced_all (take s.size ys) s.channels } in
          let file : IsDsdiff (head ++ (take s.size xs ++ drop s.size xs)) r = subst (λ bs. IsDsdiff bs r) whole_x is in
          let other : IsDsdiff (head ++ (take s.size ys ++ drop s.size xs)) t
          = other_sound head (take s.size xs) (take s.size ys) (drop s.size xs) s r (form_ends_at head s at stated) (length-take-le s.size xs enough) (length-take-le s.size ys (omega (arith, enough, long))) file in
          (t, inl (subst (λ bs. IsDsdiff bs t) (sym whole_y) other))
      by Bytes stated enough (inr (order, is)) = absurd (never_found head xs s r order (found head s at stated) is)
      by (Blocks o) stated enough (inl is) = absurd (no_form head s at o stated xs r is)
      by (Blocks o) stated enough (inr (order, is)) = (let other = other_bytes head xs ys (ends head s at o stated) long (r, order, is) in (other.0, inr (other.1, other.2)))

  totals : length (head ++ xs) ≡ length (head ++ ys)
  totals = omega (arith, long, length-append head xs, length-append head ys)

  -- ---- the first fault of a DSDIFF file
  module _ (stated : s.interleaving ≡ Bytes) where
    form : EndsAtHead head × (s.size ≡ stated_size head)
    form = ends_at_head head s (form_ends_at head s at stated)

    -- of one that ends before its sound
    cut : (bytes : List ℕ) → length bytes < s.size → opened_of (head ++ bytes) ≡ Err (dsdiff_fault (cut_fault head (length (head ++ bytes))))
    cut bytes short =
        let least : length (head ++ bytes) < length head + s.size = omega (arith, short, length-append head bytes) in
        cut_form head bytes s (cut_fault head (length (head ++ bytes))) (form_ends_at head s at stated)
        (cut_is_refused head bytes (head_is_chunk head form.0) (form_cut_size head bytes s (form_ends_at head s at stated) least))

    named : (bytes : List ℕ) (e : DsdiffFault) → form_reading.recording_of (head ++ bytes) ≡ Err e → opened_of (head ++ bytes) ≡ Err (dsdiff_fault e)
    named bytes e fails = cut_form head bytes s e (form_ends_at head s at stated) fails

    free : s.size ≤ length xs → form_reading.recording_of (head ++ ys) ≡ read_with_sound (take s.size ys) (form_reading.recording_of (head ++ xs))
    free enough =
        ap form_reading.recording_of whole_y
        ∙ sound_is_free head (take s.size xs) (take s.size ys) (drop s.size xs) form.0 (length-take-le s.size xs enough ∙ form.1) (length-take-le s.size ys (omega (arith, enough, long)) ∙ form.1)
        ∙ ap (λ bs. read_with_sound (take s.size ys) (form_reading.recording_of bs)) (sym whole_x)

    form_fault : (e : ReadFault) → opened_of (head ++ xs) ≡ Err e → opened_of (head ++ ys) ≡ Err e
    form_fault e fails = elim (cases_lt (length xs) s.size) [
      | inl short ↦ cut ys (omega (arith, short, long)) ∙ ap (λ n. failed_by (dsdiff_fault (cut_fault head n))) (sym totals) ∙ sym (cut xs short) ∙ fails
      | inr enough ↦ by (form_reading.recording_of (head ++ xs)) refl (free enough)
    ]
      where
        by : (x : Result Content DsdiffFault) → form_reading.recording_of (head ++ xs) ≡ x → form_reading.recording_of (head ++ ys) ≡ read_with_sound (take s.size ys) x → opened_of (head ++ ys) ≡ Err e
        by (Err d) is other = named ys d other ∙ sym (named xs d is) ∙ fails
        by (Ok r) is other = (let opened = form_opened (head ++ xs) r is in let both : done_by (record { form = forms.Dsdiff; recording = r }) ≡ Err e = sym opened ∙ fails in absurd cc)

  -- ---- and of a DSF file
  module _ (order : BitOrder) (stated : s.interleaving ≡ Blocks order) where
    holds : HoldsHead head
    holds = (found_leads head s (leads head s at order stated)).holds

    none : (bytes : List ℕ) → form_reading.recording_of (head ++ bytes) ≡ Err form_faults.NotDsdiff
    none bytes = no_form_read head bytes (omega (arith, holds.fields)) (found_leads head s (leads head s at order stated)).heads.first

    blocks_same : (d : DsfFault) → blocks_reading.recording_of (head ++ xs) ≡ Err d → blocks_reading.recording_of (head ++ ys) ≡ Err d
    unfolding blocks_reading.recording_of
    blocks_same d fails =
        same_steps (file_header (head ++ xs)) (file_header (head ++ ys)) (prefix_same head xs holds ∙ sym (prefix_same head ys holds)) (λ h. ends_fit h (length (head ++ xs))) (λ h. ends_fit h (length (head ++ ys)))
        (λ h. ap (ends_fit h) totals) _ _ d fails

    blocks_fault : (e : ReadFault) → opened_of (head ++ xs) ≡ Err e → opened_of (head ++ ys) ≡ Err e
    blocks_fault e fails = by (blocks_reading.recording_of (head ++ xs)) refl
      where
        by : (x : Result (Content × BitOrder) DsfFault) → blocks_reading.recording_of (head ++ xs) ≡ x → opened_of (head ++ ys) ≡ Err e
        by (Ok y) is = (let opened = blocks_opened (head ++ xs) (none xs) ∙ ap from_dsf is in let both : from_dsf (Ok y) ≡ Err e = sym opened ∙ fails in absurd cc)
        by (Err d) is = blocks_named (head ++ ys) d (none ys) (blocks_same d is) ∙ sym (blocks_named (head ++ xs) d (none xs) is) ∙ fails

  pub same_fault : (e : ReadFault) → opened_of (head ++ xs) ≡ Err e → opened_of (head ++ ys) ≡ Err e
  same_fault e fails = by s.interleaving refl
    where
      by : (o : Interleaving) → s.interleaving ≡ o → opened_of (head ++ ys) ≡ Err e
      by Bytes stated = form_fault stated e fails
      by (Blocks order) stated = blocks_fault order stated e fails

-- ---- files that begin with one prefix, and are the same but for bytes of the sound
module _ (prefix rest other : List ℕ) (s : Sound) (states : LeadsToSound prefix s) (same : AreSameBut (IsOfSound s) (prefix ++ rest) (prefix ++ other)) where
  abbrev head : List ℕ
  head = take s.start prefix

  abbrev after_head : List ℕ → List ℕ
  after_head bytes = drop s.start prefix ++ bytes

  pub whole_is : (bytes : List ℕ) → prefix ++ bytes ≡ head ++ after_head bytes
  whole_is bytes = ap (λ bs. bs ++ bytes) (sym (take-append-drop s.start prefix)) ∙ append_assoc head (drop s.start prefix) bytes

  -- all from the end of the sound on is the same
  pub tails : drop (s.start + s.size) (prefix ++ other) ≡ drop (s.start + s.size) (prefix ++ rest)
  tails =
      let stop = s.start + s.size in
      same_number_lists (drop stop (prefix ++ other)) (drop stop (prefix ++ rest))
      (omega (arith, length-drop stop (prefix ++ other), length-drop stop (prefix ++ rest), same.long))
      (λ k low. get_or-drop stop (prefix ++ other) k 0 ∙ same.same (stop + k) (λ within. omega (arith, within.1)) ∙ sym (get_or-drop stop (prefix ++ rest) k 0))

  tail_of : (bytes : List ℕ) → drop (s.start + s.size) (prefix ++ bytes) ≡ drop s.size (after_head bytes)
  tail_of bytes = sym (drop-drop s.size s.start (prefix ++ bytes)) ∙ ap (drop s.size) (drop-append-le s.start prefix bytes states.within)

  longs : length (after_head rest) ≡ length (after_head other)
  longs = omega (arith, same.long, length-append prefix rest, length-append prefix other, length-append (drop s.start prefix) rest, length-append (drop s.start prefix) other)

  afters : drop s.size (after_head rest) ≡ drop s.size (after_head other)
  afters = sym (tail_of rest) ∙ sym tails ∙ tail_of other

  pub other_holds : (r : Content) → HoldsRecording (prefix ++ rest) r → (t : Content) × HoldsRecording (prefix ++ other) t
  other_holds r holds =
      let made = holds_other head (after_head rest) (after_head other) s (ends_at prefix s states) longs afters r (subst (λ file. HoldsRecording file r) (whole_is rest) holds) in
      (made.0, subst (λ file. HoldsRecording file made.0) (sym (whole_is other)) made.1)

  pub first_fault : (e : ReadFault) → opened_of (prefix ++ rest) ≡ Err e → opened_of (prefix ++ other) ≡ Err e
  first_fault e fails =
      ap opened_of (whole_is other) ∙ same_fault head (after_head rest) (after_head other) s (ends_at prefix s states) longs afters e (ap opened_of (sym (whole_is rest)) ∙ fails)

  -- the surroundings of the sound
  pub around_other : (o : Surroundings) → AreStated o → AreAround o (prefix ++ rest) → AreAround o (prefix ++ other)
  around_other o stated (sound, placed) = (
    sound_bytes (prefix ++ other) s,
    record {
      gap = placed.gap;
      rest = placed.rest;
      file_is = file_is;
      sound_long = length-take-le s.size (drop s.start (prefix ++ other)) (omega (arith, enough, same.long, length-drop s.start (prefix ++ other))) ∙ ap (λ (t : Sound). t.size) (sym sound_is);
      gap_long = placed.gap_long;
      ended = placed.ended;
    },
  )
    where
      sound_is : o.sound ≡ s
      sound_is = stated_same prefix o.head rest (sound ++ (placed.gap ++ (o.back ++ placed.rest))) placed.file_is s o.sound states stated.states

      start : s.start ≡ length o.head
      start = ap (λ (t : Sound). t.start) (sym sound_is) ∙ stated.start

      size : length sound ≡ s.size
      size = placed.sound_long ∙ ap (λ (t : Sound). t.size) sound_is

      enough : s.start + s.size ≤ length (prefix ++ rest)
      enough = omega (arith, start, size, ap length placed.file_is, length-append o.head (sound ++ (placed.gap ++ (o.back ++ placed.rest))), length-append sound (placed.gap ++ (o.back ++ placed.rest)))

      head_is : take s.start (prefix ++ other) ≡ o.head
      head_is =
          take-append-le s.start prefix other states.within
          ∙ sym (take-append-le s.start prefix rest states.within)
          ∙ ap (take s.start) placed.file_is
          ∙ take_at o.head (sound ++ (placed.gap ++ (o.back ++ placed.rest))) s.start (sym start)

      tail_is : drop (s.start + s.size) (prefix ++ other) ≡ placed.gap ++ (o.back ++ placed.rest)
      tail_is =
          tails
          ∙ ap (drop (s.start + s.size)) placed.file_is
          ∙ sym (drop-drop s.size s.start (o.head ++ (sound ++ (placed.gap ++ (o.back ++ placed.rest)))))
          ∙ ap (drop s.size) (drop_at o.head (sound ++ (placed.gap ++ (o.back ++ placed.rest))) s.start (sym start))
          ∙ drop_at sound (placed.gap ++ (o.back ++ placed.rest)) s.size size

      file_is : prefix ++ other ≡ o.head ++ (sound_bytes (prefix ++ other) s ++ (placed.gap ++ (o.back ++ placed.rest)))
      file_is =
          sym (take-append-drop s.start (prefix ++ other))
          ∙ ap₂ (λ bs cs. bs ++ cs) head_is
          (sym (take-append-drop s.size (drop s.start (prefix ++ other)))
          ∙ ap (λ bs. sound_bytes (prefix ++ other) s ++ bs) (drop-drop s.size s.start (prefix ++ other) ∙ tail_is))
