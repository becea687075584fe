-- What a file states besides its bits, step by step, and its recording.
use Rattle.std.proofs.Common.{◌≡◌, ℕ, ◌+◌, ◌*◌, ◌/◌, ◌%◌, ◌^◌, ◌≤◌, ◌<◌, ◌-◌, inl, inr, List, [], ◌++◌, length, map, take, drop, replicate, Option, Some, Result, Ok, Err, refl, sym, ap, ap₂, subst, ◌∙◌, arith}
use Rattle.std.proofs.lemmas.List.{append-nil, length-append, length-drop, length-replicate, length-take-le, nil_from_length, take-append-drop}
use Rattle.std.proofs.lemmas.List.FromFn.{length-map-range_with_len}
use Rattle.byteorder.specs.Endian.{big_number}
use Rattle.chunk_core.specs.declared.layout.Span.{Span}
use Rattle.chunk_core.specs.Places.{span_chunk}
use Rattle.chunk_core.specs.Steps.{◌>>=◌}
use Rattle.chunk_core.proofs.Steps.{bind_then}
use Rattle.dsd_bits.specs.Channels.{count_of}
use Rattle.dsd_bits.specs.Contents.{Content, Described, described, with_channels}
use Rattle.dsd_bits.specs.Ids.{DSD}
use Rattle.dsd_bits.specs.Lacing.{unlaced, unlaced_all}
use Rattle.dsd_bits.specs.Layouts.{usual_layout}
use Rattle.dsd_bits.specs.Shape.{AreDescribed}
use Rattle.dsdiff_core.specs.declared.fault.DsdiffFault.{DsdiffFault}
use Rattle.dsdiff_core.specs.declared.held.Held.{Held}
use Rattle.dsdiff_core.specs.Forms.{top_of}
use Rattle.dsdiff_core.specs.Headers.{IsAccepted, form_of, seek, size_at, sound_head_place}
use Rattle.dsdiff_core.specs.Held.{IsHeld, IsParted, held}
use Rattle.dsdiff_core.specs.Located.{EndsAtHead, stated_size}
use Rattle.dsdiff_core.specs.Masters.{masters_of}
use Rattle.dsdiff_core.specs.Properties.{PropertyFields, property_of}
use Rattle.dsdiff_core.specs.Reading.{marks_of, kept_others, recording_of}
use Rattle.dsdiff_core.specs.SoundBytes.{description_of, read_with_sound}
use Rattle.dsdiff_core.specs.Sounds.{stated_count, sound_leads, bytes_of_sound}
use Rattle.dsdiff_core.specs.Spans.{data_with}
use Rattle.dsdiff_core.proofs.AnySound.{sound_fits, sound_is_free}
use Rattle.dsdiff_core.proofs.FileLaws.{is_dsdiff, parts_again, parts_from, parts_ok}
use Rattle.dsdiff_core.proofs.HeaderLaws.{found_leads, sound_is_at}
use Rattle.dsdiff_core.proofs.HeaderSteps.{long_prefix}
use Rattle.dsdiff_core.proofs.HeadLaws.{head_cut}
use Rattle.dsdiff_core.proofs.HeldLaws.{held_long, held_prefix}
use Rattle.dsdiff_core.proofs.LeadLaws.{number_prefix}
use Rattle.dsdiff_core.proofs.PropertyLaws.{property_ok}
use Rattle.dsdiff_core.proofs.ShapeLaws.{count_is, level_is}
use Rattle.dsdiff_core.proofs.StatedLaws.{found_is_stated, sound_is_stated}

-- what the steps state
abbrev pub stated_so : List ℕ → List Span → PropertyFields → ℕ → List Span → Described
stated_so file top stated count inner = record {
  rate = stated.rate;
  count = count;
  ids = stated.ids;
  layout = usual_layout (length stated.ids);
  marks = marks_of file inner;
  others = kept_others file stated.parts inner top;
  tag = [];
}

abbrev pub steps_of : List ℕ → Result Described DsdiffFault
steps_of file = top_of file >>= λ top. property_of file top >>= λ stated. stated_count file top (length stated.ids) >>= λ count. masters_of file top >>= λ inner. Ok (stated_so file top stated count inner)

-- steps after a step
then_same : {A B C : Type 0} (r : Result A DsdiffFault) (f : A → Result B DsdiffFault) (h : B → Result C DsdiffFault) (g : A → Result C DsdiffFault) → ((x : A) → r ≡ Ok x → (f x >>= h) ≡ g x) → ((r >>= f) >>= h) ≡ (r >>= g)
then_same (Ok x) f h g k = k x refl
then_same (Err e) f h g k = refl

some_channel : (file : List ℕ) (top : List Span) (stated : PropertyFields) → property_of file top ≡ Ok stated → 1 ≤ length stated.ids
some_channel file top stated e =
    let p = property_ok file top stated e in
    let number : length stated.ids ≡ big_number 2 p.names = ap length p.is_stated.ids ∙ length-map-range_with_len (λ k. take 4 (drop (4 * k) (drop 2 p.names))) 0 (big_number 2 p.names) in
    omega (arith, number, p.is_stated.some_channel)

pub described_steps : (file : List ℕ) → description_of file ≡ steps_of file
unfolding recording_of
described_steps file =
    then_same (top_of file) _ _ _ (λ top e1.
    then_same (property_of file top) _ _ _ (λ stated e2. by top stated (some_channel file top stated e2) (bytes_of_sound (sound_leads (map (span_chunk file) top)) (data_with file DSD top) (length stated.ids))))
  where
    made : List Span → PropertyFields → List ℕ → List Span → Content
    made top stated sound inner = record {
      rate = stated.rate;
      channels = unlaced_all sound (length stated.ids);
      ids = stated.ids;
      layout = usual_layout (length stated.ids);
      marks = marks_of file inner;
      others = kept_others file stated.parts inner top;
      tag = [];
    }

    described_done : Content → Result Described DsdiffFault
    described_done r = Ok (described r)

    by : (top : List Span) (stated : PropertyFields) → 1 ≤ length stated.ids → (r : Result (List ℕ) DsdiffFault) → ((r >>= λ sound. masters_of file top >>= λ inner. Ok (made top stated sound inner)) >>= described_done) ≡ ((r >>= λ (sound : List ℕ). Ok (8 * (length sound / length stated.ids))) >>= λ count. masters_of file top >>= λ inner. Ok (stated_so file top stated count inner))
    by top stated some (Err e) = refl
    by top stated some (Ok sound) = then_same (masters_of file top) _ _ _ (λ inner e. ap (λ (n : ℕ). let r : Result Described DsdiffFault = Ok (stated_so file top stated n inner) in r) (count_is sound (length stated.ids) some))

-- a file that is described is accepted, and one that isn't is refused
pub read_of : (file : List ℕ) (d : Described) → description_of file ≡ Ok d → (r : Content) × (recording_of file ≡ Ok r) × (described r ≡ d)
read_of file d e = bind_then (recording_of file) (λ r. Ok (described r)) d e (λ r e1 h. (r, e1, cc (h)))

pub accepts : (file : List ℕ) (d : Described) → description_of file ≡ Ok d → IsAccepted file
accepts file d e = let r = read_of file d e in (r.0, is_dsdiff file r.0 (parts_ok file r.0 r.1))

pub refuses : (file : List ℕ) (f : DsdiffFault) → description_of file ≡ Err f → IsAccepted file → ⊥
refuses file f e accepted =
    let read = parts_again file accepted.0 (parts_from file accepted.0 accepted.1) in
    let both : Ok (described accepted.0) ≡ Err f = sym (ap (λ (r : Result Content DsdiffFault). r >>= λ x. Ok (described x)) read) ∙ e in
    absurd cc

-- the fault of a description is that of the recording
pub fault_of : (file : List ℕ) (f : DsdiffFault) → description_of file ≡ Err f → recording_of file ≡ Err f
fault_of file f e = by (recording_of file) e
  where
    by : (r : Result Content DsdiffFault) → (r >>= λ x. Ok (described x)) ≡ Err f → r ≡ Err f
    by (Ok x) h = absurd cc
    by (Err g) h = let same : g ≡ f = cc (h) in ap (λ (y : DsdiffFault). let q : Result Content DsdiffFault = Err y in q) same

-- ---- other bytes of sound
-- what is read of a file with these bytes of sound
abbrev pub with_bits : List ℕ → Described → Result Content DsdiffFault
with_bits sound d = Ok (with_channels d (unlaced_all sound (length d.ids)))

abbrev states : Content → Result Described DsdiffFault
states r = Ok (described r)

same_content : (x y : Content) → (let r : Result Content DsdiffFault = Ok x in r) ≡ Ok y → x ≡ y
same_content x y e = cc

module _ (prefix sound back : List ℕ) (h : EndsAtHead prefix) (size : length sound ≡ stated_size prefix) where
  -- a recording that was read has the sound as its channels
  own_channels : (r : Content) → recording_of (prefix ++ (sound ++ back)) ≡ Ok r → unlaced_all sound (length r.ids) ≡ r.channels
  own_channels r e = ap (λ (x : Content). x.channels) (same_content (record r { channels = unlaced_all sound (length r.ids) }) r (sym (ap (read_with_sound sound) e) ∙ sym (sound_is_free prefix sound sound back h size size) ∙ e))

  some_ids : (r : Content) → recording_of (prefix ++ (sound ++ back)) ≡ Ok r → 1 ≤ length r.ids
  some_ids r e =
      let p = parts_ok (prefix ++ (sound ++ back)) r e in
      subst (λ (n : ℕ). 1 ≤ n) (ap (λ (x : Content). length x.ids) p.made) (some_channel (prefix ++ (sound ++ back)) p.top p.stated p.at_stated)

  pub described_alike : (other : List ℕ) → length other ≡ stated_size prefix → description_of (prefix ++ (other ++ back)) ≡ description_of (prefix ++ (sound ++ back))
  described_alike other size_o = ap (λ (r : Result Content DsdiffFault). r >>= states) (sound_is_free prefix sound other back h size size_o) ∙ by (recording_of (prefix ++ (sound ++ back))) refl
    where
      by : (r : Result Content DsdiffFault) → recording_of (prefix ++ (sound ++ back)) ≡ r → (read_with_sound other r >>= states) ≡ (r >>= states)
      by (Err f) e = refl
      by (Ok r) e =
          let some = some_ids r e in
          let long : 8 * (length other / length r.ids) ≡ 8 * (length sound / length r.ids) = ap (λ (n : ℕ). 8 * (n / length r.ids)) (size_o ∙ sym size) in
          let count : count_of (unlaced_all other (length r.ids)) ≡ count_of r.channels = count_is other (length r.ids) some ∙ long ∙ sym (count_is sound (length r.ids) some) ∙ ap count_of (own_channels r e) in
          ap (λ (n : ℕ). let x : Result Described DsdiffFault = Ok (record (described r) { count = n }) in x) count

  pub read_by : (other : List ℕ) → length other ≡ stated_size prefix → recording_of (prefix ++ (other ++ back)) ≡ (description_of (prefix ++ (sound ++ back)) >>= with_bits other)
  read_by other size_o = sound_is_free prefix sound other back h size size_o ∙ by (recording_of (prefix ++ (sound ++ back)))
    where
      by : (r : Result Content DsdiffFault) → read_with_sound other r ≡ ((r >>= states) >>= with_bits other)
      by (Ok r) = refl
      by (Err f) = refl

-- ---- a file that is parted
module _ (file : List ℕ) (f : Held) (sound : List ℕ) (p : IsParted file f sound) where
  abbrev zeros : List ℕ
  zeros = replicate f.hole 0

  long_zeros : length zeros ≡ f.hole
  long_zeros = length-replicate {A = ℕ} f.hole 0

  -- a file that is held whole
  whole_is : f.hole ≡ 0 → f.back.now ≡ [] → file ≡ held f
  whole_is none end =
      let silent : sound ≡ [] = nil_from_length sound (p.long ∙ none) in
      p.is ∙ rw (silent, end) (append-nil f.prefix.now) ∙ sym (held_prefix f none end)

  at_head : EndsAtHead f.prefix.now × (f.hole ≡ stated_size f.prefix.now) → recording_of file ≡ (description_of (held f) >>= with_bits sound)
  at_head a = ap recording_of p.is ∙ read_by f.prefix.now zeros f.back.now a.0 (long_zeros ∙ a.1) sound (p.long ∙ a.1)

  pub read_parted : recording_of file ≡ (description_of (held f) >>= with_bits sound)
  read_parted = elim p.is_held [
    | inl whole ↦ by whole (recording_of file) refl
    | inr a ↦ at_head (a.0, a.1)
  ]
    where
      by : (f.hole ≡ 0) × (f.back.now ≡ []) → (r : Result Content DsdiffFault) → recording_of file ≡ r → recording_of file ≡ (description_of (held f) >>= with_bits sound)
      by whole (Ok r) e = at_head (p.located (r, is_dsdiff file r (parts_ok file r e)))
      by whole (Err g) e =
          let refused : description_of (held f) ≡ Err g = ap (λ (xs : List ℕ). recording_of xs >>= states) (sym (whole_is whole.0 whole.1)) ∙ ap (λ (r : Result Content DsdiffFault). r >>= states) e in
          e ∙ sym (ap (λ (r : Result Described DsdiffFault). r >>= with_bits sound) refused)

  -- the sound of a file that is described
  module _ (d : Described) (e : description_of (held f) ≡ Ok d) where
    read_is : recording_of file ≡ Ok (with_channels d (unlaced_all sound (length d.ids)))
    read_is = read_parted ∙ ap (λ (r : Result Described DsdiffFault). r >>= with_bits sound) e

    head_is : EndsAtHead f.prefix.now × (f.hole ≡ stated_size f.prefix.now)
    head_is = p.located (with_channels d (unlaced_all sound (length d.ids)), is_dsdiff file _ (parts_ok file _ read_is))

    in_file : recording_of (f.prefix.now ++ (sound ++ f.back.now)) ≡ Ok (with_channels d (unlaced_all sound (length d.ids)))
    in_file = ap recording_of (sym p.is) ∙ read_is

    pub fits : (length sound % length d.ids ≡ 0) × (8 * (length sound / length d.ids) ≤ 2 ^ 36)
    fits = sound_fits f.prefix.now f.back.now head_is.0 sound sound (p.long ∙ head_is.1) (p.long ∙ head_is.1) (with_channels d (unlaced_all sound (length d.ids))) in_file

    pub are_described : AreDescribed d (unlaced_all sound (length d.ids))
    are_described =
        let some : 1 ≤ length d.ids = some_ids f.prefix.now sound f.back.now head_is.0 (p.long ∙ head_is.1) (with_channels d (unlaced_all sound (length d.ids))) in_file in
        let alike = described_alike f.prefix.now zeros f.back.now head_is.0 (long_zeros ∙ head_is.1) sound (p.long ∙ head_is.1) ∙ e in
        let stated : states (with_channels d (unlaced_all sound (length d.ids))) ≡ Ok d = sym (ap (λ (r : Result Content DsdiffFault). r >>= states) in_file) ∙ alike in
        let same : described (with_channels d (unlaced_all sound (length d.ids))) ≡ d = cc (stated) in
        record {
          number = length-map-range_with_len (unlaced sound (length d.ids)) 0 (length d.ids);
          level = level_is sound (length d.ids) some;
          count = ap (λ (x : Described). x.count) same;
        }

-- ---- where the sound of an accepted file is
pub accepted_located : (file : List ℕ) → IsAccepted file → (at : ℕ) × (sound_head_place file ≡ Ok (Some at)) × (at + 12 + size_at file at ≤ length file)
accepted_located file accepted =
    let stated = sound_is_stated file accepted.0 accepted.1 in
    let l = found_leads file stated.0 ((found_is_stated file stated.0).1 stated.1) in
    let place = sound_is_at file l.at stated.0 l.is in
    (l.at, long_prefix file l.long ∙ rw (l.form, l.sought) refl, omega (arith, place.0, place.1, stated.2.in_file))

pub located_ok : (file : List ℕ) (at : ℕ) → 16 ≤ length file → sound_head_place file ≡ Ok (Some at) → (form_of file ≡ Ok tt) × (seek file ≡ Ok (Some at))
located_ok file at long e = bind_then (form_of file) (λ form. seek file) (Some at) (sym (long_prefix file long) ∙ e) (λ u e1 h. (e1, h))

-- a file that is held whole, where no sound is found
pub unlocated : (file : List ℕ) (f : Held) → held f ≡ file → IsHeld f → f.prefix.now ≡ file → (IsAccepted file → ⊥) → IsParted file f []
unlocated file f is h prefix none =
    let long : length f.prefix.now + f.hole + length f.back.now ≡ length f.prefix.now = sym (held_long f) ∙ ap length (is ∙ sym prefix) in
    let end : f.back.now ≡ [] = nil_from_length f.back.now (omega (arith, long)) in
    record { is_held = h; is = sym prefix ∙ sym (rw end (append-nil f.prefix.now)); long = omega (arith, long); located = λ accepted. absurd (none accepted) }

-- a file whose sound isn't found, or isn't whole, is not accepted
pub not_located : (file : List ℕ) (r : Result (Option ℕ) DsdiffFault) → sound_head_place file ≡ r → ((at : ℕ) → r ≡ Ok (Some at) → at + 12 + size_at file at ≤ length file → ⊥) → IsAccepted file → ⊥
not_located file r is never accepted = let l = accepted_located file accepted in never l.0 (sym is ∙ l.1) l.2

-- a file around the sound that is found
pub parted_at : (file : List ℕ) (at : ℕ) (f : Held) (rest sound : List ℕ) → sound_head_place file ≡ Ok (Some at) → 16 ≤ at → at + 12 ≤ length file → length file < 2 ^ 64 → f.hole ≡ size_at file at → at + 12 + f.hole ≤ length file
    → f.prefix.now ≡ take (at + 12) file → rest ≡ drop (at + 12) file → sound ≡ take f.hole rest → f.back.now ≡ drop f.hole rest → IsParted file f sound
parted_at file at f rest sound found low high few hole inside prefix rest_is sound_is back =
    let l = located_ok file at (omega (arith, low, high)) found in
    let head : EndsAtHead f.prefix.now = subst EndsAtHead (sym prefix) (head_cut file at l.0 l.1) in
    let prefix_long : length f.prefix.now ≡ at + 12 = ap length prefix ∙ length-take-le (at + 12) file high in
    let whole : file ≡ f.prefix.now ++ rest = sym (take-append-drop (at + 12) file) ∙ ap₂ (λ (xs ys : List ℕ). xs ++ ys) (sym prefix) (sym rest_is) in
    let split : rest ≡ sound ++ f.back.now = sym (take-append-drop f.hole rest) ∙ ap₂ (λ (xs ys : List ℕ). xs ++ ys) (sym sound_is) (sym back) in
    let rest_long : length rest ≡ length file - (at + 12) = ap length rest_is ∙ length-drop (at + 12) file in
    let long : length sound ≡ f.hole = ap length sound_is ∙ length-take-le f.hole rest (omega (arith, rest_long, inside)) in
    let place : length f.prefix.now - 12 ≡ at = omega (arith, prefix_long) in
    let size : f.hole ≡ stated_size f.prefix.now = hole ∙ (ap (λ (xs : List ℕ). size_at xs at) whole ∙ number_prefix 8 (at + 4) f.prefix.now rest (omega (arith, prefix_long)) ∙ ap (size_at f.prefix.now) (sym place)) in
    let total : length f.prefix.now + f.hole + length f.back.now < 2 ^ 64 = omega (arith, prefix_long, inside, few, rest_long, ap length split, length-append sound f.back.now, long) in
    record { is_held = inr (head, size, total); is = whole ∙ ap (λ xs. f.prefix.now ++ xs) split; long = long; located = λ accepted. (head, size) }
