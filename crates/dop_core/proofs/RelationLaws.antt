-- Reading and the relation, in both directions.
use Rattle.std.proofs.Common.{◌≡◌, ◌≢◌, ℕ, zero, suc, ◌+◌, ◌-◌, ◌*◌, ◌/◌, ◌%◌, ◌<◌, ◌≤◌, inl, inr, Bool, true, false, cond, eqb, ltb, not, ◌&&◌, ◌||◌, List, drop, length, Option, None, Some, Result, Ok, Err, slice_index, refl, sym, ap, ap₂, subst, ◌∙◌, arith, eq-eqb, ne_eqb}
use Rattle.std.proofs.lemmas.Bool.{cases_eq, cases_lt, eqb-true, le-ltb, lt-ltb, ltb-false, ltb-true}
use Rattle.std.proofs.lemmas.Nat.{div-add-mod', div-mul-add, div_below, mod_below, mul-le}
use Rattle.std.proofs.lemmas.Slice.Eq.{bytes_eq-Decides}
use Rattle.std.proofs.Math.Nat.{add-mul}
use Rattle.chunk_core.proofs.Steps.{bind_then, chosen, guard_ok}
use Rattle.chunk_core.specs.Numbers.{id_at}
use Rattle.dsd_bits.specs.Contents.{Content, with_channels}
use Rattle.dsd_bits.specs.Ids.{same_id}
use Rattle.native_core.specs.Native.{marker}
use Rattle.dop_core.specs.declared.fault.DopFault.{DopFault}
use Rattle.dop_core.specs.declared.fault.DopFault.TheVariants.{BadCount, CountCut, NoData, NoFormat}
use Rattle.dop_core.specs.declared.head.DopHead.{DopHead}
use Rattle.dop_core.specs.Fields.{COUNT, DATA, FMT, RIFF, WAVE, channel_number, chunk_from, frame_rate, is_pcm_24, is_wave, next_of, size_at, u64_at}
use Rattle.dop_core.specs.Files.{HasCount, HasMarkers, IsDopOf, frames_in}
use Rattle.dop_core.specs.Reading.{as_fault, broken_from, checked, count_by, count_in, data_of, described_by, dop_channels, fills, format_of, found_or, has_no_size, head_at, head_of, is_before, marked, phase, recording_of, sized}
use Rattle.dop_core.proofs.ChunkLaws.{found_inside}
use Rattle.dop_core.proofs.MarkerLaws.{here, none_left, passed}

not_false : (b : Bool) → not b ≡ false → b ≡ true
not_false true e = refl
not_false false e = absurd cc

both_true : (a b : Bool) → (a && b) ≡ true → (a ≡ true) × (b ≡ true)
both_true true b e = (refl, e)
both_true false b e = absurd cc

neither : (a b : Bool) → (a || b) ≡ false → (a ≡ false) × (b ≡ false)
neither true b e = absurd cc
neither false b e = (refl, e)

not_true : (b : Bool) → not b ≡ true → b ≡ false
not_true true e = absurd cc
not_true false e = refl

id_is : (a b : List ℕ) → same_id a b ≡ true → a ≡ b
id_is a b e = (bytes_eq-Decides a b).0 e

id_again : (a b : List ℕ) → a ≡ b → same_id a b ≡ true
id_again a b e = (bytes_eq-Decides a b).1 e

pub found_some : (fault : DopFault) (o : Option ℕ) (d : ℕ) → found_or fault o ≡ Ok d → o ≡ Some d
found_some fault (Some at) d e = let same : at ≡ d = cc in ap (λ (m : ℕ). Some m) same
found_some fault None d e = absurd cc

-- ---- the header
wave_ok : (file : List ℕ) → is_wave file ≡ true → (12 ≤ length file) × (id_at file 0 ≡ RIFF) × (id_at file 8 ≡ WAVE)
unfolding is_wave
wave_ok file e =
    let long = not (ltb (length file) 12) in
    let riff = same_id (id_at file 0) RIFF in
    let a = both_true (long && riff) (same_id (id_at file 8) WAVE) e in
    let b = both_true long riff a.0 in
    (ltb-false _ _ (not_true _ b.0), id_is _ _ b.1, id_is _ _ a.1)

wave_again : (file : List ℕ) → 12 ≤ length file → id_at file 0 ≡ RIFF → id_at file 8 ≡ WAVE → is_wave file ≡ true
unfolding is_wave
wave_again file long riff wave = rw (le-ltb (length file) 12 long, id_again (id_at file 0) RIFF riff, id_again (id_at file 8) WAVE wave) refl

data_ok : (file : List ℕ) (d : ℕ) → data_of file ≡ Ok d → (is_wave file ≡ true) × (chunk_from DATA file 12 ≡ Some d)
unfolding data_of
data_ok file d e = let a = guard_ok _ _ _ _ e in (not_false _ a.0, found_some NoData (chunk_from DATA file 12) d a.1)

record IsFormat (file : List ℕ) (d f : ℕ) : Type 0 where
  there : chunk_from FMT file 12 ≡ Some f
  before : next_of file f ≤ d
  long : 16 ≤ size_at file f

format_ok : (file : List ℕ) (d f : ℕ) → format_of file d ≡ Ok f → IsFormat file d f
unfolding format_of
format_ok file d f e = bind_then _ _ _ e (λ x is then. elim (chosen {A = Result ℕ DopFault} (is_before file d x) (Ok x) (Err NoFormat) (Ok f) then) [
  | inl (holds, same) ↦ (
      let one : x ≡ f = cc in
      let a = both_true _ _ holds in
      subst (IsFormat file d) one (record { there = found_some NoFormat (chunk_from FMT file 12) x is; before = ltb-false _ _ (not_true _ a.0); long = ltb-false _ _ (not_true _ a.1) }))
  | inr (fails, same) ↦ absurd cc
])

record IsChecked (file : List ℕ) (f g : ℕ) : Type 0 where
  same : f ≡ g
  samples : is_pcm_24 file f ≡ true
  some : 1 ≤ channel_number file f
  six : channel_number file f ≤ 6
  low : 62500 ≤ frame_rate file f
  high : frame_rate file f ≤ 3125000

checked_ok : (file : List ℕ) (f g : ℕ) → checked file f ≡ Ok g → IsChecked file f g
unfolding checked
checked_ok file f g e =
    let a = guard_ok _ _ _ _ e in
    let b = guard_ok _ _ _ _ a.1 in
    let c = guard_ok _ _ _ _ b.1 in
    let d = guard_ok _ _ _ _ c.1 in
    let h = guard_ok _ _ _ _ d.1 in
    let one : f ≡ g = cc (h.1) in
    record { same = one; samples = not_false _ a.0; some = ltb-false _ _ b.0; six = ltb-false _ _ c.0; low = ltb-false _ _ d.0; high = ltb-false _ _ h.0 }

record IsSized (file : List ℕ) (d f : ℕ) (h : DopHead) : Type 0 where
  head : h ≡ head_at file d f
  stated : has_no_size file d ≡ false
  there : size_at file d ≤ length file - (d + 8)
  whole : size_at file d % (3 * channel_number file f) ≡ 0

sized_ok : (file : List ℕ) (d f : ℕ) (h : DopHead) → sized file d f ≡ Ok h → IsSized file d f h
unfolding sized
sized_ok file d f h e =
    let a = guard_ok _ _ _ _ e in
    let b = guard_ok _ _ _ _ a.1 in
    let c = guard_ok _ _ _ _ b.1 in
    let one : head_at file d f ≡ h = cc (c.1) in
    record { head = sym one; stated = a.0; there = ltb-false _ _ b.0; whole = eqb-true _ _ (not_false _ c.0) }

-- ---- the markers
none_of : (o : Option ℕ) → as_fault o ≡ Ok tt → o ≡ None
none_of None e = refl
none_of (Some frame) e = absurd cc

module _ (n first : ℕ) (sound : List ℕ) where
  abbrev IsMarked : ℕ → Type 0
  IsMarked i = slice_index sound (3 * i + 2) ≡ marker (first + i / n)

  each_marked : (left k : ℕ) → broken_from n first sound k left ≡ None → (i : ℕ) → k ≤ i → i < k + left → IsMarked i
  each_marked zero k e i from below = absurd (omega (arith, from, below))
  each_marked (suc left) k e i from below = elim (cases_eq (slice_index sound (3 * k + 2)) (marker (first + k / n))) [
    | inl same ↦ elim (cases_eq i k) [
      | inl is ↦ rw is same
      | inr other ↦ each_marked left (k + 1) (sym (passed n first sound k left same) ∙ e) i (omega (arith, from, other)) (omega (arith, below))
    ]
    | inr differs ↦ (let both : None ≡ Some (k / n) = sym e ∙ here n first sound k left differs in absurd cc)
  ]

  none_broken : (left k : ℕ) → ((i : ℕ) → k ≤ i → i < k + left → IsMarked i) → broken_from n first sound k left ≡ None
  none_broken zero k each = none_left n first sound k zero refl
  none_broken (suc left) k each = passed n first sound k left (each k (omega arith) (omega arith)) ∙ none_broken left (k + 1) (λ i from below. each i (omega (arith, from)) (omega (arith, below)))

phase_small : (sound : List ℕ) → phase sound ≤ 1
phase_small sound = elim (cases_eq (slice_index sound 2) 250) [
  | inl same ↦ rw (eq-eqb (slice_index sound 2) 250 same) (omega arith)
  | inr other ↦ rw (ne_eqb (slice_index sound 2) 250 other) (omega arith)
]

markers_found : (n frames : ℕ) (sound : List ℕ) → 1 ≤ n → broken_from n (phase sound) sound 0 (frames * n) ≡ None → HasMarkers n frames sound
markers_found n frames sound some e = record {
  first = phase sound;
  either = phase_small sound;
  marks = λ j c row in_frame.
      let fits : (j + 1) * n ≤ frames * n = mul-le (j + 1) n frames n (omega (arith, row)) (omega arith) in
      let inside : j * n + c < 0 + frames * n = omega (arith, fits, in_frame, add-mul j 1 n) in
      each_marked n (phase sound) sound (frames * n) 0 e (j * n + c) (omega arith) inside ∙ ap (λ m. marker (phase sound + m)) (div-mul-add j n c in_frame);
}

phase_is : (n frames : ℕ) (sound : List ℕ) (h : HasMarkers n frames sound) → 1 ≤ n → 1 ≤ frames → phase sound ≡ h.first
phase_is n frames sound h some more =
    let at : 2 ≡ 3 * (0 * n + 0) + 2 = omega arith in
    let mark : slice_index sound 2 ≡ marker (h.first + 0) = ap (slice_index sound) at ∙ h.marks 0 0 (omega (arith, more)) (omega (arith, some)) in
    let value : phase sound ≡ cond (eqb (marker (h.first + 0)) 250) 1 0 = ap (λ (m : ℕ). cond (eqb m 250) 1 0) mark in
    elim (cases_lt h.first 1) [
      | inl low ↦ (let zeroth : h.first + 0 ≡ 0 = omega (arith, low) in value ∙ ap (λ (m : ℕ). cond (eqb (marker m) 250) 1 0) zeroth ∙ omega (arith, low))
      | inr high ↦ (let oneth : h.first + 0 ≡ 1 = omega (arith, high, h.either) in value ∙ ap (λ (m : ℕ). cond (eqb (marker m) 250) 1 0) oneth ∙ omega (arith, high, h.either))
    ]

markers_again : (n frames : ℕ) (sound : List ℕ) → 1 ≤ n → HasMarkers n frames sound → broken_from n (phase sound) sound 0 (frames * n) ≡ None
markers_again n frames sound some h = elim (cases_lt 0 frames) [
  | inl more ↦
      ap (λ m. broken_from n m sound 0 (frames * n)) (phase_is n frames sound h some (omega (arith, more)))
      ∙ none_broken n h.first sound (frames * n) 0 (λ i from below.
      let whole : i ≡ i / n * n + i % n = omega (arith, div-add-mod' i n) in
      let row : i / n < frames = div_below i n frames (omega (arith, some)) (omega (arith, below)) in
      ap (λ m. slice_index sound (3 * m + 2)) whole ∙ h.marks (i / n) (i % n) row (mod_below i n (omega (arith, some))))
  | inr none ↦ (let empty : frames * n ≡ 0 = ap (λ m. m * n) (let z : frames ≡ 0 = omega (arith, none) in z) ∙ omega arith in none_left n (phase sound) sound 0 (frames * n) empty)
]

-- ---- the number of bits
module _ (file : List ℕ) (place frames : ℕ) where
  count_found : (o : Option ℕ) (count : ℕ) → chunk_from COUNT file (next_of file place) ≡ o → count_by file frames o ≡ Ok count → HasCount file place frames count
  unfolding count_by
  count_found None count is e =
      let same : 16 * frames ≡ count = cc (e) in
      record {
        all = λ none. sym same;
        long = λ at some. let both : None ≡ Some at = sym is ∙ some in absurd cc;
        stated = λ at some. let both : None ≡ Some at = sym is ∙ some in absurd cc;
        most = omega (arith, same);
        least = omega (arith, same);
      }
  count_found (Some k) count is e =
      let v = u64_at file (k + 8) in
      let a = guard_ok (ltb (size_at file k) 8 || ltb (length file) (k + 16)) CountCut (cond (fills frames v) (Ok v) (Err (BadCount v))) count e in
      let cut = neither (ltb (size_at file k) 8) (ltb (length file) (k + 16)) a.0 in
      elim (chosen {A = Result ℕ DopFault} (fills frames (u64_at file (k + 8))) (Ok (u64_at file (k + 8))) (Err (BadCount (u64_at file (k + 8)))) (Ok count) a.1) [
        | inl (holds, value) ↦
            let same : v ≡ count = cc (value) in
            let b = both_true (not (ltb (16 * frames) v)) (ltb (16 * frames) (v + 16)) holds in
            record {
              all = λ none. let both : Some k ≡ None = sym is ∙ none in absurd cc;
              long = λ at some. let one : k ≡ at = cc (sym is ∙ some) in subst (λ m. (8 ≤ size_at file m) × (m + 16 ≤ length file)) one (ltb-false (size_at file k) 8 cut.0, ltb-false (length file) (k + 16) cut.1);
              stated = λ at some. let one : k ≡ at = cc (sym is ∙ some) in subst (λ m. u64_at file (m + 8) ≡ count) one same;
              most = omega (arith, ltb-false (16 * frames) v (not_true (ltb (16 * frames) v) b.0), same);
              least = omega (arith, ltb-true (16 * frames) (v + 16) b.1, same);
            }
        | inr (fails, value) ↦ absurd cc
      ]

  count_again : (o : Option ℕ) (count : ℕ) → chunk_from COUNT file (next_of file place) ≡ o → HasCount file place frames count → count_by file frames o ≡ Ok count
  unfolding count_by
  count_again None count is h = ap (λ m. let r : Result ℕ DopFault = Ok m in r) (sym (h.all is))
  count_again (Some k) count is h =
      let long = h.long k is in
      let same = h.stated k is in
      rw (le-ltb (size_at file k) 8 long.0, le-ltb (length file) (k + 16) long.1, le-ltb (16 * frames) (u64_at file (k + 8)) (omega (arith, same, h.most)), lt-ltb (16 * frames) (u64_at file (k + 8) + 16) (omega (arith, same, h.least)))
      (ap (λ m. let r : Result ℕ DopFault = Ok m in r) same)

-- ---- the whole
record IsHeaded (file : List ℕ) (h : DopHead) : Type 0 where
  place : ℕ
  format : ℕ
  wave : (is_wave file ≡ true) × (chunk_from DATA file 12 ≡ Some place)
  form : IsFormat file place format
  fields : IsChecked file format format
  sound : IsSized file place format h

head_ok : (file : List ℕ) (h : DopHead) → head_of file ≡ Ok h → IsHeaded file h
unfolding head_of
head_ok file h e = bind_then (data_of file) _ h e (λ d data_is then.
    bind_then (format_of file d) _ h then (λ f format_is later.
    bind_then (checked file f) _ h later (λ g checked_is last.
    let c = checked_ok file f g checked_is in
    record {
      place = d;
      format = f;
      wave = data_ok file d data_is;
      form = format_ok file d f format_is;
      fields = record { same = refl; samples = c.samples; some = c.some; six = c.six; low = c.low; high = c.high };
      sound = sized_ok file d f h (subst (λ m. sized file d m ≡ Ok h) (sym c.same) last);
    })))

not_open : (file : List ℕ) (place : ℕ) → has_no_size file place ≡ false → (size_at file place ≢ 4294967295) × (size_at file place ≡ 0 → length file ≤ place + 8)
not_open file place e =
    let a = neither (eqb (size_at file place) 4294967295) (eqb (size_at file place) 0 && ltb (place + 8) (length file)) e in (
      (λ is. let equal = eq-eqb (size_at file place) 4294967295 is in let both : true ≡ false = sym equal ∙ a.0 in absurd cc),
      (λ none. elim (cases_lt (place + 8) (length file)) [
        | inl more ↦ (let both : true ≡ false = sym (ap₂ (λ x y. x && y) (eq-eqb (size_at file place) 0 none) (lt-ltb (place + 8) (length file) more)) ∙ a.1 in absurd cc)
        | inr all ↦ all
      ]),
    )

opened_again : (file : List ℕ) (place : ℕ) → size_at file place ≢ 4294967295 → (size_at file place ≡ 0 → length file ≤ place + 8) → has_no_size file place ≡ false
opened_again file place not_stream open_end = elim (cases_eq (size_at file place) 0) [
  | inl none ↦ rw (ne_eqb (size_at file place) 4294967295 not_stream, eq-eqb (size_at file place) 0 none, le-ltb (place + 8) (length file) (open_end none)) refl
  | inr more ↦ rw (ne_eqb (size_at file place) 4294967295 not_stream, ne_eqb (size_at file place) 0 more) refl
]

module _ (file : List ℕ) (place format count : ℕ) where
  abbrev h : DopHead
  h = head_at file place format

  abbrev made : Content
  made = with_channels (described_by h count) (dop_channels h.channels (drop h.start file) count)

start_of : (place : ℕ) → (place + 8) - 8 ≡ place
start_of place = omega arith

is_dop : (file : List ℕ) (h : DopHead) (r : Content) (count : ℕ) → IsHeaded file h → marked h (drop h.start file) ≡ Ok tt → count_in file h ≡ Ok count → r ≡ with_channels (described_by h count) (dop_channels h.channels (drop h.start file) count) → IsDopOf file r
is_dop file h r count head marks counts is =
    let d = head.place in
    let f = head.format in
    let at = head_at file d f in
    let same : h ≡ at = head.sound.head in
    let wave = wave_ok file head.wave.0 in
    let sizes = not_open file d head.sound.stated in
    let n = channel_number file f in
    let k = frames_in n (size_at file d) in
    let sound = drop (d + 8) file in
    let marks_at : marked at sound ≡ Ok tt = subst (λ (g : DopHead). marked g (drop g.start file) ≡ Ok tt) same marks in
    let counts_at : count_by file k (chunk_from COUNT file (next_of file d)) ≡ Ok count = ap (λ m. count_by file k (chunk_from COUNT file (next_of file m))) (sym (start_of d)) ∙ subst (λ (g : DopHead). count_in file g ≡ Ok count) same counts in
    let made_at : r ≡ made file d f count = is ∙ ap (λ (g : DopHead). with_channels (described_by g count) (dop_channels g.channels (drop g.start file) count)) same in
    record {
      long = wave.0;
      riff = wave.1;
      wave = wave.2;
      place = d;
      place_is = head.wave.1;
      format = f;
      format_is = head.form.there;
      before = head.form.before;
      format_long = head.form.long;
      samples = head.fields.samples;
      some_channel = head.fields.some;
      six_channels = head.fields.six;
      rate_low = head.fields.low;
      rate_high = head.fields.high;
      not_stream = sizes.0;
      not_open = sizes.1;
      there = omega (arith, head.sound.there, found_inside DATA file (length file) 12 d head.wave.1);
      whole = head.sound.whole;
      markers = markers_found n k sound head.fields.some (none_of (broken_from n (phase sound) sound 0 (k * n)) marks_at);
      count = count;
      count_is = count_found file d k (chunk_from COUNT file (next_of file d)) count refl counts_at;
      rate_read = ap (λ (c : Content). c.rate) made_at;
      channels_read = ap (λ (c : Content). c.channels) made_at;
      ids_read = ap (λ (c : Content). c.ids) made_at;
      layout_read = ap (λ (c : Content). c.layout) made_at;
      no_marks = ap (λ (c : Content). c.marks) made_at;
      no_others = ap (λ (c : Content). c.others) made_at;
      no_tag = ap (λ (c : Content). c.tag) made_at;
    }

pub found : (file : List ℕ) (r : Content) → recording_of file ≡ Ok r → IsDopOf file r
unfolding recording_of
found file r e = bind_then (head_of file) _ r e (λ h head then.
    bind_then (marked h (drop h.start file)) _ r then (λ m marks later.
    bind_then (count_in file h) _ r later (λ count counts last.
    let made : with_channels (described_by h count) (dop_channels h.channels (drop h.start file) count) ≡ r = cc (last) in
    is_dop file h r count (head_ok file h head) marks counts (sym made))))

pub only : (file : List ℕ) (r : Content) → IsDopOf file r → recording_of file ≡ Ok r
unfolding recording_of head_of data_of format_of checked sized
only file r is =
    let d = is.place in
    let f = is.format in
    let n = channel_number file f in
    let k = frames_in n (size_at file d) in
    let sound = drop (d + 8) file in
    let counts : count_in file (head_at file d f) ≡ Ok is.count = ap (λ m. count_by file k (chunk_from COUNT file (next_of file m))) (start_of d) ∙ count_again file d k (chunk_from COUNT file (next_of file d)) is.count refl is.count_is in
    rw (
      wave_again file is.long is.riff is.wave,
      is.place_is,
      is.format_is,
      le-ltb d (next_of file f) is.before,
      le-ltb (size_at file f) 16 is.format_long,
      is.samples,
      le-ltb n 1 is.some_channel,
      le-ltb 6 n is.six_channels,
      le-ltb (frame_rate file f) 62500 is.rate_low,
      le-ltb 3125000 (frame_rate file f) is.rate_high,
      opened_again file d is.not_stream is.not_open,
      le-ltb (length file - (d + 8)) (size_at file d) (omega (arith, is.there)),
      eq-eqb (size_at file d % (3 * n)) 0 is.whole,
      markers_again n k sound is.some_channel is.markers,
      counts,
    )
    (λ j. let x : Result Content DopFault = Ok (record { rate = sym is.rate_read j; channels = sym is.channels_read j; ids = sym is.ids_read j; layout = sym is.layout_read j; marks = sym is.no_marks j; others = sym is.no_others j; tag = sym is.no_tag j }) in x)
