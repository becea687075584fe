-- A file of an outline and some samples.
use Rattle.std.proofs.Common.{◌≡◌, ℕ, ◌+◌, ◌-◌, ◌*◌, ◌%◌, ◌≤◌, inl, inr, cond, eqb, List, [], ◌++◌, length, Option, None, Some, IfOk, IfSome, Result, Ok, Err, slice_index, refl, sym, ap, subst, ◌∙◌, append_assoc, mul_comm, length-append, arith}
use Rattle.std.specs.Int.{div_ceil}
use Rattle.std.proofs.Math.Nat.{add-mul}
use Rattle.std.proofs.lemmas.Bool.{cases_eq}
use Rattle.std.proofs.lemmas.List.{drop_at, get_or_append_left}
use Rattle.std.proofs.lemmas.Nat.{mul-le}
use Rattle.chunk_core.specs.Inlets.{PullsBytes, inlet_reader}
use Rattle.chunk_core.specs.declared.inlet.Inlet.{Inlet}
use Rattle.dop_core.specs.declared.fault.DopFault.{DopFault}
use Rattle.dop_core.specs.declared.head.DopHead.{DopHead}
use Rattle.dop_core.specs.declared.outline.DopOutline.{DopOutline}
use Rattle.dop_core.specs.declared.stop.DopStop.{DopStop}
use Rattle.dop_core.specs.declared.stop.DopStop.TheVariants as stops
use Rattle.dop_core.specs.Fields.{COUNT, chunk_for, chunk_from, next_of, size_at}
use Rattle.dop_core.specs.Outlines.{AreSamples, IsOutline, ReadsOutline, ReadsRest, file_in, recording_by, recording_in}
use Rattle.dop_core.specs.Pieces.{IfRefused, NamesAfter}
use Rattle.dop_core.specs.Reading.{as_fault, broken_from, count_by, count_in, dop_channels, head_of, marked, phase, recording_of, sound_of}
use Rattle.dop_core.specs.Sounds.{sound_long}
use Rattle.dop_core.proofs.BitLaws.{channels_left}
use Rattle.dop_core.proofs.FrontLaws.{chunk_on, count_on, enough}
use Rattle.dop_core.proofs.MarkerLaws.{broken_in, no_samples, nothing_times, phase_begins}
use Rattle.dop_core.proofs.ReadingLaws.{pulls_on}

-- ---- how many bits there are

pub count_after : (front sound back : List ℕ) (h : DopHead) (size : ℕ) → h.start ≡ length front → 8 ≤ length front → size_at (front ++ (sound ++ back)) (length front - 8) ≡ size → length sound ≡ size
    → count_in (front ++ (sound ++ back)) h ≡ count_by back h.frames (chunk_from COUNT back (size % 2))
count_after front sound back h size start long stated all =
    let file = front ++ (sound ++ back) in
    let at : h.start - 8 ≡ length front - 8 = ap (λ k. k - 8) start in
    let before = length-append front sound in
    let next : next_of file (h.start - 8) ≡ length (front ++ sound) + size % 2 = ap (next_of file) at ∙ ap (λ (n : ℕ). length front - 8 + 8 + n + n % 2) stated ∙ omega (arith, long, before, all) in
    let parts : file ≡ (front ++ sound) ++ back = sym (append_assoc front sound back) in
    let steps : length back ≤ size % 2 + length file = omega (arith, length-append front (sound ++ back), length-append sound back) in
    ap (λ k. count_by file h.frames (chunk_from COUNT file k)) next
    ∙ ap (λ (xs : List ℕ). count_by xs h.frames (chunk_for (length file) COUNT xs (length (front ++ sound) + size % 2))) parts
    ∙ ap (count_by ((front ++ sound) ++ back) h.frames) (chunk_on COUNT (front ++ sound) back (length file) (size % 2))
    ∙ count_on (front ++ sound) back h.frames (chunk_for (length file) COUNT back (size % 2))
    ∙ ap (count_by back h.frames) (enough COUNT back (length file) (length back) (size % 2) steps (omega arith))

-- a frame has at least one sample
pub few_frames : (frames n : ℕ) → 1 ≤ n → frames ≤ frames * n
few_frames frames n some = let rows = mul-le frames 1 frames n (omega arith) some in omega (arith, rows, mul_comm frames 1, add-mul 0 1 frames)

-- ---- the recording

module _ (front sound back : List ℕ) (h : DopHead) (first : ℕ) (start : h.start ≡ length front) (some : 1 ≤ h.channels) (long : length sound ≡ sound_long h) (either : first ≤ 1) (unbroken : broken_from h.channels first sound 0 (h.frames * h.channels) ≡ None) where
  here : sound_of (front ++ (sound ++ back)) h ≡ sound ++ back
  here = drop_at front (sound ++ back) h.start (sym start)

  -- each sample has its marker
  pub marked_in : marked h (sound_of (front ++ (sound ++ back)) h) ≡ Ok tt
  marked_in = elim (cases_eq h.frames 0) [
    | inl none ↦ ap (marked h) here ∙ ap as_fault (no_samples h.channels (phase (sound ++ back)) (sound ++ back) (h.frames * h.channels) (nothing_times h.frames h.channels none))
    | inr more ↦
        let three : 1 * 1 ≤ h.frames * h.channels = mul-le 1 1 h.frames h.channels (omega (arith, more)) some in
        let same : slice_index (sound ++ back) 2 ≡ slice_index sound 2 = get_or_append_left sound back 0 2 (omega (arith, long, three)) in
        let begins : phase (sound ++ back) ≡ first = ap (λ (k : ℕ). cond (eqb k 250) 1 0) same ∙ phase_begins h.channels first sound (h.frames * h.channels) (omega (arith, three)) either unbroken in
        ap (marked h) here ∙ ap as_fault (ap (λ k. broken_from h.channels k (sound ++ back) 0 (h.frames * h.channels)) begins ∙ broken_in h.channels first sound back 0 (h.frames * h.channels) (omega (arith, long)) ∙ unbroken)
  ]

  module _ (ok : head_of (front ++ (sound ++ back)) ≡ Ok h) where
    pub count_refused : (e : DopFault) → count_in (front ++ (sound ++ back)) h ≡ Err e → recording_of (front ++ (sound ++ back)) ≡ Err e
    unfolding recording_of
    count_refused e is = rw (ok, marked_in, is) refl

    pub recording_is : (count : ℕ) → count_in (front ++ (sound ++ back)) h ≡ Ok count → count ≤ 16 * h.frames → recording_of (front ++ (sound ++ back)) ≡ Ok (recording_by h count sound)
    unfolding recording_of
    recording_is count is most =
        let enough : div_ceil count 16 ≤ h.frames = omega (arith, most) in
        let fits : div_ceil count 16 * h.channels ≤ h.frames * h.channels = mul-le (div_ceil count 16) h.channels h.frames h.channels enough (omega arith) in
        let channels : dop_channels h.channels (sound ++ back) count ≡ dop_channels h.channels sound count = channels_left h.channels sound back count (omega (arith, fits, long)) in
        rw (ok, marked_in, is, here, channels) refl

-- ---- a file of an outline

pub recorded : (o : DopOutline) → IsOutline o → (sound : List ℕ) → AreSamples o sound → recording_of (file_in o sound) ≡ Ok (recording_in o sound)
recorded o is sound samples = recording_is o.front.items sound o.back.items o.head o.first is.start is.some samples.long is.either samples.marked (is.heads sound samples.long) o.count (is.counts sound samples.long) is.most

-- ---- faults of what follows

pub refused_on : (stop : DopStop) (P Q : DopFault → Type 0) → ((e : DopFault) → P e → Q e) → IfRefused stop P → IfRefused stop Q
refused_on (stops.Refused e) P Q on p = on e p
refused_on stops.ReadFailed P Q on p = tt
refused_on stops.WriteFailed P Q on p = tt
refused_on stops.Changed P Q on p = tt
refused_on stops.Memory P Q on p = tt

pub later_on : (P Q : List ℕ → Type 0) (left : Option (List ℕ)) → ((rest : List ℕ) → P rest → Q rest) → IfSome left P → IfSome left Q
later_on P Q None on p = tt
later_on P Q (Some rest) on p = on rest p

-- the first bytes were read, too
pub names_before : {R : Type 0} (left : R → Option (List ℕ)) (a b c : Inlet R) (front : List ℕ) (e : DopFault) → PullsBytes left a b front → NamesAfter left b c front e → NamesAfter left a c [] e
names_before left a b c front e pulled names = record {
  read = front ++ names.read;
  pulled = pulls_on left a b c front names.read pulled names.pulled;
  now = names.now;
  later = later_on _ _ (left (inlet_reader c)) (λ rest is. subst (λ (xs : List ℕ). recording_of xs ≡ Err e) (sym (append_assoc front names.read rest)) is) names.later;
}

-- the file is the outline with some samples, from the first byte on
pub read_before : {R : Type 0} (left : R → Option (List ℕ)) (a b c : Inlet R) (front : List ℕ) (r : Result DopOutline DopStop) → PullsBytes left a b front → IfOk r (λ o. o.front.items ≡ front) → IfOk r (ReadsRest left b c) → IfOk r (ReadsOutline left a c)
read_before left a b c front (Ok o) pulled same rest = record {
  read = front ++ (rest.sound ++ o.back.items);
  pulled = pulls_on left a b c front (rest.sound ++ o.back.items) pulled rest.pulled;
  at_end = rest.at_end;
  is_in = record { sound = rest.sound; file_is = ap (λ (xs : List ℕ). xs ++ (rest.sound ++ o.back.items)) (sym same); samples = rest.samples };
}
read_before left a b c front (Err e) pulled same rest = tt
