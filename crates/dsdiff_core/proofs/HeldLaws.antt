-- Files whose sound isn't held.
use Rattle.std.proofs.Common.{◌≡◌, ℕ, ◌+◌, ◌-◌, ◌%◌, ◌≤◌, ◌<◌, ◌^◌, inl, inr, min, Bool, true, false, not, List, [], ◌∷◌, ◌++◌, length, take, drop, replicate, Result, Ok, refl, sym, ap, ap₂, subst, ◌∙◌, arith}
use Rattle.std.specs.Prelude.{All, slice_range}
use Rattle.std.proofs.lemmas.Bool.{cases_lt}
use Rattle.std.proofs.lemmas.List.{append-nil, length-append, length-drop, length-replicate, length-take, nil_from_length, take_all}
use Rattle.std.proofs.lemmas.List.Elements.{All-weaker}
use Rattle.chunk_core.specs.declared.fault.ChunkFault.{ChunkFault}
use Rattle.chunk_core.specs.declared.fault.ChunkFault.TheVariants.{HeadCut, DataCut, Memory}
use Rattle.chunk_core.specs.declared.layout.Span.{Span}
use Rattle.chunk_core.specs.Chunks.{chunks}
use Rattle.chunk_core.specs.Places.{LiesIn, places, span_chunk}
use Rattle.chunk_core.specs.Reading.{spans_at, spans_in}
use Rattle.chunk_core.specs.Steps.{Fails as WalkFails}
use Rattle.chunk_core.proofs.Ranges.{range_after}
use Rattle.chunk_core.proofs.PlaceLaws.{spans_again}
use Rattle.chunk_core.proofs.ReadingLaws.{walk_end}
use Rattle.dsd_bits.specs.declared.marks.Place.{Place}
use Rattle.dsd_bits.specs.declared.marks.Place.TheVariants.{Property, Master, Form}
use Rattle.dsd_bits.specs.Ids.{DSD}
use Rattle.dsd_bits.specs.Shape.{has_part}
use Rattle.dsdiff_core.specs.declared.fault.DsdiffFault.{DsdiffFault}
use Rattle.dsdiff_core.specs.declared.held.Held.{Held}
use Rattle.dsdiff_core.specs.Fields.{form_end}
use Rattle.dsdiff_core.specs.Headers.{size_at}
use Rattle.dsdiff_core.specs.Held.{IsAround, IsHeld, MayBeInMemory, IsInMemoryFor, IsInMemory, held}
use Rattle.dsdiff_core.specs.Located.{stated_size}
use Rattle.dsdiff_core.specs.Steps.{Fails, chunk_fault, walked}
use Rattle.dsdiff_core.proofs.AnySound.{end_fits}
use Rattle.dsdiff_core.proofs.Alike.{spans_same}
use Rattle.dsdiff_core.proofs.LeadLaws.{number_prefix, part_header}
use Rattle.dsdiff_core.proofs.WalkLaws.{after, long, sound_span, walk_across}
use Rattle.dsdiff_core.proofs.OtherSound.{sound_not_kept, tail_is}

pub held_long : (f : Held) → length (held f) ≡ length f.prefix.now + f.hole + length f.back.now
held_long f = omega (arith, length-append f.prefix.now (replicate f.hole 0 ++ f.back.now), length-append (replicate f.hole 0) f.back.now, length-replicate {A = ℕ} f.hole 0)

-- a file that is held whole is its own prefix
pub held_prefix : (f : Held) → f.hole ≡ 0 → f.back.now ≡ [] → held f ≡ f.prefix.now
held_prefix f none end = rw (none, end) (append-nil f.prefix.now)

-- bytes of the prefix, and bytes after the sound
pub prefix_part : (f : Held) (at size : ℕ) → at + size ≤ length f.prefix.now → take size (drop at (held f)) ≡ take size (drop at f.prefix.now)
prefix_part f at size le = part_header size at f.prefix.now (replicate f.hole 0 ++ f.back.now) le

pub back_part : (f : Held) (at : ℕ) → length f.prefix.now + f.hole ≤ at → drop at (held f) ≡ drop (at - length f.prefix.now - f.hole) f.back.now
back_part f at le =
    let zeros : List ℕ = replicate f.hole 0 in
    let here : at ≡ length f.prefix.now + length zeros + (at - length f.prefix.now - f.hole) = omega (arith, le, length-replicate {A = ℕ} f.hole 0) in
    ap (λ n. drop n (held f)) here ∙ tail_is f.prefix.now zeros f.back.now (at - length f.prefix.now - f.hole)

-- what is kept of a place is held
pub kept_holds : (p : Place) (f : Held) (s : Span) → IsInMemoryFor p f s → has_part p s.id (span_chunk (held f) s).content ≡ false → IsInMemory f s
kept_holds Property f s h e = h
kept_holds Master f s h e = h
kept_holds Form f s (inl h) e = h
kept_holds Form f s (inr h) e = (let part : has_part Form s.id (span_chunk (held f) s).content ≡ true = not_true _ (sound_not_kept (span_chunk (held f) s) h.0) in let both : true ≡ false = sym part ∙ e in absurd cc)
  where
    not_true : (b : Bool) → not b ≡ false → b ≡ true
    not_true true e = refl
    not_true false e = absurd cc

-- the chunks in the data of a chunk that is held are held
pub inside_stand : (f : Held) (s : Span) (start stop : ℕ) (ss : List Span) → IsInMemory f s → s.start ≤ start → stop ≤ s.start + s.size → All (LiesIn start stop) ss → All (IsInMemory f) ss
inside_stand f s start stop ss h low high all = All-weaker (LiesIn start stop) (IsInMemory f) (λ x lies. record {
  short = omega (arith, lies.ends, high, h.short);
  side = elim h.side [
    | inl prefix ↦ inl (omega (arith, lies.ends, high, prefix))
    | inr back ↦ inr (omega (arith, lies.begins, low, back.0), omega (arith, lies.ends, high, back.1))
  ];
}) ss all

-- the chunks of a range that is held
pub range_spans : (bytes part : List ℕ) (start stop : ℕ) → slice_range bytes start stop ≡ part → spans_at start part ≡ spans_in bytes start stop
unfolding spans_in
range_spans bytes part start stop e = ap (spans_at start) (sym e)

-- the data of a chunk from a place on
pub inside_spans : (f : Held) (s : Span) (start : ℕ) (part : List ℕ) → s.start ≤ start → part ≡ (span_chunk (held f) s).content → spans_at start (slice_range part (start - s.start) (length part)) ≡ spans_in (held f) start (s.start + s.size)
inside_spans f s start part low is =
    let k : ℕ = start - s.start in
    let size : s.start + s.size - s.start ≡ s.size = omega arith in
    let content : part ≡ take (s.start + s.size - s.start) (drop s.start (held f)) = is ∙ ap (λ n. take n (drop s.start (held f))) (sym size) in
    let place : s.start + k ≡ start = omega (arith, low) in
    let rest : take (length part - k) (drop k part) ≡ drop k part = take_all (length part - k) (drop k part) (omega (arith, length-drop k part)) in
    range_spans (held f) (slice_range part k (length part)) start (s.start + s.size) (sym (rest ∙ ap (drop k) content ∙ range_after (held f) s.start (s.start + s.size) k ∙ ap (λ n. slice_range (held f) n (s.start + s.size)) place))

-- the data of a chunk are as long as it says
pub may_long : (f : Held) (s : Span) → MayBeInMemory f s → length (span_chunk (held f) s).content ≡ s.size
may_long f s may = omega (arith, length-take s.size (drop s.start (held f)), length-drop s.start (held f), by may)
  where
    by : MayBeInMemory f s → s.start + s.size ≤ length (held f)
    by (inr sound) = sound.1
    by (inl here) = elim here.side [
      | inl prefix ↦ omega (arith, prefix, held_long f)
      | inr back ↦ omega (arith, back.1, held_long f)
    ]

-- the chunks and sizes in the prefix
pub prefix_spans : (f : Held) (at : ℕ) → 16 ≤ at → at ≤ length f.prefix.now → spans_in (held f) 16 at ≡ spans_in f.prefix.now 16 at
prefix_spans f at low high = spans_same (held f) f.prefix.now 16 at (prefix_part f 16 (at - 16) (omega (arith, low, high)))

pub lead_may : (f : Held) (at : ℕ) (ss : List Span) → at < 2 ^ 64 → at ≤ length f.prefix.now → All (LiesIn 16 at) ss → All (MayBeInMemory f) ss
lead_may f at ss few le all = All-weaker (LiesIn 16 at) (MayBeInMemory f) (λ s lies. inl (record { short = omega (arith, lies.ends, few); side = inl (omega (arith, lies.ends, le)) })) ss all

pub size_held : (f : Held) (at : ℕ) → at + 12 ≤ length f.prefix.now → size_at (held f) at ≡ size_at f.prefix.now at
size_held f at le = number_prefix 8 (at + 4) f.prefix.now (replicate f.hole 0 ++ f.back.now) (omega arith)

-- a file with a form's head begins with it
pub prefix_long : (f : Held) → IsHeld f → 16 ≤ length (held f) → 16 ≤ length f.prefix.now
prefix_long f (inl whole) le = omega (arith, le, ap length (held_prefix f whole.0 whole.1))
prefix_long f (inr a) le = omega (arith, long f.prefix.now a.0)

pub whole_held : (f : Held) → IsHeld f → f.hole ≡ 0 → length f.back.now ≡ 0 → held f ≡ f.prefix.now
whole_held f h none end = held_prefix f none (nil_from_length f.back.now end)

pub is_around : (f : Held) → IsHeld f → (f.hole ≡ 0 → f.back.now ≡ [] → ⊥) → IsAround f
is_around f (inl whole) some = absurd (some whole.0 whole.1)
is_around f (inr a) some = a

-- ---- around a sound
no_bytes : (bytes : List ℕ) (from stop : ℕ) → stop ≤ from → slice_range bytes from stop ≡ []
no_bytes bytes from stop le = (let none : stop - from ≡ 0 = omega arith in rw none refl)

no_spans : (at : ℕ) → spans_at at [] ≡ Ok []
no_spans at = rw (walk_end at [] refl) refl

module _ (f : Held) (a : IsAround f) (stop : ℕ) (is : stop ≡ form_end (held f)) where
  abbrev after_hole : ℕ
  after_hole = length f.prefix.now + f.hole

  abbrev pad : ℕ
  pad = min (f.hole % 2) (stop - after_hole)

  zeros_long : length {A = ℕ} (replicate f.hole 0) ≡ stated_size f.prefix.now
  zeros_long = length-replicate {A = ℕ} f.hole 0 ∙ a.1

  pub around_end : (length f.prefix.now + f.hole ≤ stop) × (stop ≤ length f.prefix.now + f.hole + length f.back.now)
  around_end = (
    omega (arith, end_fits f.prefix.now f.back.now a.0 (replicate f.hole 0) stop zeros_long (sym is), length-replicate {A = ℕ} f.hole 0),
    omega (arith, is, held_long f),
  )

  pub lead_spans : spans_in f.prefix.now 16 (length f.prefix.now - 12) ≡ Ok (places 16 a.0.head.before)
  lead_spans =
      let here : a.0.head.at ≡ length f.prefix.now - 12 = omega (arith, a.0.ends) in
      (spans_again f.prefix.now 16 (length f.prefix.now - 12) a.0.head.before (subst (λ (n : ℕ). chunks (slice_range f.prefix.now 16 n) a.0.head.before) here a.0.head.are_before)).0

  -- the chunks after the sound
  later_spans : spans_in (held f) (after_hole + f.hole % 2) stop ≡ spans_at (after_hole + pad) (slice_range f.back.now pad (stop - after_hole))
  later_spans = elim (cases_lt stop (after_hole + f.hole % 2)) [
    | inl short ↦
        let last : stop - after_hole ≤ pad = omega (arith, around_end.0) in
        sym (range_spans (held f) [] (after_hole + f.hole % 2) stop (no_bytes (held f) (after_hole + f.hole % 2) stop (omega (arith, short))))
        ∙ no_spans (after_hole + f.hole % 2) ∙ sym (no_spans (after_hole + pad)) ∙ ap (spans_at (after_hole + pad)) (sym (no_bytes f.back.now pad (stop - after_hole) last))
    | inr enough ↦
        let whole : pad ≡ f.hole % 2 = omega (arith, around_end.0, enough) in
        let few : stop - (after_hole + f.hole % 2) ≡ stop - after_hole - pad = omega (arith, whole) in
        let skip : after_hole + f.hole % 2 - length f.prefix.now - f.hole ≡ pad = omega (arith, whole) in
        let next : after_hole + f.hole % 2 ≡ after_hole + pad = ap (λ n. after_hole + n) (sym whole) in
        let same : slice_range (held f) (after_hole + f.hole % 2) stop ≡ slice_range f.back.now pad (stop - after_hole) = ap₂ (λ (n : ℕ) (bs : List ℕ). take n bs) few (back_part f (after_hole + f.hole % 2) (omega arith) ∙ ap (λ n. drop n f.back.now) skip) in
        sym (range_spans (held f) (slice_range f.back.now pad (stop - after_hole)) (after_hole + f.hole % 2) stop same) ∙ ap (λ n. spans_at n (slice_range f.back.now pad (stop - after_hole))) next
  ]

  pub around_spans : spans_in (held f) 16 stop ≡ after (places 16 a.0.head.before ++ sound_span f.prefix.now a.0 ∷ []) (spans_at (after_hole + pad) (slice_range f.back.now pad (stop - after_hole)))
  around_spans =
      let from : length f.prefix.now + stated_size f.prefix.now + stated_size f.prefix.now % 2 ≡ after_hole + f.hole % 2 = ap (λ (n : ℕ). length f.prefix.now + n + n % 2) (sym a.1) in
      let lead : List Span = places 16 a.0.head.before ++ sound_span f.prefix.now a.0 ∷ [] in
      walk_across f.prefix.now a.0 (replicate f.hole 0) f.back.now zeros_long stop (omega (arith, around_end.0, length-replicate {A = ℕ} f.hole 0))
      ∙ ap (λ (n : ℕ). after lead (spans_in (held f) n stop)) from ∙ ap (after lead) later_spans

  -- chunks in the prefix, the sound, and chunks after it
  pub prefix_may : (ss : List Span) → All (LiesIn 16 (length f.prefix.now - 12)) ss → All (MayBeInMemory f) ss
  prefix_may ss all = All-weaker (LiesIn 16 (length f.prefix.now - 12)) (MayBeInMemory f) (λ s lies. inl (record { short = omega (arith, lies.ends, a.2); side = inl (omega (arith, lies.ends)) })) ss all

  pub later_may : (ss : List Span) (from : ℕ) (part : List ℕ) → after_hole ≤ from → from + length part ≤ stop → All (LiesIn from (from + length part)) ss → All (MayBeInMemory f) ss
  later_may ss from part low high all = All-weaker (LiesIn from (from + length part)) (MayBeInMemory f) (λ s lies. inl (record {
    short = omega (arith, lies.ends, high, around_end.1, a.2);
    side = inr (omega (arith, lies.begins, low), omega (arith, lies.ends, high, around_end.1));
  })) ss all

  pub sound_may : MayBeInMemory f (record { id = DSD; start = length f.prefix.now; size = f.hole })
  sound_may = inr (refl, omega (arith, held_long f))

-- the place of a sound
abbrev pub span_at : ℕ → ℕ → Span
span_at start size = record { id = DSD; start = start; size = size }

-- the chunks after a pad of n bytes
abbrev pub later_at : Held → ℕ → ℕ → Result (List Span) ChunkFault
later_at f pad stop = spans_at (length f.prefix.now + f.hole + pad) (slice_range f.back.now pad (stop - (length f.prefix.now + f.hole)))

pub same_spans : (x y : List Span) → (let r : Result (List Span) ChunkFault = Ok x in r) ≡ Ok y → x ≡ y
same_spans x y e = cc

-- a fault after chunks that were found
pub after_fails : (e : ChunkFault) (prefix : List Span) (r : Result (List Span) ChunkFault) → WalkFails e r → Fails (chunk_fault e) (walked (after prefix r))
after_fails Memory prefix r h = tt
after_fails (HeadCut at) prefix r h = rw h refl
after_fails (DataCut at id size) prefix r h = rw h refl

-- no fault comes of chunks that are found
pub none_fails : {A B : Type 0} (e : ChunkFault) (r : Result A ChunkFault) (x : A) (reading : Result B DsdiffFault) → r ≡ Ok x → WalkFails e r → Fails (chunk_fault e) reading
none_fails Memory r x reading is h = tt
none_fails (HeadCut at) r x reading is h = absurd cc
none_fails (DataCut at id size) r x reading is h = absurd cc
