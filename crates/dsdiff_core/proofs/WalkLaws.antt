-- The walk of a file: over chunks that are known, and over the head of its sound.
use Rattle.std.proofs.Common.{◌≡◌, ℕ, ◌+◌, ◌-◌, ◌%◌, ◌≤◌, List, [], ◌∷◌, ◌++◌, length, take, Result, Ok, Err, refl, sym, ap, subst, ◌∙◌, arith}
use Rattle.std.specs.Prelude.{slice_range}
use Rattle.std.proofs.lemmas.List.{append_assoc, drop_at, length-append, take_at}
use Rattle.chunk_core.specs.declared.fault.ChunkFault.{ChunkFault}
use Rattle.chunk_core.specs.declared.layout.Span.{Span}
use Rattle.chunk_core.specs.Chunks.{Chunk, chunks, width}
use Rattle.chunk_core.specs.Places.{places}
use Rattle.chunk_core.specs.Reading.{spans_in, walk_of}
use Rattle.chunk_core.specs.Steps.{◌>>=◌}
use Rattle.chunk_core.proofs.Ranges.{range_after}
use Rattle.chunk_core.proofs.ReadingLaws.{First, first_again, walk_step}
use Rattle.dsd_bits.specs.Ids.{DSD}
use Rattle.dsdiff_core.specs.Headers.{place_after}
use Rattle.dsdiff_core.specs.Located.{EndsAtHead, stated_size}
use Rattle.dsdiff_core.proofs.LeadLaws.{At, after_on, at_first, number_prefix, part_header, range_parts}

-- spans after others, where those are found
abbrev pub after : List Span → Result (List Span) ChunkFault → Result (List Span) ChunkFault
after prefix found = found >>= λ ss. Ok (prefix ++ ss)

-- the place of a chunk
abbrev pub place : ℕ → Chunk → Span
place at c = record { id = c.id; start = at + 12; size = length c.content }

placed : (at : ℕ) (c : Chunk) (found : Result (List Chunk) ChunkFault) → ((found >>= λ cs. Ok (c ∷ cs)) >>= λ cs. Ok (places at cs)) ≡ after (place at c ∷ []) (found >>= λ cs. Ok (places (at + width c) cs))
placed at c (Ok cs) = refl
placed at c (Err e) = refl

after_none : (found : Result (List Span) ChunkFault) → after [] found ≡ found
after_none (Ok ss) = refl
after_none (Err e) = refl

pub after_both : (prefix ss : List Span) (found : Result (List Span) ChunkFault) → after prefix (after ss found) ≡ after (prefix ++ ss) found
after_both prefix ss (Ok rest) = ap (λ (l : List Span). Ok l) (sym (append_assoc prefix ss rest))
after_both prefix ss (Err e) = refl

-- over a chunk at a place
pub walk_on : (bytes : List ℕ) (at stop : ℕ) (c : Chunk) → At bytes at stop c → spans_in bytes at stop ≡ after (place at c ∷ []) (spans_in bytes (at + width c) stop)
unfolding spans_in
walk_on bytes at stop c a =
    let first : First (slice_range bytes at stop) c = at_first bytes at stop c a in
    rw (walk_step at (slice_range bytes at stop) (omega (arith, first.long)), first_again at (slice_range bytes at stop) c first, range_after bytes at stop (width c)) (placed at c (walk_of (at + width c) (slice_range bytes (at + width c) stop)))

widen : (bytes : List ℕ) (at until stop : ℕ) (c : Chunk) → until ≤ stop → At bytes at until c → At bytes at stop c
widen bytes at until stop c le a = record { fits = omega (arith, a.fits); inside = a.inside; id = a.id; size = a.size; content = a.content }

-- over chunks that lead up to a place
pub walk_over : (bytes : List ℕ) (from at stop : ℕ) (cs : List Chunk) → at ≤ stop → chunks (slice_range bytes from at) cs → place_after from cs ≡ at → spans_in bytes from stop ≡ after (places from cs) (spans_in bytes at stop)
walk_over bytes from at stop [] le h gap = rw gap (sym (after_none (spans_in bytes at stop)))
walk_over bytes from at stop (c ∷ cs) le h gap =
    let p = range_parts bytes from at c cs h in
    walk_on bytes from stop c (widen bytes from at stop c le p.0)
    ∙ ap (after (place from c ∷ [])) (walk_over bytes (from + width c) at stop cs le p.1 gap)
    ∙ after_both (place from c ∷ []) (places (from + width c) cs) (spans_in bytes at stop)

-- ---- a file whose prefix ends at the head of its sound
module _ (prefix : List ℕ) (h : EndsAtHead prefix) where
  -- the place of the sound
  abbrev pub sound_span : Span
  sound_span = record { id = DSD; start = length prefix; size = stated_size prefix }

  pub long : 28 ≤ length prefix
  long = omega (arith, after_on 16 h.head.before, h.head.no_gap, h.ends)

  module _ (sound back : List ℕ) (size : length sound ≡ stated_size prefix) where
    abbrev file : List ℕ
    file = prefix ++ (sound ++ back)

    pub lead_chunks : chunks (slice_range (prefix ++ (sound ++ back)) 16 h.head.at) h.head.before
    lead_chunks = subst (λ (bs : List ℕ). chunks bs h.head.before) (sym (part_header (h.head.at - 16) 16 prefix (sound ++ back) (omega (arith, h.ends, long)))) h.head.are_before

    -- the chunk of the sound
    pub sound_at_place : (stop : ℕ) → length prefix + length sound ≤ stop → At (prefix ++ (sound ++ back)) h.head.at stop (record { id = DSD; content = sound })
    sound_at_place stop fits =
        let here : length prefix - 12 ≡ h.head.at = omega (arith, h.ends) in
        record {
          fits = omega (arith, h.ends, fits);
          inside = omega (arith, h.ends, length-append prefix (sound ++ back), length-append sound back);
          id = part_header 4 h.head.at prefix (sound ++ back) (omega (arith, h.ends)) ∙ h.head.id;
          size = number_prefix 8 (h.head.at + 4) prefix (sound ++ back) (omega (arith, h.ends)) ∙ rw (← here) (sym size);
          content = ap (take (length sound)) (drop_at prefix (sound ++ back) (h.head.at + 12) (sym h.ends)) ∙ take_at sound back (length sound) refl;
        }

    -- the chunks before the sound, the sound, and what is after it
    pub walk_across : (stop : ℕ) → length prefix + length sound ≤ stop
        → spans_in (prefix ++ (sound ++ back)) 16 stop ≡ after (places 16 h.head.before ++ sound_span ∷ []) (spans_in (prefix ++ (sound ++ back)) (length prefix + stated_size prefix + stated_size prefix % 2) stop)
    walk_across stop fits =
        let c : Chunk = record { id = DSD; content = sound } in
        let after_it : h.head.at + width c ≡ length prefix + stated_size prefix + stated_size prefix % 2 = ap (λ (n : ℕ). h.head.at + (12 + n + n % 2)) size ∙ omega (arith, h.ends) in
        let here : place h.head.at c ≡ sound_span = λ i. record { id = DSD; start = h.ends i; size = size i } in
        walk_over file 16 h.head.at stop h.head.before (omega (arith, h.ends, fits)) lead_chunks h.head.no_gap
        ∙ ap (after (places 16 h.head.before)) (walk_on file h.head.at stop c (sound_at_place stop fits))
        ∙ after_both (places 16 h.head.before) (place h.head.at c ∷ []) (spans_in file (h.head.at + width c) stop)
        ∙ rw (after_it, here) refl
