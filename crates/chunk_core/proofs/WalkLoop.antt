-- The walk as a loop does it.
use Rattle.std.proofs.Common.{◌≡◌, ℕ, ◌+◌, ◌-◌, ◌%◌, ◌≤◌, ◌<◌, List, [], ◌∷◌, ◌++◌, length, map, replicate, take, drop, Result, Ok, Err, refl, sym, ap, subst, ◌∙◌, append_assoc, arith}
use Rattle.std.specs.Prelude.{slice_range, All, IfOk}
use Rattle.std.proofs.lemmas.List.{append-nil, drop-drop, drop_at, length-append, length-drop, length-replicate, length-take, map_push, take_all}
use Rattle.std.proofs.lemmas.List.Elements.{All-push}
use Rattle.chunk_core.specs.declared.layout.Span.{Span}
use Rattle.chunk_core.specs.declared.fault.ChunkFault.{ChunkFault}
use Rattle.chunk_core.specs.declared.fault.ChunkFault.TheVariants.{HeadCut, DataCut, Memory}
use Rattle.chunk_core.specs.Chunks.{Chunk, chunks, width}
use Rattle.chunk_core.specs.Places.{LiesIn, places, span_chunk}
use Rattle.chunk_core.specs.Reading.{chunk_of, first_of, spans_at, spans_in, walk_of}
use Rattle.chunk_core.specs.Steps.{◌>>=◌, Fails, Gives}
use Rattle.chunk_core.proofs.ReadingLaws.{walk_step, walk_end}
use Rattle.chunk_core.proofs.PlaceLaws.{end_of, end_push, places_push, span_long, spans_again, spans_found}
use Rattle.chunk_core.proofs.Ranges.{range_after, range_inner}

-- what was found before, and what is still found
abbrev pub with_prefix : List Chunk → Result (List Chunk) ChunkFault → Result (List Chunk) ChunkFault
with_prefix prefix found = found >>= λ cs. Ok (prefix ++ cs)

-- one chunk more, or one before what is still found
regroup : (prefix : List Chunk) (c : Chunk) (found : Result (List Chunk) ChunkFault) → with_prefix prefix (found >>= λ cs. Ok (c ∷ cs)) ≡ with_prefix (prefix ++ c ∷ []) found
regroup prefix c (Ok cs) = ap (λ (ds : List Chunk). Ok ds) (simp append_assoc)
regroup prefix c (Err f) = refl

-- one step of the walk, where a chunk is found
goes_on : (prefix : List Chunk) (at : ℕ) (rest : List ℕ) (c : Chunk) (total : Result (List Chunk) ChunkFault) → 0 < length rest → first_of at rest ≡ Ok c
    → with_prefix prefix (walk_of at rest) ≡ total → with_prefix (prefix ++ c ∷ []) (walk_of (at + width c) (drop (width c) rest)) ≡ total
goes_on prefix at rest c total some first so_far =
    let one : with_prefix prefix (walk_of at rest) ≡ with_prefix (prefix ++ c ∷ []) (walk_of (at + width c) (drop (width c) rest)) =
    rw (walk_step at rest some, first) (regroup prefix c (walk_of (at + width c) (drop (width c) rest))) in
    sym one ∙ so_far

-- one step, where a fault is found
ends : (e : ChunkFault) (prefix : List Chunk) (at : ℕ) (rest : List ℕ) (total : Result (List Chunk) ChunkFault) → 0 < length rest → Fails e (first_of at rest)
    → with_prefix prefix (walk_of at rest) ≡ total → Fails e total
ends Memory prefix at rest total some h so_far = tt
ends (HeadCut k) prefix at rest total some h so_far =
    let one : with_prefix prefix (walk_of at rest) ≡ Err (HeadCut k) = rw (walk_step at rest some, h) refl in sym so_far ∙ one
ends (DataCut k id size) prefix at rest total some h so_far =
    let one : with_prefix prefix (walk_of at rest) ≡ Err (DataCut k id size) = rw (walk_step at rest some, h) refl in sym so_far ∙ one

-- no bytes are left
is_done : (prefix : List Chunk) (at : ℕ) (rest : List ℕ) (total : Result (List Chunk) ChunkFault) → length rest ≡ 0 → with_prefix prefix (walk_of at rest) ≡ total → total ≡ Ok prefix
is_done prefix at rest total none so_far =
    let one : with_prefix prefix (walk_of at rest) ≡ Ok prefix = rw (walk_end at rest none) (ap (λ (ds : List Chunk). Ok ds) (append-nil prefix)) in
    sym so_far ∙ one

-- a fault of the walk is one of the spans
spans_fail : (xs : List ℕ) (start stop : ℕ) (e : ChunkFault) → Fails e (walk_of start (slice_range xs start stop)) → Fails e (spans_in xs start stop)
unfolding spans_in
spans_fail xs start stop Memory h = tt
spans_fail xs start stop (HeadCut at) h = rw h refl
spans_fail xs start stop (DataCut at id size) h = rw h refl

-- what the loop keeps: what was found and what is still found make up the walk, and the spans are at their places
pub record IsWalked (xs : List ℕ) (start at stop : ℕ) (spans : List Span) : Type 0 where
  pub so_far : with_prefix (map (span_chunk xs) spans) (walk_of at (slice_range xs at stop)) ≡ walk_of start (slice_range xs start stop)
  pub placed : spans ≡ places start (map (span_chunk xs) spans)
  pub end : end_of start (map (span_chunk xs) spans) ≡ at
  pub onward : start ≤ at
  pub inside : All (LiesIn start stop) spans

prefix_of_none : (found : Result (List Chunk) ChunkFault) → with_prefix [] found ≡ found
prefix_of_none (Ok cs) = refl
prefix_of_none (Err e) = refl

-- before the first step
pub walked_none : (xs : List ℕ) (start stop : ℕ) → IsWalked xs start start stop []
walked_none xs start stop = record {
  so_far = prefix_of_none (walk_of start (slice_range xs start stop));
  placed = refl;
  end = refl;
  onward = omega arith;
  inside = λ k d below. absurd (omega arith);
}

module _ (xs : List ℕ) (start at stop : ℕ) (spans : List Span) (w : IsWalked xs start at stop spans) where
  -- after a step that found a chunk
  pub walked_on : (s : Span) → at < stop → stop ≤ length xs → first_of at (slice_range xs at stop) ≡ Ok (span_chunk xs s) → s.start ≡ at + 12 → s.start + s.size ≤ stop
      → IsWalked xs start (s.start + s.size + s.size % 2) stop (spans ++ s ∷ [])
  walked_on s lt fits first s-start s-fits =
      let c : Chunk = span_chunk xs s in
      let prefix : List Chunk = map (span_chunk xs) spans in
      let here : List ℕ = slice_range xs at stop in
      let long : length c.content ≡ s.size = span_long xs stop s s-fits fits in
      let next : at + width c ≡ s.start + s.size + s.size % 2 = rw long (omega arith) in
      let more : map (span_chunk xs) (spans ++ s ∷ []) ≡ prefix ++ c ∷ [] = map_push (span_chunk xs) spans s in
      let some : 0 < length here = omega (arith, length-take (stop - at) (drop at xs), length-drop at xs) in
      let here-after : drop (width c) here ≡ slice_range xs (at + width c) stop = range_after xs at stop (width c) in
      let on = goes_on prefix at here c (walk_of start (slice_range xs start stop)) some first w.so_far in
      let one : Span = record { id = c.id; start = end_of start prefix + 12; size = length c.content } in
      let same : one ≡ s = rw (long, w.end, ← s-start) refl in
      record {
        so_far = rw (more, ← next, ← here-after) on;
        placed = rw more (sym (places_push start prefix c ∙ (ap (λ (ss : List Span). ss ++ one ∷ []) (sym w.placed) ∙ ap (λ (o : Span). spans ++ o ∷ []) same)));
        end = rw more (end_push start prefix c ∙ rw w.end next);
        onward = omega (arith, w.onward);
        inside = All-push (LiesIn start stop) spans s w.inside (record { begins = omega (arith, w.onward); ends = s-fits });
      }

  -- after the last step
  pub walk_done : stop ≤ at → spans_in xs start stop ≡ Ok spans
  unfolding spans_in
  walk_done last =
      let none : length (slice_range xs at stop) ≡ 0 = omega (arith, length-take (stop - at) (drop at xs)) in
      rw (is_done (map (span_chunk xs) spans) at (slice_range xs at stop) (walk_of start (slice_range xs start stop)) none w.so_far) (ap (λ (ss : List Span). Ok ss) (sym w.placed))

  -- at a step that found a fault
  pub walk_fails : (e : ChunkFault) → at < stop → stop ≤ length xs → Fails e (first_of at (slice_range xs at stop)) → Fails e (spans_in xs start stop)
  walk_fails e lt fits h =
      let some : 0 < length (slice_range xs at stop) = omega (arith, length-take (stop - at) (drop at xs), length-drop at xs) in
      spans_fail xs start stop e (ends e (map (span_chunk xs) spans) at (slice_range xs at stop) (walk_of start (slice_range xs start stop)) some h w.so_far)

-- a result that gives the reading gives the chunks of the range
pub only_these : {X : Type 0} (view : X → List Span) (r : Result X ChunkFault) (xs : List ℕ) (start stop : ℕ) → Gives view r (spans_in xs start stop)
    → (cs : List Chunk) → chunks (slice_range xs start stop) cs → Gives view r (Ok (places start cs))
only_these view r xs start stop h cs k = subst (λ (found : Result (List Span) ChunkFault). Gives view r found) (spans_again xs start stop cs k).0 h

-- what is found are the chunks of the range, at their places
pub found_all : {X : Type 0} (view : X → List Span) (r : Result X ChunkFault) (xs : List ℕ) (start stop : ℕ) → Gives view r (spans_in xs start stop)
    → IfOk r (λ x. chunks (slice_range xs start stop) (map (span_chunk xs) (view x))) × IfOk r (λ x. view x ≡ places start (map (span_chunk xs) (view x)))
found_all view (Ok x) xs start stop h = spans_found xs start stop (view x) h
found_all view (Err e) xs start stop h = (tt, tt)

-- ---- bytes at a place

-- a file that has them there
abbrev pub set_at : ℕ → List ℕ → List ℕ
set_at at bytes = replicate at 0 ++ bytes

module _ (at : ℕ) (bytes : List ℕ) where
  after : (k : ℕ) → drop (at + k) (set_at at bytes) ≡ drop k bytes
  after k = sym (drop-drop k at (set_at at bytes)) ∙ ap (drop k) (drop_at (replicate at 0) bytes at (length-replicate {A = ℕ} at 0))

  pub left : (done : ℕ) → slice_range (set_at at bytes) (at + done) (at + length bytes) ≡ slice_range bytes done (length bytes)
  left done =
      let few : at + length bytes - (at + done) ≡ length bytes - done = omega arith in
      ap (take (at + length bytes - (at + done))) (after done) ∙ ap (λ n. take n (drop done bytes)) few

  pub whole : slice_range (set_at at bytes) at (at + length bytes) ≡ bytes
  whole =
      let here : at + 0 ≡ at = omega arith in
      subst (λ (n : ℕ). slice_range (set_at at bytes) n (at + length bytes) ≡ bytes) here (left 0 ∙ take_all (length bytes - 0) bytes (omega arith))

  pub set_long : length (set_at at bytes) ≡ at + length bytes
  set_long = omega (arith, length-append (replicate at 0) bytes, length-replicate {A = ℕ} at 0)

  -- its spans are theirs
  pub set_spans : spans_in (set_at at bytes) at (at + length bytes) ≡ spans_at at bytes
  unfolding spans_in
  set_spans = ap (spans_at at) whole

  pub set_chunk : (done : ℕ) (s : Span) → 12 + s.size ≤ length bytes - done → s.start ≡ at + done + 12 → chunk_of s.id s.size (slice_range bytes done (length bytes)) ≡ span_chunk (set_at at bytes) s
  set_chunk done s fits e =
      let place : s.start ≡ at + (done + 12) = omega (arith, e) in
      ap (λ (xs : List ℕ). record { id = s.id; content = xs }) (range_inner bytes done (length bytes) 12 s.size fits ∙ ap (take s.size) (sym (after (done + 12)) ∙ ap (λ n. drop n (set_at at bytes)) (sym place)))
