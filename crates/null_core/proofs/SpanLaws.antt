-- A channel that is judged from span to span.
use Rattle.std.proofs.Common.{◌≡◌, ℕ, ◌+◌, ◌%◌, ◌<◌, ◌≤◌, inl, inr, min, Bool, List, length, subst, arith}
use Rattle.std.proofs.lemmas.Bool.{cases_lt}
use Rattle.null_core.specs.declared.chunk.Chunk.{Chunk}
use Rattle.null_core.specs.declared.stretch.Stretch.{Stretch}
use Rattle.null_core.specs.Chunks.{IsChunkStretch}
use Rattle.null_core.specs.Judged.{IsJudged, IsTooLoud}
use Rattle.null_core.specs.Judging.{IsJudgedTo}
use Rattle.null_core.specs.Parts.{AskedContent}
use Rattle.null_core.specs.Stretches.{AddsStretch, AreStretchesTo}
use Rattle.null_core.specs.Walks.{AreUnedited}
use Rattle.null_core.proofs.DueLaws.{due_next}

module _ (a : AskedContent) (bits : List Bool) where
  -- a channel is judged further where nothing is to be judged
  pub judged_on : (ss : List Stretch) (end end' : ℕ) → IsJudgedTo a bits end ss → end ≤ end' → ((n : ℕ) → IsJudged a bits n → end ≤ n → end' ≤ n) → IsJudgedTo a bits end' ss
  judged_on ss end end' so_far le none = record {
    stretches_so_far = record {
      each = so_far.stretches_so_far.each;
      apart = so_far.stretches_so_far.apart;
      before = λ i s at. omega (arith, so_far.stretches_so_far.before i s at, le);
      all = λ n judged lt. elim (cases_lt n end) [
        | inl inner ↦ so_far.stretches_so_far.all n judged inner
        | inr past ↦ absurd (omega (arith, lt, none n judged past))
      ];
    };
    quiet = λ m loud. none loud.place loud.judged (so_far.quiet m loud);
  }

  -- a chunk is judged
  pub judged_chunk : (old new : List Stretch) (c : Chunk) (s : Stretch) (tap_number stop : ℕ) → length a.audible ≡ tap_number → c.first < stop → IsJudgedTo a bits (min c.first stop) old → IsChunkStretch a bits c s → AddsStretch tap_number s old new → IsJudgedTo a bits (c.last + 1) new
  judged_chunk old new c s tap_number stop taps lt so_far made adds = record {
    stretches_so_far =
        let before = subst (λ n. AreStretchesTo a bits n old) {x = min c.first stop} {y = s.first} (omega (arith, lt, made.first)) so_far.stretches_so_far in
        subst (λ n. AreStretchesTo a bits (n + 1) new) made.last (adds a bits taps made.stretch before);
    quiet = made.quiet;
  }

  -- no judged place is between a multiple of `every` and the next one
  pub judged_to_due : (ss : List Stretch) (last stop : ℕ) → 1 ≤ a.every → last % a.every ≡ 0 → IsJudgedTo a bits (last + 1) ss → last < stop → IsJudgedTo a bits (min (last + a.every) stop) ss
  judged_to_due ss last stop some due so_far lt = judged_on ss (last + 1) (min (last + a.every) stop) so_far (omega (arith, some, lt)) (λ n judged past.
      let next = due_next a.every last n some due judged.due (omega (arith, past)) in omega (arith, next))

  -- no judged place is between a place and the next multiple of `every`
  pub judged_to_first : (ss : List Stretch) (start first stop : ℕ) → 1 ≤ a.every → first % a.every ≡ 0 → start ≤ first → first < start + a.every → start ≤ stop → IsJudgedTo a bits start ss → IsJudgedTo a bits (min first stop) ss
  judged_to_first ss start first stop some due low near le so_far = judged_on ss start (min first stop) so_far (omega (arith, low, le)) (λ n judged past. elim (cases_lt n first) [
    | inl before ↦ absurd (let next = due_next a.every n first some judged.due due before in omega (arith, next, past, near))
    | inr after ↦ omega (arith, after)
  ])

  -- no unedited place is judged
  pub judged_over : (ss : List Stretch) (from to : ℕ) → IsJudgedTo a bits from ss → from ≤ to → AreUnedited a bits from to → IsJudgedTo a bits to ss
  judged_over ss from to so_far le unedited = judged_on ss from to so_far le (λ n judged past. elim (cases_lt n to) [
    | inl before ↦ (let own = unedited n past before in absurd (judged.edited own.0 own.1 own.2))
    | inr after ↦ after
  ])

  -- the whole channel
  pub judged_all : (ss : List Stretch) → IsJudgedTo a bits (length bits) ss → AreStretchesTo a bits (length bits) ss × ((m : ℕ) → IsTooLoud a bits m → ⊥)
  judged_all ss so_far = (so_far.stretches_so_far, λ m loud. omega (arith, so_far.quiet m loud, loud.judged.inside))
