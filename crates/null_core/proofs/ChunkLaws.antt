-- Chunks: what is found there.
use Rattle.std.proofs.Common.{◌≡◌, ℕ, ◌+◌, ◌-◌, ◌*◌, ◌/◌, ◌%◌, ◌^◌, ◌<◌, ◌≤◌, inl, inr, ℤ, pos, ◌-ℤ◌, unsigned_abs, Bool, List, All, length, get_or, refl, sym, ap, subst, ◌∙◌, arith}
use Rattle.std.proofs.lemmas.Bool.{cases_lt, ltb-false, ltb-true}
use Rattle.std.proofs.lemmas.List.{get_or_past}
use Rattle.std.proofs.lemmas.List.Elements.{All-from_get_or}
use Rattle.std.proofs.lemmas.List.FromFn.{get_or-map-range_with_len, length-map-range_with_len}
use Rattle.std.proofs.lemmas.Nat.{div-add-mod', le-div, mod_below}
use Rattle.std.proofs.Math.Nat.{div-mul-le_self, mul-le-mul_right}
use Rattle.heard_core.proofs.WindowLaws.{windows_are_residuals}
use Rattle.heard_core.specs.Laws.{residuals_from}
use Rattle.heard_core.specs.Residuals.{at_place, residual, window_residual, window_residuals}
use Rattle.null_core.specs.declared.chunk.Chunk.{Chunk}
use Rattle.null_core.specs.declared.peak.Peak.{Peak}
use Rattle.null_core.specs.Chunks.{IsChunk, IsChunkStretch, IsLoudAround, IsPeak, errors_around}
use Rattle.null_core.specs.Errors.{error_at, errors, residual_size}
use Rattle.null_core.specs.Judged.{IsJudged, IsTooLoud}
use Rattle.null_core.specs.Judging.{IsFirst, IsQuietTo}
use Rattle.null_core.specs.Parts.{AskedContent, IsAsked, reach}
use Rattle.null_core.specs.Stretches.{HasNext, IsGreatest, IsJudgedFrom}
use Rattle.null_core.proofs.AroundLaws.{at_before, at_inside}
use Rattle.null_core.proofs.DueLaws.{due_more, due_next, due_once, due_steps}

module _ (a : AskedContent) (asked : IsAsked a) (bits : List Bool) (c : Chunk) (is : IsChunk a bits c) where
  abbrev span : ℕ
  span = c.last - c.first

  abbrev size : ℕ
  size = span + length a.audible

  abbrev number : ℕ
  number = span / a.every + 1

  taps : length a.audible ≡ 2 * reach a + 1
  taps = omega (arith, asked.audible_fits.odd)

  -- ---- its judged places

  judged_at : (n : ℕ) → n % a.every ≡ 0 → c.first ≤ n → n ≤ c.last → IsJudged a bits n
  judged_at n due low high = record { inside = omega (arith, is.inside, high); due = due; edited = is.edited n low high }

  judged_from : (n : ℕ) → n % a.every ≡ 0 → c.first ≤ n → n ≤ c.last → IsJudgedFrom a bits c.first c.last n
  judged_from n due low high = record { judged = judged_at n due low high; from = low; to = high }

  step_of : (n : ℕ) → IsJudgedFrom a bits c.first c.last n → c.first + (n - c.first) / a.every * a.every ≡ n
  step_of n in' = due_steps a.every c.first n asked.some_every is.due_first in'.judged.due in'.from

  step_below : (n : ℕ) → IsJudgedFrom a bits c.first c.last n → (n - c.first) / a.every < number
  step_below n in' =
      let within : (n - c.first) / a.every * a.every ≤ span = omega (arith, div-mul-le_self (n - c.first) a.every, in'.to) in
      omega (arith, le-div ((n - c.first) / a.every) span a.every asked.some_every within)

  step_within : (i : ℕ) → i < number → i * a.every ≤ span
  step_within i lt =
      let le : i ≤ span / a.every = omega (arith, lt) in
      omega (arith, mul-le-mul_right a.every le, div-mul-le_self span a.every)

  pub windows_within : (es : List ℤ) (windows : ℕ) → es ≡ errors_around a bits c.first size → windows ≡ number → (i : ℕ) → i < windows → i * a.every + length a.audible ≤ length es
  windows_within es windows around same i lt = omega (arith, step_within i (omega (arith, lt, same)), ap length around, length-map-range_with_len (λ j. at_place (errors a bits) (pos (c.first + j) -ℤ pos (reach a))) 0 size)

  -- the place of the greatest residual
  pub peak_within : (es : List ℤ) (peak : Peak) → IsPeak (window_residuals a.audible es a.every number) peak → c.first + peak.index * a.every ≤ c.last
  peak_within es peak is_peak = omega (arith, step_within peak.index (omega (arith, is_peak.first.0, length-map-range_with_len (λ i. window_residual a.audible es (i * a.every)) 0 number)), is.in_order)

  -- ---- places that are too loud

  -- a judged place reaches each error that the windows read
  reached_by : (m : ℕ) → IsLoudAround a bits c.first size m → IsTooLoud a bits m
  reached_by m around = elim (cases_lt (m + reach a - c.first) span) [
    | inl inner ↦
        let i = (m + reach a - c.first) / a.every in
        let whole : i * a.every + (m + reach a - c.first) % a.every ≡ m + reach a - c.first = div-add-mod' (m + reach a - c.first) a.every in
        let rest : (m + reach a - c.first) % a.every < a.every = mod_below (m + reach a - c.first) a.every asked.some_every in
        let close : a.every ≤ length a.audible = is.reached (omega (arith, inner)) in
        record {
          inside = around.inside;
          loud = around.loud;
          place = c.first + i * a.every;
          judged = judged_at (c.first + i * a.every) (due_more a.every c.first i is.due_first) (omega arith) (omega (arith, whole, inner));
          before = omega (arith, whole, around.after);
          after = omega (arith, whole, rest, close, taps, around.after);
        }
    | inr outer ↦ record {
      inside = around.inside;
      loud = around.loud;
      place = c.last;
      judged = judged_at c.last is.due_last is.in_order (omega arith);
      before = omega (arith, outer, is.in_order, around.after);
      after = omega (arith, around.before, is.in_order, taps);
    }
  ]

  module _ (quiet : IsQuietTo a bits c.first) where
    around_of : (m k : ℕ) (loud : IsTooLoud a bits m) → m + reach a < c.first + size → IsLoudAround a bits c.first size m
    around_of m k loud before = record { inside = loud.inside; after = omega (arith, quiet m loud, loud.before); before = before; loud = loud.loud }

    pub first_loud : (place : ℕ) → IsFirst (IsLoudAround a bits c.first size) place → IsFirst (IsTooLoud a bits) place
    first_loud place first = record {
      here = reached_by place first.here;
      before = λ m sooner loud. first.before m sooner (around_of m place loud (omega (arith, sooner, first.here.before)));
    }

    quiet_after : ((m : ℕ) → IsLoudAround a bits c.first size m → ⊥) → IsQuietTo a bits (c.last + 1)
    quiet_after none = λ m loud. elim (cases_lt c.last loud.place) [
      | inl past ↦ omega (arith, past)
      | inr within ↦ absurd (none m (around_of m m loud (omega (arith, loud.after, within, taps, is.in_order))))
    ]

    -- ---- the chunk as a stretch

    module _ (es : List ℤ) (peak : Peak) (around : es ≡ errors_around a bits c.first size) (none : (m : ℕ) → IsLoudAround a bits c.first size m → ⊥) (is_peak : IsPeak (window_residuals a.audible es a.every number) peak) where
      abbrev sums : List ℤ
      sums = window_residuals a.audible es a.every number

      long : length es ≡ size
      long = ap length around ∙ length-map-range_with_len (λ j. at_place (errors a bits) (pos (c.first + j) -ℤ pos (reach a))) 0 size

      is_around : (j : ℕ) → j < length es → get_or es j (pos 0) ≡ at_place (errors a bits) (pos (c.first + j) -ℤ pos (reach a))
      is_around j lt = ap (λ xs. get_or xs j (pos 0)) around ∙ get_or-map-range_with_len (λ k. at_place (errors a bits) (pos (c.first + k) -ℤ pos (reach a))) 0 size j j (pos 0) (omega (arith, lt, long)) (omega arith)

      windows : sums ≡ residuals_from a.audible (errors a bits) c.first a.every number
      windows = windows_are_residuals a.audible (errors a bits) es c.first a.every number asked.audible_fits.odd is_around (λ i lt. omega (arith, step_within i lt, long))

      sums_long : length sums ≡ number
      sums_long = ap length windows ∙ length-map-range_with_len (λ i. residual a.audible (errors a bits) (c.first + i * a.every)) 0 number

      size_at : (i : ℕ) → i < number → unsigned_abs (get_or sums i (pos 0)) ≡ residual_size a bits (c.first + i * a.every)
      size_at i lt = ap (λ xs. unsigned_abs (get_or xs i (pos 0))) windows ∙ ap unsigned_abs (get_or-map-range_with_len (λ k. residual a.audible (errors a bits) (c.first + k * a.every)) 0 number i i (pos 0) lt (omega arith))

      size_of : (n : ℕ) (in' : IsJudgedFrom a bits c.first c.last n) → unsigned_abs (get_or sums ((n - c.first) / a.every) (pos 0)) ≡ residual_size a bits n
      size_of n in' = size_at ((n - c.first) / a.every) (step_below n in') ∙ ap (residual_size a bits) (step_of n in')

      best_below : peak.index < number
      best_below = omega (arith, is_peak.first.0, sums_long)

      greatest : IsGreatest a bits c.first c.last peak.size (c.first + peak.index * a.every)
      greatest = record {
        judged = judged_from (c.first + peak.index * a.every) (due_more a.every c.first peak.index is.due_first) (omega arith) (omega (arith, step_within peak.index best_below, is.in_order));
        size = sym (is_peak.size ∙ size_at peak.index best_below);
        most = λ n in'. omega (arith, is_peak.size, size_of n in', ltb-false _ _ (is_peak.first.1 ((n - c.first) / a.every) (pos 0) (omega (arith, step_below n in', sums_long))));
        first_of = λ n in' sooner. elim (cases_lt ((n - c.first) / a.every) peak.index) [
          | inl less ↦ omega (arith, is_peak.size, size_of n in', ltb-true _ _ (is_peak.first.2 ((n - c.first) / a.every) (pos 0) less))
          | inr more ↦ absurd (omega (arith, sooner, step_of n in', mul-le-mul_right a.every more))
        ];
      }

      near : (n : ℕ) → IsJudgedFrom a bits c.first c.last n → n < c.last → HasNext a bits c.last n
      near n in' lt =
          let step = due_next a.every n c.last asked.some_every in'.judged.due is.due_last lt in
          let close = is.reached (omega (arith, in'.from, lt)) in
          record {
            next = n + a.every;
            judged = record { judged = judged_at (n + a.every) (due_once a.every n in'.judged.due) (omega (arith, in'.from)) step; from = omega (arith, asked.some_every); to = step };
            near = omega (arith, close);
          }

      pub chunk_stretch : IsChunkStretch a bits c (record { first = c.first; last = c.last; residual = peak.size; place = c.first + peak.index * a.every })
      chunk_stretch = record {
        first = refl;
        last = refl;
        stretch = record {
          first = judged_from c.first is.due_first (omega arith) is.in_order;
          last = judged_from c.last is.due_last is.in_order (omega arith);
          near = near;
          greatest = greatest;
        };
        quiet = quiet_after none;
      }

-- errors of which none is too loud
pub all_small : (a : AskedContent) (bits : List Bool) (first number : ℕ) (es : List ℤ) → es ≡ errors_around a bits first number → ((m : ℕ) → IsLoudAround a bits first number m → ⊥) → All (λ z. unsigned_abs z < 2 ^ 31) es
all_small a bits first number es around none = All-from_get_or (λ z. unsigned_abs z < 2 ^ 31) es (pos 0) (λ j lt. subst (λ z. unsigned_abs z < 2 ^ 31) (sym (at_of j lt)) (small j (omega (arith, lt, long))))
  where
    long : length es ≡ number
    long = ap length around ∙ length-map-range_with_len (λ j. at_place (errors a bits) (pos (first + j) -ℤ pos (reach a))) 0 number

    at_of : (j : ℕ) → j < length es → get_or es j (pos 0) ≡ at_place (errors a bits) (pos (first + j) -ℤ pos (reach a))
    at_of j lt = ap (λ xs. get_or xs j (pos 0)) around ∙ get_or-map-range_with_len (λ k. at_place (errors a bits) (pos (first + k) -ℤ pos (reach a))) 0 number j j (pos 0) (omega (arith, lt, long)) (omega arith)

    small_error : (m : ℕ) → m + reach a < first + number → first ≤ m + reach a → m < length bits → unsigned_abs (error_at a bits m) < 2 ^ 31
    small_error m before after inside = elim (cases_lt (unsigned_abs (error_at a bits m)) (2 ^ 31)) [
      | inl quiet ↦ quiet
      | inr loud ↦ absurd (none m (record { inside = inside; after = after; before = before; loud = loud }))
    ]

    within : (m : ℕ) → m + reach a < first + number → first ≤ m + reach a → unsigned_abs (get_or (errors a bits) m (pos 0)) < 2 ^ 31
    within m before after = elim (cases_lt m (length bits)) [
      | inl inside ↦ subst (λ z. unsigned_abs z < 2 ^ 31) (sym (get_or-map-range_with_len (error_at a bits) 0 (length bits) m m (pos 0) inside (omega arith))) (small_error m before after inside)
      | inr past ↦ subst (λ z. unsigned_abs z < 2 ^ 31) (sym (get_or_past (errors a bits) m (pos 0) (omega (arith, length-map-range_with_len (error_at a bits) 0 (length bits), past)))) (omega arith)
    ]

    small : (j : ℕ) → j < number → unsigned_abs (at_place (errors a bits) (pos (first + j) -ℤ pos (reach a))) < 2 ^ 31
    small j lt = elim (cases_lt (first + j) (reach a)) [
      | inl low ↦ subst (λ z. unsigned_abs z < 2 ^ 31) (sym (at_before (errors a bits) (first + j) (reach a) low)) (omega arith)
      | inr high ↦ subst (λ z. unsigned_abs z < 2 ^ 31) (sym (at_inside (errors a bits) (first + j) (reach a) (first + j - reach a) (omega (arith, high)))) (within (first + j - reach a) (omega (arith, high, lt)) (omega (arith, high)))
    ]
