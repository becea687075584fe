-- The loop over chunks that may occur once.
use Rattle.std.proofs.Common.{◌≡◌, ℕ, ◌+◌, ◌≤◌, ◌<◌, Bool, true, false, cond, List, [], length, get_or, take, drop, Result, Ok, Err, refl, sym, ap, ◌∙◌}
use Rattle.std.proofs.lemmas.List.{at_drop_more, at_drop_all, take_more}
use Rattle.chunk_core.specs.declared.layout.Span.{Span}
use Rattle.dsdiff_core.specs.declared.fault.DsdiffFault.{DsdiffFault}
use Rattle.dsdiff_core.specs.declared.fault.DsdiffFault.TheVariants.{Twice}
use Rattle.dsdiff_core.specs.Spans.{is_second, once_each}

-- what there is where no chunk is
abbrev pub no_span : Span
no_span = record { id = []; start = 0; size = 0 }

-- one chunk on
once_more : (kinds : List (Span → Bool)) (ss : List Span) (i : ℕ) (d : Span) → i < length ss
    → once_each kinds (take i ss) (drop i ss) ≡ cond (is_second kinds (take i ss) (get_or ss i d)) (Err (Twice (get_or ss i d).id)) (once_each kinds (take (i + 1) ss) (drop (i + 1) ss))
unfolding once_each
once_more kinds ss i d lt =
    at_drop_more (λ (xs : List Span). once_each kinds (take i ss) xs) ss i d lt
    ∙ ap (λ (before : List Span). cond (is_second kinds (take i ss) (get_or ss i d)) (Err (Twice (get_or ss i d).id)) (once_each kinds before (drop (i + 1) ss))) (sym (take_more ss i d lt))

pub once_goes_on : (kinds : List (Span → Bool)) (ss : List Span) (i : ℕ) (d : Span) (total : Result (Unit {0}) DsdiffFault) → i < length ss → is_second kinds (take i ss) (get_or ss i d) ≡ false
    → once_each kinds (take i ss) (drop i ss) ≡ total → once_each kinds (take (i + 1) ss) (drop (i + 1) ss) ≡ total
once_goes_on kinds ss i d total lt e so_far =
    let one : once_each kinds (take i ss) (drop i ss) ≡ once_each kinds (take (i + 1) ss) (drop (i + 1) ss) = rw (once_more kinds ss i d lt, e) refl in
    sym one ∙ so_far

pub once_fails : (kinds : List (Span → Bool)) (ss : List Span) (i : ℕ) (d : Span) (total : Result (Unit {0}) DsdiffFault) → i < length ss → is_second kinds (take i ss) (get_or ss i d) ≡ true
    → once_each kinds (take i ss) (drop i ss) ≡ total → total ≡ Err (Twice (get_or ss i d).id)
once_fails kinds ss i d total lt e so_far =
    let one : once_each kinds (take i ss) (drop i ss) ≡ Err (Twice (get_or ss i d).id) = rw (once_more kinds ss i d lt, e) refl in
    sym so_far ∙ one

pub once_end : (kinds : List (Span → Bool)) (ss : List Span) (i : ℕ) → length ss ≤ i → once_each kinds (take i ss) (drop i ss) ≡ Ok tt
unfolding once_each
once_end kinds ss i le = at_drop_all (λ (xs : List Span). once_each kinds (take i ss) xs) ss i le
