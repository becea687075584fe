-- The loop over the edited masters.
use Rattle.std.proofs.Common.{◌≡◌, ℕ, ◌+◌, ◌≤◌, ◌<◌, Bool, true, false, cond, ◌&&◌, List, [], ◌∷◌, ◌++◌, length, get_or, map, drop, Result, Ok, Err, refl, sym, ap, subst, ◌∙◌, append_assoc}
use Rattle.std.proofs.lemmas.List.{append-nil, at_drop_more, at_drop_all}
use Rattle.chunk_core.specs.declared.layout.Span.{Span}
use Rattle.chunk_core.specs.Places.{span_chunk}
use Rattle.chunk_core.specs.Steps.{◌>>=◌}
use Rattle.dsd_bits.specs.Ids.{DIIN}
use Rattle.dsdiff_core.specs.declared.fault.DsdiffFault.{DsdiffFault}
use Rattle.dsdiff_core.specs.Kinds.{has_id}
use Rattle.dsdiff_core.specs.Masters.{has_no_cut_mark, is_no_cut_mark, chunks_of_master, masters_of}
use Rattle.dsdiff_core.specs.Steps.{Fails}
use Rattle.dsdiff_core.proofs.Steps.{step_fails}

-- what was found before, and what is still found
abbrev pub with_prefix : List Span → Result (List Span) DsdiffFault → Result (List Span) DsdiffFault
with_prefix prefix found = found >>= λ rest. Ok (prefix ++ rest)

regroup : (prefix inner : List Span) (found : Result (List Span) DsdiffFault) → with_prefix prefix (found >>= λ rest. Ok (inner ++ rest)) ≡ with_prefix (prefix ++ inner) found
regroup prefix inner (Ok r) = ap (λ (ds : List Span). Ok ds) (simp append_assoc)
regroup prefix inner (Err f) = refl

abbrev step : List ℕ → Span → Result (List Span) DsdiffFault → Result (List Span) DsdiffFault
step file s later = cond (has_id DIIN (span_chunk file s)) (chunks_of_master file s >>= λ inner. later >>= λ rest. Ok (inner ++ rest)) later

masters_more : (file : List ℕ) (ss : List Span) (i : ℕ) (d : Span) → i < length ss → masters_of file (drop i ss) ≡ step file (get_or ss i d) (masters_of file (drop (i + 1) ss))
unfolding masters_of
masters_more file ss i d lt = at_drop_more (λ (xs : List Span). masters_of file xs) ss i d lt

pub masters_end : (file : List ℕ) (ss : List Span) (i : ℕ) (prefix : List Span) → length ss ≤ i → with_prefix prefix (masters_of file (drop i ss)) ≡ Ok prefix
unfolding masters_of
masters_end file ss i prefix le = at_drop_all (λ (xs : List Span). with_prefix prefix (masters_of file xs)) ss i le ∙ ap (λ (x : List Span). Ok x) (append-nil prefix)

pub goes_on : (file : List ℕ) (ss : List Span) (i : ℕ) (d : Span) (prefix inner : List Span) (total : Result (List Span) DsdiffFault) → i < length ss → has_id DIIN (span_chunk file (get_or ss i d)) ≡ true
    → chunks_of_master file (get_or ss i d) ≡ Ok inner → with_prefix prefix (masters_of file (drop i ss)) ≡ total → with_prefix (prefix ++ inner) (masters_of file (drop (i + 1) ss)) ≡ total
goes_on file ss i d prefix inner total lt is m so_far =
    let one : with_prefix prefix (masters_of file (drop i ss)) ≡ with_prefix (prefix ++ inner) (masters_of file (drop (i + 1) ss)) =
    rw (masters_more file ss i d lt, is, m) (regroup prefix inner (masters_of file (drop (i + 1) ss))) in
    sym one ∙ so_far

pub passes_on : (file : List ℕ) (ss : List Span) (i : ℕ) (d : Span) (prefix : List Span) (total : Result (List Span) DsdiffFault) → i < length ss → has_id DIIN (span_chunk file (get_or ss i d)) ≡ false
    → with_prefix prefix (masters_of file (drop i ss)) ≡ total → with_prefix prefix (masters_of file (drop (i + 1) ss)) ≡ total
passes_on file ss i d prefix total lt other so_far =
    let one : with_prefix prefix (masters_of file (drop i ss)) ≡ with_prefix prefix (masters_of file (drop (i + 1) ss)) = rw (masters_more file ss i d lt, other) refl in
    sym one ∙ so_far

pub master_fails : (e : DsdiffFault) (file : List ℕ) (ss : List Span) (i : ℕ) (d : Span) (prefix : List Span) (total : Result (List Span) DsdiffFault) → i < length ss → has_id DIIN (span_chunk file (get_or ss i d)) ≡ true
    → Fails e (chunks_of_master file (get_or ss i d)) → with_prefix prefix (masters_of file (drop i ss)) ≡ total → Fails e total
master_fails e file ss i d prefix total lt is h so_far =
    let s : Span = get_or ss i d in
    let a : Fails e (chunks_of_master file s >>= λ inner. masters_of file (drop (i + 1) ss) >>= λ rest. Ok (inner ++ rest)) = step_fails e (chunks_of_master file s) _ h in
    let b : Fails e (masters_of file (drop i ss)) = rw (masters_more file ss i d lt, is) a in
    subst (λ (r : Result (List Span) DsdiffFault). Fails e r) so_far (step_fails e (masters_of file (drop i ss)) _ b)

and_again : (a b c : Bool) → (a && b) ≡ true → (b ≡ true → c ≡ true) → (a && c) ≡ true
and_again true b c e h = h e
and_again false b c e h = absurd cc

-- none is cut among the chunks of both
pub none_cut : (file : List ℕ) (ss ts : List Span) → has_no_cut_mark (map (span_chunk file) ss) ≡ true → has_no_cut_mark (map (span_chunk file) ts) ≡ true → has_no_cut_mark (map (span_chunk file) (ss ++ ts)) ≡ true
none_cut file [] ts a b = b
none_cut file (s ∷ ss) ts a b = and_again (is_no_cut_mark (span_chunk file s)) (has_no_cut_mark (map (span_chunk file) ss)) (has_no_cut_mark (map (span_chunk file) (ss ++ ts))) a (λ h. none_cut file ss ts h b)
