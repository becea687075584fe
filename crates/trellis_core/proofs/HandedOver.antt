-- Rows that were handed over one by one.
use Rattle.std.proofs.Common.{◌≡◌, ℕ, ◌+◌, ◌<◌, ◌≤◌, min, List, [], ◌∷◌, ◌++◌, length, get_or, Option, drop, refl, sym, ap, subst, ◌∙◌, arith, append_assoc, take-append-drop}
use Rattle.std.specs.List.{flat_map}
use Rattle.std.specs.Io.KnownBytes.{Appends}
use Rattle.std.proofs.KnownBytes.{Appends-nil, Appends-trans}
use Rattle.std.proofs.lemmas.Grind.{flat_map-append}
use Rattle.std.proofs.lemmas.List.{append-nil, ext_get_or, get_or-map, length-map}
use Rattle.std.proofs.lemmas.List.FromFn.{take-map-range_with_len, map-range_with_len_more}
use Rattle.cost_core.specs.Trellis.{Trellis, IsBounded}
use Rattle.cost_core.specs.Sinks.{GrowsByPrefix, HandsOver, HandsOverPart}
use Rattle.trellis_core.specs.Best.{best_row, best_rows}
use Rattle.trellis_core.specs.LeastSums.{BestRows}
use Rattle.trellis_core.specs.Handing.{HandsOverAll, HandsOverSome, HandsOverUpTo, capped_at, capped_spelling}
use Rattle.trellis_core.proofs.LeastSums.{all_rows}

one_row_more : (t : Trellis) (n : ℕ) → best_rows t (n + 1) ≡ best_rows t n ++ (best_row t n ∷ [])
one_row_more t n = map-range_with_len_more (best_row t) 0 n n (omega arith)

-- by the spelling of a kind that a sink kept
module _ (t : Trellis) (spelling : ℕ → List ℕ → List ℕ) (kind now : ℕ) (old mid new : Option (List ℕ)) (n : ℕ) (row : List ℕ) (ek : now ≡ kind) (er : row ≡ best_row t n) (before : HandsOver (spelling kind) old mid (best_rows t n)) where
  -- one row more
  pub hands_more : Appends mid new (spelling now row) → HandsOver (spelling kind) old new (best_rows t (n + 1))
  hands_more appended =
      let done = flat_map (spelling kind) (best_rows t n) in
      let is : done ++ spelling now row ≡ flat_map (spelling kind) (best_rows t (n + 1)) =
      sym (ap (flat_map (spelling kind)) (one_row_more t n) ∙ flat_map-append (spelling kind) (best_rows t n) (best_row t n ∷ []) ∙ ap (λ l. done ++ l) (append-nil (spelling kind (best_row t n)) ∙ rw (er, ek) refl)) in
      subst (Appends old new) is (Appends-trans old mid new done (spelling now row) before appended)

  -- a prefix of one row more
  pub hands_front : GrowsByPrefix mid new (spelling now row) → HandsOverPart (spelling kind) old new (best_rows t n) row
  hands_front (front, back, is, appended) =
      (front, back, ap (λ k. spelling k row) (sym ek) ∙ is, Appends-trans old mid new (flat_map (spelling kind) (best_rows t n)) front before appended)

-- a row of a capped table, value by value
pub capped_is : (cost : ℕ) (row capped : List ℕ) → length capped ≡ length row → ((k : ℕ) → k < length row → get_or capped k 0 ≡ min (get_or row k 0) cost) → capped ≡ capped_at cost row
capped_is cost row capped long each =
    ext_get_or 0 capped (capped_at cost row) (long ∙ sym (length-map row (λ v. min v cost)))
    (λ k h. each k (omega (arith, long)) ∙ sym (get_or-map (λ v. min v cost) row k 0 0 (omega (arith, long))))

-- a row that is handed over, capped
module _ (t : Trellis) (cost : ℕ) (spelling : ℕ → List ℕ → List ℕ) (kind now : ℕ) (old mid new : Option (List ℕ)) (n : ℕ) (row capped : List ℕ) (ek : now ≡ kind) (er : row ≡ best_row t n) (ec : capped ≡ capped_at cost row)
    (before : HandsOver (capped_spelling cost (spelling kind)) old mid (best_rows t n)) where
  pub capped_more : Appends mid new (spelling now capped) → HandsOver (capped_spelling cost (spelling kind)) old new (best_rows t (n + 1))
  capped_more appended = hands_more t (λ k. capped_spelling cost (spelling k)) kind now old mid new n row ek er before (subst (λ r. Appends mid new (spelling now r)) ec appended)

  pub capped_prefix : GrowsByPrefix mid new (spelling now capped) → HandsOverPart (capped_spelling cost (spelling kind)) old new (best_rows t n) row
  capped_prefix part = hands_front t (λ k. capped_spelling cost (spelling k)) kind now old mid new n row ek er before (subst (λ r. GrowsByPrefix mid new (spelling now r)) ec part)

module _ (t : Trellis) (fine : IsBounded t) (spelling : List ℕ → List ℕ) (old new : Option (List ℕ)) where
  rest : ℕ → List (List ℕ)
  rest n = drop n (best_rows t (t.levels + 1))

  whole : (n : ℕ) → n ≤ t.levels + 1 → best_rows t (t.levels + 1) ≡ best_rows t n ++ rest n
  unfolding rest
  whole n h =
      sym (ap (λ l. l ++ drop n (best_rows t (t.levels + 1))) (sym (take-map-range_with_len (best_row t) 0 (t.levels + 1) n h)) ∙ take-append-drop n (best_rows t (t.levels + 1)))

  pub hands_all : (n : ℕ) → n ≡ t.levels → HandsOver spelling old new (best_rows t (n + 1)) → HandsOverAll t spelling old new
  hands_all n e h = (best_rows t (t.levels + 1), all_rows t fine, subst (λ k. HandsOver spelling old new (best_rows t (k + 1))) e h)

  pub hands_some : (n : ℕ) → n ≤ t.levels + 1 → HandsOver spelling old new (best_rows t n) → HandsOverSome t spelling old new
  hands_some n le h = (best_rows t n, rest n, subst (BestRows t) (whole n le) (all_rows t fine), h)

  pub hands_up_to : (n : ℕ) (row : List ℕ) → n ≤ t.levels → row ≡ best_row t n → HandsOverPart spelling old new (best_rows t n) row → HandsOverUpTo t spelling old new
  hands_up_to n row le e part =
      let split : best_rows t (t.levels + 1) ≡ best_rows t n ++ (row ∷ rest (n + 1)) =
      whole (n + 1) (omega arith) ∙ ap (λ l. l ++ rest (n + 1)) (one_row_more t n) ∙ append_assoc (best_rows t n) (best_row t n ∷ []) (rest (n + 1)) ∙ ap (λ r. best_rows t n ++ (r ∷ rest (n + 1))) (sym e) in
      (best_rows t n, row, rest (n + 1), subst (BestRows t) split (all_rows t fine), part)

pub hands_none : (t : Trellis) → IsBounded t → (spelling : List ℕ → List ℕ) (old : Option (List ℕ)) → HandsOverSome t spelling old old
hands_none t fine spelling old = hands_some t fine spelling old old 0 (omega arith) (Appends-nil old)

-- all rows are the first of them
pub some_of_all : (t : Trellis) (spelling : List ℕ → List ℕ) (old new : Option (List ℕ)) → HandsOverAll t spelling old new → HandsOverSome t spelling old new
some_of_all t spelling old new (rows, best, handed) = (rows, [], rw append-nil best, handed)
