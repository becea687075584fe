-- Steps of a reading in their order.
use Rattle.std.proofs.Common.{◌≡◌, ℕ, zero, suc, ◌+◌, ◌<◌, ◌≤◌, inl, inr, Bool, true, false, List, ◌∷◌, [], ◌++◌, Ok, Err, Result, get_or, length, refl, ◌∙◌, add-one, arith}
use Rattle.std.specs.Prelude.{⊤}
use Rattle.std.proofs.Math.Seq.{get_or-append_seam}
use Rattle.std.proofs.lemmas.Bool.{cases_lt}
use Rattle.std.proofs.lemmas.List.{get_or_append_left, length-append}
use Rattle.chunk_core.proofs.Steps.{bind_then}
use Rattle.dsd_bits.specs.Contents.{Content}
use Rattle.cut_core.specs.Opening.{each_before, required, take_from, take_in, takes_before}
use Rattle.cut_core.specs.declared.fault.CutFault.{CutFault}

-- a test that was met
pub met : (b : Bool) (fault : CutFault) (x : ⊤) → required b fault ≡ Ok x → b ≡ true
met true fault x e = refl
met false fault x e = absurd cc

-- ---- the steps of rising numbers
module _ (step : ℕ → Result ⊤ CutFault) where
  pub each_stops : (n i : ℕ) (e : CutFault) → i < n → each_before i step ≡ Ok tt → step i ≡ Err e → each_before n step ≡ Err e
  each_stops zero i e lt before here = absurd (omega arith)
  each_stops (suc n) i e lt before here = elim (cases_lt i n) [
    | inl later ↦ rw (each_stops n i e later before here) refl
    | inr last ↦ (let same : i ≡ n = omega arith in rw (← same, before) here)
  ]

  pub each_from : (n : ℕ) → ((i : ℕ) → i < n → step i ≡ Ok tt) → each_before n step ≡ Ok tt
  each_from zero h = refl
  each_from (suc n) h = rw (each_from n (λ i lt. h i (omega arith))) (h n (omega arith))

  pub each_at : (n : ℕ) → each_before n step ≡ Ok tt → (i : ℕ) → i < n → step i ≡ Ok tt
  each_at zero e i lt = absurd (omega arith)
  each_at (suc n) e i lt = bind_then (each_before n step) (λ x. step n) tt e (λ x before here. elim (cases_lt i n) [
    | inl later ↦ each_at n before i later
    | inr last ↦ (let same : i ≡ n = omega arith in rw same here)
  ])

-- ---- the takes of rising numbers
module _ (files : List (List ℕ)) where
  pub takes_more : (n : ℕ) (takes : List Content) (r : Content) → takes_before files n ≡ Ok takes → take_from files n ≡ Ok r → takes_before files (n + 1) ≡ Ok (takes ++ r ∷ [])
  takes_more n takes r before here = rw (add-one n, before, here) refl

  pub takes_stop : (n i : ℕ) (takes : List Content) (e : CutFault) → i < n → takes_before files i ≡ Ok takes → take_from files i ≡ Err e → takes_before files n ≡ Err e
  takes_stop zero i takes e lt before here = absurd (omega arith)
  takes_stop (suc n) i takes e lt before here = elim (cases_lt i n) [
    | inl later ↦ rw (takes_stop n i takes e later before here) refl
    | inr last ↦ (let same : i ≡ n = omega arith in rw (← same, before, here) refl)
  ]

-- ---- one file more
module _ (files : List (List ℕ)) (file : List ℕ) where
  prefix : (n : ℕ) → n ≤ length files → takes_before (files ++ file ∷ []) n ≡ takes_before files n
  prefix zero le = refl
  prefix (suc n) le = rw (prefix n (omega arith), get_or_append_left files (file ∷ []) [] n (omega arith)) refl

  last : get_or (files ++ file ∷ []) (length files) [] ≡ file
  last = get_or-append_seam files file [] []

  pub file_more : (takes : List Content) (r : Content) → takes_before files (length files) ≡ Ok takes → take_in (length files) file ≡ Ok r → takes_before (files ++ file ∷ []) (length files + 1) ≡ Ok (takes ++ r ∷ [])
  file_more takes r before here = takes_more (files ++ file ∷ []) (length files) takes r (prefix (length files) (omega arith) ∙ before) (rw last here)

  pub file_fails : (takes : List Content) (e : CutFault) → takes_before files (length files) ≡ Ok takes → take_in (length files) file ≡ Err e → takes_before (files ++ file ∷ []) (length files + 1) ≡ Err e
  file_fails takes e before here = takes_stop (files ++ file ∷ []) (length files + 1) (length files) takes e (omega arith) (prefix (length files) (omega arith) ∙ before) (rw last here)

  pub failed_before : (e : CutFault) → takes_before files (length files) ≡ Err e → takes_before (files ++ file ∷ []) (length files + 1) ≡ Err e
  failed_before e before = rw (add-one (length files), prefix (length files) (omega arith), before) refl

-- as many takes as files
pub takes_long : (files : List (List ℕ)) (n : ℕ) (takes : List Content) → takes_before files n ≡ Ok takes → length takes ≡ n
takes_long files zero takes e = let none : [] ≡ takes = cc in rw (← none) refl
takes_long files (suc n) takes e =
    bind_then (takes_before files n) _ takes e (λ before b e. bind_then (take_from files n) _ takes e (λ r here e.
    let same : before ++ r ∷ [] ≡ takes = cc in
    rw (← same) (omega (arith, length-append before (r ∷ []), takes_long files n before b))))
