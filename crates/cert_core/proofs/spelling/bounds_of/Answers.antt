use Rattle.std.proofs.Common.{◌≡◌, ℕ, ◌+◌, ◌-◌, ◌<◌, ◌≤◌, List, [], ◌∷◌, min, max, take, drop, length, get_or, refl, ap, sym, ◌∙◌, subst, inl, inr, arith, rules}
use Rattle.std.specs.List.{fold}
use Rattle.std.proofs.lemmas.Bool.{cases_lt}
use Rattle.std.proofs.lemmas.List.{get_or-drop, take_all}
use Rattle.std.proofs.lemmas.List.Sums.{fold_more}
use Rattle.cert_core.specs.Spelling.{floor}
use Rattle.cert_core.proofs.spelling.bounds_of.Goals as goal

pub loop-place-preserved : goal.loop-place-preserved
loop-place-preserved c =
    let row = c.args.row.now in
    let i = c.loop-place.place - 1 in
    let first = get_or row 0 0 in
    let back : c.loop-place.place + 1 - 1 ≡ i + 1 = omega (arith, c.loop-place.auto.place) in
    let at : get_or (drop 1 row) i 0 ≡ get_or row c.loop-place.place 0 = get_or-drop 1 row i 0 ∙ ap (λ n. get_or row n 0) (omega (arith, c.loop-place.auto.place)) in
    let within : i < length (drop 1 row) = search (arith, rules) in
    let least = ap (λ n. fold min first (take n (drop 1 row))) back ∙ fold_more min first (drop 1 row) i 0 within ∙ ap (λ v. min (fold min first (take i (drop 1 row))) v) at in
    let greatest = ap (λ n. fold max first (take n (drop 1 row))) back ∙ fold_more max first (drop 1 row) i 0 within ∙ ap (λ v. max (fold max first (take i (drop 1 row))) v) at in (
      c.min-least.ensures ∙ ap (λ v. min v (get_or row c.loop-place.place 0)) c.loop-place.invariant.0 ∙ sym least,
      c.max-greatest.ensures ∙ ap (λ v. max v (get_or row c.loop-place.place 0)) c.loop-place.invariant.1 ∙ sym greatest,
      λ q h. elim (cases_lt q c.loop-place.place) [
        | inl lt ↦ omega (arith, c.min-least.ensures, c.loop-place.invariant.2 q lt)
        | inr ge ↦
            let e : c.loop-place.place ≡ q = omega arith in
            subst (λ k. c.min-least.result ≤ get_or row k 0) e (omega (arith, c.min-least.ensures))
      ],
    )

floor_is : (row : List ℕ) → 0 < length row → floor row ≡ fold min (get_or row 0 0) (drop 1 row)
floor_is [] h = absurd (omega arith)
floor_is (v ∷ row) h = refl

pub returns-clause-least : goal.returns-clause-least
returns-clause-least c =
    let row = c.args.row.now in
    c.loop-place.invariant.0
    ∙ ap (fold min (get_or row 0 0)) (take_all (c.loop-place.place - 1) (drop 1 row) (search (arith, rules)))
    ∙ sym (floor_is row c.requires)
