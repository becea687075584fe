use Rattle.std.proofs.Common.{◌≡◌, ℕ, ◌+◌, ◌-◌, List, ◌++◌, length, take, drop, sym, ap, ◌∙◌, append_assoc, take-append-drop}
use Rattle.std.proofs.lemmas.List.{take_rest}
use Rattle.std.proofs.KnownBytes.{Appends-trans}
use Rattle.chunk_core.proofs.outlet.Outlet.put_all.Goals as goal

-- the first part of what is left becomes part of what is done
moves_prefix : (all done rest : List ℕ) (n : ℕ) → all ≡ done ++ rest → all ≡ (done ++ take n rest) ++ take (length rest - n) (drop n rest)
moves_prefix all done rest n e =
    e ∙ ap (λ l. done ++ l) (sym (take-append-drop n rest)) ∙ sym (append_assoc done (take n rest) (drop n rest)) ∙ ap (λ l. (done ++ take n rest) ++ l) (sym (take_rest rest n))

pub loop-rest-preserved : goal.loop-rest-preserved
loop-rest-preserved g c =
    let (done, split, appended, calm) = c.loop-rest.invariant in
    let n = c.in-Ok.count in
    (done ++ take n c.loop-rest.rest.now, moves_prefix _ done c.loop-rest.rest.now n split, Appends-trans _ _ _ _ _ appended c.in-Ok.ensures.bytes, calm)

pub returns-clause-err : goal.returns-clause-err
returns-clause-err g c = tt

pub returns-in_default-clause-failures : goal.returns-in_default-clause-failures
returns-in_default-clause-failures g c = ap (λ n. n + 1) c.loop-rest.invariant.3
