-- What the contract of any folder says of one whose bytes aren't known.
use Rattle.std.proofs.Common.{◌≡◌, Err, IsTrue, Ok, Result, false, refl, true}
use Rattle.std.specs.Prelude.{IfOk, List, OnErr, OnOk, ℕ}
use Rattle.folder_core.specs.Files.{KeepsOthers, unknown_view}

pub if_ok : {T E : Type 0} (r : Result T E) {P : T → Type 0} → ((x : T) → P x) → IfOk r P
if_ok (Ok x) all = all x
if_ok (Err e) all = tt

pub on_ok : {T E : Type 0} (r : Result T E) {Q : Type 0} → Q → OnOk r Q
on_ok (Ok x) fact = fact
on_ok (Err e) fact = tt

pub on_err : {T E : Type 0} (r : Result T E) {Q : Type 0} → Q → OnErr r Q
on_err (Ok x) fact = tt
on_err (Err e) fact = fact

pub not_known : {Q : Type 0} → IsTrue false → Q
not_known stated = let e : false ≡ true = stated in absurd cc

pub keeps_unknown : (name : List ℕ) → KeepsOthers name unknown_view unknown_view
keeps_unknown name = record { others = λ other differs. refl; same_known = refl; same_keeping = refl }
