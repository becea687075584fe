-- Reading the items of a list one after the other, as a loop does.
use Rattle.std.proofs.Common.{◌≡◌, ℕ, suc, ◌+◌, ◌≤◌, ◌<◌, List, [], ◌∷◌, ◌++◌, length, drop, get_or, Result, Ok, Err, refl, sym, ap, ◌∙◌, append_assoc, add-one, drop-cons}
use Rattle.std.proofs.lemmas.List.{append-nil, drop_all}
use Rattle.toml.specs.Data.{Data}
use Rattle.toml.specs.View.{view, items_view}
use Rattle.toml.specs.declared.value.Value.{Value}
use Rattle.toml.proofs.Views.{items_view-drop}
use Rattle.project_core.specs.declared.fault.ProjectFault.{ProjectFault}
use Rattle.project_core.specs.declared.fault.ProjectFault.TheVariants.{Memory}
use Rattle.project_core.specs.Steps.{◌>>=◌, Fails, each}
use Rattle.project_core.specs.Tables.{list_of}

-- what was read before, and what is still read
abbrev pub with_prefix : {B : Type 0} → List B → Result (List B) ProjectFault → Result (List B) ProjectFault
with_prefix prefix read = read >>= λ ys. Ok (prefix ++ ys)

regroup : {B : Type 0} (prefix : List B) (y : B) (read : Result (List B) ProjectFault) → with_prefix prefix (read >>= λ ys. Ok (y ∷ ys)) ≡ with_prefix (prefix ++ y ∷ []) read
regroup {B = B} prefix y (Ok ys) = ap (λ (zs : List B). Ok zs) (sym (append_assoc prefix (y ∷ []) ys))
regroup prefix y (Err f) = refl

pub each_goes_on : {A B : Type 0} (f : ℕ → A → Result B ProjectFault) (prefix : List B) (xs : List A) (i : ℕ) (d x : A) (y : B) (total : Result (List B) ProjectFault) → i < length xs → x ≡ get_or xs i d → f i x ≡ Ok y
    → with_prefix prefix (each f i (drop i xs)) ≡ total → with_prefix (prefix ++ y ∷ []) (each f (i + 1) (drop (i + 1) xs)) ≡ total
each_goes_on f prefix xs i d x y total lt is h so_far =
    let one : with_prefix prefix (each f i (drop i xs)) ≡ with_prefix (prefix ++ y ∷ []) (each f (i + 1) (drop (i + 1) xs)) = rw (drop-cons xs i d, ← is, h, add-one) (regroup prefix y (each f (suc i) (drop (suc i) xs))) in
    sym one ∙ so_far

fails_at : {A B : Type 0} (e : ProjectFault) (f : ℕ → A → Result B ProjectFault) (prefix : List B) (i : ℕ) (x : A) (xs : List A) → Fails e (f i x) → Fails e (with_prefix prefix (each f i (x ∷ xs)))
fails_at Memory f prefix i x xs h = tt
fails_at e f prefix i x xs h = rw h refl

pub each_ends : {A B : Type 0} (e : ProjectFault) (f : ℕ → A → Result B ProjectFault) (prefix : List B) (xs : List A) (i : ℕ) (d x : A) (total : Result (List B) ProjectFault) → i < length xs → x ≡ get_or xs i d → Fails e (f i x)
    → with_prefix prefix (each f i (drop i xs)) ≡ total → Fails e total
each_ends e f prefix xs i d x total lt is h so_far = rw (← so_far, drop-cons xs i d, ← is) (fails_at e f prefix i x (drop (suc i) xs) h)

pub each_done : {A B : Type 0} (f : ℕ → A → Result B ProjectFault) (prefix : List B) (xs : List A) (i : ℕ) (total : Result (List B) ProjectFault) → length xs ≤ i → with_prefix prefix (each f i (drop i xs)) ≡ total → total ≡ Ok prefix
each_done {B = B} f prefix xs i total le so_far =
    let one : with_prefix prefix (each f i (drop i xs)) ≡ Ok prefix = rw (drop_all i xs le) (ap (λ (ys : List B). Ok ys) (append-nil prefix)) in
    sym so_far ∙ one

-- The same over the values of an array.
abbrev pub values_left : {B : Type 0} → (ℕ → Data → Result B ProjectFault) → List B → ℕ → List Value → Result (List B) ProjectFault
values_left f prefix i vs = with_prefix prefix (each f i (list_of (items_view (drop i vs))))

pub values_go_on : {B : Type 0} (f : ℕ → Data → Result B ProjectFault) (prefix : List B) (vs : List Value) (i : ℕ) (v : Value) (y : B) (total : Result (List B) ProjectFault) → i < length vs → v ≡ get_or vs i v → f i (view v) ≡ Ok y
    → values_left f prefix i vs ≡ total → values_left f (prefix ++ y ∷ []) (i + 1) vs ≡ total
values_go_on f prefix vs i v y total lt is h so_far =
    let one : values_left f prefix i vs ≡ values_left f (prefix ++ y ∷ []) (i + 1) vs = rw (items_view-drop vs i v lt, ← is, h) (regroup prefix y (each f (i + 1) (list_of (items_view (drop (i + 1) vs))))) in
    sym one ∙ so_far

pub values_end : {B : Type 0} (e : ProjectFault) (f : ℕ → Data → Result B ProjectFault) (prefix : List B) (vs : List Value) (i : ℕ) (v : Value) (total : Result (List B) ProjectFault) → i < length vs → v ≡ get_or vs i v → Fails e (f i (view v))
    → values_left f prefix i vs ≡ total → Fails e total
values_end e f prefix vs i v total lt is h so_far = rw (← so_far, items_view-drop vs i v lt, ← is) (fails_at e f prefix i (view v) (list_of (items_view (drop (i + 1) vs))) h)

pub values_done : {B : Type 0} (f : ℕ → Data → Result B ProjectFault) (prefix : List B) (vs : List Value) (i : ℕ) (total : Result (List B) ProjectFault) → length vs ≤ i → values_left f prefix i vs ≡ total → total ≡ Ok prefix
values_done {B = B} f prefix vs i total le so_far =
    let one : values_left f prefix i vs ≡ Ok prefix = rw (drop_all i vs le) (ap (λ (ys : List B). Ok ys) (append-nil prefix)) in
    sym so_far ∙ one

-- an array has as many items as values
pub list_of_length : (vs : List Value) → length (list_of (items_view vs)) ≡ length vs
list_of_length [] = refl
list_of_length (v ∷ vs) = ap suc (list_of_length vs)
