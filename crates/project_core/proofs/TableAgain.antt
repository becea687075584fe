-- What a table says is read.
use Rattle.std.proofs.Common.{◌≡◌, ℕ, ◌+◌, ◌≤◌, ◌<◌, ◌^◌, ℤ, pos, negsuc, true, List, [], ◌∷◌, length, map, Result, Ok, refl, arith, sum_by, unsigned_abs}
use Rattle.std.specs.List.{AllByRecursion, AllZip}
use Rattle.std.proofs.lemmas.Bool.{le-leb, lt-ltb}
use Rattle.std.proofs.lemmas.List.Sums.{sum_by-cons}
use Rattle.toml.specs.Data.{Data, string, integer, array, table, Members}
use Rattle.toml.specs.View.{items_of}
use Rattle.project_core.specs.declared.key.Key.{Key}
use Rattle.project_core.specs.declared.key.Table.{Table}
use Rattle.project_core.specs.declared.fault.ProjectFault.{ProjectFault}
use Rattle.project_core.specs.Tables.{FindsOnly, Has, number, numbers, texts}
use Rattle.project_core.specs.Reading.{value_at, integer_of, text_of, table_of, is_number, items_at, limited_at, unsigned_at, fits_i32, signed_of, integers_of, narrow, integers_at, texts_of, texts_at}
use Rattle.project_core.specs.Steps.{each}
use Rattle.project_core.proofs.KeyLaws.{has_only_from}
use Rattle.project_core.proofs.TableLaws.{list_of-items_of}

pub table_again : (key : Key) (place : Table) (keys : List Key) (t : Members) → FindsOnly keys t → table_of key place keys (table t) ≡ Ok t
unfolding table_of
table_again key place keys t h = rw (has_only_from keys t h)

pub value_again : (key : Key) (place : Table) (t : Members) (d : Data) → Has t key d → value_at key place t ≡ Ok d
unfolding value_at
value_again key place t d h = rw h

pub limited_again : (key : Key) (place : Table) (limit : ℕ) (t : Members) (n : ℕ) → Has t key (number n) → n ≤ limit → limited_at key place limit t ≡ Ok n
unfolding limited_at
limited_again key place limit t n h le =
    let lt : n < limit + 1 = omega arith in
    rw (value_again key place t (number n) h, lt-ltb n (limit + 1) lt)

pub number_again : (limit n : ℕ) → (1 ≤ n) × (n ≤ limit) → is_number limit n ≡ true
number_again limit n h = rw (le-leb 1 n h.0, le-leb n limit h.1)

pub items_again : (key : Key) (place : Table) (limit : ℕ) (t : Members) (ds : List Data) → Has t key (array (items_of ds)) → (1 ≤ length ds) × (length ds ≤ limit) → items_at key place limit t ≡ Ok ds
unfolding items_at
items_again key place limit t ds h fit = rw (value_again key place t (array (items_of ds)) h, list_of-items_of ds, number_again limit (length ds) fit)

pub unsigned_again : (key : Key) (place : Table) (t : Members) (n : ℕ) → Has t key (number n) → n < 2 ^ 32 → unsigned_at key place t ≡ Ok n
unfolding unsigned_at
unsigned_again key place t n h lt = rw (value_again key place t (number n) h, lt-ltb n (2 ^ 32) lt)

-- what is written so is read
pub each_again : {A B : Type 0} (f : ℕ → A → Result B ProjectFault) (v : B → A) (Q : B → Type 0) → ((i : ℕ) (y : B) → Q y → f i (v y) ≡ Ok y) → (i : ℕ) (ys : List B) → AllByRecursion Q ys → each f i (map v ys) ≡ Ok ys
each_again f v Q step i [] h = refl
each_again f v Q step i (y ∷ ys) h = rw (step i y h.0, each_again f v Q step (i + 1) ys h.1)

pub each_kept : {A : Type 0} (f : ℕ → A → Result A ProjectFault) (Q : A → Type 0) → ((i : ℕ) (y : A) → Q y → f i y ≡ Ok y) → (i : ℕ) (ys : List A) → AllByRecursion Q ys → each f i ys ≡ Ok ys
each_kept f Q step i [] h = refl
each_kept f Q step i (y ∷ ys) h = rw (step i y h.0, each_kept f Q step (i + 1) ys h.1)

pub zip_again : {A B C : Type 0} (f : ℕ → A → Result B ProjectFault) (v : C → A) (R : C → B → Type 0) → ((i : ℕ) (x : C) (y : B) → R x y → f i (v x) ≡ Ok y) → (i : ℕ) (xs : List C) (ys : List B) → AllZip R xs ys → each f i (map v xs) ≡ Ok ys
zip_again f v R step i [] [] h = refl
zip_again f v R step i [] (y ∷ ys) h = absurd h
zip_again f v R step i (x ∷ xs) [] h = absurd h
zip_again f v R step i (x ∷ xs) (y ∷ ys) h = rw (step i x y h.0, zip_again f v R step (i + 1) xs ys h.1)

always : {A : Type 0} (xs : List A) → AllByRecursion (λ _. Unit {0}) xs
always [] = tt
always (x ∷ xs) = (tt, always xs)

pub integers_again : (key : Key) (place : Table) (t : Members) (zs : List ℤ) → Has t key (numbers zs) → AllByRecursion (λ z. fits_i32 z ≡ true) zs → integers_at key place t ≡ Ok zs
unfolding integers_at integers_of narrow
integers_again key place t zs h fits =
    rw (value_again key place t (numbers zs) h, list_of-items_of (map integer zs), each_again (λ _. integer_of key place) integer (λ _. Unit {0}) (λ _ z _. refl) 0 zs (always zs))
    (each_kept (λ _. signed_of key place) (λ z. fits_i32 z ≡ true) (λ _ z fit. rw fit) 0 zs fits)

pub texts_again : (key : Key) (place : Table) (t : Members) (ss : List (List ℕ)) → Has t key (texts ss) → texts_at key place t ≡ Ok ss
unfolding texts_at texts_of
texts_again key place t ss h =
    rw (value_again key place t (texts ss) h, list_of-items_of (map string ss)) (each_again (λ _. text_of key place) string (λ _. Unit {0}) (λ _ s _. refl) 0 ss (always ss))

pub fits_one : (z : ℤ) → unsigned_abs z < 2 ^ 31 → fits_i32 z ≡ true
fits_one (pos n) h = lt-ltb n (2 ^ 31) h
fits_one (negsuc n) h = lt-ltb n (2 ^ 31) (omega arith)

-- where the absolute values add up to little, each fits
pub fits_by_sum : (zs : List ℤ) → sum_by unsigned_abs zs < 2 ^ 31 → AllByRecursion (λ z. fits_i32 z ≡ true) zs
fits_by_sum [] h = tt
fits_by_sum (z ∷ zs) h = (fits_one z (omega (arith, sum_by-cons unsigned_abs z zs)), fits_by_sum zs (omega (arith, sum_by-cons unsigned_abs z zs)))
