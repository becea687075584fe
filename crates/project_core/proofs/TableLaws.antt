-- What follows where reading went well.
use Rattle.std.proofs.Common.{◌≡◌, ℕ, ◌+◌, ◌≤◌, ◌<◌, ◌^◌, ℤ, pos, negsuc, Bool, true, false, cond, ltb, List, [], ◌∷◌, length, map, Option, Some, None, Result, Ok, Err, refl, sym, ap, subst, ◌∙◌, arith}
use Rattle.std.specs.Option.{ok_or}
use Rattle.std.specs.List.{AllByRecursion, AllZip}
use Rattle.std.specs.Prelude.{nat_le}
use Rattle.std.proofs.lemmas.Bool.{and_parts, leb-true, ltb-true}
use Rattle.toml.specs.Data.{Data, string, integer, float, boolean, datetime, array, table, Items, no_items, item, Members, get_member}
use Rattle.toml.specs.View.{items_of}
use Rattle.project_core.specs.declared.key.Key.{Key}
use Rattle.project_core.specs.declared.key.Table.{Table}
use Rattle.project_core.specs.declared.fault.ProjectFault.{ProjectFault}
use Rattle.project_core.specs.declared.fault.ProjectFault.TheVariants.{UnknownKey, MissingKey, OutOfLimit}
use Rattle.project_core.specs.Keys.{key_name}
use Rattle.project_core.specs.Steps.{◌>>=◌, each}
use Rattle.project_core.specs.Tables.{has_only, FindsOnly, list_of, Has, number, numbers, texts}
use Rattle.project_core.specs.Reading.{value_at, integer_of, text_of, array_of, table_of, is_number, items_at, below, limited_at, unsigned_of, unsigned_at, fits_i32, signed_of, integers_of, narrow, integers_at, texts_of, texts_at}
use Rattle.project_core.proofs.KeyLaws.{finds_only}

-- the value of a step that did not fail
pub bind_ok : {A B : Type 0} (r : Result A ProjectFault) (f : A → Result B ProjectFault) (y : B) → (r >>= f) ≡ Ok y → (x : A) × (r ≡ Ok x) × (f x ≡ Ok y)
bind_ok (Ok x) f y e = (x, refl, e)
bind_ok (Err d) f y e = absurd cc

-- a test that did not fail
pub passed : {A : Type 0} (b : Bool) (d : ProjectFault) (x y : A) → cond b (Ok x) (Err d) ≡ Ok y → (b ≡ true) × (x ≡ y)
passed true d x y e = (refl, cc)
passed false d x y e = absurd cc

-- a test whose failure did not come
pub not_refused : {A : Type 0} (b : Bool) (d : ProjectFault) (x y : A) → cond b (Err d) (Ok x) ≡ Ok y → (b ≡ false) × (x ≡ y)
not_refused true d x y e = absurd cc
not_refused false d x y e = (refl, cc)

-- a test before another step
pub tested : {A : Type 0} (b : Bool) (d : ProjectFault) (r : Result A ProjectFault) (y : A) → cond b r (Err d) ≡ Ok y → (b ≡ true) × (r ≡ Ok y)
tested true d r y e = (refl, e)
tested false d r y e = absurd cc

pub ok_or_ok : {A : Type 0} (o : Option A) (d : ProjectFault) (x : A) → ok_or o d ≡ Ok x → o ≡ Some x
ok_or_ok None d x e = absurd cc
ok_or_ok (Some y) d x e = cc

pub value_ok : (key : Key) (place : Table) (t : Members) (d : Data) → value_at key place t ≡ Ok d → get_member (key_name key) t ≡ Some d
unfolding value_at
value_ok key place t d e = ok_or_ok (get_member (key_name key) t) (MissingKey key place) d e

pub integer_ok : (key : Key) (place : Table) (d : Data) (z : ℤ) → integer_of key place d ≡ Ok z → d ≡ integer z
integer_ok key place (string s) z e = absurd cc
integer_ok key place (integer x) z e = cc
integer_ok key place (float x) z e = absurd cc
integer_ok key place (boolean x) z e = absurd cc
integer_ok key place (datetime x) z e = absurd cc
integer_ok key place (array x) z e = absurd cc
integer_ok key place (table x) z e = absurd cc

pub text_ok : (key : Key) (place : Table) (d : Data) (s : List ℕ) → text_of key place d ≡ Ok s → d ≡ string s
text_ok key place (string x) s e = cc
text_ok key place (integer x) s e = absurd cc
text_ok key place (float x) s e = absurd cc
text_ok key place (boolean x) s e = absurd cc
text_ok key place (datetime x) s e = absurd cc
text_ok key place (array x) s e = absurd cc
text_ok key place (table x) s e = absurd cc

pub array_ok : (key : Key) (place : Table) (d : Data) (ds : Items) → array_of key place d ≡ Ok ds → d ≡ array ds
array_ok key place (string x) ds e = absurd cc
array_ok key place (integer x) ds e = absurd cc
array_ok key place (float x) ds e = absurd cc
array_ok key place (boolean x) ds e = absurd cc
array_ok key place (datetime x) ds e = absurd cc
array_ok key place (array x) ds e = cc
array_ok key place (table x) ds e = absurd cc

pub table_ok : (key : Key) (place : Table) (keys : List Key) (d : Data) (t : Members) → table_of key place keys d ≡ Ok t → (d ≡ table t) × FindsOnly keys t
unfolding table_of
table_ok key place keys (string x) t e = absurd cc
table_ok key place keys (integer x) t e = absurd cc
table_ok key place keys (float x) t e = absurd cc
table_ok key place keys (boolean x) t e = absurd cc
table_ok key place keys (datetime x) t e = absurd cc
table_ok key place keys (array x) t e = absurd cc
table_ok key place keys (table x) t e =
    let p = passed (has_only keys x) (UnknownKey place) x t e in
    let same = p.1 in
    (ap table same, rw (← same) (finds_only keys x p.0))

-- a number below a bound
pub below_ok : (bound : ℕ) (z : ℤ) (d : ProjectFault) (n : ℕ) → ok_or (below bound z) d ≡ Ok n → (z ≡ pos n) × (n < bound)
below_ok bound (pos m) d n e = of_test (ltb m bound) refl e
  where
    of_test : (b : Bool) → ltb m bound ≡ b → ok_or (cond b (Some m) None) d ≡ Ok n → (pos m ≡ pos n) × (n < bound)
    of_test true t h =
        let same : m ≡ n = cc in
        (ap pos same, rw (← same) (ltb-true m bound t))
    of_test false t h = absurd cc
below_ok bound (negsuc m) d n e = absurd cc

-- the integer at a key, and what follows
pub integer_at_ok : {A : Type 0} (key : Key) (place : Table) (t : Members) (g : ℤ → Result A ProjectFault) (y : A) → (value_at key place t >>= λ d. integer_of key place d >>= g) ≡ Ok y → (z : ℤ) × (get_member (key_name key) t ≡ Some (integer z)) × (g z ≡ Ok y)
integer_at_ok key place t g y e =
    let a = bind_ok (value_at key place t) (λ d. integer_of key place d >>= g) y e in
    let b = bind_ok (integer_of key place a.0) g y a.2 in
    (b.0, value_ok key place t a.0 a.1 ∙ ap (λ (d : Data). Some d) (integer_ok key place a.0 b.0 b.1), b.2)

pub limited_ok : (key : Key) (place : Table) (limit : ℕ) (t : Members) (n : ℕ) → limited_at key place limit t ≡ Ok n → (get_member (key_name key) t ≡ Some (integer (pos n))) × (n ≤ limit)
unfolding limited_at
limited_ok key place limit t n e =
    let a = integer_at_ok key place t (λ z. ok_or (below (limit + 1) z) (OutOfLimit key place)) n e in
    let b = below_ok (limit + 1) a.0 (OutOfLimit key place) n a.2 in
    (a.1 ∙ ap (λ (z : ℤ). Some (integer z)) b.0, omega arith)

-- how each item that was read relates to what it was read from
pub each_ok : {A B : Type 0} (f : ℕ → A → Result B ProjectFault) (R : A → B → Type 0) → ((i : ℕ) (x : A) (y : B) → f i x ≡ Ok y → R x y) → (i : ℕ) (xs : List A) (ys : List B) → each f i xs ≡ Ok ys → AllZip R xs ys
each_ok f R step i [] [] e = tt
each_ok f R step i [] (y ∷ ys) e = absurd cc
each_ok {A = A} {B = B} f R step i (x ∷ xs) zs e =
    let a = bind_ok (f i x) (λ y. each f (i + 1) xs >>= λ ys. Ok (y ∷ ys)) zs e in
    let b = bind_ok (each f (i + 1) xs) (λ ys. Ok (a.0 ∷ ys)) zs a.2 in
    let same : a.0 ∷ b.0 ≡ zs = cc in
    subst (λ (ys : List B). AllZip R (x ∷ xs) ys) same (step i x a.0 a.1, each_ok f R step (i + 1) xs b.0 b.1)

-- what was read is what is written so
pub zip_spelled : {A B : Type 0} (v : B → A) (xs : List A) (ys : List B) → AllZip (λ x y. x ≡ v y) xs ys → xs ≡ map v ys
zip_spelled v [] [] h = refl
zip_spelled v [] (y ∷ ys) h = absurd h
zip_spelled v (x ∷ xs) [] h = absurd h
zip_spelled {A = A} v (x ∷ xs) (y ∷ ys) h = ap (λ (z : A). z ∷ xs) h.0 ∙ ap (λ (zs : List A). v y ∷ zs) (zip_spelled v xs ys h.1)

pub zip_same : {A : Type 0} (xs ys : List A) → AllZip (λ x y. x ≡ y) xs ys → xs ≡ ys
zip_same [] [] h = refl
zip_same [] (y ∷ ys) h = absurd h
zip_same (x ∷ xs) [] h = absurd h
zip_same {A = A} (x ∷ xs) (y ∷ ys) h = ap (λ (z : A). z ∷ xs) h.0 ∙ ap (λ (zs : List A). y ∷ zs) (zip_same xs ys h.1)

pub zip_right : {A B : Type 0} (R : A → B → Type 0) (P : B → Type 0) → ((x : A) (y : B) → R x y → P y) → (xs : List A) (ys : List B) → AllZip R xs ys → AllByRecursion P ys
zip_right R P step [] [] h = tt
zip_right R P step [] (y ∷ ys) h = absurd h
zip_right R P step (x ∷ xs) [] h = absurd h
zip_right R P step (x ∷ xs) (y ∷ ys) h = (step x y h.0, zip_right R P step xs ys h.1)

pub items_of-list_of : (ds : Items) → items_of (list_of ds) ≡ ds
items_of-list_of no_items = refl
items_of-list_of (item d ds) = ap (item d) (items_of-list_of ds)

pub list_of-items_of : (ds : List Data) → list_of (items_of ds) ≡ ds
list_of-items_of [] = refl
list_of-items_of (d ∷ ds) = ap (λ (es : List Data). d ∷ es) (list_of-items_of ds)

pub number_parts : (limit n : ℕ) → is_number limit n ≡ true → (1 ≤ n) × (n ≤ limit)
number_parts limit n h =
    let p = and_parts (nat_le 1 n) (nat_le n limit) h in
    (leb-true 1 n p.0, leb-true n limit p.1)

-- the items at a key that were read are those that it has
pub items_ok : (key : Key) (place : Table) (limit : ℕ) (t : Members) (ds : List Data) → items_at key place limit t ≡ Ok ds → Has t key (array (items_of ds)) × ((1 ≤ length ds) × (length ds ≤ limit))
unfolding items_at
items_ok key place limit t ds e =
    let a = bind_ok (value_at key place t) (λ d. array_of key place d >>= λ xs. cond (is_number limit (length (list_of xs))) (Ok (list_of xs)) (Err (OutOfLimit key place))) ds e in
    let b = bind_ok (array_of key place a.0) (λ xs. cond (is_number limit (length (list_of xs))) (Ok (list_of xs)) (Err (OutOfLimit key place))) ds a.2 in
    let c = passed (is_number limit (length (list_of b.0))) (OutOfLimit key place) (list_of b.0) ds b.2 in
    let items : b.0 ≡ items_of ds = sym (items_of-list_of b.0) ∙ ap items_of c.1 in
    (value_ok key place t a.0 a.1 ∙ ap (λ (d : Data). Some d) (array_ok key place a.0 b.0 b.1 ∙ ap array items), subst (λ (xs : List Data). (1 ≤ length xs) × (length xs ≤ limit)) c.1 (number_parts limit (length (list_of b.0)) c.0))

-- a value is a table that says this
abbrev pub SaysTable : {B : Type 0} → (Members → B → Type 0) → Data → B → Type 0
SaysTable R d y = (t : Members) × (d ≡ table t) × R t y

-- values that are tables are written as these tables
pub tables_of : {B : Type 0} (R : Members → B → Type 0) (ds : List Data) (ys : List B) → AllZip (SaysTable R) ds ys → (ts : List Members) × (ds ≡ map table ts) × AllZip R ts ys
tables_of R [] [] h = ([], refl, tt)
tables_of R [] (y ∷ ys) h = absurd h
tables_of R (d ∷ ds) [] h = absurd h
tables_of R (d ∷ ds) (y ∷ ys) h =
    let more = tables_of R ds ys h.1 in
    (h.0.0 ∷ more.0, ap (λ (x : Data). x ∷ ds) h.0.1 ∙ ap (λ (xs : List Data). table h.0.0 ∷ xs) more.1, (h.0.2, more.2))

signed_ok : (key : Key) (place : Table) (z y : ℤ) → signed_of key place z ≡ Ok y → z ≡ y
signed_ok key place z y e = (passed (fits_i32 z) (OutOfLimit key place) z y e).1

-- the integers at a key that were read are those that it has
pub integers_ok : (key : Key) (place : Table) (t : Members) (zs : List ℤ) → integers_at key place t ≡ Ok zs → Has t key (numbers zs)
unfolding integers_at integers_of narrow
integers_ok key place t zs e =
    let a = bind_ok (value_at key place t) (λ d. array_of key place d >>= λ ds. each (λ _. integer_of key place) 0 (list_of ds) >>= λ ys. each (λ _. signed_of key place) 0 ys) zs e in
    let b = bind_ok (array_of key place a.0) (λ ds. each (λ _. integer_of key place) 0 (list_of ds) >>= λ ys. each (λ _. signed_of key place) 0 ys) zs a.2 in
    let c = bind_ok (each (λ _. integer_of key place) 0 (list_of b.0)) (λ ys. each (λ _. signed_of key place) 0 ys) zs b.2 in
    let spelled : list_of b.0 ≡ map integer c.0 = zip_spelled integer (list_of b.0) c.0 (each_ok (λ _. integer_of key place) (λ d z. d ≡ integer z) (λ _ d z h. integer_ok key place d z h) 0 (list_of b.0) c.0 c.1) in
    let same : c.0 ≡ zs = zip_same c.0 zs (each_ok (λ _. signed_of key place) (λ z y. z ≡ y) (λ _ z y h. signed_ok key place z y h) 0 c.0 zs c.2) in
    let items : b.0 ≡ items_of (map integer zs) = sym (items_of-list_of b.0) ∙ ap items_of (spelled ∙ ap (map integer) same) in
    value_ok key place t a.0 a.1 ∙ ap (λ (d : Data). Some d) (array_ok key place a.0 b.0 b.1 ∙ ap array items)

-- and the texts
pub texts_ok : (key : Key) (place : Table) (t : Members) (ss : List (List ℕ)) → texts_at key place t ≡ Ok ss → Has t key (texts ss)
unfolding texts_at texts_of
texts_ok key place t ss e =
    let a = bind_ok (value_at key place t) (λ d. array_of key place d >>= λ ds. each (λ _. text_of key place) 0 (list_of ds)) ss e in
    let b = bind_ok (array_of key place a.0) (λ ds. each (λ _. text_of key place) 0 (list_of ds)) ss a.2 in
    let spelled : list_of b.0 ≡ map string ss = zip_spelled string (list_of b.0) ss (each_ok (λ _. text_of key place) (λ d s. d ≡ string s) (λ _ d s h. text_ok key place d s h) 0 (list_of b.0) ss b.2) in
    let items : b.0 ≡ items_of (map string ss) = sym (items_of-list_of b.0) ∙ ap items_of spelled in
    value_ok key place t a.0 a.1 ∙ ap (λ (d : Data). Some d) (array_ok key place a.0 b.0 b.1 ∙ ap array items)

unsigned_of_ok : (key : Key) (place : Table) (z : ℤ) (n : ℕ) → unsigned_of key place z ≡ Ok n → z ≡ pos n
unsigned_of_ok key place (pos m) n e = ap pos ((passed (ltb m (2 ^ 32)) (OutOfLimit key place) m n e).1)
unsigned_of_ok key place (negsuc m) n e = absurd cc

pub unsigned_ok : (key : Key) (place : Table) (t : Members) (n : ℕ) → unsigned_at key place t ≡ Ok n → Has t key (number n)
unfolding unsigned_at
unsigned_ok key place t n e =
    let a = integer_at_ok key place t (λ z. unsigned_of key place z) n e in
    a.1 ∙ ap (λ (z : ℤ). Some (integer z)) (unsigned_of_ok key place a.0 n a.2)
