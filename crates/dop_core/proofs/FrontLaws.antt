-- The chunks of a file that begins with some bytes, or ends with some.
use Rattle.std.proofs.Common.{◌≡◌, ℕ, zero, suc, ◌+◌, ◌%◌, ◌&&◌, ◌||◌, ◌<◌, ◌≤◌, ◌⊎◌, inl, inr, cond, eqb, ltb, Bool, true, false, List, ◌++◌, take, drop, length, Option, None, Some, refl, sym, ap, subst, ◌∙◌, length-append, arith}
use Rattle.std.proofs.lemmas.Bool.{cases_lt, le-ltb, lt-ltb, ltb-false}
use Rattle.std.proofs.lemmas.List.{drop-append-le, drop-drop, drop_at, length-drop, take-append-le}
use Rattle.byteorder.specs.Endian.{little_number}
use Rattle.byteorder.specs.Numbers.{little_from-take}
use Rattle.chunk_core.proofs.Steps.{chosen}
use Rattle.chunk_core.specs.declared.numbers.Order.TheVariants.{Little}
use Rattle.chunk_core.specs.Numbers.{id_at, number_at}
use Rattle.dsd_bits.specs.Ids.{same_id}
use Rattle.dop_core.specs.Fields.{FMT, chunk_for, chunk_from, has_integers, is_integer, is_pcm_24, next_of, size_at}
use Rattle.dop_core.specs.Markers.{plus}
use Rattle.dop_core.specs.Reading.{checked, count_by, format_of}
use Rattle.dop_core.proofs.ChunkLaws.{found_inside, none_left, passed}

-- ---- fields of the first bytes

pub id_in : (at : ℕ) (front rest : List ℕ) → at + 4 ≤ length front → id_at (front ++ rest) at ≡ id_at front at
id_in at front rest h =
    ap (take 4) (drop-append-le at front rest (omega arith)) ∙ take-append-le 4 (drop at front) rest (omega (arith, length-drop at front))

pub number_in : (n at : ℕ) (front rest : List ℕ) → at + n ≤ length front → number_at Little n (front ++ rest) at ≡ number_at Little n front at
number_in n at front rest h =
    let here : List ℕ = drop at front in
    let inside : n ≤ length here = omega (arith, length-drop at front) in
    ap (little_number n) (drop-append-le at front rest (omega arith))
    ∙ sym (little_from-take 0 n n (here ++ rest) (omega arith))
    ∙ ap (little_number n) (take-append-le n here rest inside)
    ∙ little_from-take 0 n n here (omega arith)

pub size_in : (at : ℕ) (front rest : List ℕ) → at + 8 ≤ length front → size_at (front ++ rest) at ≡ size_at front at
size_in at front rest h = number_in 4 (at + 4) front rest (omega arith)

pub next_in : (at : ℕ) (front rest : List ℕ) → at + 8 ≤ length front → next_of (front ++ rest) at ≡ next_of front at
next_in at front rest h = ap (λ (n : ℕ). at + 8 + n + n % 2) (size_in at front rest h)

-- ---- chunks of the first bytes

-- a chunk is found at or after the place that the search begins at
pub found_after : (id file : List ℕ) (steps at k : ℕ) → chunk_for steps id file at ≡ Some k → at ≤ k
unfolding chunk_for
found_after id file zero at k e = absurd cc
found_after id file (suc steps) at k e = elim (chosen {A = Option ℕ} (ltb (length file) (at + 8)) None (cond (same_id (id_at file at) id) (Some at) (chunk_for steps id file (next_of file at))) (Some k) e) [
  | inl (ends, none) ↦ absurd cc
  | inr (inside, rest) ↦ elim (chosen {A = Option ℕ} (same_id (id_at file at) id) (Some at) (chunk_for steps id file (next_of file at)) (Some k) rest) [
    | inl (same, is) ↦ (let one : at ≡ k = cc (is) in omega (arith, one))
    | inr (other, later) ↦ omega (arith, found_after id file steps (next_of file at) k later)
  ]
]

-- how a search of some steps went
record Goes (id file : List ℕ) (steps at k : ℕ) : Type 0 where
  inside : at + 8 ≤ length file
  here : same_id (id_at file at) id ≡ true → at ≡ k
  later : same_id (id_at file at) id ≡ false → chunk_for steps id file (next_of file at) ≡ Some k

goes : (id file : List ℕ) (steps at k : ℕ) → chunk_for (suc steps) id file at ≡ Some k → Goes id file steps at k
unfolding chunk_for
goes id file steps at k e = elim (chosen {A = Option ℕ} (ltb (length file) (at + 8)) None (cond (same_id (id_at file at) id) (Some at) (chunk_for steps id file (next_of file at))) (Some k) e) [
  | inl (ends, none) ↦ absurd cc
  | inr (inside, rest) ↦ record {
    inside = ltb-false _ _ inside;
    here = λ same. (let is : Some at ≡ Some k = subst (λ (b : Bool). cond b (Some at) (chunk_for steps id file (next_of file at)) ≡ Some k) same rest in cc);
    later = λ other. subst (λ (b : Bool). cond b (Some at) (chunk_for steps id file (next_of file at)) ≡ Some k) other rest;
  }
]

is_same : (b : Bool) → (b ≡ true) ⊎ (b ≡ false)
is_same true = inl refl
is_same false = inr refl

-- a search goes the same way in two files which agree about the chunk at a place
pub found_on : (id front rest : List ℕ) (steps more at k : ℕ) → steps ≤ more → chunk_for steps id front at ≡ Some k → chunk_for more id (front ++ rest) at ≡ Some k
unfolding chunk_for
found_on id front rest zero more at k less e = absurd cc
found_on id front rest (suc steps) zero at k less e = absurd (omega (arith, less))
found_on id front rest (suc steps) (suc more) at k less e =
    let g = goes id front steps at k e in
    let inside : at + 8 ≤ length (front ++ rest) = omega (arith, g.inside, length-append front rest) in
    let same : same_id (id_at (front ++ rest) at) id ≡ same_id (id_at front at) id = ap (λ xs. same_id xs id) (id_in at front rest (omega (arith, g.inside))) in
    elim (is_same (same_id (id_at front at) id)) [
      | inl holds ↦ rw (le-ltb (length (front ++ rest)) (at + 8) inside, same ∙ holds) (ap (λ (n : ℕ). Some n) (g.here holds))
      | inr fails ↦ passed id (front ++ rest) at more inside (same ∙ fails) ∙ ap (chunk_for more id (front ++ rest)) (next_in at front rest g.inside) ∙ found_on id front rest steps more (next_of front at) k (omega (arith, less)) (g.later fails)
    ]

pub found_back : (id front rest : List ℕ) (steps at k : ℕ) → chunk_for steps id (front ++ rest) at ≡ Some k → k + 8 ≤ length front → chunk_for steps id front at ≡ Some k
unfolding chunk_for
found_back id front rest zero at k e within = absurd cc
found_back id front rest (suc steps) at k e within =
    let g = goes id (front ++ rest) steps at k e in
    let inside : at + 8 ≤ length front = omega (arith, within, found_after id (front ++ rest) (suc steps) at k e) in
    let same : same_id (id_at (front ++ rest) at) id ≡ same_id (id_at front at) id = ap (λ xs. same_id xs id) (id_in at front rest (omega (arith, inside))) in
    elim (is_same (same_id (id_at front at) id)) [
      | inl holds ↦ rw (le-ltb (length front) (at + 8) inside, holds) (ap (λ (n : ℕ). Some n) (g.here (same ∙ holds)))
      | inr fails ↦ passed id front at steps inside fails ∙ found_back id front rest steps (next_of front at) k (ap (chunk_for steps id (front ++ rest)) (sym (next_in at front rest inside)) ∙ g.later (same ∙ fails)) within
    ]

-- more steps than there are bytes find nothing more
pub enough : (id file : List ℕ) (s t at : ℕ) → length file ≤ at + s → length file ≤ at + t → chunk_for s id file at ≡ chunk_for t id file at
unfolding chunk_for
enough id file zero t at one two = refl ∙ sym (none_left id file at t (omega (arith, one)))
enough id file (suc s) zero at one two = none_left id file at (suc s) (omega (arith, two))
enough id file (suc s) (suc t) at one two = elim (cases_lt (length file) (at + 8)) [
  | inl less ↦ none_left id file at (suc s) less ∙ sym (none_left id file at (suc t) less)
  | inr inside ↦ elim (is_same (same_id (id_at file at) id)) [
    | inl holds ↦ rw (le-ltb (length file) (at + 8) inside, holds) refl
    | inr fails ↦ passed id file at s inside fails ∙ enough id file s t (next_of file at) (omega (arith, one)) (omega (arith, two)) ∙ sym (passed id file at t inside fails)
  ]
]

-- ---- the format chunk of a file that begins with all up to its first sample

found_of : (id front rest : List ℕ) (at k : ℕ) → chunk_from id front at ≡ Some k → chunk_from id (front ++ rest) at ≡ Some k
found_of id front rest at k e = found_on id front rest (length front) (length (front ++ rest)) at k (omega (arith, length-append front rest)) e

none_of : (id front rest : List ℕ) (at k : ℕ) → chunk_from id front at ≡ None → chunk_from id (front ++ rest) at ≡ Some k → length front < k + 8
none_of id front rest at k none e = elim (cases_lt (length front) (k + 8)) [
  | inl less ↦ less
  | inr within ↦
      let more = found_back id front rest (length (front ++ rest)) at k e within in
      let same = enough id front (length (front ++ rest)) (length front) at (omega (arith, length-append front rest)) (omega arith) in
      let both : Some k ≡ None = sym more ∙ same ∙ none in
      absurd cc
]

option_cases : (o : Option ℕ) → (o ≡ None) ⊎ ((k : ℕ) × (o ≡ Some k))
option_cases None = inl refl
option_cases (Some k) = inr (k, refl)

pub format_in : (front rest : List ℕ) (d : ℕ) → length front ≡ d + 8 → format_of (front ++ rest) d ≡ format_of front d
unfolding format_of
format_in front rest d long = elim (option_cases (chunk_from FMT front 12)) [
  | inl none ↦ elim (option_cases (chunk_from FMT (front ++ rest) 12)) [
    | inl nowhere ↦ rw (none, nowhere) refl
    | inr (k, is) ↦
        let far : d < next_of (front ++ rest) k = omega (arith, none_of FMT front rest 12 k none is, long) in
        rw (none, is, lt-ltb d (next_of (front ++ rest) k) far) refl
  ]
  | inr (k, is) ↦
      let inside : k + 8 ≤ length front = found_inside FMT front (length front) 12 k is in
      rw (is, found_of FMT front rest 12 k is, next_in k front rest inside, size_in k front rest inside) refl
]

-- ---- the fields of a format chunk

integer_in : (front rest : List ℕ) (f : ℕ) → f + 48 ≤ length front → is_integer (front ++ rest) f ≡ is_integer front f
unfolding is_integer
integer_in front rest f h = rw (id_in (f + 32) front rest (omega arith), id_in (f + 36) front rest (omega arith), id_in (f + 40) front rest (omega arith), id_in (f + 44) front rest (omega arith)) refl

-- a test that fails in the middle
dead : (a x y : Bool) → (a && false && x && y) ≡ false
dead true x y = refl
dead false x y = refl

integers_in : (front rest : List ℕ) (f : ℕ) → 16 ≤ size_at front f → f + 8 + size_at front f ≤ length front → has_integers (front ++ rest) f ≡ has_integers front f
unfolding has_integers
integers_in front rest f long inside = elim (cases_lt (size_at front f) 40) [
  | inl short ↦ rw (number_in 2 (f + 8) front rest (omega (arith, long, inside)), size_in f front rest (omega (arith, inside)), lt-ltb (size_at front f) 40 short) (ap (λ (b : Bool). eqb (number_at Little 2 front (f + 8)) 1 || b) (dead _ _ _ ∙ sym (dead _ _ _)))
  | inr all ↦ rw (number_in 2 (f + 8) front rest (omega (arith, long, inside)), size_in f front rest (omega (arith, inside)), number_in 2 (f + 26) front rest (omega (arith, all, inside)), integer_in front rest f (omega (arith, all, inside))) refl
]

pub checked_in : (front rest : List ℕ) (f : ℕ) → 16 ≤ size_at front f → f + 8 + size_at front f ≤ length front → checked (front ++ rest) f ≡ checked front f
unfolding checked is_pcm_24
checked_in front rest f long inside =
    rw (number_in 2 (f + 10) front rest (omega (arith, long, inside)), number_in 4 (f + 12) front rest (omega (arith, long, inside)), number_in 2 (f + 20) front rest (omega (arith, long, inside)), number_in 2 (f + 22) front rest (omega (arith, long, inside)), integers_in front rest f long inside) refl

-- ---- chunks of the last bytes

pub drop_on : (a b : List ℕ) (k : ℕ) → drop (length a + k) (a ++ b) ≡ drop k b
drop_on a b k = sym (drop-drop k (length a) (a ++ b)) ∙ ap (drop k) (drop_at a b (length a) refl)

size_on : (a b : List ℕ) (k : ℕ) → size_at (a ++ b) (length a + k) ≡ size_at b k
size_on a b k = let at : length a + k + 4 ≡ length a + (k + 4) = omega arith in ap (λ (n : ℕ). number_at Little 4 (a ++ b) n) at ∙ ap (little_number 4) (drop_on a b (k + 4))

next_on : (a b : List ℕ) (k : ℕ) → next_of (a ++ b) (length a + k) ≡ length a + next_of b k
next_on a b k = ap (λ (n : ℕ). length a + k + 8 + n + n % 2) (size_on a b k) ∙ omega arith

pub chunk_on : (id a b : List ℕ) (steps k : ℕ) → chunk_for steps id (a ++ b) (length a + k) ≡ plus (length a) (chunk_for steps id b k)
unfolding chunk_for
chunk_on id a b zero k = refl
chunk_on id a b (suc steps) k = elim (cases_lt (length b) (k + 8)) [
  | inl less ↦ none_left id (a ++ b) (length a + k) (suc steps) (omega (arith, less, length-append a b)) ∙ ap (plus (length a)) (sym (none_left id b k (suc steps) less))
  | inr inside ↦
      let in_file : length a + k + 8 ≤ length (a ++ b) = omega (arith, inside, length-append a b) in
      let same : same_id (id_at (a ++ b) (length a + k)) id ≡ same_id (id_at b k) id = ap (λ (xs : List ℕ). same_id (take 4 xs) id) (drop_on a b k) in
      elim (is_same (same_id (id_at b k) id)) [
        | inl holds ↦ rw (le-ltb (length (a ++ b)) (length a + k + 8) in_file, same ∙ holds, le-ltb (length b) (k + 8) inside, holds) refl
        | inr fails ↦ passed id (a ++ b) (length a + k) steps in_file (same ∙ fails) ∙ ap (chunk_for steps id (a ++ b)) (next_on a b k) ∙ chunk_on id a b steps (next_of b k) ∙ ap (plus (length a)) (sym (passed id b k steps inside fails))
      ]
]

pub count_on : (a b : List ℕ) (frames : ℕ) (o : Option ℕ) → count_by (a ++ b) frames (plus (length a) o) ≡ count_by b frames o
unfolding count_by
count_on a b frames None = refl
count_on a b frames (Some k) =
    let at : length a + k + 8 ≡ length a + (k + 8) = omega arith in
    let number : number_at Little 8 (a ++ b) (length a + k + 8) ≡ number_at Little 8 b (k + 8) = ap (λ (n : ℕ). number_at Little 8 (a ++ b) n) at ∙ ap (little_number 8) (drop_on a b (k + 8)) in
    let ends : ltb (length (a ++ b)) (length a + k + 16) ≡ ltb (length b) (k + 16) = same_test (length (a ++ b)) (length a + k + 16) (length b) (k + 16) (length a) (length-append a b) (omega arith) in
    rw (size_on a b k, ends, number) refl
  where
    same_test : (x y u v n : ℕ) → x ≡ n + u → y ≡ n + v → ltb x y ≡ ltb u v
    same_test x y u v n e f = elim (cases_lt u v) [
      | inl less ↦ lt-ltb x y (omega (arith, less, e, f)) ∙ sym (lt-ltb u v less)
      | inr more ↦ le-ltb x y (omega (arith, more, e, f)) ∙ sym (le-ltb u v more)
    ]
