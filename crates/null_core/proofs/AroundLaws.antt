-- The errors that windows read.
use Rattle.std.proofs.Common.{◌≡◌, ℕ, ◌+◌, ◌-◌, ◌<◌, ◌≤◌, min, inl, inr, ℤ, pos, negsuc, ◌-ℤ◌, Bool, List, [], ◌++◌, length, get_or, take, replicate, Option, None, Some, sym, ap, subst, ◌∙◌, arith}
use Rattle.std.proofs.lemmas.Bool.{cases_lt}
use Rattle.std.proofs.lemmas.Int.{ints}
use Rattle.std.proofs.lemmas.List.{get_or-append_right, get_or-replicate, get_or-take, get_or_append_left, get_or_past, length-append, length-replicate, length-take, take_all}
use Rattle.std.proofs.lemmas.List.FromFn.{fill_by_all, get_or-map-range_with_len, length-map-range_with_len}
use Rattle.heard_core.specs.Residuals.{at_place}
use Rattle.null_core.specs.Chunks.{IsLoudAround, ListsErrors, errors_around}
use Rattle.null_core.specs.Errors.{error_at, errors, errors_from}
use Rattle.null_core.specs.Judging.{AppendErrors, IsLoudIn}
use Rattle.null_core.specs.Parts.{AskedContent, reach}

abbrev no_errors : List ℤ
no_errors = []

-- ---- what is at a place

pub at_inside : (xs : List ℤ) (x y z : ℕ) → z + y ≡ x → at_place xs (pos x -ℤ pos y) ≡ get_or xs z (pos 0)
at_inside xs x y z e = let same : pos x -ℤ pos y ≡ pos z = omega (arith, ints, e) in ap (at_place xs) same

pub at_before : (xs : List ℤ) (x y : ℕ) → x < y → at_place xs (pos x -ℤ pos y) ≡ pos 0
at_before xs x y lt = let same : pos x -ℤ pos y ≡ negsuc (y - x - 1) = omega (arith, ints, lt) in ap (at_place xs) same

-- ---- zeros, errors and zeros

resized : (xs : List ℤ) (number k : ℕ) → k < number → get_or (take number xs ++ replicate (number - length xs) (pos 0)) k (pos 0) ≡ get_or xs k (pos 0)
resized xs number k lt = elim (cases_lt k (length xs)) [
  | inl inner ↦ get_or_append_left (take number xs) (replicate (number - length xs) (pos 0)) (pos 0) k (omega (arith, inner, lt, length-take number xs)) ∙ get_or-take number xs k (pos 0) lt
  | inr past ↦ get_or-append_right (take number xs) (replicate (number - length xs) (pos 0)) (length xs) k (pos 0) (omega (arith, length-take number xs, past, lt)) past ∙ get_or-replicate (number - length xs) (k - length xs) (pos 0) (pos 0) (omega (arith, past, lt)) ∙ sym (get_or_past xs k (pos 0) past)
]

length_resized : (xs : List ℤ) (number : ℕ) → length (take number xs ++ replicate (number - length xs) (pos 0)) ≡ number
length_resized xs number = omega (arith, length-append (take number xs) (replicate (number - length xs) (pos 0)), length-take number xs, length-replicate (number - length xs) (pos 0))

module _ (a : AskedContent) (bits : List Bool) (first number : ℕ) (inside : first ≤ length bits) where
  abbrev start : ℕ
  start = first - reach a

  abbrev stop : ℕ
  stop = min (first + number - reach a) (length bits)

  abbrev zeros : List ℤ
  zeros = replicate (reach a - first) (pos 0)

  abbrev inner : List ℤ
  inner = errors_from a bits start (stop - start)

  abbrev at_of : ℕ → ℤ
  at_of j = at_place (errors a bits) (pos (first + j) -ℤ pos (reach a))

  long : length zeros ≡ reach a - first
  long = length-replicate (reach a - first) (pos 0)

  -- an error of the master
  is_inner : (k j : ℕ) → k < number → reach a - first ≤ k → j + reach a ≡ first + k → get_or inner (k - (reach a - first)) (pos 0) ≡ at_of k
  is_inner k j lt le e = elim (cases_lt j stop) [
    | inl in' ↦ get_or-map-range_with_len (error_at a bits) start (stop - start) (k - (reach a - first)) j (pos 0) (omega (arith, in', le, e)) (omega (arith, le, e)) ∙ sym (at_inside (errors a bits) (first + k) (reach a) j e ∙ get_or-map-range_with_len (error_at a bits) 0 (length bits) j j (pos 0) (omega (arith, in')) (omega arith))
    | inr past ↦ get_or_past inner (k - (reach a - first)) (pos 0) (omega (arith, length-map-range_with_len (error_at a bits) start (stop - start), past, le, e)) ∙ sym (at_inside (errors a bits) (first + k) (reach a) j e ∙ get_or_past (errors a bits) j (pos 0) (omega (arith, length-map-range_with_len (error_at a bits) 0 (length bits), past, lt, e)))
  ]

  is_around : (k : ℕ) → k < number → get_or (zeros ++ inner) k (pos 0) ≡ at_of k
  is_around k lt = elim (cases_lt k (reach a - first)) [
    | inl low ↦ get_or_append_left zeros inner (pos 0) k (omega (arith, long, low)) ∙ get_or-replicate (reach a - first) k (pos 0) (pos 0) low ∙ sym (at_before (errors a bits) (first + k) (reach a) (omega (arith, low)))
    | inr high ↦ get_or-append_right zeros inner (reach a - first) k (pos 0) long high ∙ is_inner k (first + k - reach a) lt high (omega (arith, high))
  ]

  listed : (new : List ℤ) → new ≡ take number (zeros ++ inner) ++ replicate (number - length (zeros ++ inner)) (pos 0) → new ≡ errors_around a bits first number
  listed new is = is ∙ fill_by_all at_of (take number (zeros ++ inner) ++ replicate (number - length (zeros ++ inner)) (pos 0)) number (pos 0) (length_resized (zeros ++ inner) number) (λ k lt. resized (zeros ++ inner) number k lt ∙ is_around k lt)

  around_in : (m : ℕ) → IsLoudAround a bits first number m → IsLoudIn a bits start stop m
  around_in m around = record { after = omega (arith, around.after); before = omega (arith, around.before, around.inside); loud = around.loud }

  in_around : (m : ℕ) → IsLoudIn a bits start stop m → IsLoudAround a bits first number m
  in_around m in' = record { inside = omega (arith, in'.before); after = omega (arith, in'.after); before = omega (arith, in'.before); loud = in'.loud }

  listed_by : (old mid new : List ℤ) (loud : Option ℕ) → old ≡ zeros → AppendErrors a bits start stop old mid loud → new ≡ take number mid ++ replicate (number - length mid) (pos 0) → ListsErrors a bits first number new loud
  listed_by old mid new None was appended is =
      let all : mid ≡ zeros ++ inner = appended.0 ∙ ap (λ xs. xs ++ inner) was in
      (listed new (is ∙ ap (λ xs. take number xs ++ replicate (number - length xs) (pos 0)) all), λ m around. appended.1 m (around_in m around))
  listed_by old mid new (Some place) was first_one is = record {
    here = in_around place first_one.here;
    before = λ m sooner around. first_one.before m sooner (around_in m around);
  }

  pub lists_errors : (old mid new : List ℤ) (from to size : ℕ) (loud : Option ℕ) → from ≡ start → to ≡ stop → old ≡ zeros → AppendErrors a bits from to old mid loud → size ≡ length mid → new ≡ take number mid ++ replicate (number - size) (pos 0) → ListsErrors a bits first number new loud
  lists_errors old mid new from to size loud at_start at_stop was appended long' is =
      let from_start = subst (λ k. AppendErrors a bits k to old mid loud) at_start appended in
      listed_by old mid new loud was (subst (λ k. AppendErrors a bits start k old mid loud) at_stop from_start) (is ∙ ap (λ k. take number mid ++ replicate (number - k) (pos 0)) long')

take_none : (n : ℕ) → take n no_errors ≡ []
take_none n = take_all n no_errors (omega arith)

-- zeros alone
pub only_zeros : (xs ys : List ℤ) (m n size : ℕ) → m ≡ n → xs ≡ [] → size ≡ length xs → ys ≡ take m xs ++ replicate (m - size) (pos 0) → ys ≡ replicate n (pos 0)
only_zeros xs ys m n size same none long is =
    let no_size : m - size ≡ n = omega (arith, same, long, ap length none) in
    is ∙ ap (λ zs. take m zs ++ replicate (m - size) (pos 0)) none ∙ ap (λ zs. zs ++ replicate (m - size) (pos 0)) (take_none m) ∙ ap (λ k. replicate k (pos 0)) no_size
