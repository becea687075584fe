-- Numbers and taps are read exactly where a table says them.
use Rattle.std.proofs.Common.{◌≡◌, ℕ, ◌-◌, ◌%◌, ◌≤◌, ◌<◌, ◌^◌, ℤ, pos, negsuc, Bool, true, false, ◌&&◌, cond, eqb, List, length, Option, Some, None, Result, Ok, Err, refl, sym, ap, subst, ◌∙◌, arith, rules, sum_by, unsigned_abs, inl, inr, ◌⊎◌}
use Rattle.std.specs.Prelude.{nat_le, nat_lt, int_lt, ◌<ℤ◌}
use Rattle.std.specs.Option.{ok_or}
use Rattle.std.proofs.lemmas.Bool.{and_parts, eq-eqb, eqb-true, le-leb, leb-true, lt-ltb, ltb-true}
use Rattle.toml.specs.Data.{Data, integer, Members}
use Rattle.clip_core.specs.Mixes.{AreTaps, total}
use Rattle.project_core.specs.declared.key.Key.{Key}
use Rattle.project_core.specs.declared.key.Key.TheVariants as keys
use Rattle.project_core.specs.declared.key.Table.{Table}
use Rattle.project_core.specs.declared.key.Table.TheVariants as tables
use Rattle.project_core.specs.declared.fault.ProjectFault.{ProjectFault}
use Rattle.project_core.specs.declared.fault.ProjectFault.TheVariants.{OutOfLimit}
use Rattle.project_core.specs.Reading.{integer_of, integers_at, value_at}
use Rattle.project_core.specs.Tables.{Has, number, numbers}
use Rattle.project_core.proofs.TableLaws.{bind_ok, integer_ok, integers_ok, passed, value_ok}
use Rattle.project_core.proofs.TableAgain.{fits_by_sum, integers_again, value_again}
use Rattle.mix_core.specs.Reading.{are_taps, audible_at, number_at, number_of, number_or_least, taps_at, within}

-- what two readings that are the same give
pub same_value : {A : Type 0} (r : Result A ProjectFault) (x y : A) → r ≡ Ok x → r ≡ Ok y → x ≡ y
same_value r x y e f = cc

within_ok : (least bound : ℕ) (z : ℤ) (d : ProjectFault) (n : ℕ) → ok_or (within least bound z) d ≡ Ok n → (z ≡ pos n) × (least ≤ n) × (n < bound)
within_ok least bound (pos m) d n e = of_test (nat_le least m && nat_lt m bound) refl e
  where
    of_test : (b : Bool) → (nat_le least m && nat_lt m bound) ≡ b → ok_or (cond b (Some m) None) d ≡ Ok n → (pos m ≡ pos n) × (least ≤ n) × (n < bound)
    of_test true t h =
        let same : m ≡ n = cc in
        let p = and_parts (nat_le least m) (nat_lt m bound) t in
        rw (← same) (refl, leb-true least m p.0, ltb-true m bound p.1)
    of_test false t h = absurd cc
within_ok least bound (negsuc m) d n e = absurd cc

pub number_of_ok : (key : Key) (place : Table) (least bound : ℕ) (d : Data) (n : ℕ) → number_of key place least bound d ≡ Ok n → (d ≡ number n) × (least ≤ n) × (n < bound)
unfolding number_of
number_of_ok key place least bound d n e =
    let a = bind_ok (integer_of key place d) (λ z. ok_or (within least bound z) (OutOfLimit key place)) n e in
    let b = within_ok least bound a.0 (OutOfLimit key place) n a.2 in
    (integer_ok key place d a.0 a.1 ∙ ap integer b.0, b.1, b.2)

pub number_ok : (key : Key) (place : Table) (least bound : ℕ) (t : Members) (n : ℕ) → number_at key place least bound t ≡ Ok n → Has t key (number n) × (least ≤ n) × (n < bound)
unfolding number_at
number_ok key place least bound t n e =
    let a = bind_ok (value_at key place t) (number_of key place least bound) n e in
    let b = number_of_ok key place least bound a.0 n a.2 in
    (value_ok key place t a.0 a.1 ∙ ap (λ (d : Data). Some d) b.0, b.1, b.2)

pub number_or_ok : (key : Key) (place : Table) (least bound : ℕ) (o : Option Data) (n : ℕ) → least < bound → number_or_least key place least bound o ≡ Ok n → ((o ≡ Some (number n)) ⊎ ((o ≡ None) × (n ≡ least))) × (least ≤ n) × (n < bound)
number_or_ok key place least bound None n some e =
    let same : least ≡ n = cc in
    (inr (refl, sym same), omega arith, omega arith)
number_or_ok key place least bound (Some d) n some e =
    let b = number_of_ok key place least bound d n e in
    (inl (ap (λ (x : Data). Some x) b.0), b.1, b.2)

pub number_of_again : (key : Key) (place : Table) (least bound n : ℕ) → least ≤ n → n < bound → number_of key place least bound (number n) ≡ Ok n
unfolding number_of
number_of_again key place least bound n le lt = rw (le-leb least n le, lt-ltb n bound lt)

pub number_again : (key : Key) (place : Table) (least bound : ℕ) (t : Members) (n : ℕ) → Has t key (number n) → least ≤ n → n < bound → number_at key place least bound t ≡ Ok n
unfolding number_at
number_again key place least bound t n h le lt = rw (value_again key place t (number n) h) (number_of_again key place least bound n le lt)

pub number_or_again : (key : Key) (place : Table) (least bound : ℕ) (o : Option Data) (n : ℕ) → (o ≡ Some (number n)) ⊎ ((o ≡ None) × (n ≡ least)) → least ≤ n → n < bound → number_or_least key place least bound o ≡ Ok n
number_or_again key place least bound o n (inl h) le lt = rw h (number_of_again key place least bound n le lt)
number_or_again key place least bound o n (inr h) le lt = rw (h.0, h.1)

pub taps_parts : (limit : ℕ) (taps : List ℤ) → are_taps limit taps ≡ true → AreTaps limit taps
taps_parts limit taps h =
    let p = and_parts (eqb (length taps % 2) 1 && nat_le (length taps) 65535) (nat_le (sum_by unsigned_abs taps) limit) h in
    let q = and_parts (eqb (length taps % 2) 1) (nat_le (length taps) 65535) p.0 in
    record { odd = eqb-true (length taps % 2) 1 q.0; few = leb-true (length taps) 65535 q.1; small_sum = leb-true (sum_by unsigned_abs taps) limit p.1 }

pub taps_kept : (limit : ℕ) (taps : List ℤ) → AreTaps limit taps → are_taps limit taps ≡ true
taps_kept limit taps h = rw (eq-eqb (length taps % 2) 1 h.odd, le-leb (length taps) 65535 h.few, le-leb (sum_by unsigned_abs taps) limit h.small_sum)

pub taps_ok : (key : Key) (place : Table) (limit : ℕ) (t : Members) (taps : List ℤ) → taps_at key place limit t ≡ Ok taps → Has t key (numbers taps) × AreTaps limit taps
unfolding taps_at
taps_ok key place limit t taps e =
    let a = bind_ok (integers_at key place t) (λ zs. cond (are_taps limit zs) (Ok zs) (Err (OutOfLimit key place))) taps e in
    let b = passed (are_taps limit a.0) (OutOfLimit key place) a.0 taps a.2 in
    subst (λ (xs : List ℤ). Has t key (numbers xs) × AreTaps limit xs) b.1 (integers_ok key place t a.0 a.1, taps_parts limit a.0 b.0)

pub taps_again : (key : Key) (place : Table) (limit : ℕ) (t : Members) (taps : List ℤ) → Has t key (numbers taps) → AreTaps limit taps → limit < 2 ^ 31 → taps_at key place limit t ≡ Ok taps
unfolding taps_at
taps_again key place limit t taps h fit few =
    let small : sum_by unsigned_abs taps < 2 ^ 31 = omega (arith, fit.small_sum) in
    rw (integers_again key place t taps h (fits_by_sum taps small), taps_kept limit taps fit)

above : (z : ℤ) → int_lt (pos 0) z ≡ true → pos 0 <ℤ z
above z h = search (rules, h)

above_again : (z : ℤ) → pos 0 <ℤ z → int_lt (pos 0) z ≡ true
above_again z h = search (rules, h)

pub audible_ok : (t : Members) (taps : List ℤ) → audible_at t ≡ Ok taps → Has t keys.Audible (numbers taps) × AreTaps (2 ^ 31 - 1) taps × (pos 0 <ℤ total taps)
unfolding audible_at
audible_ok t taps e =
    let a = bind_ok (taps_at keys.Audible tables.Mix (2 ^ 31 - 1) t) (λ zs. cond (int_lt (pos 0) (total zs)) (Ok zs) (Err (OutOfLimit keys.Audible tables.Mix))) taps e in
    let b = passed (int_lt (pos 0) (total a.0)) (OutOfLimit keys.Audible tables.Mix) a.0 taps a.2 in
    let c = taps_ok keys.Audible tables.Mix (2 ^ 31 - 1) t a.0 a.1 in
    subst (λ (xs : List ℤ). Has t keys.Audible (numbers xs) × AreTaps (2 ^ 31 - 1) xs × (pos 0 <ℤ total xs)) b.1 (c.0, c.1, above (total a.0) b.0)

pub audible_again : (t : Members) (taps : List ℤ) → Has t keys.Audible (numbers taps) → AreTaps (2 ^ 31 - 1) taps → pos 0 <ℤ total taps → audible_at t ≡ Ok taps
unfolding audible_at
audible_again t taps h fit some = rw (taps_again keys.Audible tables.Mix (2 ^ 31 - 1) t taps h fit (omega arith), above_again (total taps) some)
