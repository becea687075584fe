-- Multiples of a number.
use Rattle.std.proofs.Common.{◌≡◌, ℕ, ◌+◌, ◌-◌, ◌*◌, ◌/◌, ◌%◌, ◌<◌, ◌≤◌, inl, inr, ap, subst, ◌∙◌, arith}
use Rattle.std.proofs.lemmas.Bool.{cases_lt}
use Rattle.std.proofs.lemmas.Nat.{div-add-mod', div-mul-add}
use Rattle.std.proofs.Math.Nat.{add-mul-mod_self_right, mul-le-mul_right}

-- a multiple of e, and some e more
pub due_more : (e n k : ℕ) → n % e ≡ 0 → (n + k * e) % e ≡ 0
due_more e n k due = add-mul-mod_self_right n k e ∙ due

pub due_once : (e n : ℕ) → n % e ≡ 0 → (n + e) % e ≡ 0
due_once e n due = subst (λ k. (n + k) % e ≡ 0) {x = 1 * e} {y = e} (omega arith) (due_more e n 1 due)

-- from one multiple of e to another it is some e
pub due_steps : (e n m : ℕ) → 1 ≤ e → n % e ≡ 0 → m % e ≡ 0 → n ≤ m → n + (m - n) / e * e ≡ m
due_steps e n m some due due' le =
    let q = n / e in
    let r = m / e in
    let at : q * e + n % e ≡ n = div-add-mod' n e in
    let at' : r * e + m % e ≡ m = div-add-mod' m e in
    elim (cases_lt r q) [
      | inl less ↦ absurd (omega (arith, mul-le-mul_right e less, at, at', due, due', le, some))
      | inr more ↦
          let k = r - q in
          let sum : (k + q) * e ≡ r * e = ap (λ x. x * e) {x = k + q} {y = r} (omega (arith, more)) in
          let apart : m - n ≡ k * e + 0 = omega (arith, sum, at, at', due, due') in
          let steps : (m - n) / e ≡ k = ap (λ x. x / e) apart ∙ div-mul-add k e 0 some in
          ap (λ x. n + x * e) steps ∙ omega (arith, sum, at, at', due, due')
    ]

-- the next multiple of e is e more
pub due_next : (e n m : ℕ) → 1 ≤ e → n % e ≡ 0 → m % e ≡ 0 → n < m → n + e ≤ m
due_next e n m some due due' lt =
    let steps = due_steps e n m some due due' (omega (arith, lt)) in
    elim (cases_lt 0 ((m - n) / e)) [
      | inl more ↦ omega (arith, steps, mul-le-mul_right e more)
      | inr none ↦ absurd (omega (arith, lt, steps, mul-le-mul_right e none))
    ]
