-- Numbers of frames by a filter, and what is kept of bytes that come.
use Rattle.std.proofs.Common.{◌≡◌, inl, inr, ℕ, ◌+◌, ◌-◌, ◌*◌, ◌/◌, ◌<◌, ◌≤◌, min, List, ◌++◌, length, drop, sym, ap, ◌∙◌, arith}
use Rattle.std.specs.Int.{div_ceil}
use Rattle.std.proofs.Math.Nat.{div-mul-le_self, mul-le-mul_right, zero-div}
use Rattle.std.proofs.lemmas.Bool.{cases_lt}
use Rattle.std.proofs.lemmas.Grind.{div_ceil_times}
use Rattle.std.proofs.lemmas.List.{drop-append-le, drop-drop, drop_all}
use Rattle.std.proofs.lemmas.Nat.{le-div}
use Rattle.fir_core.proofs.TileLaws.{below_ceil}
use Rattle.player_core.proofs.PartLaws.{less_times}
use Rattle.joined_core.proofs.BitLaws.{times_div}

pub ceil_more : (a b f : ℕ) → 1 ≤ f → a ≤ b → div_ceil a f ≤ div_ceil b f
ceil_more a b f some ordered = elim (cases_lt (div_ceil b f) (div_ceil a f)) [
  | inl turned ↦ (let below : div_ceil b f * f < a = below_ceil (div_ceil b f) a f (omega (arith, some)) turned in absurd (omega (arith, below, ordered, (div_ceil_times b f (omega (arith, some))).0)))
  | inr is ↦ is
]

pub div_more : (a b k : ℕ) → 1 ≤ k → a ≤ b → a / k ≤ b / k
div_more a b k some ordered = le-div (a / k) b k (omega (arith, some)) (omega (arith, div-mul-le_self a k, ordered))

-- whole frames without some are the frames of the rest
pub div_less : (m g n : ℕ) → 1 ≤ n → (m - g * n) / n ≡ m / n - g
div_less m g n some = elim (cases_lt m (g * n)) [
  | inl less ↦
      let none : m - g * n ≡ 0 = omega (arith, less) in
      let few : m / n ≤ g = elim (cases_lt g (m / n)) [
        | inl more ↦ (let most : g * n ≤ m / n * n = mul-le-mul_right n (omega (arith, more)) in absurd (omega (arith, most, less, div-mul-le_self m n)))
        | inr is ↦ is
      ] in
      ap (λ k. k / n) none ∙ zero-div n ∙ (let e : 0 ≡ m / n - g = omega (arith, few) in e)
  | inr more ↦
      let low : g ≤ m / n = le-div g m n (omega (arith, some)) more in
      let least : (m / n - g) * n ≤ m - g * n = omega (arith, less_times (m / n) g n, div-mul-le_self m n) in
      let up : m / n - g ≤ (m - g * n) / n = le-div (m / n - g) (m - g * n) n (omega (arith, some)) least in
      let back : ((m - g * n) / n + g) * n ≤ m = (let spread : ((m - g * n) / n + g) * n ≡ (m - g * n) / n * n + g * n = grind arith in omega (arith, spread, div-mul-le_self (m - g * n) n, more)) in
      let down : (m - g * n) / n + g ≤ m / n = le-div ((m - g * n) / n + g) m n (omega (arith, some)) back in
      omega (arith, up, down, low)
]

pub few_each : (m n k : ℕ) → m < k * n → m / n < k
few_each m n k few = elim (cases_lt (m / n) k) [
  | inl is ↦ is
  | inr most ↦ (let all : k * n ≤ m / n * n = mul-le-mul_right n most in absurd (omega (arith, all, div-mul-le_self m n, few)))
]

-- so many frames more became due
pub number_on : (a b more align : ℕ) → 1 ≤ align → a * align + more ≡ b * align → a + more / align ≡ b
number_on a b more align some is =
    let few : a ≤ b = elim (cases_lt b a) [
      | inl less ↦ (let most : (b + 1) * align ≤ a * align = mul-le-mul_right align (omega (arith, less)) in let spread : (b + 1) * align ≡ b * align + align = grind arith in absurd (omega (arith, most, spread, is, some)))
      | inr ordered ↦ ordered
    ] in
    let size : more ≡ (b - a) * align = omega (arith, is, less_times b a align) in
    let each : more / align ≡ b - a = ap (λ k. k / align) size ∙ times_div (b - a) align some in
    omega (arith, each, few)

-- ---- what is kept
pub drop_min : (k fed : ℕ) (xs : List ℕ) → fed ≡ length xs → drop (min k fed) xs ≡ drop k xs
drop_min k fed xs is = elim (cases_lt k fed) [
  | inl less ↦ (let same : min k fed ≡ k = omega (arith, less) in ap (λ m. drop m xs) same)
  | inr more ↦ drop_all (min k fed) xs (omega (arith, is, more)) ∙ sym (drop_all k xs (omega (arith, is, more)))
]

pub kept_on : (first then fed : ℕ) (before bytes tail : List ℕ) → fed ≡ length before → tail ≡ drop first before → first ≤ then → drop (then - min first fed) (tail ++ bytes) ≡ drop then (before ++ bytes)
kept_on first then fed before bytes tail fed_is is ordered =
    let m = min first fed in
    let inside : m ≤ length before = omega (arith, fed_is) in
    let place : m + (then - m) ≡ then = omega (arith, ordered) in
    ap (λ xs. drop (then - m) (xs ++ bytes)) (is ∙ sym (drop_min first fed before fed_is))
    ∙ ap (drop (then - m)) (sym (drop-append-le m before bytes inside))
    ∙ drop-drop (then - m) m (before ++ bytes)
    ∙ ap (λ k. drop k (before ++ bytes)) place
