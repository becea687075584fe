-- Decisions in bytes, and the way back by them.
use Rattle.std.proofs.Common.{◌≡◌, ℕ, ◌+◌, ◌*◌, ◌/◌, ◌%◌, ◌<◌, ◌≤◌, ◌≢◌, Bool, true, false, cond, List, ◌++◌, length, get_or, refl, sym, ap, ◌∙◌, inl, inr, arith}
use Rattle.std.specs.Int.{bit_at}
use Rattle.std.proofs.lemmas.Bool.{cases_Bool, cases_lt}
use Rattle.std.proofs.lemmas.List.{length-append, get_or_append_left, get_or-append-add}
use Rattle.std.proofs.Math.Nat.{mul-le-mul_right}
use Rattle.cost_core.specs.Trellis.{Trellis, states, digit}
use Rattle.trellis_core.specs.Best.{before}
use Rattle.trellis_core.specs.Decisions.{decision, decision_bytes, AreDecisions, AreAllDecisions}
use Rattle.cost_core.proofs.StepRows.{high_is}

pub cond_digit : (b : Bool) → cond b 1 0 ≡ digit b
cond_digit true = refl
cond_digit false = refl

-- the byte of a state is in its level's part
pub byte_in : (n q : ℕ) → q < n → q / 8 < decision_bytes n
byte_in n q h = omega arith

pub part_in : (level levels size k : ℕ) → level < levels → k < size → level * size + k < levels * size
part_in level levels size k h i =
    let m : (level + 1) * size ≤ levels * size = mul-le-mul_right size (omega arith) in
    let e : (level + 1) * size ≡ level * size + size = omega arith in
    omega arith

module _ (t : Trellis) where
  -- the decisions of one level more
  pub one_more : (n : ℕ) (bytes row : List ℕ) → AreAllDecisions t n bytes → length row ≡ decision_bytes (states t) → AreDecisions t n row → AreAllDecisions t (n + 1) (bytes ++ row)
  one_more n bytes row so_far long are =
      let size = decision_bytes (states t) in
      let e : (n + 1) * size ≡ n * size + size = omega arith in
      record {
        long = length-append bytes row ∙ omega (arith, so_far.long);
        each = λ level q h i. elim (cases_lt level n) [
          | inl below ↦
              let inside = part_in level n size (q / 8) below (byte_in (states t) q i) in
              ap (λ b. bit_at b (q % 8)) (get_or_append_left bytes row 0 (level * size + q / 8) (omega (arith, so_far.long))) ∙ so_far.each level q below i
          | inr above ↦
              let same : level ≡ n = omega arith in
              let at : level * size ≡ length bytes = ap (λ k. k * size) same ∙ sym so_far.long in
              ap (λ k. bit_at (get_or (bytes ++ row) (k + q / 8) 0) (q % 8)) at
              ∙ ap (λ b. bit_at b (q % 8)) (get_or-append-add bytes row (q / 8) 0) ∙ are q i ∙ ap (λ k. digit (decision t k q)) (sym same)
        ];
      }

  pub before_high : 0 < t.width → (i q n b : ℕ) → n ≡ states t → b ≡ digit (decision t i q) → b ≡ 1 → q / 2 + n / 2 ≡ before t i q
  unfolding before
  before_high some i q n b en e one =
      elim (cases_Bool (decision t i q)) [
        | inl d ↦ rw d (high_is t some q n en)
        | inr d ↦ let z = e ∙ ap digit d in absurd (omega arith)
      ]

  pub before_low : (i q b : ℕ) → b ≡ digit (decision t i q) → b ≢ 1 → q / 2 ≡ before t i q
  unfolding before
  before_low i q b e other =
      elim (cases_Bool (decision t i q)) [
        | inl d ↦ absurd (other (e ∙ ap digit d))
        | inr d ↦ rw d refl
      ]
