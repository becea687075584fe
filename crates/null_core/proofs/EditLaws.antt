-- Which places are edited, by the runs of own bits.
use Rattle.std.proofs.Common.{◌≡◌, ℕ, ◌+◌, ◌-◌, ◌<◌, ◌≤◌, ◌⊎◌, min, Bool, List, length, None, Some, inl, inr, subst, arith}
use Rattle.std.proofs.lemmas.Bool.{cases_lt}
use Rattle.std.proofs.lemmas.Option.{MatchOption-at_none, MatchOption-at_some}
use Rattle.null_core.specs.declared.alone.Source.{Source}
use Rattle.null_core.specs.declared.own.OwnRun.{OwnRun}
use Rattle.null_core.specs.Own.{IsEdited, IsOwn}
use Rattle.null_core.specs.Parts.{AskedContent, PartContent, reach}
use Rattle.null_core.specs.Walks.{IsNoOnes, IsOwnFrom, IsOwnStart, IsPastOthers, IsUnedited}
use Rattle.null_core.proofs.OwnLaws.{ends_here}

module _ (a : AskedContent) (bits : List Bool) (n : ℕ) (run : OwnRun) (from_here : IsOwnFrom a.parts bits (n - reach a) (length bits) run) where
  -- its first place around is no one's
  pub edited_none : n < length bits → run.source ≡ None → IsEdited a bits n
  edited_none inside is t o around =
      let low = n - reach a in
      MatchOption-at_none (IsNoOnes a.parts bits low) (λ (s : Source). IsOwn a.parts bits s.take s.ahead low) is (from_here.same low (omega arith) from_here.some) t o (around low (omega arith) (omega arith) (omega arith))

  -- the run ends around it
  pub edited_end : (s : Source) → run.source ≡ Some s → run.until < length bits → run.until ≤ n + reach a → IsEdited a bits n
  edited_end s is inside near t o around =
      let low = n - reach a in
      ends_here a.parts bits low (length bits) low t o run s from_here is (omega arith) from_here.some inside (around low (omega arith) (omega arith) (omega (arith, from_here.some))) (around run.until (omega (arith, from_here.some)) near inside)

  -- the run goes on around a later place
  pub unedited_in : (s : Source) (k : ℕ) → run.source ≡ Some s → n ≤ k → (run.until ≡ length bits) ⊎ (k + reach a < run.until) → IsUnedited a bits k
  unedited_in s k is later far = (
    s.take,
    s.ahead,
    λ m from to inside.
        let before : m < run.until = elim far [ inl all ↦ omega arith | inr near ↦ omega arith ] in
        MatchOption-at_some (IsNoOnes a.parts bits m) (λ (x : Source). IsOwn a.parts bits x.take x.ahead m) s is (from_here.same m (omega arith) before),
  )

module _ (parts : List PartContent) (bits : List Bool) (low high : ℕ) (some : low < high) (inside : high ≤ length bits) where
  pub start_past : (past : ℕ) → IsPastOthers parts bits low high past → low < past → IsOwnStart parts bits low high past
  start_past past others lt = record {
    after = others.after;
    before = others.before;
    own = λ same. absurd (omega arith);
    other = λ _ t o own. others.other lt t o (own (past - 1) (omega arith) (omega (arith, others.before)));
  }

  module _ (run : OwnRun) (from_here : IsOwnFrom parts bits low high run) where
    pub start_none : run.source ≡ None → IsOwnStart parts bits low high (low + 1)
    start_none is = record {
      after = omega arith;
      before = omega arith;
      own = λ same. absurd (omega arith);
      other = λ _ t o own. MatchOption-at_none (IsNoOnes parts bits low) (λ (s : Source). IsOwn parts bits s.take s.ahead low) is (from_here.same low (omega arith) from_here.some) t o (own low (omega arith) some);
    }

    pub start_own : (s : Source) → run.source ≡ Some s → high ≤ run.until → IsOwnStart parts bits low high low
    start_own s is far = record {
      after = omega arith;
      before = omega arith;
      own = λ _. (s.take, s.ahead, λ k from to. MatchOption-at_some (IsNoOnes parts bits k) (λ (x : Source). IsOwn parts bits x.take x.ahead k) s is (from_here.same k from (omega arith)));
      other = λ lt. absurd (omega arith);
    }

    pub start_end : (s : Source) → run.source ≡ Some s → run.until < high → IsOwnStart parts bits low high run.until
    start_end s is near = record {
      after = omega (arith, from_here.some);
      before = omega arith;
      own = λ same. absurd (omega (arith, from_here.some, same));
      other = λ _ t o own. ends_here parts bits low high (run.until - 1) t o run s from_here is (omega (arith, from_here.some)) (omega (arith, from_here.some)) near (own (run.until - 1) (omega arith) (omega (arith, from_here.some))) (own run.until (omega arith) near);
    }

module _ (a : AskedContent) (bits : List Bool) (place high next : ℕ) (here : place < length bits) (is : high ≡ min (place + reach a + 1) (length bits)) (start : IsOwnStart a.parts bits (place - reach a) high next) where
  -- all around a place is one take's own
  pub unedited_at : next ≡ place - reach a → IsUnedited a bits place
  unedited_at same =
      let (t, o, own) = start.own same in
      (t, o, λ m from to inside. own m (omega arith) (omega arith))

  -- the places whose windows begin before `next` are edited
  pub edited_before : place - reach a < next → (n : ℕ) → place ≤ n → n < next + reach a → n < length bits → IsEdited a bits n
  edited_before lt n from to inside t o around = start.other lt t o (λ k after before. around k (omega arith) (omega arith) (omega arith))

-- one that isn't edited is after one that is
pub stops_after : (a : AskedContent) (bits : List Bool) (start place : ℕ) → start ≤ place → IsEdited a bits start → IsUnedited a bits place → start < place
stops_after a bits start place after edited (t, o, own) = elim (cases_lt start place) [
  | inl lt ↦ lt
  | inr past ↦ (let same : start ≡ place = omega arith in absurd (subst (IsEdited a bits) same edited t o own))
]
