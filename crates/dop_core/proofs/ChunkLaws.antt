-- Going from chunk to chunk.
use Rattle.std.proofs.Common.{◌≡◌, ℕ, zero, suc, ◌+◌, ◌<◌, ◌≤◌, inl, inr, cond, ltb, true, false, List, length, Option, None, Some, refl, sym, ◌∙◌, arith}
use Rattle.std.proofs.lemmas.Bool.{le-ltb, lt-ltb, ltb-false}
use Rattle.chunk_core.proofs.Steps.{chosen}
use Rattle.chunk_core.specs.Numbers.{id_at}
use Rattle.dsd_bits.specs.Ids.{same_id}
use Rattle.dop_core.specs.Fields.{chunk_for, chunk_from, next_of}

-- what a loop keeps: the chunk that is left to find is that which was to be found
pub record IsWalking (id file : List ℕ) (start at : ℕ) : Type 0 where
  pub steps : ℕ
  pub enough : length file ≤ at + steps
  pub same : chunk_for steps id file at ≡ chunk_from id file start
  pub after : start ≤ at

module _ (id file : List ℕ) (at : ℕ) where
  pub none_left : (steps : ℕ) → length file < at + 8 → chunk_for steps id file at ≡ None
  unfolding chunk_for
  none_left zero less = refl
  none_left (suc steps) less = rw (lt-ltb (length file) (at + 8) less) refl

  pub found_here : (steps : ℕ) → at + 8 ≤ length file → length file ≤ at + steps → same_id (id_at file at) id ≡ true → chunk_for steps id file at ≡ Some at
  unfolding chunk_for
  found_here zero inside enough same = absurd (omega (arith, inside, enough))
  found_here (suc steps) inside enough same = rw (le-ltb (length file) (at + 8) inside, same) refl

  pub passed : (steps : ℕ) → at + 8 ≤ length file → same_id (id_at file at) id ≡ false → chunk_for (suc steps) id file at ≡ chunk_for steps id file (next_of file at)
  unfolding chunk_for
  passed steps inside other = rw (le-ltb (length file) (at + 8) inside, other) refl

  module _ (start : ℕ) where
    pub walk_ends : IsWalking id file start at → length file < at + 8 → None ≡ chunk_from id file start
    walk_ends w less = sym (none_left w.steps less) ∙ w.same

    pub walk_finds : IsWalking id file start at → at + 8 ≤ length file → same_id (id_at file at) id ≡ true → Some at ≡ chunk_from id file start
    walk_finds w inside same = sym (found_here w.steps inside w.enough same) ∙ w.same

    on : (steps : ℕ) → length file ≤ at + steps → chunk_for steps id file at ≡ chunk_from id file start → start ≤ at → at + 8 ≤ length file → same_id (id_at file at) id ≡ false
        → IsWalking id file start (next_of file at)
    on zero enough same after inside other = absurd (omega (arith, inside, enough))
    on (suc steps) enough same after inside other = record {
      steps = steps;
      enough = omega (arith, enough);
      same = sym (passed steps inside other) ∙ same;
      after = omega (arith, after);
    }

    pub walk_on : IsWalking id file start at → at + 8 ≤ length file → same_id (id_at file at) id ≡ false → IsWalking id file start (next_of file at)
    walk_on w inside other = on w.steps w.enough w.same w.after inside other

pub walk_begins : (id file : List ℕ) (start : ℕ) → IsWalking id file start start
walk_begins id file start = record { steps = length file; enough = omega arith; same = refl; after = omega arith }

-- a chunk that is found has its header in the file
pub found_inside : (id file : List ℕ) (steps at k : ℕ) → chunk_for steps id file at ≡ Some k → k + 8 ≤ length file
unfolding chunk_for
found_inside id file zero at k e = absurd cc
found_inside id file (suc steps) at k e = elim (chosen {A = Option ℕ} (ltb (length file) (at + 8)) None (cond (same_id (id_at file at) id) (Some at) (chunk_for steps id file (next_of file at))) (Some k) e) [
  | inl (ends, none) ↦ absurd cc
  | inr (inside, rest) ↦ elim (chosen {A = Option ℕ} (same_id (id_at file at) id) (Some at) (chunk_for steps id file (next_of file at)) (Some k) rest) [
    | inl (same, is) ↦ (let one : at ≡ k = cc (is) in omega (arith, one, ltb-false (length file) (at + 8) inside))
    | inr (other, later) ↦ found_inside id file steps (next_of file at) k later
  ]
]
