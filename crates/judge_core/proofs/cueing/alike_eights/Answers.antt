use Rattle.std.proofs.Common.{◌≡◌, ◌+◌, ◌*◌, ◌∙◌, arith, inl, inr, subst, sym}
use Rattle.std.proofs.lemmas.Bool.{cases_lt}
use Rattle.dsd_bits.specs.Shifting.{byte_from}
use Rattle.judge_core.proofs.cueing.alike_eights.Goals as goal

pub returns-then-byte_from-clause-alike : goal.returns-then-byte_from-clause-alike
returns-then-byte_from-clause-alike c = c.loop-k.invariant.alike

pub returns-clause-alike : goal.returns-clause-alike
returns-clause-alike c = λ k lt. c.loop-k.invariant.alike k (omega (arith, lt, c.loop-k-test.false))

pub overflow_mul-k : goal.overflow_mul-k
overflow_mul-k c = omega (arith, c.requires.part, c.loop-k-test.true)

pub overflow_add-at : goal.overflow_add-at
overflow_add-at c = omega (arith, c.requires.part, c.loop-k-test.true)

pub overflow_mul-k-in-loop-k : goal.overflow_mul-k-in-loop-k
overflow_mul-k-in-loop-k c = omega (arith, c.requires.cue, c.loop-k-test.true)

pub overflow_add-own : goal.overflow_add-own
overflow_add-own c = omega (arith, c.requires.cue, c.loop-k-test.true)

pub loop-k-preserved : goal.loop-k-preserved
loop-k-preserved c =
    let same = sym c.byte_from.ensures ∙ c.if-byte_from.false ∙ c.byte_from-in-loop-k.ensures in
    record {
      alike = λ k lt. elim (cases_lt k c.loop-k.k) [
        | inl below ↦ c.loop-k.invariant.alike k below
        | inr past ↦ (
            let here : c.loop-k.k ≡ k = omega (arith, lt, past) in
            subst (λ n. byte_from c.args.part.now (c.args.at + 8 * n) ≡ byte_from c.args.cue.now (c.args.own + 8 * n)) here same
            )
      ];
    }
