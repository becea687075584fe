use Rattle.std.proofs.Common.{◌≡◌, ℕ, ◌+◌, ◌*◌, ◌%◌, ◌^◌, ◌<◌, ◌-ℤ◌, ◌∙◌, ap, arith, inl, inr, get_or, length, pos, to_z, of_z, w32}
use Rattle.std.proofs.lemmas.List.{get_or-set_same, get_or-set_other}
use Rattle.std.proofs.lemmas.Bool.{cases_lt}
use Rattle.std.proofs.lemmas.Nat.{mod_below, pow_pos}
use Rattle.cost_core.specs.Weighted.{square}
use Rattle.cost_core.proofs.SumLaws.{kept}
use Rattle.cost_core.proofs.Tails.{round_table}
use Rattle.cost_core.proofs.sums.add_squared_differences.Goals as goal

pub loop-k-preserved : goal.loop-k-preserved
loop-k-preserved c =
    let row = c.loop-k.row in
    let sums = c.args.sums.now in
    let i = c.loop-k.k in
    let now = get_or row i 0 + c.squared_difference.result in
    let whole = c.requires.whole in
    let place = round_table i c.args.shift c.args.first whole.0 (length sums) (omega (arith, c.requires.short, c.loop-k-test.true)) c.requires.shift whole.1 in
    let at : ℕ = (i * 2 ^ c.args.shift + c.args.first) % length sums in
    let inside : at < length sums = mod_below (i * 2 ^ c.args.shift + c.args.first) (length sums) (rw whole.1 (pow_pos whole.0)) in
    let other = to_z w32 (of_z w32 c.args.other) in
    let value = c.squared_difference.ensures.value ∙ ap (λ m. square (to_z w32 (of_z w32 (get_or sums m (pos 0))) -ℤ other)) place
    ∙ ap (λ v. square (v -ℤ other)) (kept (get_or sums at (pos 0)) (omega (arith, c.requires.sums at inside))) in
    record {
      added = λ k h. elim (cases_lt k i) [
        | inl before ↦ get_or-set_other row i k now 0 (λ e. omega arith) ∙ c.loop-k.invariant.added k before
        | inr after ↦
            let e : k ≡ i = omega arith in
            rw e (get_or-set_same row i now 0 (omega (arith, c.loop-k.auto.row, c.loop-k-test.true)) ∙ (λ j. c.loop-k.invariant.kept i (omega arith) j + value j))
      ];
      kept = λ k h. get_or-set_other row i k now 0 (λ e. omega arith) ∙ c.loop-k.invariant.kept k (omega arith);
    }
