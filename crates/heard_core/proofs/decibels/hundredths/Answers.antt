use Rattle.dsd_bits.proofs.ExitLaws.{no_value}
use Rattle.std.proofs.Common.{◌≡◌, ◌∙◌, ℤ, pos, negsuc, ◌-ℤ◌, arith, subst, sym, to_z, of_z, w64}
use Rattle.std.proofs.lemmas.Int.{ints, to_z-of_z}
use Rattle.heard_core.specs.Levels.{IsAtMost, limit}
use Rattle.heard_core.proofs.LevelLaws.{above_lowest, at_most_limit, not_measured}
use Rattle.heard_core.proofs.decibels.hundredths.Goals as goal

pub loop-low-init : goal.loop-low-init
loop-low-init c =
    let v = c.args.value in
    let f = c.args.full in
    let low : to_z w64 (of_z w64 c.below_all-low.result) ≡ negsuc limit = to_z-of_z w64 c.below_all-low.result (record { sfits = c.below_all-low.type_inv }) ∙ c.below_all-low.ensures in
    let high : to_z w64 (of_z w64 c.above_all-high.result) ≡ pos limit = to_z-of_z w64 c.above_all-high.result (record { sfits = c.above_all-high.type_inv }) ∙ c.above_all-high.ensures in
    record {
      order = rw (low, high) (omega (arith, ints));
      not_low = subst (λ (k : ℤ). IsAtMost v f k → ⊥) (sym low) (above_lowest v f c.requires.some_value (omega arith));
      high_is = subst (IsAtMost v f) (sym high) (at_most_limit v f c.requires.some_full (omega arith));
    }

pub loop-low-preserved : goal.loop-low-preserved
loop-low-preserved c =
    let v = c.args.value in
    let f = c.args.full in
    let middle : to_z w64 (of_z w64 c.between-middle.result) ≡ c.between-middle.result = to_z-of_z w64 c.between-middle.result (record { sfits = c.between-middle.type_inv }) in
    record {
      order = rw middle c.between-middle.ensures.below;
      not_low = not_measured v f _ c.in_ok-is_at_level.field-0 c.in_ok-is_at_level.ensures c.if-branch.false;
      high_is = c.loop-low.invariant.high_is;
    }

pub returns : goal.returns
returns c =
    let low : to_z w64 c.loop-low.low-bits ≡ to_z w64 c.loop-low.high-bits -ℤ pos 1 = omega (arith, ints) in
    record {
      enough = c.loop-low.invariant.high_is;
      least = subst (λ (k : ℤ). IsAtMost c.args.value c.args.full k → ⊥) low c.loop-low.invariant.not_low;
    }

pub returns-in_err-is_at_level : goal.returns-in_err-is_at_level
returns-in_err-is_at_level c = no_value _ _ c.from_residual.result c.from_residual.ensures.1

pub loop-low-preserved-then-branch : goal.loop-low-preserved-then-branch
loop-low-preserved-then-branch c =
    let middle : to_z w64 (of_z w64 c.between-middle.result) ≡ c.between-middle.result = to_z-of_z w64 c.between-middle.result (record { sfits = c.between-middle.type_inv }) in
    record {
      order = rw middle c.between-middle.ensures.above;
      not_low = c.loop-low.invariant.not_low;
      high_is = c.in_ok-is_at_level.ensures.0 c.if-branch.true;
    }
