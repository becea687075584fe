use Rattle.std.proofs.Common.{◌≡◌, ℕ, ◌+◌, ◌-◌, ◌/◌, ◌<◌, IsTrue, arith, subst, to_z, of_z, w32, ◌∙◌}
use Rattle.clip_core.specs.declared.line.Line.{Line}
use Rattle.clip_core.specs.Lines.{line_gain}
use Rattle.clip_core.proofs.LineLaws.{kept}
use Rattle.null_core.specs.declared.alone.Level.{Level}
use Rattle.null_core.specs.Alone.{IsLevel}
use Rattle.null_core.proofs.AloneLaws.{level_to}
use Rattle.null_core.proofs.alone.level_until.Invariants.{IsBracket}
use Rattle.null_core.proofs.alone.level_until.Goals as goal
use Rattle.null_core.proofs.alone.level_until.Goals.{After-has_level, then-has_level, else-has_level}

-- half of what is left
halved : (n : ℕ) → 1 < n → (0 < n / 2) × (n / 2 < n)
halved n some = (omega (arith, some), omega (arith, some))

module _ (line : Line) (k : ℕ) (level : Level) (last tried after : ℕ) (kept : IsBracket line k level last tried after) (some : 1 < after - last) where
  -- a place between the two that has the level
  raised : IsLevel level (line_gain line tried) → IsBracket line k level tried (tried + (after - tried) / 2) after
  raised here = record {
    begun = omega (arith, kept.begun, kept.between, some);
    order = kept.below;
    inside = kept.inside;
    here = here;
    between = λ more. let half = halved (after - tried) (omega (arith, more)) in omega (arith, half.0);
    below = omega (arith, kept.below);
  }

  -- and one that hasn't
  lowered : IsBracket line k level last (last + (tried - last) / 2) tried
  lowered = record {
    begun = kept.begun;
    order = omega (arith, kept.between, some);
    inside = omega (arith, kept.below, kept.inside);
    here = kept.here;
    between = λ more. let half = halved (tried - last) (omega (arith, more)) in omega (arith, half.0);
    below = omega (arith, kept.between, some);
  }

  less_raised : after - tried < after - last
  less_raised = omega (arith, kept.between, kept.below, some)

  less_lowered : tried - last < after - last
  less_lowered = omega (arith, kept.between, kept.below, some)

-- the level at the place that was tried
level_is : (c : After-has_level) → IsTrue c.has_level.result → IsLevel c.args.level (line_gain c.args.line c.loop-after.tried)
level_is c has =
    let gain : to_z w32 (of_z w32 c.gain_at.result) ≡ line_gain c.args.line c.loop-after.tried = kept c.gain_at.result (omega (arith, c.gain_at.ensures.bound)) ∙ c.gain_at.ensures.value in
    subst (IsLevel c.args.level) gain (c.has_level.ensures has)

pub overflow_sub-tried : goal.overflow_sub-tried
overflow_sub-tried c = omega (arith, c.requires.on.not_ended, c.until-after.ensures.value)

pub loop-after-init : goal.loop-after-init
loop-after-init c =
    let on = c.requires.on in
    let value = c.until-after.ensures.value in
    record {
      begun = omega arith;
      order = omega (arith, on.not_ended, value);
      inside = omega (arith, value);
      here = c.requires.level;
      between = λ more. omega (arith, more);
      below = omega (arith, on.not_ended, value);
    }

pub gain_at-requires : goal.gain_at-requires
gain_at-requires c =
    let kept = c.loop-after.invariant in
    record { begun = omega (arith, c.requires.on.begun, kept.begun, kept.between, c.loop-after-test.true); not_ended = omega (arith, kept.below, kept.inside) }

pub loop-after-preserved : goal.loop-after-preserved
loop-after-preserved c =
    let loop = c.loop-after in
    elim c.if-has_level.branch [
      | then-has_level w ↦ rw (w.last-is, w.after-is) (raised c.args.line c.args.k c.args.level loop.last loop.tried loop.after loop.invariant c.loop-after-test.true (level_is (goal.at.loop-after-preserved c).After-has_level w.if-has_level.true))
      | else-has_level w ↦ rw (w.last-is, w.after-is) (lowered c.args.line c.args.k c.args.level loop.last loop.tried loop.after loop.invariant c.loop-after-test.true)
    ]

pub loop-after-smaller : goal.loop-after-smaller
loop-after-smaller c =
    let loop = c.loop-after in
    elim c.if-has_level.branch [
      | then-has_level w ↦ rw (w.last-is, w.after-is) (less_raised c.args.line c.args.k c.args.level loop.last loop.tried loop.after loop.invariant c.loop-after-test.true)
      | else-has_level w ↦ rw (w.last-is, w.after-is) (less_lowered c.args.line c.args.k c.args.level loop.last loop.tried loop.after loop.invariant c.loop-after-test.true)
    ]

pub returns : goal.returns
returns c =
    let loop = c.loop-after in
    let kept = loop.invariant in
    level_to c.args.line c.args.k c.args.level loop.last loop.after c.requires.on c.requires.level kept.begun (omega (arith, kept.order, c.loop-after-test.false)) kept.inside kept.here
