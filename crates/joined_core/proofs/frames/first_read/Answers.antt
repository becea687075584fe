use Rattle.std.proofs.Common.{◌-◌, ◌*◌, ◌/◌, ◌≤◌, ◌∙◌, ap₂, arith, refl, sym}
use Rattle.player_core.proofs.PartLaws.{few_times}
use Rattle.joined_core.proofs.FrameLaws.{read_is}
use Rattle.joined_core.proofs.frames.first_read.Goals as goal

pub overflow_mul-result : goal.overflow_mul-result
overflow_mul-result c =
    let small : c.factor.result / 8 ≤ 24576 = omega (arith, c.factor.ensures.value, c.factor.ensures.limits.greatest_factor) in
    omega (arith, few_times c.saturating_sub-after.result (c.factor.result / 8) (omega (arith, c.saturating_sub-after.ensures, c.requires)) small)

pub returns : goal.returns
returns c = ap₂ (λ a f. a * (f / 8)) (c.saturating_sub-after.ensures ∙ ap₂ (λ a b. a - b) refl c.first_whole.ensures) c.factor.ensures.value ∙ sym (read_is c.args.taps.now c.factor.ensures.limits c.args.number)
