use Rattle.std.proofs.Common.{◌≡◌, ◌-◌, ◌/◌, ap, arith}
use Rattle.null_core.specs.Parts.{asked_content, reach}
use Rattle.null_core.proofs.AroundLaws.{lists_errors, only_zeros}
use Rattle.null_core.proofs.around.list_errors_around.Goals as goal

pub returns : goal.returns
returns c =
    let a = asked_content c.args.asked in
    let half : c.len-reach.result / 2 ≡ reach a = ap (λ n. n / 2) c.len-reach.ensures.value in
    lists_errors a c.args.bits.now c.args.first c.args.number c.requires.inside c.resize.new.self.items c.push_errors.new.errors.items c.resize-2.new.self.items c.saturating_sub-3.result c.min-end.result c.push_errors.new.errors.len c.in_ok-loud.loud (omega (arith, half, c.saturating_sub-3.ensures)) (omega (arith, half, c.min-end.ensures, c.saturating_sub.ensures, c.len-count.ensures.value)) (only_zeros c.clear.new.self.items c.resize.new.self.items c.saturating_sub-2.result (reach a - c.args.first) c.clear.new.self.len (omega (arith, half, c.saturating_sub-2.ensures)) c.clear.ensures.items (omega (arith, c.clear.new.self.ok.0)) c.in_ok-resize.ensures.items) c.in_ok-loud.ensures (omega (arith, c.push_errors.new.errors.ok.0)) c.in_ok-resize-2.ensures.items
