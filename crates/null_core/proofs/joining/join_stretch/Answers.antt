use Rattle.std.proofs.Common.{◌-◌, ◌<◌, ◌≤◌, ap, take, ◌∙◌, arith}
use Rattle.null_core.proofs.StretchLaws.{adds_apart, adds_first, adds_near}
use Rattle.null_core.proofs.joining.join_stretch.Goals as goal

pub returns-in_default : goal.returns-in_default
returns-in_default c =
    let left = c.in_default.ensures in
    let items = c.args.stretches.now.items in
    adds_first c.args.tap_number c.args.next items c.pop.new.self.items c.push.new.self.items left.items (left.rest ∙ ap (λ n. take (n - 1) items) left.cases.0) c.in_ok-push.ensures.items

pub returns-in_ok-push-2 : goal.returns-in_ok-push-2
returns-in_ok-push-2 c =
    let near : c.args.next.first - c.in-Some.last.last ≤ c.args.tap_number = omega (arith, c.saturating_sub.ensures, c.if-saturating_sub-tap_number.true) in
    adds_near c.args.tap_number c.args.next c.in-Some.last c.joined.result c.args.stretches.now.items c.pop.new.self.items c.push-then-saturating_sub-tap_number.new.self.items c.in-Some.ensures.items c.in_ok-push-2.ensures.items near c.joined.ensures

pub returns-in_ok-push-4 : goal.returns-in_ok-push-4
returns-in_ok-push-4 c =
    let far : c.args.tap_number < c.args.next.first - c.in-Some.last.last = omega (arith, c.saturating_sub.ensures, c.if-saturating_sub-tap_number.false) in
    adds_apart c.args.tap_number c.args.next c.in-Some.last c.args.stretches.now.items c.pop.new.self.items c.push-else-saturating_sub-tap_number.new.self.items c.push-else-saturating_sub-tap_number-2.new.self.items c.in-Some.ensures.items c.in_ok-push-3.ensures.items c.in_ok-push-4.ensures.items far
