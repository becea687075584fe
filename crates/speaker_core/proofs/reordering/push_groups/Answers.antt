use Rattle.std.proofs.Common.{◌≡◌, ◌*◌, ◌-◌, ◌++◌, length, take, drop, sym, ap, ap₂, ◌∙◌, append_assoc, arith}
use Rattle.std.proofs.lemmas.Grind.{common_steps}
use Rattle.speaker_core.specs.Reordering.{group_in, groups_in}
use Rattle.speaker_core.proofs.GroupLaws.{groups_short, groups_step}
use Rattle.speaker_core.proofs.reordering.push_groups.Goals as goal
use Rattle.speaker_core.proofs.reordering.push_groups.Goals.{then-loop-left-test+else-rest-group, else-loop-left-test}

pub loop-left-preserved : goal.loop-left-preserved
loop-left-preserved c =
    let order = c.args.order.now in
    let size = c.args.size in
    let out = c.loop-left.out.items in
    let left = c.loop-left.left in
    let rest = c.loop-left.rest.now in
    let group = group_in order size (take (length order * size) rest) in
    let more = groups_in order size (left - 1) in
    c.loop-left.invariant
    ∙ ap (λ x. out ++ x) (groups_step order size left rest c.loop-left-test.true c.if-rest-group.true)
    ∙ sym (append_assoc out group (more (drop (length order * size) rest)))
    ∙ ap₂ (λ x y. x ++ more y) (ap (λ g. out ++ group_in order size g) (sym c.split_at.ensures.front) ∙ sym c.in_ok-push_group.ensures) (sym c.split_at.ensures.back)

pub returns : goal.returns
returns c =
    let order = c.args.order.now in
    let size = c.args.size in
    let out = c.loop-left.out.items in
    let left = c.loop-left.left in
    let rest = c.loop-left.rest.now in
    let last : groups_in order size left rest ≡ rest = elim c.loop-left-test.branch [
      | then-loop-left-test+else-rest-group w ↦ groups_short order size left rest w.if-rest-group.false
      | else-loop-left-test w ↦ let none : left ≡ 0 = omega (arith, w.loop-left-test.false) in ap (λ n. groups_in order size n rest) none
    ] in
    let total = c.loop-left.invariant ∙ ap (λ x. out ++ x) last in
    grind (arith, common_steps, total, c.extend_from_slice.ensures.items)
