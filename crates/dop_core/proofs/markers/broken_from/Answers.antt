use Rattle.std.proofs.Common.{◌≡◌, ◌+◌, ◌-◌, ◌*◌, ap, sym, ◌∙◌, arith}
use Rattle.dop_core.specs.Reading.{broken_from}
use Rattle.dop_core.proofs.MarkerLaws.{frame_breaks, frame_passed, frames_on, none_left, nothing_times}
use Rattle.dop_core.proofs.markers.broken_from.Goals as goal

pub returns-then-not-is_marked-clause-exact : goal.returns-then-not-is_marked-clause-exact
returns-then-not-is_marked-clause-exact c =
    let n = c.args.channels in
    let j = c.loop-frame.frame in
    let rest = (c.args.frames - (j + 1)) * n in
    let other = c.is_marked.ensures.no c.if-not-is_marked.true in
    let left : (c.args.frames - j) * n ≡ n + rest = frames_on c.args.frames j n (omega (arith, c.loop-frame-test.true)) in
    sym (frame_breaks n c.args.first c.args.sound.now j rest other.0 other.1 (λ same. other.2 (same ∙ sym c.marker.ensures))) ∙ ap (broken_from n c.args.first c.args.sound.now (j * n)) (sym left) ∙ c.loop-frame.invariant

pub loop-frame-preserved : goal.loop-frame-preserved
loop-frame-preserved c =
    let n = c.args.channels in
    let j = c.loop-frame.frame in
    let rest = (c.args.frames - (j + 1)) * n in
    let left : (c.args.frames - j) * n ≡ n + rest = frames_on c.args.frames j n (omega (arith, c.loop-frame-test.true)) in
    sym (frame_passed n c.args.first c.args.sound.now j rest (λ i low. c.is_marked.ensures.yes c.if-not-is_marked.false i low ∙ c.marker.ensures)) ∙ ap (broken_from n c.args.first c.args.sound.now (j * n)) (sym left) ∙ c.loop-frame.invariant

pub returns-clause-exact : goal.returns-clause-exact
returns-clause-exact c =
    let n = c.args.channels in
    let j = c.loop-frame.frame in
    sym (none_left n c.args.first c.args.sound.now (j * n) ((c.args.frames - j) * n) (nothing_times (c.args.frames - j) n (omega (arith, c.loop-frame-test.false)))) ∙ c.loop-frame.invariant
