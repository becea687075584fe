use Rattle.std.proofs.Common.{ap, sym}
use Rattle.dop_core.specs.Reading.{as_fault, phase}
use Rattle.dop_core.proofs.MarkerLaws.{no_samples, nothing_times}
use Rattle.dop_core.proofs.markers.check_markers.Goals as goal

pub returns-then-head-eq0 : goal.returns-then-head-eq0
returns-then-head-eq0 c =
    let head = c.args.head.now in
    sym (ap as_fault (no_samples head.channels (phase c.args.sound.now) c.args.sound.now _ (nothing_times head.frames head.channels c.if-head-eq0.true)))
