use Rattle.std.proofs.Common.{ap}
use Rattle.dop_core.specs.Markers.{plus}
use Rattle.dop_core.proofs.MarkLaws.{marks_broken, marks_whole}
use Rattle.dop_core.proofs.markers.marks_on.Goals as goal

pub returns-in-Some-clause-marks : goal.returns-in-Some-clause-marks
returns-in-Some-clause-marks c = λ sound marks long.
    marks_broken c.args.channels c.requires.channels c.args.marks c.args.done c.args.frames sound c.args.piece.now marks long c.first_marker-first.result c.first_marker-first.ensures.begins c.first_marker-first.ensures.later c.in-Some.frame c.in-Some.is

pub returns-in-None-clause-marks : goal.returns-in-None-clause-marks
returns-in-None-clause-marks c = λ sound marks long.
    rw c.after-broken.ensures (marks_whole c.args.channels c.requires.channels c.args.marks c.args.done c.args.frames sound c.args.piece.now marks long c.first_marker-first.result c.first_marker-first.ensures.begins c.first_marker-first.ensures.later c.in-None.is _ (ap (plus c.args.done) c.broken_from.ensures.exact))
