use Rattle.std.proofs.Common.{◌++◌, Bool, List, ap}
use Rattle.cut_core.proofs.SliceLaws.{slice-slice}
use Rattle.master_core.proofs.parting.push_within.Goals as goal

pub returns : goal.returns
returns c = rw (c.push_range.ensures, c.min-start.ensures, c.min-stop.ensures) (ap (λ (l : List Bool). record c.args.room.now { bits = c.args.room.now.bits ++ l }) (slice-slice c.args.bits.now c.args.piece.start c.args.piece.stop c.args.range.start c.args.range.stop c.requires.in_order c.requires.inside))
