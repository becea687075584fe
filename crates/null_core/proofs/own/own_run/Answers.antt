use Rattle.std.proofs.Common.{map}
use Rattle.null_core.specs.Parts.{part_content}
use Rattle.null_core.proofs.OwnLaws.{run_own}
use Rattle.null_core.proofs.own.own_run.Goals as goal

pub returns-in-Some : goal.returns-in-Some
returns-in-Some c = run_own (map part_content c.args.parts.now) c.args.bits.now c.args.high c.in-Some.source c.args.m c.own_until.result c.own_piece-first.result c.own_piece-first.ensures c.in-Some.is c.own_until.ensures
