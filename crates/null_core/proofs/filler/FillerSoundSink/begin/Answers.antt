use Rattle.std.proofs.Common.{refl}
use Rattle.null_core.proofs.FillLaws.{filled_none}
use Rattle.null_core.proofs.filler.FillerSoundSink.begin.Goals as goal

pub returns-in_ok-self-2-clause-has : goal.returns-in_ok-self-2-clause-has
returns-in_ok-self-2-clause-has c = record { same = refl; filled = λ measure. filled_none c.args.sound _ _ c.in_ok-self.ensures c.in_ok-self-2.ensures }

pub returns-else-has_measure-clause-has : goal.returns-else-has_measure-clause-has
returns-else-has_measure-clause-has c = record { same = refl; filled = λ measure. absurd (c.has_measure.ensures.no c.if-has_measure.false measure) }
