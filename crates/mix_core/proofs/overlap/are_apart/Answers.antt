use Rattle.mix_core.proofs.OverlapLaws.{apart_ended, apart_more, crowded}
use Rattle.mix_core.proofs.overlap.are_apart.Goals as goal

pub loop-clip-preserved : goal.loop-clip-preserved
loop-clip-preserved c = apart_more c.args.clips.now c.loop-clip.clip-index c.clip-item.result c.clips_at.result c.loop-clip-test.true c.clip-item.is c.clips_at.ensures c.loop-clip.invariant c.if-clips_at-gt-MAX_OVERLAPPING.false

pub returns-then-clips_at-gt-MAX_OVERLAPPING : goal.returns-then-clips_at-gt-MAX_OVERLAPPING
returns-then-clips_at-gt-MAX_OVERLAPPING c = crowded c.args.clips.now c.loop-clip.clip-index c.clip-item.result c.clips_at.result c.loop-clip-test.true c.clip-item.is c.clips_at.ensures c.loop-clip.invariant c.if-clips_at-gt-MAX_OVERLAPPING.true

pub returns : goal.returns
returns c = apart_ended c.args.clips.now c.loop-clip.clip-index c.loop-clip-test.false c.loop-clip.invariant
