use Rattle.std.proofs.Common.{◌≡◌, ◌<◌, length, ap, arith}
use Rattle.splice_core.specs.Cues.{CueContent, IsCueWithin, cue_content}
use Rattle.splice_core.specs.Splices.{splice_content}
use Rattle.cost_core.specs.Windows.{splice_cue}
use Rattle.cost_core.proofs.Windows.{cue_fits, cue_read, splicing}
use Rattle.cost_core.proofs.room.reach_at.Goals as goal
use Rattle.cost_core.proofs.room.reach_at.Goals.{After-index-here}

there : (c : After-index-here) → c.args.cue < length (splice_content c.args.splice.now).cues
there c = omega (arith, c.requires)

fits : (c : After-index-here) → IsCueWithin (length (splice_content c.args.splice.now).weights) (length (splice_content c.args.splice.now).takes) (splice_cue (splice_content c.args.splice.now) c.args.cue)
fits c = cue_fits (splice_content c.args.splice.now) (splicing c.args.splice.now) c.args.cue (there c)

here : (c : After-index-here) → cue_content c.index-here.result.now ≡ splice_cue (splice_content c.args.splice.now) c.args.cue
here c = cue_read c.args.splice.now c.args.cue c.index-here.result.now (there c) c.index-here.ensures

pub reach_of-requires-clause-levels : goal.reach_of-requires-clause-levels
reach_of-requires-clause-levels c =
    let e = (goal.at.reach_of-requires-clause-levels c).After-index-here in
    omega (arith, ap (λ (q : CueContent). q.bridge) (here e), (fits e).bridge_fits)
