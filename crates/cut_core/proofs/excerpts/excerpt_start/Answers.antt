use Rattle.std.proofs.Common.{◌∙◌, ◌-◌}
use Rattle.cut_core.proofs.excerpts.excerpt_start.Goals as goal

pub returns : goal.returns
returns c = c.saturating_sub.ensures ∙ (λ j. (c.cue_at.ensures.value j).start - c.lead_at.ensures j)
