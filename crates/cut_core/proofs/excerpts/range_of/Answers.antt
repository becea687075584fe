use Rattle.std.proofs.Common.{◌∙◌, ◌+◌, ap, sym}
use Rattle.std.proofs.lemmas.Bool.{eq-eqb}
use Rattle.splice_core.specs.Cues.{CueContent}
use Rattle.cut_core.proofs.excerpts.range_of.Goals as goal

pub returns : goal.returns
returns c =
    let own = sym (ap (λ (q : CueContent). q.take) c.cue_at.ensures.value) ∙ c.if-cue_at-number.false in
    rw (eq-eqb _ c.args.number own) (λ j. record {
      start = c.excerpt_start.ensures j;
      stop = (c.cue_at-2.ensures.value j).stop + c.reach_at-after.ensures.after j;
    })
