use Rattle.std.proofs.Common.{◌∙◌, ap, subst, sym}
use Rattle.clip_core.specs.Clips.{ClipContent}
use Rattle.clip_core.specs.Contents.{mix_content}
use Rattle.null_core.specs.Reading.{IsHolder}
use Rattle.null_core.proofs.HoldingLaws.{range_here, range_other, range_served}
use Rattle.null_core.proofs.ranges.range_of.Goals as goal
use Rattle.null_core.proofs.ranges.range_of.Goals.{then-clip_at-number-via-then-clip_at-number, then-clip_at-number-via-else-clip_at-number+then-holder-clip}

pub returns-then-clip_at-number : goal.returns-then-clip_at-number
returns-then-clip_at-number c = elim c.then-clip_at-number.branch [
  | then-clip_at-number-via-then-clip_at-number w ↦
      sym (range_other (mix_content c.args.mix.now) c.args.number c.args.clip (λ same. w.if-clip_at-number.true (ap (λ (k : ClipContent). k.take) c.clip_at.ensures.value ∙ same)))
  | then-clip_at-number-via-else-clip_at-number+then-holder-clip w ↦
      sym (range_served (mix_content c.args.mix.now) c.args.number c.args.clip w.holder.result w.holder.ensures w.if-holder-clip.true)
]

pub returns : goal.returns
returns c =
    let take = sym (ap (λ (k : ClipContent). k.take) c.clip_at.ensures.value) ∙ c.if-clip_at-number.false in
    c.clip_range.ensures ∙ sym (range_here (mix_content c.args.mix.now) c.args.number c.args.clip take (subst (IsHolder (mix_content c.args.mix.now) c.args.clip) c.if-holder-clip.false c.holder.ensures))
