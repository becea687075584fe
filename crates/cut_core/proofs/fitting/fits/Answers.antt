use Rattle.std.proofs.Common.{◌∙◌, ◌≤◌, ◌^◌, subst, sym}
use Rattle.splice_core.specs.Splices.{splice_content}
use Rattle.cut_core.specs.Excerpts.{excerpts_shapes}
use Rattle.cut_core.proofs.OpeningLaws.{not_whole}
use Rattle.cut_core.proofs.fitting.fits.Goals as goal

pub returns-then-not-is_whole : goal.returns-then-not-is_whole
returns-then-not-is_whole c = not_whole c.args.form (splice_content c.args.splice.now) (excerpts_shapes c.args.takes.now) c.in_ok-are_alike.ensures c.in_ok-are_inside.ensures (subst (λ n. n ≤ 2 ^ 36) c.master_length.ensures c.if-master_length.false) (sym c.is_whole.ensures ∙ c.if-not-is_whole.true)
