use Rattle.std.proofs.Common.{subst}
use Rattle.clip_core.specs.Contents.{mix_content}
use Rattle.null_core.specs.Files.{HoldsExcerpts, IsReadIn}
use Rattle.null_core.proofs.calling.take_of.Goals as goal

pub returns-in-Ok-Ok : goal.returns-in-Ok-Ok
returns-in-Ok-Ok c =
    rw c.in-Ok-Ok.field-0-is at (subst (λ b. IsReadIn (HoldsExcerpts (mix_content c.args.mix.now) c.args.number) b.now c.in-Ok-Ok.field-0) c.new.ensures.reader c.in-Ok-Ok.ensures.found)
