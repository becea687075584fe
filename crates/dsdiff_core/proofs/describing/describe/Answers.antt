use Rattle.std.proofs.Common.{ℕ, replicate, subst, sym}
use Rattle.std.proofs.lemmas.List.{length-replicate}
use Rattle.dsdiff_core.specs.Located.{stated_size}
use Rattle.dsdiff_core.specs.Steps.{Gives}
use Rattle.dsdiff_core.proofs.DescribedLaws.{described_alike}
use Rattle.dsdiff_core.proofs.describing.describe.Goals as goal

pub returns : goal.returns
returns c = λ sound size.
    let prefix = c.args.prefix.now in
    subst (Gives (λ d. d) c.describe_around.result) (sym (described_alike prefix (replicate (stated_size prefix) 0) c.args.back.now c.requires (length-replicate {A = ℕ} (stated_size prefix) 0) sound size)) c.describe_around.ensures
