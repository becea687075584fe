use Rattle.std.proofs.Common.{◌/◌, ◌∙◌}
use Rattle.wave_core.specs.Contents.{spec_of}
use Rattle.player_core.proofs.spec.wave_spec.Goals as goal

pub returns-clause-spec : goal.returns-clause-spec
returns-clause-spec c = c.new.ensures.numbers ∙ (λ z. spec_of c.args.channels (c.args.rate / c.factor.ensures.value z) (c.width.ensures.value z))
