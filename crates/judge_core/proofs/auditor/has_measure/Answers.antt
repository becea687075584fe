use Rattle.std.proofs.Common.{◌∙◌}
use Rattle.std.proofs.lemmas.Bool.{eqb-true}
use Rattle.judge_core.proofs.auditor.has_measure.Goals as goal

pub returns-then-sound-channel_number-clause-yes : goal.returns-then-sound-channel_number-clause-yes
returns-then-sound-channel_number-clause-yes c = λ same. record {
  number = c.if-sound-channel_number.true ∙ c.channel_number.ensures.value;
  long = eqb-true c.args.sound.now.count c.length.result same ∙ c.length.ensures.value;
}
