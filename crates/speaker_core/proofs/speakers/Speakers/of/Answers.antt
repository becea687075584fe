use Rattle.std.proofs.Common.{length, ap, ◌∙◌}
use Rattle.std.proofs.lemmas.List.FromFn.{length-range_with_len}
use Rattle.speaker_core.proofs.speakers.Speakers.of.Goals as goal

pub returns-clause-number : goal.returns-clause-number
returns-clause-number c = ap length c.in_ok-order-2.ensures.order ∙ length-range_with_len 0 (length c.args.channels.now)
