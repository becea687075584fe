use Rattle.transfer_commands.proofs.SpeakLaws.{in_two_parts}
use Rattle.transfer_commands.proofs.convert_speakers.parts_of.Goals as goal

pub returns-in-Ok-clause-left : goal.returns-in-Ok-clause-left
returns-in-Ok-clause-left g c = λ left. in_two_parts c.in-Ok.head.items c.in-Ok.tail.items c.args.opened.prefix.items (left c.args.opened.file) c.in-Ok.ensures.parts
