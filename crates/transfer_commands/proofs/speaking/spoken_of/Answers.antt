use Rattle.transfer_commands.proofs.SpeakLaws.{in_two_parts}
use Rattle.transfer_commands.proofs.speaking.spoken_of.Goals as goal

pub returns-clause-left : goal.returns-clause-left
returns-clause-left g c = λ left. in_two_parts c.in_ok-before.before.items c.in_ok-before.tail.items c.args.found.opened.prefix.items (left c.args.found.opened.file) c.in_ok-before.ensures.parts
