use Rattle.sound_core.proofs.NamingLaws.{form_named, refused_by}
use Rattle.sound_core.proofs.header.stated_otherwise.Goals as goal

pub returns-in_default-clause-refused : goal.returns-in_default-clause-refused
returns-in_default-clause-refused c = λ rest. refused_by _ c.args.fault (c.requires.refused rest) c.in_default.not-NotDsdiff

pub returns-in_default-clause-sure : goal.returns-in_default-clause-sure
returns-in_default-clause-sure c = λ rest. rw c.from.ensures (form_named _ c.args.fault (c.requires.refused rest) c.in_default.not-NotDsdiff)
