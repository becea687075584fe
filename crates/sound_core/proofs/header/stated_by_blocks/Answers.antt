use Rattle.sound_core.proofs.NamingLaws.{blocks_before, blocks_more, blocks_named, blocks_refuse, blocks_state}
use Rattle.sound_core.proofs.header.stated_by_blocks.Goals as goal

pub returns-in-Found-clause-found : goal.returns-in-Found-clause-found
returns-in-Found-clause-found c = blocks_state c.args.prefix.now c.requires.refused c.in-Found.sound c.in-Found.ensures.exact

pub returns-in-More-clause-more : goal.returns-in-More-clause-more
returns-in-More-clause-more c = blocks_more c.args.prefix.now c.requires.refused c.in-More.field-0 c.in-More.ensures.exact c.in-More.ensures.stated

pub returns-in-More-clause-before : goal.returns-in-More-clause-before
returns-in-More-clause-before c = blocks_before c.args.prefix.now c.requires.refused c.in-More.field-0 c.in-More.ensures.stated

pub returns-in-Refused-clause-refused : goal.returns-in-Refused-clause-refused
returns-in-Refused-clause-refused c = blocks_refuse c.args.prefix.now c.requires.refused c.in-Refused.fault c.in-Refused.ensures.exact c.in-Refused.ensures.stated

pub returns-in-Refused-clause-sure : goal.returns-in-Refused-clause-sure
returns-in-Refused-clause-sure c = λ rest. rw c.from.ensures (blocks_named _ c.in-Refused.fault (c.requires.refused rest) (c.in-Refused.ensures.stated rest))
