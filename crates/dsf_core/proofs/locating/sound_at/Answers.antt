use Rattle.std.proofs.Common.{◌∙◌, ap}
use Rattle.dsf_core.specs.Headers.{sound_at, without_fault}
use Rattle.dsf_core.proofs.HeaderLaws.{if_found, if_more, if_refused, in_blocks, in_limits, inside}
use Rattle.dsf_core.proofs.locating.sound_at.Goals as goal

pub returns-clause-exact : goal.returns-clause-exact
unfolding sound_at
returns-clause-exact c = c.without_fault.ensures ∙ ap without_fault c.locate.ensures.exact

pub returns-clause-found : goal.returns-clause-found
returns-clause-found c = if_found c.args.prefix.now c.without_fault.result (returns-clause-exact c)

pub returns-clause-limits : goal.returns-clause-limits
returns-clause-limits c = in_limits c.args.prefix.now c.without_fault.result (returns-clause-exact c)

pub returns-clause-within : goal.returns-clause-within
returns-clause-within c = inside c.args.prefix.now c.without_fault.result (returns-clause-exact c)

pub returns-clause-interleaving : goal.returns-clause-interleaving
returns-clause-interleaving c = in_blocks c.args.prefix.now c.without_fault.result (returns-clause-exact c)

pub returns-clause-refused : goal.returns-clause-refused
returns-clause-refused c = rw c.without_fault.ensures (if_refused c.args.prefix.now c.locate.result c.locate.ensures.stated)

pub returns-clause-more : goal.returns-clause-more
returns-clause-more c = rw c.without_fault.ensures (if_more c.args.prefix.now c.locate.result c.locate.ensures.stated)
