use Rattle.null_core.proofs.channel.block_in_parts.Goals as goal

pub returns-in-Some : goal.returns-in-Some
returns-in-Some c = c.in-Some.ensures

pub returns : goal.returns
returns c = tt
