use Rattle.std.proofs.Common.{arith}
use Rattle.dsf_core.proofs.DescribingLaws.{tag_place_is}
use Rattle.dsf_core.proofs.HeaderLaws.{found_leads}
use Rattle.dsf_core.proofs.describing.tag_at.Goals as goal

pub long_at-requires : goal.long_at-requires
long_at-requires c = omega (arith, (found_leads c.args.prefix.now c.requires.at_sound.0 c.requires.at_sound.1).holds.fields)

pub returns : goal.returns
returns c = record { place = tag_place_is c.args.prefix.now c.long_at.result c.requires.at_sound c.long_at.ensures; stated = c.long_at.ensures }
