use Rattle.std.proofs.Common.{refl}
use Rattle.joined_core.proofs.BitLaws.{none_given}
use Rattle.joined_core.proofs.bits.BitGiver.new.Goals as goal

pub returns-clause-given : goal.returns-clause-given
returns-clause-given c = none_given _ c.requires.0 refl c.new.ensures.items
