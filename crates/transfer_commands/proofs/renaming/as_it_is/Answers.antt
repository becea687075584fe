use Rattle.std.proofs.Common.{refl}
use Rattle.transfer_commands.proofs.RenamingLaws.{same_renamed}
use Rattle.transfer_commands.proofs.renaming.as_it_is.Goals as goal

pub returns-clause-renamed : goal.returns-clause-renamed
returns-clause-renamed c = λ file is.
    same_renamed c.args.outline.now file is c.has_shape.ensures c.args.form c.requires.same _ refl c.in_ok-ends.ensures.head c.in_ok-ends.ensures.tail c.in_ok-ends.ensures.fits c.in_ok-in_place.ensures.size c.in_ok-in_place.ensures.groups
