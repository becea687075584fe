use Rattle.std.proofs.Common.{◌≡◌, [], length}
use Rattle.std.proofs.lemmas.List.Elements.{All-from_get_or}
use Rattle.dsdiff_core.proofs.fields.ids_fit.Goals as goal

pub returns : goal.returns
returns c = All-from_get_or (λ id. length id ≡ 4) c.args.ids.now [] c.told-ids
