use Rattle.form_core.proofs.OpeningLaws.{held_is_opened, opened_is_held}
use Rattle.form_core.proofs.laws.held_is_opened.Goals as goal

pub returns : goal.returns
returns c = λ file form r. (held_is_opened file form r, opened_is_held file (record { form = form; recording = r }))
