use Rattle.std.proofs.Common.{refl}
use Rattle.sound_core.proofs.reader.SoundReader.drop_ahead.Goals as goal

pub returns-clause-same : goal.returns-clause-same
returns-clause-same g c = record { reference = refl; given = refl; limit = refl }

pub returns-clause-reading : goal.returns-clause-reading
returns-clause-reading g c = λ still. record { ready = still.ready; budget = still.budget; size = still.size }

pub returns-clause-untouched : goal.returns-clause-untouched
returns-clause-untouched g c = refl
