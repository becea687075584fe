-- Reading the takes of a text: their names, and the number of one of them.
use Rattle.std.specs.Prelude.{ℕ, List, length, Result, Ok, Err, if◌then◌else◌}
use Rattle.std.specs.Option.{ok_or}
use Rattle.toml.specs.Data.{Members}
use Rattle.project_core.specs.declared.key.Key.TheVariants as keys
use Rattle.project_core.specs.declared.key.Table.{Table}
use Rattle.project_core.specs.declared.fault.ProjectFault.{ProjectFault}
use Rattle.project_core.specs.declared.fault.ProjectFault.TheVariants.{OutOfLimit, NoTake}
use Rattle.project_core.specs.Steps.{◌>>=◌}
use Rattle.project_core.specs.Reading.{below, integer_of, is_number, texts_at, value_at}

-- the names of the takes
unfoldable pub takes_at : Table → Members → Result (List (List ℕ)) ProjectFault
takes_at place table = do
  takes ← texts_at keys.Takes place table
  if is_number 16 (length takes) then Ok takes else Err (OutOfLimit keys.Takes place)

-- the number of a take, below the number of takes, in the table of the cue or clip of this number
unfoldable pub take_number_at : Table → ℕ → ℕ → Members → Result ℕ ProjectFault
take_number_at place number takes table = do
  d ← value_at keys.Take place table
  z ← integer_of keys.Take place d
  ok_or (below takes z) (NoTake number z takes)
