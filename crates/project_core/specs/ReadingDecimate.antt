-- Reading the table `decimate`, to a decimator or the first fault.
use Rattle.std.specs.Prelude.{Option, Some, None, Result, Ok, Err}
use Rattle.toml.specs.Data.{Data}
use Rattle.fir_core.specs.declared.fault.TapsFault.{TapsFault}
use Rattle.fir_core.specs.Decimator.{Decimator}
use Rattle.fir_core.specs.Faults.{broken_limit}
use Rattle.project_core.specs.declared.key.Key.TheVariants as keys
use Rattle.project_core.specs.declared.key.Table.TheVariants as tables
use Rattle.project_core.specs.declared.fault.ProjectFault.{ProjectFault}
use Rattle.project_core.specs.Faults.{limit_fault}
use Rattle.project_core.specs.Keys.{decimate_keys}
use Rattle.project_core.specs.Steps.{◌>>=◌}
use Rattle.project_core.specs.Reading.{integers_at, table_of, unsigned_at}

-- the decimator, if it breaks no limit
abbrev pub unless_broken : Option TapsFault → Decimator → Result Decimator ProjectFault
unless_broken None d = Ok d
unless_broken (Some fault) d = Err (limit_fault fault)

-- the decimator of the value at `decimate`: every key is read before any limit is tested
unfoldable pub decimate_of : Data → Result Decimator ProjectFault
decimate_of value = do
  table ← table_of keys.Decimate tables.Decimate decimate_keys value
  taps ← integers_at keys.Taps tables.Decimate table
  factor ← unsigned_at keys.Factor tables.Decimate table
  delay ← unsigned_at keys.Delay tables.Decimate table
  shift ← unsigned_at keys.Shift tables.Decimate table
  width ← unsigned_at keys.Width tables.Decimate table
  let d : Decimator = record { taps = taps; factor = factor; delay = delay; shift = shift; width = width } in unless_broken (broken_limit d) d
