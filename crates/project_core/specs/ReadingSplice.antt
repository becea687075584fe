-- Reading the table `splice`, to its content or the first fault.
use Rattle.std.specs.Prelude.{ℕ, ◌-◌, ℤ, unsigned_abs, List, length, Result, Ok, Err, Bool, ◌&&◌, nat_le, ◌==◌, if◌then◌else◌}
use Rattle.std.specs.List.{sum_by}
use Rattle.toml.specs.Data.{Data, Members}
use Rattle.project_core.specs.declared.key.Key.TheVariants as keys
use Rattle.project_core.specs.declared.key.Table.TheVariants as tables
use Rattle.project_core.specs.declared.fault.ProjectFault.{ProjectFault}
use Rattle.project_core.specs.declared.fault.ProjectFault.TheVariants.{OutOfLimit, LastBridge}
use Rattle.project_core.specs.Keys.{splice_keys}
use Rattle.splice_core.specs.Cues.{CueContent, last_bridge}
use Rattle.splice_core.specs.Splices.{SpliceContent}
use Rattle.project_core.specs.Steps.{◌>>=◌, each}
use Rattle.project_core.specs.Reading.{integers_at, items_at, table_of}
use Rattle.project_core.specs.ReadingTakes.{takes_at}
use Rattle.project_core.specs.ReadingCue.{cue_of}

-- from 2 to 12 weights, with absolute values that add up to at most 4096
abbrev pub are_weights : List ℤ → Bool
are_weights weights = nat_le 2 (length weights) && nat_le (length weights) 12 && nat_le (sum_by unsigned_abs weights) 4096

-- the weights
unfoldable pub weights_at : Members → Result (List ℤ) ProjectFault
weights_at table = do
  weights ← integers_at keys.Weights tables.Splice table
  if are_weights weights then Ok weights else Err (OutOfLimit keys.Weights tables.Splice)

-- the cues that all of the values are
unfoldable pub cues_of : ℕ → ℕ → List Data → Result (List CueContent) ProjectFault
cues_of weights takes ds = each (cue_of weights takes) 0 ds

-- the cues: first how many there are, and then each
unfoldable pub cues_at : ℕ → ℕ → Members → Result (List CueContent) ProjectFault
cues_at weights takes table = do
  ds ← items_at keys.Cue tables.Splice 256 table
  cues_of weights takes ds

-- the splice of the value at `splice`
unfoldable pub splice_of : Data → Result SpliceContent ProjectFault
splice_of value = do
  table ← table_of keys.Splice tables.Splice splice_keys value
  weights ← weights_at table
  takes ← takes_at tables.Splice table
  cues ← cues_at (length weights) (length takes) table
  if last_bridge cues == 0 then Ok (record { weights = weights; takes = takes; cues = cues }) else Err (LastBridge (length cues - 1) (last_bridge cues))
