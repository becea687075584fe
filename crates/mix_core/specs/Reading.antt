-- Reading numbers and taps of a mix text, to a value or the first fault.
use Rattle.std.specs.Prelude.{ℕ, ◌-◌, ◌%◌, ◌^◌, ℤ, pos, negsuc, int_lt, unsigned_abs, List, length, Option, Some, None, Result, Ok, Err, Bool, ◌&&◌, nat_le, nat_lt, ◌==◌, if◌then◌else◌}
use Rattle.std.specs.Option.{ok_or}
use Rattle.std.specs.List.{sum_by}
use Rattle.toml.specs.Data.{Data, Members, get_member}
use Rattle.project_core.specs.declared.key.Key.{Key}
use Rattle.project_core.specs.declared.key.Key.TheVariants as keys
use Rattle.project_core.specs.declared.key.Table.{Table}
use Rattle.project_core.specs.declared.key.Table.TheVariants as tables
use Rattle.project_core.specs.declared.fault.ProjectFault.{ProjectFault}
use Rattle.project_core.specs.declared.fault.ProjectFault.TheVariants.{OutOfLimit}
use Rattle.project_core.specs.Keys.{key_name}
use Rattle.project_core.specs.Steps.{◌>>=◌}
use Rattle.project_core.specs.Reading.{integer_of, integers_at, value_at}
use Rattle.clip_core.specs.Mixes.{total}

-- a number that isn't below a least one, and is below a bound
abbrev pub within : ℕ → ℕ → ℤ → Option ℕ
within least bound (pos n) = if nat_le least n && nat_lt n bound then Some n else None
within least bound (negsuc n) = None

-- the number that the value at a key is, from a least one up and below a bound
unfoldable pub number_of : Key → Table → ℕ → ℕ → Data → Result ℕ ProjectFault
number_of key place least bound d = do
  z ← integer_of key place d
  ok_or (within least bound z) (OutOfLimit key place)

-- the number at a key, from a least one up and below a bound
unfoldable pub number_at : Key → Table → ℕ → ℕ → Members → Result ℕ ProjectFault
number_at key place least bound table = do
  d ← value_at key place table
  number_of key place least bound d

-- the number that the value at a key is, the least one if it isn't given
abbrev pub number_or_least : Key → Table → ℕ → ℕ → Option Data → Result ℕ ProjectFault
number_or_least key place least bound None = Ok least
number_or_least key place least bound (Some d) = number_of key place least bound d

-- the number at a key, from a least one up and below a bound; the least one if nothing is given there
unfoldable pub number_or_least_at : Key → Table → ℕ → ℕ → Members → Result ℕ ProjectFault
number_or_least_at key place least bound table = number_or_least key place least bound (get_member (key_name key) table)

-- an odd number of taps, at most 65,535, with absolute values that add up to at most a limit
abbrev pub are_taps : ℕ → List ℤ → Bool
are_taps limit taps = length taps % 2 == 1 && nat_le (length taps) 65535 && nat_le (sum_by unsigned_abs taps) limit

-- the taps at a key, with absolute values that add up to at most a limit
unfoldable pub taps_at : Key → Table → ℕ → Members → Result (List ℤ) ProjectFault
taps_at key place limit table = do
  taps ← integers_at key place table
  if are_taps limit taps then Ok taps else Err (OutOfLimit key place)

-- the taps of what can be heard, which add up to more than 0
unfoldable pub audible_at : Members → Result (List ℤ) ProjectFault
audible_at table = do
  taps ← taps_at keys.Audible tables.Mix (2 ^ 31 - 1) table
  if int_lt (pos 0) (total taps) then Ok taps else Err (OutOfLimit keys.Audible tables.Mix)
