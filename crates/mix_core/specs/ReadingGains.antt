-- Reading the gains of a clip, to their content or the first fault.
use Rattle.std.specs.Prelude.{ℕ, zero, suc, ◌+◌, ◌^◌, ℤ, unsigned_abs, List, [], ◌∷◌, length, Option, Some, None, Result, Ok, Err, Bool, true, false, ◌&&◌, nat_le, if◌then◌else◌}
use Rattle.std.specs.Option.{ok_or, is_some}
use Rattle.std.specs.List.{list_all}
use Rattle.toml.specs.Data.{Data, array, Members, as_integer, get_member}
use Rattle.clip_core.specs.declared.gain.Point.{Point}
use Rattle.clip_core.specs.Clips.{GainContent, full, alike}
use Rattle.clip_core.specs.Clips as clips
use Rattle.project_core.specs.declared.key.Key.{Key}
use Rattle.project_core.specs.declared.key.Key.TheVariants as keys
use Rattle.project_core.specs.declared.key.Table.{Table}
use Rattle.project_core.specs.declared.fault.ProjectFault.{ProjectFault}
use Rattle.project_core.specs.declared.fault.ProjectFault.TheVariants.{OutOfLimit, WrongKind}
use Rattle.project_core.specs.Keys.{key_name}
use Rattle.project_core.specs.Steps.{◌>>=◌, each}
use Rattle.project_core.specs.Tables.{list_of}
use Rattle.project_core.specs.Reading.{array_of, below, integers_of, is_number}

-- integers in lists that are nested this deep, a number alone at depth 0
abbrev pub are_integers : ℕ → Data → Bool
are_integers zero d = is_some (as_integer d)
are_integers (suc depth) (array ds) = list_all (are_integers depth) (list_of ds)
are_integers (suc depth) d = false

-- the point at a place, if its gain is within the limits
abbrev pub point_at : Option ℕ → ℤ → Option Point
point_at None gain = None
point_at (Some place) gain = if nat_le (unsigned_abs gain) (2 ^ 26) then Some (record { place = place; gain = gain }) else None

-- the point that two integers are, a place and a gain within the limits
abbrev pub point_in : List ℤ → Option Point
point_in (place ∷ gain ∷ []) = point_at (below (2 ^ 36 + 1) place) gain
point_in zs = None

-- the point that a value is
unfoldable pub point_of : Key → Table → Data → Result Point ProjectFault
point_of key clip d = do
  ds ← array_of key clip d
  zs ← integers_of key clip (list_of ds)
  ok_or (point_in zs) (OutOfLimit key clip)

-- the points that all of the values are
unfoldable pub each_point : Key → Table → List Data → Result (List Point) ProjectFault
each_point key clip ds = each (λ _. point_of key clip) 0 ds

-- each place is after the one before, and none is before a least one
abbrev pub rise_from : ℕ → List Point → Bool
rise_from least [] = true
rise_from least (p ∷ ps) = nat_le least p.place && rise_from (p.place + 1) ps

-- the points that a value is: from 1 to 4096, with rising places
unfoldable pub points_of : Key → Table → Data → Result (List Point) ProjectFault
points_of key clip d = do
  ds ← array_of key clip d
  ps ← each_point key clip (list_of ds)
  if is_number 4096 (length ps) && rise_from 0 ps then Ok ps else Err (OutOfLimit key clip)

-- the points of the value at `gain`: first all are integers, and then all are within the limits
unfoldable pub gain_of : Table → Data → Result (List Point) ProjectFault
gain_of clip d = if are_integers 2 d then points_of keys.Gain clip d else Err (WrongKind keys.Gain clip)

-- the lists of points that all of the values are
unfoldable pub each_list : Table → List Data → Result (List (List Point)) ProjectFault
each_list clip ds = each (λ _. points_of keys.Gains clip) 0 ds

-- at least one list of points
abbrev pub some_lists : Table → List Data → Result (List (List Point)) ProjectFault
some_lists clip ds = if nat_le 1 (length ds) then each_list clip ds else Err (OutOfLimit keys.Gains clip)

-- the lists of points of the value at `gains`: first all are integers, and then all are within the limits
unfoldable pub lists_of : Table → Data → Result (List (List Point)) ProjectFault
lists_of clip d = if are_integers 3 d then (array_of keys.Gains clip d >>= λ ds. some_lists clip (list_of ds)) else Err (WrongKind keys.Gains clip)

-- without `gain`, the gains of each channel, full gain if nothing is given
abbrev pub lists_or_full : Table → Option Data → Result GainContent ProjectFault
lists_or_full clip None = Ok full
lists_or_full clip (Some d) = do
  pss ← lists_of clip d
  Ok (clips.each pss)

-- the gains of each channel in a table without `gain`
unfoldable pub lists_at : Table → Members → Result GainContent ProjectFault
lists_at clip table = lists_or_full clip (get_member (key_name keys.Gains) table)

-- points for all channels, beside which there is nothing at `gains`
abbrev pub alone : Table → List Point → Option Data → Result GainContent ProjectFault
alone clip ps None = Ok (alike ps)
alone clip ps (Some d) = Err (OutOfLimit keys.Gains clip)

-- the gains of a clip, by the values at `gains` and at `gain`
abbrev pub gains_or_lists : Table → Option Data → Option Data → Result GainContent ProjectFault
gains_or_lists clip others None = lists_or_full clip others
gains_or_lists clip others (Some d) = do
  ps ← gain_of clip d
  alone clip ps others

-- the clip's gains: those at `gain`, else those at `gains`
unfoldable pub gains_at : Table → Members → Result GainContent ProjectFault
gains_at clip table = gains_or_lists clip (get_member (key_name keys.Gains) table) (get_member (key_name keys.Gain) table)
