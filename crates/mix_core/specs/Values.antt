-- What the gains of a clip are as values of a text.
use Rattle.std.specs.Prelude.{pos, List, [], ◌∷◌, map, Option, Some, None}
use Rattle.toml.specs.Data.{Data, array}
use Rattle.toml.specs.View.{items_of}
use Rattle.clip_core.specs.declared.gain.Point.{Point}
use Rattle.clip_core.specs.Clips.{GainContent, full, alike, each}
use Rattle.project_core.specs.Tables.{numbers}

-- a point as a value: its place and its gain
abbrev pub point : Point → Data
point p = numbers (pos p.place ∷ p.gain ∷ [])

-- points as a value
abbrev pub points : List Point → Data
points ps = array (items_of (map point ps))

-- points for each channel as a value
abbrev pub lists : List (List Point) → Data
lists pss = array (items_of (map points pss))

-- the value at `gain`, if these gains have one
abbrev pub gain_value : GainContent → Option Data
gain_value full = None
gain_value (alike ps) = Some (points ps)
gain_value (each pss) = None

-- the value at `gains`, if these gains have one
abbrev pub gains_value : GainContent → Option Data
gains_value full = None
gains_value (alike ps) = None
gains_value (each pss) = Some (lists pss)
