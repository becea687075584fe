-- Reading a cue, to its content or the first fault.
use Rattle.std.specs.Prelude.{ℕ, ◌+◌, ◌^◌, ℤ, unsigned_abs, Bool, ◌&&◌, nat_le, List, [], ◌∷◌, length, Option, Some, None, Result, Ok, Err, nat_lt, codes, if◌then◌else◌}
use Rattle.std.specs.Option.{ok_or}
use Rattle.std.specs.Str.{bytes_eq}
use Rattle.toml.specs.Data.{Data, Members, get_member}
use Rattle.project_core.specs.declared.key.Key.TheVariants as keys
use Rattle.project_core.specs.declared.key.Table.{Table}
use Rattle.project_core.specs.declared.key.Table.TheVariants as tables
use Rattle.splice_core.specs.declared.cue.Target.{Target}
use Rattle.splice_core.specs.declared.cue.Target.TheVariants.{Fade, Line}
use Rattle.project_core.specs.declared.fault.ProjectFault.{ProjectFault}
use Rattle.project_core.specs.declared.fault.ProjectFault.TheVariants.{OutOfLimit, ShortCue}
use Rattle.project_core.specs.Keys.{key_name, cue_keys}
use Rattle.splice_core.specs.Cues.{CueContent}
use Rattle.project_core.specs.Steps.{◌>>=◌, optional}
use Rattle.project_core.specs.Reading.{below, integer_of, integers_at, limited_at, table_of, text_of}
use Rattle.project_core.specs.ReadingTakes.{take_number_at}

-- the length of a bridge, 0 if it isn't given
abbrev pub bridge_of : Table → Option Data → Result ℕ ProjectFault
bridge_of cue None = Ok 0
bridge_of cue (Some d) = do
  z ← integer_of keys.Bridge cue d
  ok_or (below 4097 z) (OutOfLimit keys.Bridge cue)

-- the length of the cue's bridge
unfoldable pub bridge_at : Table → Members → Result ℕ ProjectFault
bridge_at cue table = bridge_of cue (get_member (key_name keys.Bridge) table)

-- the name of a target, that of the fade if it isn't given
abbrev pub target_name_of : Table → Option Data → Result (List ℕ) ProjectFault
target_name_of cue None = Ok (codes "fade")
target_name_of cue (Some d) = text_of keys.Target cue d

-- the name of the cue's target
unfoldable pub target_name_at : Table → Members → Result (List ℕ) ProjectFault
target_name_at cue table = target_name_of cue (get_member (key_name keys.Target) table)

-- the fade, which has no ends
abbrev pub fade_of : Table → Option Data → Result Target ProjectFault
fade_of cue None = Ok Fade
fade_of cue (Some d) = Err (OutOfLimit keys.Line cue)

-- a number that a line may begin or end with
abbrev pub is_end : ℤ → Bool
is_end z = nat_le (unsigned_abs z) 4096

-- the line with these ends: two, each within the limits
abbrev pub line_of : Table → List ℤ → Result Target ProjectFault
line_of cue (a ∷ b ∷ []) = if is_end a && is_end b then Ok (Line a b) else Err (OutOfLimit keys.Line cue)
line_of cue zs = Err (OutOfLimit keys.Line cue)

-- the line whose ends are given at `line`
unfoldable pub line_at : Table → Members → Result Target ProjectFault
line_at cue table = do
  zs ← integers_at keys.Line cue table
  line_of cue zs

-- the fade, if nothing is given at `line`
unfoldable pub fade_at : Table → Members → Result Target ProjectFault
fade_at cue table = fade_of cue (get_member (key_name keys.Line) table)

-- the target of a name
abbrev pub target_named : Table → List ℕ → Members → Result Target ProjectFault
target_named cue name table =
    if bytes_eq name (codes "fade") then fade_at cue table
    else (if bytes_eq name (codes "line") then line_at cue table else Err (OutOfLimit keys.Target cue))

-- the cue's target: first its name, and then its ends
unfoldable pub target_at : Table → Members → Result Target ProjectFault
target_at cue table = do
  name ← target_name_at cue table
  target_named cue name table

-- a title of at most 255 bytes
abbrev pub title_of : Table → Data → Result (List ℕ) ProjectFault
title_of cue d = do
  t ← text_of keys.Title cue d
  if nat_lt 255 (length t) then Err (OutOfLimit keys.Title cue) else Ok t

-- the cue's title, if it has one
unfoldable pub title_at : Table → Members → Result (Option (List ℕ)) ProjectFault
title_at cue table = optional (title_of cue) (get_member (key_name keys.Title) table)

-- the cue that a value describes, for a number of weights and of takes, under its number
unfoldable pub cue_of : ℕ → ℕ → ℕ → Data → Result CueContent ProjectFault
cue_of weights takes number d = do
  table ← table_of keys.Cue (tables.Cue number) cue_keys d
  take ← take_number_at (tables.Cue number) number takes table
  start ← limited_at keys.Start (tables.Cue number) (2 ^ 36) table
  stop ← limited_at keys.Stop (tables.Cue number) (2 ^ 36) table
  bridge ← bridge_at (tables.Cue number) table
  target ← target_at (tables.Cue number) table
  title ← title_at (tables.Cue number) table
  if nat_lt (stop + 1) (start + weights) then Err (ShortCue number start stop weights)
      else Ok (record { take = take; start = start; stop = stop; bridge = bridge; target = target; title = title })
