-- Reading a mix text, to its content or the first fault.
use Rattle.std.specs.Prelude.{ℕ, ◌+◌, ◌-◌, ◌^◌, ℤ, List, length, Result, Ok, Err, Bool, nat_le, if◌then◌else◌}
use Rattle.std.specs.List.{list_all}
use Rattle.toml.specs.Data.{Data, Members}
use Rattle.clip_core.specs.Clips.{ClipContent}
use Rattle.clip_core.specs.Mixes.{MixContent, clips_at}
use Rattle.project_core.specs.declared.key.Key.TheVariants as keys
use Rattle.project_core.specs.declared.key.Table.TheVariants as tables
use Rattle.project_core.specs.declared.fault.ProjectFault.{ProjectFault}
use Rattle.project_core.specs.declared.fault.ProjectFault.TheVariants.{OutOfLimit, UnknownKey}
use Rattle.project_core.specs.Steps.{◌>>=◌, each}
use Rattle.project_core.specs.Tables.{has_only}
use Rattle.project_core.specs.Reading.{document, items_at, table_of, value_at}
use Rattle.project_core.specs.ReadingTakes.{take_number_at, takes_at}
use Rattle.mix_core.specs.Keys.{text_keys, mix_keys, decoder_keys, clip_keys}
use Rattle.mix_core.specs.Reading.{audible_at, number_at, number_or_least_at, taps_at}
use Rattle.mix_core.specs.ReadingGains.{gains_at}

-- the taps of the decoder that a value describes, under its number
unfoldable pub decoder_of : ℕ → Data → Result (List ℤ) ProjectFault
decoder_of number d = do
  table ← table_of keys.Decoder (tables.Decoder number) decoder_keys d
  taps_at keys.Taps (tables.Decoder number) (2 ^ 28) table

-- the clip that a value describes, for a number of takes and of decoders, under its number
unfoldable pub clip_of : ℕ → ℕ → ℕ → Data → Result ClipContent ProjectFault
clip_of takes decoders number d = do
  table ← table_of keys.Clip (tables.Clip number) clip_keys d
  take ← take_number_at (tables.Clip number) number takes table
  decoder ← number_or_least_at keys.Decoder (tables.Clip number) 0 decoders table
  start ← number_at keys.Start (tables.Clip number) 0 (2 ^ 36 + 1) table
  at ← number_at keys.At (tables.Clip number) 0 (2 ^ 36 + 1) table
  length ← number_at keys.Length (tables.Clip number) 1 (2 ^ 36 + 1 - at) table
  gains ← gains_at (tables.Clip number) table
  Ok (record { take = take; decoder = decoder; start = start; at = at; length = length; gains = gains })

-- the decoders that all of the values are
unfoldable pub decoders_of : List Data → Result (List (List ℤ)) ProjectFault
decoders_of ds = each decoder_of 0 ds

-- the clips that all of the values are
unfoldable pub clips_of : ℕ → ℕ → List Data → Result (List ClipContent) ProjectFault
clips_of takes decoders ds = each (clip_of takes decoders) 0 ds

-- at most 64 clips have the first place of any of them
abbrev pub are_apart : List ClipContent → Bool
are_apart clips = list_all (λ c. nat_le (clips_at c.at clips) 64) clips

-- the decoders and the clips of a mix with a number of takes: first how many there are, and then each
unfoldable pub parts_at : ℕ → Members → Result (List (List ℤ) × List ClipContent) ProjectFault
parts_at takes table = do
  ds ← items_at keys.Decoder tables.Mix 16 table
  cs ← items_at keys.Clip tables.Mix 1024 table
  decoders ← decoders_of ds
  clips ← clips_of takes (length decoders) cs
  if are_apart clips then Ok (decoders, clips) else Err (OutOfLimit keys.Clip tables.Mix)

-- the mix of the value at `mix`
unfoldable pub mix_of : Data → Result MixContent ProjectFault
mix_of d = do
  table ← table_of keys.Mix tables.Mix mix_keys d
  unit ← number_at keys.Unit tables.Mix 1 (2 ^ 28 + 1) table
  audible ← audible_at table
  limit ← number_at keys.Limit tables.Mix 0 (2 ^ 63) table
  every ← number_or_least_at keys.Every tables.Mix 1 65 table
  takes ← takes_at tables.Mix table
  parts ← parts_at (length takes) table
  Ok (record { unit = unit; audible = audible; limit = limit; every = every; takes = takes; decoders = parts.0; clips = parts.1 })

-- the mix of a document
unfoldable pub mix_in : Members → Result MixContent ProjectFault
mix_in table = if has_only text_keys table then (value_at keys.Mix tables.MixDocument table >>= mix_of) else Err (UnknownKey tables.MixDocument)

-- the mix of a text
unfoldable pub mix_at : List ℕ → Result MixContent ProjectFault
mix_at bytes = do
  table ← document bytes
  mix_in table
