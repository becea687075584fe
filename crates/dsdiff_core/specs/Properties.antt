-- The sound property: rate, channels and compression.
use Rattle.std.specs.Prelude.{ℕ, ◌+◌, ◌*◌, List, [], length, take, drop, find, Option, Some, None, option_map, Result, Ok, Err, nat_lt, if◌then◌else◌}
use Rattle.std.specs.Borrow.{Bor}
use Rattle.byteorder.specs.Endian.{big_number}
use Rattle.chunk_core.specs.declared.layout.Span.{Span}
use Rattle.chunk_core.specs.Reading.{spans_in}
use Rattle.chunk_core.specs.Steps.{◌>>=◌}
use Rattle.dsd_bits.specs.Ids.{same_id, FS, CHNL, CMPR, DSD}
use Rattle.dsd_bits.specs.Limits.{most_channels, least_rate, greatest_rate}
use Rattle.dsdiff_core.specs.declared.fault.DsdiffFault.{DsdiffFault}
use Rattle.dsdiff_core.specs.declared.fault.DsdiffFault.TheVariants.{NoProperty, NoRate, NoChannels, NoCompression, Compressed, BadRate, BadChannelNumber}
use Rattle.dsdiff_core.specs.declared.property.SoundProperty.{SoundProperty}
use Rattle.dsdiff_core.specs.Fields.{ids_in}
use Rattle.dsdiff_core.specs.Spans.{data_with, holds_property, once_each, property_kinds}
use Rattle.dsdiff_core.specs.Steps.{some_or, walked}

-- what a sound property says, and the places of its chunks
pub record PropertyFields : Type 0 where
  pub rate : ℕ
  pub ids : List (List ℕ)
  pub parts : List Span

-- what a sound property that was read says
abbrev pub stated_of : SoundProperty → PropertyFields
stated_of p = record { rate = p.rate; ids = p.ids.items; parts = p.parts.items }

-- the rate in the data of its chunk
abbrev pub rate_of : Option (List ℕ) → Result ℕ DsdiffFault
rate_of None = Err NoRate
rate_of (Some bytes) = if nat_lt (length bytes) 4 then Err NoRate else Ok (big_number 4 bytes)

-- the channel number and the bytes of the IDs in the data of their chunk
abbrev pub ids_and_number : Option (List ℕ) → Result (ℕ × List ℕ) DsdiffFault
ids_and_number None = Err NoChannels
ids_and_number (Some bytes) =
    if nat_lt (length bytes) 2 then Err NoChannels
    else if nat_lt (length bytes) (2 + 4 * big_number 2 bytes) then Err NoChannels
    else Ok (big_number 2 bytes, drop 2 bytes)

-- the data of its chunk say that nothing is compressed
abbrev pub raw_of : Option (List ℕ) → Result (Unit {0}) DsdiffFault
raw_of None = Err NoCompression
raw_of (Some bytes) =
    if nat_lt (length bytes) 4 then Err NoCompression
    else if same_id (take 4 bytes) DSD then Ok tt
    else Err (Compressed (take 4 bytes))

-- rate and channel number are within their limits
abbrev pub limits_of : ℕ → ℕ → Result (Unit {0}) DsdiffFault
limits_of rate number =
    if nat_lt rate least_rate then Err (BadRate rate)
    else if nat_lt greatest_rate rate then Err (BadRate rate)
    else if nat_lt number 1 then Err (BadChannelNumber number)
    else if nat_lt most_channels number then Err (BadChannelNumber number)
    else Ok tt

-- the rate and the IDs, from the data of the chunks for rate, channels and compression
unfoldable pub fields_of : Option (List ℕ) → Option (List ℕ) → Option (List ℕ) → Result (ℕ × List (List ℕ)) DsdiffFault
fields_of rates names kinds = do
  rate ← rate_of rates
  channels ← ids_and_number names
  raw ← raw_of kinds
  limits ← limits_of rate channels.0
  Ok (rate, ids_in channels.0 channels.1)

-- the same of slices that may be there
abbrev pub fields_in : Option (Bor (List ℕ)) → Option (Bor (List ℕ)) → Option (Bor (List ℕ)) → Result (ℕ × List (List ℕ)) DsdiffFault
fields_in rates names kinds = fields_of (option_map (λ x. x.now) rates) (option_map (λ x. x.now) names) (option_map (λ x. x.now) kinds)

-- the property of the sound among the form's chunks
unfoldable pub property_of : List ℕ → List Span → Result PropertyFields DsdiffFault
property_of file top = do
  property ← some_or NoProperty (find (holds_property file) top)
  parts ← walked (spans_in file (property.start + 4) (property.start + property.size))
  once ← once_each property_kinds [] parts
  fields ← fields_of (data_with file FS parts) (data_with file CHNL parts) (data_with file CMPR parts)
  Ok (record { rate = fields.0; ids = fields.1; parts = parts })
