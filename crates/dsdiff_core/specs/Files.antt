-- When a DSDIFF 1.5 file holds a recording, in lists of chunks.
use Rattle.std.specs.Prelude.{◌≡◌, ◌≤◌, ℕ, ◌+◌, ◌*◌, ◌/◌, ◌%◌, true, ◌||◌, List, [], ◌∷◌, ◌++◌, All, filter, flat_map, length, map, take, drop, slice_range, slice_index}
use Rattle.std.specs.List.{AllZip}
use Rattle.byteorder.specs.Endian.{big_number}
use Rattle.chunk_core.specs.Chunks.{Chunk, chunks}
use Rattle.dsd_bits.specs.declared.marks.Place.TheVariants.{Property, Master, Form}
use Rattle.dsd_bits.specs.Contents.{Content}
use Rattle.dsd_bits.specs.Ids.{FVER, FS, CHNL, CMPR, DSD, DIIN, MARK}
use Rattle.dsd_bits.specs.Lacing.{unlaced_all}
use Rattle.dsd_bits.specs.Layouts.{usual_layout}
use Rattle.dsd_bits.specs.Limits.{most_bits, most_channels, least_rate, greatest_rate}
use Rattle.dsdiff_core.specs.Fields.{form_size, form_end, ids_in}
use Rattle.dsdiff_core.specs.Kinds.{FRM8, has_id, is_property}
use Rattle.dsdiff_core.specs.Marks.{IsWholeMark, mark_in}
use Rattle.dsdiff_core.specs.Others.{kept}

-- the chunks of every edited master, in the order of the file
abbrev pub joined : List (List Chunk) → List Chunk
joined masters = flat_map (λ cs. cs) masters

-- the chunk, a property of the sound, has this rate and this number of channels, uncompressed
pub record StatesProperty (property : Chunk) (rate number : ℕ) : Type 0 where
  -- among the chunks after its type one each for the rate, the channels' names and the compression
  pub parts : List Chunk
  pub are_parts : chunks (drop 4 property.content) parts
  pub rates : Chunk
  pub names : Chunk
  pub kinds : Chunk
  pub one_rate : filter (has_id FS) parts ≡ rates ∷ []
  pub one_names : filter (has_id CHNL) parts ≡ names ∷ []
  pub one_kind : filter (has_id CMPR) parts ≡ kinds ∷ []
  -- what their data say, within the limits
  pub rate_long : 4 ≤ length rates.content
  pub rate_is : rate ≡ big_number 4 rates.content
  pub rate_low : least_rate ≤ rate
  pub rate_high : rate ≤ greatest_rate
  pub number_is : number ≡ big_number 2 names.content
  pub some_channel : 1 ≤ number
  pub six_channels : number ≤ most_channels
  pub names_long : 2 + 4 * number ≤ length names.content
  pub raw : take 4 kinds.content ≡ DSD

-- the file holds this recording: the whole format as one relation, field by field
pub record IsDsdiff (file : List ℕ) (r : Content) : Type 0 where
  -- the form, whose last pad may be missing
  pub long : 16 ≤ length file
  pub form : take 4 file ≡ FRM8
  pub kind : take 4 (drop 12 file) ≡ DSD
  pub holds_type : 4 ≤ form_size file
  pub in_file : 12 + form_size file ≤ length file + 1
  -- its chunks: the version first and once, one sound property, and one sound after it
  pub top : List Chunk
  pub are_top : chunks (slice_range file 16 (form_end file)) top
  pub version : Chunk
  pub later : List Chunk
  pub version_first : top ≡ version ∷ later
  pub version_once : filter (has_id FVER) top ≡ version ∷ []
  pub version_long : 4 ≤ length version.content
  pub version_main : slice_index version.content 0 ≡ 1
  pub property : Chunk
  pub sound : Chunk
  pub property_then_sound : filter (λ c. is_property c || has_id DSD c) top ≡ property ∷ sound ∷ []
  pub property_is : is_property property ≡ true
  pub sound_is : has_id DSD sound ≡ true
  -- the property has the rate, and the channels with their names
  pub number : ℕ
  pub states : StatesProperty property r.rate number
  pub ids : r.ids ≡ ids_in number (drop 2 states.names.content)
  -- whole frames of sound, one byte of each channel in turn
  pub whole : length sound.content % number ≡ 0
  pub not_long : 8 * (length sound.content / number) ≤ most_bits
  pub channels : r.channels ≡ unlaced_all sound.content number
  -- the chunks of each edited master, and the marks among them
  pub masters : List (List Chunk)
  pub are_masters : AllZip (λ c cs. chunks c.content cs) (filter (has_id DIIN) top) masters
  pub whole_marks : All IsWholeMark (filter (has_id MARK) (joined masters))
  pub marks : r.marks ≡ map mark_in (filter (has_id MARK) (joined masters))
  -- what is kept as it is, and what the format does not store
  pub others : r.others ≡ kept Property states.parts ++ (kept Master (joined masters) ++ kept Form top)
  pub layout : r.layout ≡ usual_layout number
  pub tag : r.tag ≡ []
