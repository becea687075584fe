-- What a mix text says, without an order of reading.
use Rattle.std.specs.Prelude.{◌≡◌, ◌≢◌, ℕ, ◌^◌, ℤ, List, [], map, length, Some, ◌⊎◌}
use Rattle.std.specs.List.{AllZip}
use Rattle.toml.specs.Data.{array, table, Members, get_member}
use Rattle.toml.specs.View.{items_of}
use Rattle.project_core.specs.declared.key.Key.TheVariants as keys
use Rattle.project_core.specs.Keys.{key_name}
use Rattle.project_core.specs.Tables.{FindsOnly, Has, Lacks, number, numbers, table_in, texts}
use Rattle.clip_core.specs.Clips.{ClipContent, IsClipWithin, each}
use Rattle.clip_core.specs.Mixes.{AreTaps, IsMixing, MixContent}
use Rattle.mix_core.specs.Keys.{text_keys, mix_keys, decoder_keys, clip_keys}
use Rattle.mix_core.specs.Values.{gain_value, gains_value}

-- a table describes the decoder with these taps
pub record IsDecoder (t : Members) (decoder : List ℤ) : Type 0 where
  pub no_others : FindsOnly decoder_keys t
  pub taps : Has t keys.Taps (numbers decoder)
  pub limits : AreTaps (2 ^ 28) decoder

-- a table describes this clip, for a number of takes and of decoders; without a decoder it has the first one, and
-- without points full gain
pub record IsClip (takes decoders : ℕ) (t : Members) (c : ClipContent) : Type 0 where
  pub no_others : FindsOnly clip_keys t
  pub take : Has t keys.Take (number c.take)
  pub decoder : Has t keys.Decoder (number c.decoder) ⊎ (Lacks t keys.Decoder × (c.decoder ≡ 0))
  pub start : Has t keys.Start (number c.start)
  pub at : Has t keys.At (number c.at)
  pub length : Has t keys.Length (number c.length)
  pub gain : get_member (key_name keys.Gain) t ≡ gain_value c.gains
  pub gains : get_member (key_name keys.Gains) t ≡ gains_value c.gains
  pub some_lists : c.gains ≢ each []
  pub limits : IsClipWithin takes decoders c

-- a table describes this mix: numbers, taps, the names of takes, and a table for each decoder and each clip; without
-- `every` all places are judged
pub record IsMixTable (t : Members) (x : MixContent) : Type 0 where
  pub no_others : FindsOnly mix_keys t
  pub unit : Has t keys.Unit (number x.unit)
  pub audible : Has t keys.Audible (numbers x.audible)
  pub limit : Has t keys.Limit (number x.limit)
  pub every : Has t keys.Every (number x.every) ⊎ (Lacks t keys.Every × (x.every ≡ 1))
  pub takes : Has t keys.Takes (texts x.takes)
  pub decoders : (ts : List Members) × Has t keys.Decoder (array (items_of (map table ts))) × AllZip IsDecoder ts x.decoders
  pub clips : (ts : List Members) × Has t keys.Clip (array (items_of (map table ts))) × AllZip (IsClip (length x.takes) (length x.decoders)) ts x.clips
  pub limits : IsMixing x

-- a document describes this mix, in its one table
pub record IsMixDocument (t : Members) (x : MixContent) : Type 0 where
  pub no_others : FindsOnly text_keys t
  pub mix : (m : Members) × Has t keys.Mix (table m) × IsMixTable m x

-- the bytes are a text that describes this mix
abbrev pub IsMix : List ℕ → MixContent → Type 0
IsMix bytes x = (t : Members) × (table_in bytes ≡ Some t) × IsMixDocument t x
