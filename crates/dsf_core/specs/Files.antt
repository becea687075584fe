-- When a DSF 1.01 file holds a recording, field by field.
use Rattle.std.specs.Prelude.{◌≡◌, ◌≤◌, ℕ, ◌-◌, ◌⊎◌, List, [], length, drop}
use Rattle.chunk_core.specs.Numbers.{id_at}
use Rattle.dsd_bits.specs.declared.blocks.BitOrder.{BitOrder}
use Rattle.dsd_bits.specs.declared.blocks.BitOrder.TheVariants.{LeastFirst, MostFirst}
use Rattle.dsd_bits.specs.Blocks.{unblocked_all}
use Rattle.dsd_bits.specs.Contents.{Content}
use Rattle.dsd_bits.specs.Ids.{DSD}
use Rattle.dsd_bits.specs.Limits.{most_bits, most_channels, least_rate, greatest_rate, block_bytes}
use Rattle.dsf_core.specs.Fields.{FMT, DATA, first_size, pointer, stated_format_size, version, format, channel_type, channel_number, rate, bits_per_sample, count, block_size, data_place, stated_data_size, sound_place, needed, sound_end, stated_layout, dsf_ids, stated_tag}

-- the bits per sample that mean an order (this project's profile)
abbrev pub sample_bits : BitOrder → ℕ
sample_bits LeastFirst = 1
sample_bits MostFirst = 8

-- the file holds this recording, its bits in this order: the whole format as one relation, field by field
pub record IsDsf (file : List ℕ) (r : Content) (order : BitOrder) : Type 0 where
  -- three chunks, the second and the third of them with all their fields
  pub first : id_at file 0 ≡ DSD
  pub first_is : first_size file ≡ 28
  pub second : id_at file 28 ≡ FMT
  pub second_long : 52 ≤ stated_format_size file
  pub third : id_at file (data_place file) ≡ DATA
  pub third_long : 12 ≤ stated_data_size file
  -- raw sound of version 1, within the limits
  pub version_is : version file ≡ 1
  pub format_is : format file ≡ 0
  pub some_channel : 1 ≤ channel_number file
  pub six_channels : channel_number file ≤ most_channels
  pub rate_low : least_rate ≤ rate file
  pub rate_high : rate file ≤ greatest_rate
  pub order_is : bits_per_sample file ≡ sample_bits order
  pub block_is : block_size file ≡ block_bytes
  pub not_long : count file ≤ most_bits
  -- the data chunk and the file hold the needed sound bytes, and the tag comes after them
  pub in_chunk : needed file ≤ stated_data_size file - 12
  pub in_file : sound_end file ≤ length file
  pub after : (pointer file ≡ 0) ⊎ ((sound_end file ≤ pointer file) × (pointer file ≤ length file))
  -- what is read
  pub rate_read : r.rate ≡ rate file
  pub channels_read : r.channels ≡ unblocked_all order (drop (sound_place file) file) (channel_number file) (count file)
  pub ids_read : r.ids ≡ dsf_ids (channel_number file)
  pub layout_read : r.layout ≡ stated_layout (channel_type file) (channel_number file)
  pub tag_read : r.tag ≡ stated_tag file
  -- what the format does not store
  pub no_marks : r.marks ≡ []
  pub no_others : r.others ≡ []
