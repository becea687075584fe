-- The shape of a recording: the rules that each one keeps.
use Rattle.std.specs.Prelude.{◌≡◌, ◌≤◌, ℕ, ◌^◌, ◌<◌, Bool, true, false, ◌&&◌, ◌||◌, List, ◌++◌, All, filter, length, nat_eq}
use Rattle.std.specs.List.{starts_with}
use Rattle.dsd_bits.specs.declared.marks.Place.{Place}
use Rattle.dsd_bits.specs.declared.marks.Place.TheVariants.{Property, Master, Form}
use Rattle.dsd_bits.specs.Channels.{IsLevel, count_of}
use Rattle.dsd_bits.specs.Contents.{Content, Described, OtherContent}
use Rattle.dsd_bits.specs.Ids.{same_id, FVER, PROP, SND, FS, CHNL, CMPR, DSD, DIIN, MARK}
use Rattle.dsd_bits.specs.Layouts.{layout_channels}
use Rattle.dsd_bits.specs.Limits.{most_bits, most_channels, least_rate, greatest_rate}

-- two places of kept chunks are the same
abbrev pub same_place : Place → Place → Bool
same_place Property Property = true
same_place Master Master = true
same_place Form Form = true
same_place _ _ = false

-- the chunks of this place, in their order
abbrev pub at_place : Place → List OtherContent → List OtherContent
at_place place others = filter (λ o. same_place o.place place) others

-- the recording holds what a chunk of this place, ID and bytes means in parts of its own
abbrev pub has_part : Place → List ℕ → List ℕ → Bool
has_part Property id bytes = same_id id FS || same_id id CHNL || same_id id CMPR
has_part Master id bytes = same_id id MARK
has_part Form id bytes = same_id id FVER || same_id id DSD || same_id id DIIN || (same_id id PROP && starts_with nat_eq bytes SND)

-- the rules that each recording obeys, one by one
pub record HasShape (r : Content) : Type 0 where
  pub rate_low : least_rate ≤ r.rate
  pub rate_high : r.rate ≤ greatest_rate
  pub some_channel : 1 ≤ length r.channels
  pub six_channels : length r.channels ≤ most_channels
  pub level : IsLevel r.channels
  pub in_limit : count_of r.channels ≤ most_bits
  pub id_for_each : length r.ids ≡ length r.channels
  pub layout_fits : layout_channels r.layout ≡ length r.channels
  pub short_texts : All (λ mark. length mark.text < 2 ^ 32) r.marks
  pub in_order : r.others ≡ at_place Property r.others ++ (at_place Master r.others ++ at_place Form r.others)
  pub no_parts : All (λ o. has_part o.place o.id o.bytes ≡ false) r.others

-- the rules that the parts of a description obey
pub record IsDescription (d : Described) : Type 0 where
  pub rate_low : least_rate ≤ d.rate
  pub rate_high : d.rate ≤ greatest_rate
  pub some_channel : 1 ≤ length d.ids
  pub six_channels : length d.ids ≤ most_channels
  pub in_limit : d.count ≤ most_bits
  pub layout_fits : layout_channels d.layout ≡ length d.ids
  pub short_texts : All (λ mark. length mark.text < 2 ^ 32) d.marks
  pub in_order : d.others ≡ at_place Property d.others ++ (at_place Master d.others ++ at_place Form d.others)
  pub no_parts : All (λ o. has_part o.place o.id o.bytes ≡ false) d.others

-- there are as many channels as the description says, and each has as many bits as it says
pub record AreDescribed (d : Described) (channels : List (List Bool)) : Type 0 where
  pub number : length channels ≡ length d.ids
  pub level : IsLevel channels
  pub count : count_of channels ≡ d.count
