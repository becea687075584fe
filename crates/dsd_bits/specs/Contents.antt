-- What a recording holds, as lists and numbers.
use Rattle.std.specs.Prelude.{ℕ, ℤ, Bool, List, map}
use Rattle.dsd_bits.specs.declared.marks.Mark.{Mark}
use Rattle.dsd_bits.specs.declared.marks.Other.{Other}
use Rattle.dsd_bits.specs.declared.marks.Place.{Place}
use Rattle.dsd_bits.specs.Channels.{count_of}

-- a mark
pub record MarkContent : Type 0 where
  pub hours : ℕ
  pub minutes : ℕ
  pub seconds : ℕ
  pub samples : ℕ
  pub offset : ℤ
  pub kind : ℕ
  pub channel : ℕ
  pub flags : ℕ
  pub text : List ℕ

-- a chunk kept as its bytes
pub record OtherContent : Type 0 where
  pub place : Place
  pub id : List ℕ
  pub bytes : List ℕ

-- a recording
pub record Content : Type 0 where
  pub rate : ℕ
  pub channels : List (List Bool)
  pub ids : List (List ℕ)
  pub layout : ℕ
  pub marks : List MarkContent
  pub others : List OtherContent
  pub tag : List ℕ

-- a recording without its bits: their number in each channel, and everything else
pub record Described : Type 0 where
  pub rate : ℕ
  pub count : ℕ
  pub ids : List (List ℕ)
  pub layout : ℕ
  pub marks : List MarkContent
  pub others : List OtherContent
  pub tag : List ℕ

-- the description of a recording
abbrev pub described : Content → Described
described r = record {
  rate = r.rate;
  count = count_of r.channels;
  ids = r.ids;
  layout = r.layout;
  marks = r.marks;
  others = r.others;
  tag = r.tag;
}

-- the recording of this description with these channels
abbrev pub with_channels : Described → List (List Bool) → Content
with_channels d channels = record {
  rate = d.rate;
  channels = channels;
  ids = d.ids;
  layout = d.layout;
  marks = d.marks;
  others = d.others;
  tag = d.tag;
}

-- what a mark in memory holds
abbrev pub mark_content : Mark → MarkContent
mark_content m = record {
  hours = m.hours;
  minutes = m.minutes;
  seconds = m.seconds;
  samples = m.samples;
  offset = m.offset;
  kind = m.kind;
  channel = m.channel;
  flags = m.flags;
  text = m.text.items;
}

-- what a kept chunk in memory holds
abbrev pub other_content : Other → OtherContent
other_content o = record { place = o.place; id = o.id; bytes = o.bytes.items }

-- what the parts of a description in memory say
abbrev pub described_of : ℕ → ℕ → List (List ℕ) → ℕ → List Mark → List Other → List ℕ → Described
described_of rate count ids layout marks others tag = record {
  rate = rate;
  count = count;
  ids = ids;
  layout = layout;
  marks = map mark_content marks;
  others = map other_content others;
  tag = tag;
}
