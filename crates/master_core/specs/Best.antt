-- The best master: the cues and the first least bits between them.
use Rattle.std.specs.Prelude.{◌≡◌, ℕ, Bool, List, []}
use Rattle.std.specs.List.{AllZip}
use Rattle.dsd_bits.specs.Contents.{Content, MarkContent}
use Rattle.form_core.specs.declared.form.Form.{Form}
use Rattle.form_core.specs.declared.form.Form.TheVariants.{Dsdiff, Dsf, Dsf8}
use Rattle.cost_core.specs.Bridges.{IsFirstLeastBridge}
use Rattle.cost_core.specs.Channels.{Part}
use Rattle.cut_core.specs.Cuts.{CutContent}
use Rattle.cut_core.specs.Titles.{titles_of}
use Rattle.cut_core.specs.Masters.{channel_numbers, master_channel, parts_of, total_cost}

-- the bits are the first of the least lists of bits of a bridge
abbrev pub IsFirstLeastPart : Part → List Bool → Type 0
IsFirstLeastPart p x = IsFirstLeastBridge p.bridging x

-- the cues with the first least bits for each bridge
pub record IsBestChannel (cut : CutContent) (c : ℕ) (z : List Bool) : Type 0 where
  pub bridges : List (List Bool)
  pub best : AllZip IsFirstLeastPart (parts_of cut c) bridges
  pub made : z ≡ master_channel cut c bridges

-- each channel is the cues with the first least bits for each bridge
abbrev pub AreBestChannels : CutContent → List (List Bool) → Type 0
AreBestChannels cut zs = AllZip (IsBestChannel cut) (channel_numbers cut) zs

-- the marks of a master in a form: those of the titles in a DSDIFF file, none in a DSF file
abbrev pub marks_in : Form → CutContent → List MarkContent
marks_in Dsdiff cut = titles_of cut
marks_in Dsf cut = []
marks_in Dsf8 cut = []

-- the recording of a master with these channels: its rate, IDs and layout are those of the first take
abbrev pub master_of : CutContent → Form → List (List Bool) → Content
master_of cut form channels = record {
  rate = cut.first.rate;
  channels = channels;
  ids = cut.first.ids;
  layout = cut.first.layout;
  marks = marks_in form cut;
  others = [];
  tag = [];
}

-- the recording of the master whose every bridge is the first least one, and the cost of its bridges
pub record IsBestMaster (cut : CutContent) (form : Form) (recording : Content) (cost : ℕ) : Type 0 where
  pub channels : List (List Bool)
  pub best : AreBestChannels cut channels
  pub recording_is : recording ≡ master_of cut form channels
  pub cost_is : cost ≡ total_cost cut channels
