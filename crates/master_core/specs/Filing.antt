-- The file of a master, in three parts.
use Rattle.std.specs.Prelude.{◌≡◌, ◌≤◌, ◌^◌, ℕ, Bool, List, [], Option, Some, length, replicate}
use Rattle.std.specs.Io.KnownBytes.{Appends}
use Rattle.chunk_core.specs.Outlets.{AppendsPart}
use Rattle.dsd_bits.specs.Contents.{Content}
use Rattle.dsdiff_core.specs.ReadAgain.{FitsFields}
use Rattle.form_core.specs.declared.form.Form.{Form}
use Rattle.form_core.specs.declared.parts.Ends.{Ends}
use Rattle.form_core.specs.Forms.{text_in}
use Rattle.form_core.specs.Parts.{FitsIn, head_in, tail_in}
use Rattle.cut_core.specs.Cuts.{CutContent, master_length, take_channels}
use Rattle.master_core.specs.Best.{AreBestChannels, master_of}

-- the recording of a master without its bits
abbrev pub silent_master : CutContent → Form → Content
silent_master cut form = master_of cut form (replicate (take_channels cut) [])

-- the bytes before and after the sound in the master's file, few enough for it to be read again
pub record AreMasterEnds (cut : CutContent) (form : Form) (ends : Ends) : Type 0 where
  pub head : ends.head.items ≡ head_in form (silent_master cut form) (master_length cut.splice.cues)
  pub tail : ends.tail.items ≡ tail_in form (silent_master cut form) (master_length cut.splice.cues)
  pub fits : FitsIn form (master_length cut.splice.cues)
  pub fields : FitsFields (silent_master cut form)
  pub head_short : length ends.head.items ≤ 2 ^ 40
  pub tail_short : length ends.tail.items ≤ 2 ^ 40

-- the file of the best master was written
pub record WritesMaster (cut : CutContent) (form : Form) (old new : Option (List ℕ)) : Type 0 where
  pub channels : List (List Bool)
  pub best : AreBestChannels cut channels
  pub text : List ℕ
  pub text_is : text_in form (master_of cut form channels) ≡ Some text
  pub written : Appends old new text

-- a prefix of the file of the best master was written, and not all of it
pub record WritesMasterPrefix (cut : CutContent) (form : Form) (old new : Option (List ℕ)) : Type 0 where
  pub channels : List (List Bool)
  pub best : AreBestChannels cut channels
  pub text : List ℕ
  pub text_is : text_in form (master_of cut form channels) ≡ Some text
  pub written : AppendsPart old new text

-- a file of the form can hold the master: DSDIFF's frames hold whole bytes
abbrev pub FitsMaster : Form → CutContent → Type 0
FitsMaster form cut = FitsIn form (master_length cut.splice.cues)
