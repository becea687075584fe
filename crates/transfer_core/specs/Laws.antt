-- Laws: the relations of the calls hold of what their readings in order return.
use Rattle.std.specs.Prelude.{◌≡◌, ◌↔◌, ◌<◌, ◌^◌, ℕ, List, length, Ok}
use Rattle.dsd_bits.specs.Shape.{HasShape}
use Rattle.dsdiff_core.specs.ReadAgain.{FitsFields}
use Rattle.form_core.specs.declared.form.Form.{Form}
use Rattle.player_core.specs.Ranges.{whole_range}
use Rattle.transfer_core.specs.Converting.{Converts, Keeps, converted_of}
use Rattle.transfer_core.specs.Playing.{Plays, played_of}
use Rattle.transfer_core.specs.Streaming.{PlaysRange}

-- what a file converts to
abbrev pub ConvertsInOrder : Type 0
ConvertsInOrder = (file : List ℕ) (form : Form) (bytes : List ℕ) (dropped : ℕ) → Converts file form bytes dropped → converted_of file form ≡ Ok (bytes, dropped)

-- what a file is converted to, of fewer than 2^63 bytes, keeps its sound, and all of its recording if no part was
-- dropped
abbrev pub ConvertedIsKept : Type 0
ConvertedIsKept = (file : List ℕ) (form : Form) (bytes : List ℕ) (dropped : ℕ) (is : Converts file form bytes dropped) → HasShape is.recording → FitsFields is.recording → length bytes < 2 ^ 63 → Keeps file form bytes dropped

-- what project and file play
abbrev pub PlaysInOrder : Type 0
PlaysInOrder = (project file bytes : List ℕ) → Plays project file bytes → played_of project file ≡ Ok bytes

-- the range of all frames of a file plays what the file plays
abbrev pub WholePlays : Type 0
WholePlays = (project file bytes : List ℕ) → PlaysRange project whole_range file bytes ↔ Plays project file bytes
