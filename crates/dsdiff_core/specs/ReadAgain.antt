-- What is written is read again.
use Rattle.std.specs.Prelude.{◌≡◌, ◌<◌, ℕ, ◌%◌, ◌^◌, Bool, List, [], ◌++◌, All, length, Some}
use Rattle.std.specs.Int.{w32}
use Rattle.std.specs.Int.RustNames.{FitsSigned}
use Rattle.dsd_bits.specs.Channels.{count_of}
use Rattle.dsd_bits.specs.Contents.{Content, MarkContent}
use Rattle.dsd_bits.specs.Lacing.{laced}
use Rattle.dsd_bits.specs.Layouts.{usual_layout}
use Rattle.dsd_bits.specs.Shape.{HasShape}
use Rattle.dsdiff_core.specs.Files.{IsDsdiff}
use Rattle.dsdiff_core.specs.Writing.{dsdiff_text, head_text, tail_text}

-- the numbers of a mark fit the fields of a file
pub record FitsMark (m : MarkContent) : Type 0 where
  pub hours : m.hours < 2 ^ 16
  pub minutes : m.minutes < 2 ^ 8
  pub seconds : m.seconds < 2 ^ 8
  pub samples : m.samples < 2 ^ 32
  pub offset : FitsSigned w32 m.offset
  pub kind : m.kind < 2 ^ 16
  pub channel : m.channel < 2 ^ 16
  pub flags : m.flags < 2 ^ 16

-- the IDs and the marks of a recording fit the fields of a file, as they do in memory
pub record FitsFields (r : Content) : Type 0 where
  pub ids : All (λ id. length id ≡ 4) r.ids
  pub marks : All FitsMark r.marks
  pub others : All (λ o. length o.id ≡ 4) r.others

-- the recording without what a file does not store: the layout is that for the number of channels, and the tag is empty
abbrev pub as_stored : Content → Content
as_stored r = record r { layout = usual_layout (length r.channels); tag = [] }

-- law: a file that was written for a recording holds that recording, without what a file does not store
abbrev pub WrittenReadAgain : Type 0
WrittenReadAgain = (r : Content) (file : List ℕ) → HasShape r → FitsFields r → dsdiff_text r ≡ Some file → length file < 2 ^ 63 → IsDsdiff file (as_stored r)

-- law: the file of channels of whole bytes is a head, their bytes and a tail; head and tail are the same for any
-- recording that is the same but for its channels
abbrev pub WrittenInParts : Type 0
WrittenInParts =
    (r : Content) (channels : List (List Bool)) → count_of channels % 8 ≡ 0
    → dsdiff_text (record r { channels = channels }) ≡ Some (head_text r (length (laced channels)) ++ (laced channels ++ tail_text r (length (laced channels))))
