-- What is written is read again.
use Rattle.std.specs.Prelude.{◌<◌, ◌^◌, [], length}
use Rattle.dsd_bits.specs.declared.blocks.BitOrder.{BitOrder}
use Rattle.dsd_bits.specs.Contents.{Content}
use Rattle.dsd_bits.specs.Shape.{HasShape}
use Rattle.dsf_core.specs.Fields.{dsf_ids}
use Rattle.dsf_core.specs.Files.{IsDsf}
use Rattle.dsf_core.specs.Writing.{dsf_text}

-- the recording without what a file does not store: the IDs are those for the number of channels, and there are no
-- marks and no kept chunks
abbrev pub as_stored : Content → Content
as_stored r = record r { ids = dsf_ids (length r.channels); marks = []; others = [] }

-- law: a file that was written for a recording holds that recording, without what a file does not store
abbrev pub WrittenReadAgain : Type 0
WrittenReadAgain = (r : Content) (order : BitOrder) → HasShape r → length (dsf_text r order) < 2 ^ 63 → IsDsf (dsf_text r order) (as_stored r) order
