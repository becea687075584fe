-- A master that was read to be compared with a mix.
use Rattle.std.specs.Prelude.{◌≡◌, Bool, List}
use Rattle.dsd_bits.specs.Contents.{Content}
use Rattle.dsd_bits.specs.Shape.{HasShape}
use Rattle.dsd_bits.specs.Stretches.{silent}
use Rattle.null_core.specs.declared.master.Master.TheInside.{Inside}

-- a recording with these channels in place of its own
abbrev pub with_bits : Content → List (List Bool) → Content
with_bits r channels = record r { channels = channels }

-- the recording: what its file says of it, and the bits of its channels
abbrev pub master_content : Inside → Content
master_content x = with_bits x.recording x.channels.items

-- it obeys the rules of recordings, and its description is kept without bits
pub record KeepsMaster (x : Inside) : Type 0 where
  pub shape : HasShape (master_content x)
  pub described : x.recording ≡ silent (master_content x)
