use Rattle.std.proofs.Common.{append_assoc}
use Rattle.wave_core.proofs.wide.push_ds64.Goals as goal

pub returns : goal.returns
returns c =
    rw (c.in_ok-push_u32-2.ensures.ok, c.in_ok-push_u64-3.ensures.ok, c.in_ok-push_u64-2.ensures.ok, c.in_ok-push_u64.ensures.ok, c.in_ok-push_u32.ensures.ok, c.in_ok-extend_from_slice.ensures.items)
    (simp append_assoc)
