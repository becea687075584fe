use Rattle.std.proofs.Common.{append_assoc}
use Rattle.wave_core.proofs.header.push_format.Goals as goal

pub returns : goal.returns
returns c =
    rw (c.in_ok-push_extension.ensures, c.in_ok-push_u16-4.ensures.ok, c.in_ok-push_u16-3.ensures.ok, c.in_ok-push_u32-3.ensures.ok, c.in_ok-push_u32-2.ensures.ok, c.in_ok-push_u16-2.ensures.ok, c.in_ok-push_u16.ensures.ok, c.in_ok-push_u32.ensures.ok, c.in_ok-extend_from_slice.ensures.items, c.from.ensures, c.format_size.ensures.size, c.format_tag.ensures, c.block_align-block_align.ensures.value, ← c.spec.view_is)
    (simp append_assoc)
