use Rattle.std.proofs.Common.{append_assoc}
use Rattle.dsf_core.proofs.writing.push_head.Goals as goal

pub returns : goal.returns
returns c =
    rw (c.in_ok-push_data_head.ensures, c.in_ok-push_format.ensures, c.in_ok-push_first.ensures, c.tag_place.ensures, c.tag.ensures, c.layout.ensures, c.rate.ensures.value, c.bits_per_sample.ensures, c.blocks_size-size.ensures.value, c.ids-number.ensures.value)
    (simp append_assoc)
