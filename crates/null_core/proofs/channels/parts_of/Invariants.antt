use Rattle.std.proofs.Common.{map}
use Rattle.clip_core.specs.Contents.{mix_content}
use Rattle.null_core.specs.Parts.{part_content}
use Rattle.null_core.specs.Reading.{mixed_of}
use Rattle.null_core.proofs.ChannelLaws.{ArePartsTo}
use Rattle.null_core.proofs.channels.parts_of.Given as goal

abbrev pub invariant-loop-clip : goal.invariant-loop-clip
invariant-loop-clip l = ArePartsTo (mixed_of (mix_content l.mix) l.takes) l.channel l.clip (map part_content l.parts.items)
