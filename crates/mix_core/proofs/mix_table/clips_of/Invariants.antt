use Rattle.std.proofs.Common.{◌≡◌, map}
use Rattle.toml.specs.View.{items_view}
use Rattle.clip_core.specs.Clips.{clip_content}
use Rattle.project_core.specs.Tables.{list_of}
use Rattle.project_core.proofs.Each.{values_left}
use Rattle.mix_core.specs.ReadingMix.{clip_of, clips_of}
use Rattle.mix_core.proofs.mix_table.clips_of.Given as goal

abbrev pub invariant-loop-number : goal.invariant-loop-number
invariant-loop-number l = values_left (clip_of l.takes l.decoders) (map clip_content l.clips.items) l.number l.values ≡ clips_of l.takes l.decoders (list_of (items_view l.values))
