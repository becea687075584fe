use Rattle.std.proofs.Common.{◌≡◌, ◌+◌, ◌≤◌, drop, map}
use Rattle.clip_core.specs.Clips.{clip_content}
use Rattle.clip_core.specs.Mixes.{clips_at}
use Rattle.mix_core.proofs.overlap.clips_at.Given as goal

abbrev pub invariant-loop-clip : goal.invariant-loop-clip
invariant-loop-clip l = record { so_far : l.count + clips_at l.place (map clip_content (drop l.clip-index l.clips)) ≡ clips_at l.place (map clip_content l.clips); small : l.count ≤ l.clip-index }
