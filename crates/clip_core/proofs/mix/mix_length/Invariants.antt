use Rattle.std.proofs.Common.{◌≡◌, ℕ, ◌≤◌, ◌^◌, List, map, drop, max}
use Rattle.clip_core.specs.declared.clip.Clip.{Clip}
use Rattle.clip_core.specs.Clips.{clip_content}
use Rattle.clip_core.specs.Mixes.{mix_length}
use Rattle.clip_core.proofs.mix.mix_length.Given as goal

-- the greatest end so far: with those of the clips that are left it is that of all
pub record SoFar (length index : ℕ) (clips : List Clip) : Type 0 where
  pub value : max length (mix_length (map clip_content (drop index clips))) ≡ mix_length (map clip_content clips)
  pub bound : length ≤ 2 ^ 36

abbrev pub invariant-loop-clip : goal.invariant-loop-clip
invariant-loop-clip l = SoFar l.length l.clip-index l.clips
