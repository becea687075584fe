use Rattle.std.proofs.Common.{◌≡◌, ◌+◌, max, arith, ◌∙◌}
use Rattle.clip_core.proofs.ClipLaws.{end_within, greater, longest_so_far}
use Rattle.clip_core.proofs.mix.mix_length.Goals as goal

pub overflow_add-clip : goal.overflow_add-clip
overflow_add-clip c =
    let end = end_within c.args.clips.now c.requires c.loop-clip.clip-index c.clip-item.result c.loop-clip-test.true c.clip-item.is in
    record { fits = omega (arith, end) }

pub loop-clip-preserved : goal.loop-clip-preserved
loop-clip-preserved c =
    let clips = c.args.clips.now in
    let i = c.loop-clip.clip-index in
    let clip = c.clip-item.result in
    let end = end_within clips c.requires i clip c.loop-clip-test.true c.clip-item.is in
    let more = longest_so_far clips i clip c.loop-clip.length c.loop-clip-test.true c.clip-item.is in
    let next : c.max-length.result ≡ max c.loop-clip.length (clip.at + clip.length) = c.max-length.ensures ∙ greater c.loop-clip.length (clip.at + clip.length) in
    record { value = rw next (more ∙ c.loop-clip.invariant.value); bound = omega (arith, next, end, c.loop-clip.invariant.bound) }
