use Rattle.std.proofs.Common.{◌∙◌, ap, arith, get_or, length, map, subst, sym, ◌≡◌}
use Rattle.std.proofs.lemmas.List.{get_or-map, length-map}
use Rattle.std.proofs.lemmas.List.Elements.{All-get_or}
use Rattle.clip_core.specs.Clips.{IsClipWithin, clip_content}
use Rattle.clip_core.specs.Contents.{mix_content}
use Rattle.null_core.proofs.ranges.clip_at.Goals as goal

pub returns-clause-fits : goal.returns-clause-fits
returns-clause-fits c =
    let mix = mix_content c.args.mix.now in
    let clips = c.args.mix.now.clips.items in
    let clip = c.index.result.now in
    let is : get_or (map clip_content clips) c.args.number (clip_content clip) ≡ clip_content clip = get_or-map clip_content clips c.args.number clip (clip_content clip) (omega (arith, length-map clips clip_content, c.requires)) ∙ ap clip_content (sym c.index.ensures) in
    subst (IsClipWithin (length mix.takes) (length mix.decoders)) is (All-get_or (IsClipWithin (length mix.takes) (length mix.decoders)) mix.clips c.args.number (clip_content clip) c.requires c.args.mix.now.limits.each_fits)
