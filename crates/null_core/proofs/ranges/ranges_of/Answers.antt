use Rattle.std.proofs.Common.{◌≡◌, ◌∙◌, ◌∷◌, ◌++◌, [], ap, arith, length, sym}
use Rattle.std.proofs.lemmas.List.FromFn.{map-range_with_len_more}
use Rattle.std.proofs.lemmas.List.{length-map}
use Rattle.std.proofs.lemmas.Result.{err_from_is_err_and}
use Rattle.clip_core.specs.Clips.{clip_content}
use Rattle.clip_core.specs.Contents.{mix_content}
use Rattle.cut_core.specs.Cuts.{each_below}
use Rattle.null_core.specs.Holding as specs
use Rattle.null_core.proofs.ranges.ranges_of.Goals as goal

pub range_of-requires : goal.range_of-requires
range_of-requires c = omega (arith, c.loop-clip-test.true, c.len-clip-end.ensures, length-map c.args.mix.now.clips.items clip_content)

pub returns-in_err-push : goal.returns-in_err-push
returns-in_err-push c = let e = err_from_is_err_and c.from_residual.result c.from_residual.ensures.1 in rw e.1 tt

pub loop-clip-preserved : goal.loop-clip-preserved
loop-clip-preserved c =
    let f = specs.range_of (mix_content c.args.mix.now) c.args.number in
    c.in_ok-push.ensures.items ∙ (λ j. c.loop-clip.invariant j ++ c.range_of.ensures j ∷ []) ∙ sym (map-range_with_len_more f 0 c.loop-clip.clip c.loop-clip.clip (omega arith))

pub returns : goal.returns
returns c =
    let mix = mix_content c.args.mix.now in
    let all : c.loop-clip.clip ≡ length mix.clips = omega (arith, c.loop-clip-test.false, c.loop-clip.auto.clip-end, c.len-clip-end.ensures, length-map c.args.mix.now.clips.items clip_content) in
    c.loop-clip.invariant ∙ ap (λ n. each_below n (specs.range_of mix c.args.number)) all
