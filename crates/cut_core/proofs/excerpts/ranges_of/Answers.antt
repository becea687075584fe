use Rattle.std.proofs.Common.{◌≡◌, ◌∙◌, ◌∷◌, ◌++◌, [], ap, arith, length, sym}
use Rattle.std.proofs.lemmas.List.FromFn.{map-range_with_len_more}
use Rattle.splice_core.specs.Splices.{splice_content}
use Rattle.cut_core.specs.Cuts.{each_below}
use Rattle.cut_core.specs.Excerpts as specs
use Rattle.cut_core.proofs.excerpts.ranges_of.Goals as goal

pub loop-cue-preserved : goal.loop-cue-preserved
loop-cue-preserved c =
    let f = specs.range_of (splice_content c.args.splice.now) c.args.number in
    c.in_ok-push.ensures.items ∙ (λ j. c.loop-cue.invariant j ++ c.range_of.ensures j ∷ []) ∙ sym (map-range_with_len_more f 0 c.loop-cue.cue c.loop-cue.cue (omega arith))

pub returns : goal.returns
returns c =
    let splice = splice_content c.args.splice.now in
    let all : c.loop-cue.cue ≡ length splice.cues = omega (arith, c.loop-cue-test.false, c.loop-cue.auto.cue-end, c.cue_number-cue-end.ensures) in
    c.loop-cue.invariant ∙ ap (λ n. each_below n (specs.range_of splice c.args.number)) all
