use Rattle.std.proofs.Common.{◌+◌, [], slice_index, ap, ◌∙◌, arith}
use Rattle.std.proofs.lemmas.List.{get_or_read}
use Rattle.dsd_bits.specs.Packing.{packed}
use Rattle.dsd_bits.proofs.LacingLemmas.{laced_part_is, laced_two_are}
use Rattle.dsd_bits.proofs.lacing.lace_into.Goals as goal

pub returns-then-channels-eq2 : goal.returns-then-channels-eq2
returns-then-channels-eq2 c =
    let channels = c.args.channels.now in
    let from = c.args.from in
    let left = get_or_read channels 0 c.index-channels-0.result (omega arith) c.index-channels-0.is [] in
    let right = get_or_read channels 1 c.index-channels-1.result (omega arith) c.index-channels-1.is [] in
    let size = c.bytes_from-left.ensures.size in
    laced_two_are channels c.requires.level c.requires.whole_bytes (omega arith) c.lace_two.new.to from c.args.frames (omega arith) c.requires.inside (c.lace_two.auto.to ∙ c.requires.size)
    (λ frame h. c.lace_two.ensures.left frame (omega (arith, size)) ∙ c.bytes_from-left.ensures.at frame h ∙ ap (λ x. slice_index (packed x) (from + frame)) left)
    (λ frame h. c.lace_two.ensures.right frame (omega (arith, size)) ∙ c.bytes_from-right.ensures.at frame h ∙ ap (λ x. slice_index (packed x) (from + frame)) right)

pub returns-after-loop-c : goal.returns-after-loop-c
returns-after-loop-c c =
    let channels = c.args.channels.now in
    let inv = c.loop-c.invariant in
    laced_part_is channels c.requires.level c.requires.whole_bytes (omega arith) c.loop-c.to c.args.from c.args.frames c.requires.inside (inv.size ∙ c.requires.size) (λ frame channel below in_list. inv.done frame channel below (omega arith))
