use Rattle.std.proofs.Common.{◌∙◌, ap, sym, length, map, arith}
use Rattle.std.proofs.lemmas.List.{get_or-map, length-map}
use Rattle.null_core.specs.Parts.{part_content}
use Rattle.null_core.proofs.MixLaws.{all_mixed, mixed_small, one_more_mixed}
use Rattle.null_core.proofs.mixing.add_parts.Goals as goal

pub add_part-requires-clause-small : goal.add_part-requires-clause-small
add_part-requires-clause-small c i inside =
    omega (arith, mixed_small (map part_content c.args.parts.now) c.requires.parts c.args.from (length c.args.mixed.now) c.loop-part.mixed c.loop-part.part-index c.loop-part.invariant i inside)

pub loop-part-preserved : goal.loop-part-preserved
loop-part-preserved c =
    one_more_mixed (map part_content c.args.parts.now) c.loop-part.part-index c.args.from (length c.args.mixed.now) c.loop-part.mixed c.add_part.new.mixed (part_content c.part-item.result) (omega (arith, c.loop-part-test.true, length-map c.args.parts.now part_content)) (ap part_content c.part-item.is ∙ sym (get_or-map part_content c.args.parts.now c.loop-part.part-index c.part-item.result (part_content c.part-item.result) c.loop-part-test.true)) c.add_part.ensures c.loop-part.invariant

pub returns-clause-mix : goal.returns-clause-mix
returns-clause-mix c =
    all_mixed (map part_content c.args.parts.now) c.requires.parts c.args.from (length c.args.mixed.now) c.loop-part.mixed c.loop-part.part-index (omega (arith, c.loop-part-test.false, length-map c.args.parts.now part_content)) c.loop-part.invariant

pub returns-clause-bound : goal.returns-clause-bound
returns-clause-bound c = mixed_small (map part_content c.args.parts.now) c.requires.parts c.args.from (length c.args.mixed.now) c.loop-part.mixed c.loop-part.part-index c.loop-part.invariant
