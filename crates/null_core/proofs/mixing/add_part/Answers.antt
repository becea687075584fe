use Rattle.std.proofs.Common.{◌≡◌, ◌+◌, ◌-◌, ◌∙◌, ap, length, take, arith}
use Rattle.std.proofs.lemmas.List.{length-take-le}
use Rattle.heard_core.specs.Sounds.{decoded_from}
use Rattle.null_core.specs.Parts.{part_content}
use Rattle.null_core.proofs.PartLaws.{none_added, part_added}
use Rattle.null_core.proofs.mixing.add_part.Goals as goal

pub returns : goal.returns
returns c =
    let long : length (take (c.min-high.result - c.max-low.result) c.args.sound.now) ≡ c.min-high.result - c.max-low.result = length-take-le (c.min-high.result - c.max-low.result) c.args.sound.now (omega (arith, c.min-high.ensures, c.max-low.ensures, c.requires.long)) in
    part_added (part_content c.args.part.now) c.args.from c.max-low.result c.min-high.result c.args.mixed.now c.decode.new.sound c.add_gained.new.mixed c.max-low.ensures c.min-high.ensures (omega (arith, c.if-high-low.false)) (c.decode.ensures.value ∙ ap (decoded_from c.args.part.now.decoder.now c.args.part.now.bits.now (c.args.part.now.start + (c.max-low.result - c.args.part.now.at))) long) c.add_gained.ensures

pub returns-then-high-low : goal.returns-then-high-low
returns-then-high-low c = none_added (part_content c.args.part.now) c.args.from c.max-low.result c.min-high.result c.args.mixed.now c.max-low.ensures c.min-high.ensures c.if-high-low.true
