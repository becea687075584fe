use Rattle.std.proofs.Common.{◌++◌, ◌∙◌, ap, rules, arith}
use Rattle.std.specs.List.{flat_map}
use Rattle.std.proofs.lemmas.List.{take_all}
use Rattle.wave_core.specs.Texts.{sample_bytes}
use Rattle.wave_core.proofs.FrameLaws.{flat_map_more}
use Rattle.wave_core.proofs.writing.push_samples.Goals as goal

pub loop-value-preserved : goal.loop-value-preserved
loop-value-preserved c =
    flat_map_more (sample_bytes c.args.width) c.args.samples.now c.loop-value.value-index c.args.out.now.items c.loop-value.out.items c.push_sample.new.out.items
    (omega arith) c.loop-value.invariant (search rules)

pub returns : goal.returns
returns c =
    c.loop-value.invariant
    ∙ ap (λ l. c.args.out.now.items ++ flat_map (sample_bytes c.args.width) l) (take_all c.loop-value.value-index c.args.samples.now (omega arith))
