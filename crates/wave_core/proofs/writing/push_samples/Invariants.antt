use Rattle.std.proofs.Common.{◌≡◌, ◌++◌, take}
use Rattle.std.specs.List.{flat_map}
use Rattle.wave_core.specs.Texts.{sample_bytes}
use Rattle.wave_core.proofs.writing.push_samples.Given as goal

abbrev pub invariant-loop-value : goal.invariant-loop-value
invariant-loop-value l = l.out.items ≡ l.initial.out.items ++ flat_map (sample_bytes l.width) (take l.value-index l.samples)
