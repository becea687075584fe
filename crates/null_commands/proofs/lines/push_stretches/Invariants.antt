use Rattle.std.proofs.Common.{Vec, map, string_bytes, take}
use Rattle.std.specs.declared.alloc.Global.{Global}
use Rattle.null_core.specs.declared.stretch.Stretch.{Stretch}
use Rattle.null_commands.specs.Lines.{Appends, ShowsAllFound, found_from}
use Rattle.null_commands.proofs.lines.push_stretches.Given as goal

abbrev pub invariant-loop-channel : goal.invariant-loop-channel
invariant-loop-channel l = Appends (ShowsAllFound l.full (found_from 0 (map (λ (found : Vec Stretch Global). found.items) (take l.channel l.stretches)))) (string_bytes l.initial.text) (string_bytes l.text)
