use Rattle.std.proofs.Common.{map, string_bytes, take}
use Rattle.null_commands.specs.Lines.{Appends, ShowsAllFound, found_at}
use Rattle.null_commands.proofs.lines.push_channel.Given as goal

abbrev pub invariant-loop-stretch : goal.invariant-loop-stretch
invariant-loop-stretch l = Appends (ShowsAllFound l.full (map (found_at l.channel) (take l.stretch-index l.stretches))) (string_bytes l.fn.text) (string_bytes l.text)
