use Rattle.std.proofs.Common.{◌≡◌, ◌++◌, flat_map, take}
use Rattle.command_core.specs.Summing.{escape}
use Rattle.command_core.proofs.summing.push_name.Given as goal

abbrev pub invariant-loop-byte : goal.invariant-loop-byte
invariant-loop-byte l = l.line.items ≡ l.fn.line.items ++ flat_map escape (take l.byte-index l.name)
