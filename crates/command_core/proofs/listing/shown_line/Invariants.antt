use Rattle.std.proofs.Common.{◌≡◌, flat_map, take}
use Rattle.command_core.specs.Summing.{escape_stray}
use Rattle.command_core.proofs.listing.shown_line.Given as goal

abbrev pub invariant-loop-byte : goal.invariant-loop-byte
invariant-loop-byte l = l.shown.items ≡ flat_map escape_stray (take l.byte-index l.line)
