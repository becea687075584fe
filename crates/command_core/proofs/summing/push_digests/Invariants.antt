use Rattle.std.proofs.Common.{◌≡◌, ◌++◌, flat_map, string_bytes, take}
use Rattle.command_core.specs.Summing.{digest_text}
use Rattle.command_core.proofs.summing.push_digests.Given as goal

abbrev pub invariant-loop-digest : goal.invariant-loop-digest
invariant-loop-digest l = string_bytes l.text ≡ string_bytes l.fn.text ++ flat_map digest_text (take l.digest-index l.digests)
