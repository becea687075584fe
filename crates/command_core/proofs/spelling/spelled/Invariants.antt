use Rattle.std.proofs.Common.{[], length, string_bytes}
use Rattle.command_core.specs.Spelling.{SpellsUpTo}
use Rattle.command_core.proofs.spelling.spelled.Given as goal

abbrev pub invariant-loop-rest : goal.invariant-loop-rest
invariant-loop-rest l = SpellsUpTo l.bytes [] l.rest (string_bytes l.text)

abbrev pub decreases-loop-rest : goal.decreases-loop-rest
decreases-loop-rest l = length l.rest
