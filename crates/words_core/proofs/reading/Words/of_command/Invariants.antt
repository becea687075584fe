use Rattle.std.proofs.Common.{◌+◌, map, string_bytes, take}
use Rattle.words_core.specs.Reading.{IsReadUpTo}
use Rattle.words_core.proofs.reading.Words.of_command.Given as goal

abbrev pub invariant-loop-word : goal.invariant-loop-word
invariant-loop-word l = IsReadUpTo (map string_bytes (take (l.word-index + 1) l.words)) l.read
