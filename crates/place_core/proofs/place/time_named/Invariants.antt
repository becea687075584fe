-- What is read so far and what is left have the time of the whole word.
use Rattle.std.proofs.Common.{◌≡◌, ◌+◌, length}
use Rattle.std.specs.Prelude.{option_map}
use Rattle.place_core.specs.Times.{rest_time, time_of}
use Rattle.place_core.proofs.place.time_named.Given as goal

abbrev pub invariant-loop-byte : goal.invariant-loop-byte
invariant-loop-byte l = rest_time l.reading l.rest ≡ option_map (λ n. n + 0) (time_of l.word)

abbrev pub decreases-loop-byte : goal.decreases-loop-byte
decreases-loop-byte l = length l.rest
