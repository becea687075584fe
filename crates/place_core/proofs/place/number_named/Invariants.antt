-- What is read so far and what is left name the number of all digits.
use Rattle.std.proofs.Common.{◌<◌, ◌^◌, length}
use Rattle.place_core.proofs.NumberLaws.{IsReadTo}
use Rattle.place_core.proofs.place.number_named.Given as goal

abbrev pub invariant-loop-byte : goal.invariant-loop-byte
invariant-loop-byte l = (0 < length l.digits) × IsReadTo l.digits l.number l.rest × (l.number < 2 ^ 64)

abbrev pub decreases-loop-byte : goal.decreases-loop-byte
decreases-loop-byte l = length l.rest
