-- The bytes begin with those of the numbers so far, and none of these needs more bytes.
use Rattle.std.proofs.Common.{◌≡◌, ℕ, ◌*◌, ◌^◌, ◌<◌, take, length, get_or}
use Rattle.std.specs.List.{flat_map}
use Rattle.std.specs.Int.{bytes_high_first}
use Rattle.cert_core.proofs.row_reader.take_narrow.Given as goal

abbrev pub invariant-loop-place : goal.invariant-loop-place
invariant-loop-place l = (take (l.width * l.place) l.bytes ≡ flat_map (bytes_high_first l.width) (take l.place l.row)) × (length l.row ≡ length l.initial.row)
    × ((q : ℕ) → q < l.place → get_or l.row q 0 < 256 ^ l.width)
