-- The buffer begins with the bytes of the excesses so far.
use Rattle.std.proofs.Common.{◌≡◌, ◌*◌, ◌-◌, take, map, length}
use Rattle.std.specs.List.{flat_map}
use Rattle.std.specs.Int.{bytes_high_first}
use Rattle.cert_core.proofs.spelling.put_some.Given as goal

abbrev pub invariant-loop-place : goal.invariant-loop-place
invariant-loop-place l = (take (l.width * l.place) l.buffer ≡ flat_map (bytes_high_first l.width) (map (λ v. v - l.least) (take l.place l.row))) × (length l.buffer ≡ length l.initial.buffer)
