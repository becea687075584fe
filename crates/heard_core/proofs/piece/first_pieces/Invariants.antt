use Rattle.std.proofs.Common.{◌≡◌, map}
use Rattle.std.specs.List.{range_with_len}
use Rattle.heard_core.specs.Pieces.{piece}
use Rattle.heard_core.proofs.piece.first_pieces.Given as goal

abbrev pub invariant-loop-k : goal.invariant-loop-k
invariant-loop-k l = l.made.items ≡ map (piece l.taps) (range_with_len 0 l.k)
