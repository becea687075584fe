use Rattle.std.proofs.Common.{◌≡◌, ◌-◌, ◌≤◌, length, take}
use Rattle.std.specs.Io.KnownBytes.{Keeps, prepend_known}
use Rattle.speaker_core.proofs.reordered_file.read_on.Given as goal

abbrev pub invariant-loop-filled : goal.invariant-loop-filled
invariant-loop-filled g l = record {
  kept : Keeps (prepend_known (take l.fn.filled l.fn.buffer) (g.R.Read.remaining l.fn.file)) (prepend_known (take l.filled l.buffer) (g.R.Read.remaining l.file));
  long : length l.buffer ≡ length l.fn.buffer;
  few : l.filled ≤ l.wanted;
}

abbrev pub decreases-loop-filled : goal.decreases-loop-filled
decreases-loop-filled g l = l.wanted - l.filled
