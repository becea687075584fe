-- What was read so far is whole frames, whose markers are known.
use Rattle.std.proofs.Common.{◌≡◌, ◌-◌, ◌*◌, ◌≤◌, ℕ, List, length}
use Rattle.chunk_core.specs.Inlets.{PullsBytes}
use Rattle.dop_core.specs.Markers.{AreMarks}
use Rattle.dop_core.proofs.sound.scan_frames.Given as goal

abbrev pub invariant-loop-done : goal.invariant-loop-done
invariant-loop-done g l = record {
  sound : List ℕ;
  pulled : PullsBytes g.R.Read.remaining l.fn.inlet l.inlet sound;
  long : length sound ≡ 3 * (l.done * l.head.channels);
  within : l.done ≤ l.head.frames;
  either : l.marks.first ≤ 1;
  marks : AreMarks l.head.channels l.marks l.done sound;
}

abbrev pub decreases-loop-done : goal.decreases-loop-done
decreases-loop-done g l = l.head.frames - l.done
