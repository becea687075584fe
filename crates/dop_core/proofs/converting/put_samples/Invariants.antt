-- The bits of whole frames were written, which are whole groups or all.
use Rattle.std.proofs.Common.{◌≡◌, ◌-◌, ◌*◌, ◌%◌, ◌<◌, ◌≤◌, ℕ, List, None, length, min}
use Rattle.chunk_core.specs.Inlets.{PullsBytes}
use Rattle.chunk_core.specs.Outlets.{Puts}
use Rattle.form_core.specs.Parts.{interleaving_in}
use Rattle.interleave_core.specs.Reinterleaving.{laced_in}
use Rattle.dop_core.specs.Reading.{broken_from, dop_channels}
use Rattle.dop_core.proofs.converting.put_samples.Given as goal

abbrev pub invariant-loop-done : goal.invariant-loop-done
invariant-loop-done g l = record {
  sound : List ℕ;
  pulled : PullsBytes g.R.Read.remaining l.fn.inlet l.inlet sound;
  long : length sound ≡ 3 * (l.done * l.channels);
  within : l.done ≤ l.outline.head.frames;
  groups : l.done < l.outline.head.frames → 16 * l.done % 32768 ≡ 0;
  marked : broken_from l.channels l.outline.first sound 0 (l.done * l.channels) ≡ None;
  written : Puts g.W.Write.contents l.fn.outlet l.outlet (laced_in (interleaving_in l.form) (dop_channels l.channels sound (min l.outline.count (16 * l.done))));
}

abbrev pub decreases-loop-done : goal.decreases-loop-done
decreases-loop-done g l = l.outline.head.frames - l.done
