-- The cues of a splice, and what the window of the bridge between two of them holds.
use Rattle.std.specs.Prelude.{ℕ, ◌+◌, ◌-◌, Bool, List, length, slice_range, slice_index_or, None}
use Rattle.splice_core.specs.Cues.{CueContent}
use Rattle.splice_core.specs.Splices.{SpliceContent}
use Rattle.splice_core.specs.declared.cue.Target.TheVariants as targets
use Rattle.cost_core.specs.declared.seam.Seam.{Seam}
use Rattle.cost_core.specs.Bridges.{Bridging}
use Rattle.cost_core.specs.Targets.{targets_of}

-- cue i of a splice; past the last one an empty cue
abbrev pub splice_cue : SpliceContent → ℕ → CueContent
splice_cue splice i = slice_index_or splice.cues i (record { take = 0; start = 0; stop = 0; bridge = 0; target = targets.Fade; title = None })

-- the bits of cue i in its take a
abbrev pub cued : SpliceContent → ℕ → List Bool → List Bool
cued splice i a = slice_range a (splice_cue splice i).start (splice_cue splice i).stop

-- the bridge after cue i, if that cue ends at place `stop` of some bits a, and the next one begins at place `start` of
-- some bits b: the last bits before it and the first after it that a weight reads, and the targets of its places
abbrev pub bridging_at : SpliceContent → ℕ → List Bool → ℕ → List Bool → ℕ → Bridging
bridging_at splice i a stop b start =
    let cue = splice_cue splice i in
    let width = length splice.weights - 1 in
    record {
      weights = splice.weights;
      levels = cue.bridge;
      preceding = slice_range a (stop - width) stop;
      following = slice_range b start (start + width);
      targets = targets_of cue.target splice.weights a stop b start cue.bridge;
    }

-- the bridge after cue i over a seam
abbrev pub bridging_over : SpliceContent → ℕ → Seam → Bridging
bridging_over splice i seam = bridging_at splice i seam.own.now seam.stop seam.next.now seam.start

-- the bridge after cue i by that cue's target, from its take a to the take b of the next cue
abbrev pub bridging : SpliceContent → ℕ → List Bool → List Bool → Bridging
bridging splice i a b = bridging_at splice i a (splice_cue splice i).stop b (splice_cue splice (i + 1)).start
