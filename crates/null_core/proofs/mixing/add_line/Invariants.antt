use Rattle.clip_core.specs.Lines.{line_gain}
use Rattle.null_core.proofs.GainLaws.{IsGainedTo}
use Rattle.null_core.proofs.mixing.add_line.Given as goal

abbrev pub invariant-loop-i : goal.invariant-loop-i
invariant-loop-i l = IsGainedTo l.i (line_gain l.fn.line) l.k l.sound l.fn.mixed l.mixed

abbrev pub invariant-loop-i-else-is_level : goal.invariant-loop-i-else-is_level
invariant-loop-i-else-is_level l = IsGainedTo l.i (line_gain l.line) l.k l.sound l.fn.mixed l.mixed
