use Rattle.std.proofs.Common.{◌≡◌, ◌^◌, ◌≤◌, ◌+ℤ◌, unsigned_abs, arith, w32, to_z, of_z}
use Rattle.std.proofs.lemmas.Int.{fits_signed_from_abs}
use Rattle.clip_core.specs.Lines.{line_gain}
use Rattle.clip_core.proofs.LineLaws.{gain_is, kept, level_kept, on_line_in, rise_fits, rise_small}
use Rattle.clip_core.proofs.line.Line.gain_at.Goals as goal
use Rattle.clip_core.proofs.line.Line.gain_at.Goals.{After-rise_after}

value : (c : After-rise_after) → to_z w32 (of_z w32 c.args.self.now.from.gain) +ℤ to_z w32 (of_z w32 c.rise_after.result) ≡ line_gain c.args.self.now c.args.k
value c = let line = c.args.self.now in gain_is line.from line.to line.limits c.args.k c.requires.begun c.requires.not_ended c.rise_after.result c.rise_after.ensures

within : (c : After-rise_after) → unsigned_abs (line_gain c.args.self.now c.args.k) ≤ 2 ^ 26
within c = let line = c.args.self.now in on_line_in line.from line.to line.limits c.args.k c.requires.begun c.requires.not_ended

pub overflow_sub-k : goal.overflow_sub-k
overflow_sub-k c = c.requires.begun

pub overflow_sub-run : goal.overflow_sub-run
overflow_sub-run c = omega (arith, c.requires.begun, c.requires.not_ended)

pub overflow_sub-rise : goal.overflow_sub-rise
overflow_sub-rise c = let line = c.args.self.now in rise_fits line.from line.to line.limits

pub rise_after-requires : goal.rise_after-requires
rise_after-requires c = let line = c.args.self.now in
    let from = c.requires.begun in
    let to = c.requires.not_ended in
    record { rise = rise_small line.from line.to line.limits; places = omega (arith, from, to); run = omega (arith, line.limits.last.place_fits) }

pub returns-then-is_level : goal.returns-then-is_level
returns-then-is_level c =
    let line = c.args.self.now in
    let kept = level_kept line.from line.to line.limits (line_gain line c.args.k) (c.is_level.ensures.level c.if-is_level.true c.args.k) in
    record { value = kept.0; bound = kept.1 }

pub overflow_add-result : goal.overflow_add-result
overflow_add-result c = rw (value c) (fits_signed_from_abs w32 (line_gain c.args.self.now c.args.k) (omega (arith, within c)))

pub returns-clause-value : goal.returns-clause-value
returns-clause-value c = let at = (goal.at.returns-clause-value c).After-rise_after in rw (value at) (kept (line_gain c.args.self.now c.args.k) (omega (arith, within at)))

pub returns-clause-bound : goal.returns-clause-bound
returns-clause-bound c =
    let at = (goal.at.returns-clause-bound c).After-rise_after in
    rw (value at, kept (line_gain c.args.self.now c.args.k) (omega (arith, within at))) (within at)
