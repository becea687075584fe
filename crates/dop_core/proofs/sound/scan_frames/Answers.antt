use Rattle.std.proofs.Common.{◌+◌, ◌*◌, ◌<◌, ◌≤◌, [], ◌++◌, List, ℕ, length, length-append, subst, sym, refl, arith}
use Rattle.std.proofs.KnownBytes.{Consumes-nil}
use Rattle.std.proofs.Math.Nat.{add-mul}
use Rattle.std.proofs.lemmas.Nat.{mul-le}
use Rattle.chunk_core.specs.Inlets.{inlet_reader}
use Rattle.dsd_bits.proofs.ExitLaws.{no_value}
use Rattle.dop_core.specs.Markers.{AreMarks}
use Rattle.dop_core.proofs.MarkerLaws.{few_samples, no_samples, nothing_times}
use Rattle.dop_core.proofs.ReadingLaws.{outside, pulls_on}
use Rattle.dop_core.proofs.sound.scan_frames.Goals as goal

pub loop-done-init : goal.loop-done-init
loop-done-init g c =
    let n = c.args.head.now.channels in
    let none = nothing_times 0 n refl in
    record {
      sound = [];
      pulled = Consumes-nil (g.R.Read.remaining (inlet_reader c.args.inlet.now));
      long = omega (arith, none);
      within = omega arith;
      either = omega arith;
      marks = record { first = λ some. absurd (omega (arith, some)); broken = sym (no_samples n 0 [] (0 * n) none) };
    }

pub returns-then-not-branch-clause-ok : goal.returns-then-not-branch-clause-ok
returns-then-not-branch-clause-ok g c =
    let inv = c.loop-done.invariant in
    let read = c.in_ok-read_piece.ensures.read in
    let head = c.args.head.now in
    let piece = c.read_piece.new.piece.items in
    let rows : (c.loop-done.done + c.min-frames.result) * head.channels ≤ head.frames * head.channels = mul-le (c.loop-done.done + c.min-frames.result) head.channels head.frames head.channels (omega (arith, c.min-frames.ensures, c.loop-done-test.true)) (omega arith) in
    let less : 3 * (c.loop-done.done * head.channels) + length piece < 3 * (head.frames * head.channels) = omega (arith, read.short c.if-not-branch.true, rows, add-mul c.loop-done.done c.min-frames.result head.channels) in
    record {
      sound = inv.sound ++ piece;
      pulled = pulls_on g.R.Read.remaining c.args.inlet.now c.loop-done.inlet c.read_piece.new.inlet inv.sound piece inv.pulled read.pulled;
      long = omega (arith, length-append inv.sound piece, inv.long, c.len.ensures);
      few = omega (arith, less, c.len.ensures);
      either = inv.either;
      marks = λ all. absurd (omega (arith, less, c.len.ensures, all));
      at_end = λ short. read.at_end c.if-not-branch.true;
    }

pub loop-done-preserved : goal.loop-done-preserved
loop-done-preserved g c =
    let inv = c.loop-done.invariant in
    let read = c.in_ok-read_piece.ensures.read in
    let n = c.args.head.now.channels in
    let piece = c.read_piece.new.piece.items in
    record {
      sound = inv.sound ++ piece;
      pulled = pulls_on g.R.Read.remaining c.args.inlet.now c.loop-done.inlet c.read_piece.new.inlet inv.sound piece inv.pulled read.pulled;
      long = omega (arith, length-append inv.sound piece, inv.long, read.whole c.if-not-branch.false, add-mul c.loop-done.done c.min-frames.result n);
      within = omega (arith, c.min-frames.ensures, c.loop-done-test.true);
      either = c.marks_on-marks.ensures.either;
      marks = subst (λ (xs : List ℕ). AreMarks n c.marks_on-marks.result (c.loop-done.done + c.min-frames.result) (inv.sound ++ xs)) c.deref.ensures.value (c.marks_on-marks.ensures.marks inv.sound inv.marks inv.long);
    }

pub returns-in_err-read_piece-clause-ok : goal.returns-in_err-read_piece-clause-ok
returns-in_err-read_piece-clause-ok g c = no_value _ _ c.from_residual.result c.from_residual.ensures.1

pub returns-in_err-read_piece-clause-fault : goal.returns-in_err-read_piece-clause-fault
returns-in_err-read_piece-clause-fault g c = outside c.from_residual.result _ c.from_residual.ensures.1 c.in_err-read_piece.ensures.fault

pub overflow_mul-frames : goal.overflow_mul-frames
overflow_mul-frames g c = omega (arith, few_samples c.min-frames.result c.args.head.now.channels (omega (arith, c.min-frames.ensures)) c.requires.six)

pub overflow_mul-frames-in-loop-done : goal.overflow_mul-frames-in-loop-done
overflow_mul-frames-in-loop-done g c = omega (arith, few_samples c.min-frames.result c.args.head.now.channels (omega (arith, c.min-frames.ensures)) c.requires.six)

pub overflow_mul-there : goal.overflow_mul-there
overflow_mul-there g c = omega (arith, few_samples c.loop-done.done c.args.head.now.channels (omega (arith, c.loop-done.invariant.within, c.requires.few)) c.requires.six)

pub overflow_mul-there-then-not-branch : goal.overflow_mul-there-then-not-branch
overflow_mul-there-then-not-branch g c = omega (arith, few_samples c.loop-done.done c.args.head.now.channels (omega (arith, c.loop-done.invariant.within, c.requires.few)) c.requires.six)

pub overflow_add-there : goal.overflow_add-there
overflow_add-there g c = omega (arith, few_samples c.loop-done.done c.args.head.now.channels (omega (arith, c.loop-done.invariant.within, c.requires.few)) c.requires.six, c.read_piece.new.piece.small, c.len.ensures)

pub overflow_mul-there-2 : goal.overflow_mul-there-2
overflow_mul-there-2 g c = omega (arith, few_samples c.loop-done.done c.args.head.now.channels (omega (arith, c.loop-done.invariant.within, c.requires.few)) c.requires.six)

pub overflow_mul-there-3 : goal.overflow_mul-there-3
overflow_mul-there-3 g c = omega (arith, few_samples c.loop-done.done c.args.head.now.channels (omega (arith, c.loop-done.invariant.within, c.requires.few)) c.requires.six)
