use Rattle.std.proofs.Common.{[], ◌++◌, length, append-nil, length-append, ap, sym, arith}
use Rattle.std.proofs.KnownBytes.{Consumes-nil}
use Rattle.chunk_core.specs.Inlets.{inlet_reader}
use Rattle.dop_core.proofs.ReadingLaws.{grown, held_to_end, pulls_on}
use Rattle.dop_core.proofs.pieces.hold_until.Goals as goal

pub loop-held-init : goal.loop-held-init
loop-held-init g c = record {
  few = c.requires;
  read = [];
  pulled = Consumes-nil (g.R.Read.remaining (inlet_reader c.args.inlet.now));
  appended = sym (append-nil c.args.held.now.items);
}

pub returns-then-not-is_whole-clause-read : goal.returns-then-not-is_whole-clause-read
returns-then-not-is_whole-clause-read g c =
    let inv = c.loop-held.invariant in
    let read = c.in_ok-is_whole.ensures.read in
    let piece = c.read_piece.new.piece.items in
    let now = c.in_ok-extend_from_slice.ensures.items in
    let short = read.short c.if-not-is_whole.true in
    held_to_end g.R.Read.remaining c.args.inlet.now c.read_piece.new.inlet c.args.held.now.items c.extend_from_slice.new.self.items (inv.read ++ piece) c.args.wanted
    (pulls_on g.R.Read.remaining c.args.inlet.now c.loop-held.inlet c.read_piece.new.inlet inv.read piece inv.pulled read.pulled)
    (grown c.args.held.now.items c.loop-held.held.items c.extend_from_slice.new.self.items inv.read c.deref.result.now piece inv.appended now c.deref.ensures.value)
    (omega (arith, ap length now, length-append c.loop-held.held.items c.deref.result.now, ap length c.deref.ensures.value, short, c.min-size.ensures, c.len-in-loop-held.ensures))
    (read.at_end c.if-not-is_whole.true)

pub loop-held-preserved : goal.loop-held-preserved
loop-held-preserved g c =
    let inv = c.loop-held.invariant in
    let read = c.in_ok-is_whole.ensures.read in
    let piece = c.read_piece.new.piece.items in
    let now = c.in_ok-extend_from_slice.ensures.items in
    record {
      few = omega (arith, ap length now, length-append c.loop-held.held.items c.deref.result.now, ap length c.deref.ensures.value, read.few, c.min-size.ensures, c.len-in-loop-held.ensures, c.loop-held-test.true, c.len.ensures);
      read = inv.read ++ piece;
      pulled = pulls_on g.R.Read.remaining c.args.inlet.now c.loop-held.inlet c.read_piece.new.inlet inv.read piece inv.pulled read.pulled;
      appended = grown c.args.held.now.items c.loop-held.held.items c.extend_from_slice.new.self.items inv.read c.deref.result.now piece inv.appended now c.deref.ensures.value;
    }
