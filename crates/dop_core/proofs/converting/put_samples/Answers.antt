use Rattle.std.proofs.Common.{◌≡◌, ◌-◌, ◌+◌, ◌*◌, ◌/◌, ◌%◌, ◌<◌, ◌≤◌, [], ◌++◌, List, ℕ, None, ap, ap₂, length, length-append, min, subst, sym, ◌∙◌, refl, arith}
use Rattle.std.specs.Io.KnownBytes.{Appends}
use Rattle.std.proofs.KnownBytes.{Appends-trans, Consumes-nil}
use Rattle.std.proofs.Math.Nat.{add-mul}
use Rattle.chunk_core.specs.Inlets.{inlet_reader}
use Rattle.chunk_core.specs.Outlets.{Puts, PutsPrefix, outlet_writer}
use Rattle.form_core.specs.Parts.{interleaving_in}
use Rattle.interleave_core.specs.Reinterleaving.{laced_in}
use Rattle.dsd_bits.specs.declared.interleaving.Interleaving.{Interleaving}
use Rattle.dsd_bits.proofs.ExitLaws.{no_ok}
use Rattle.dop_core.specs.Reading.{broken_from, dop_channels}
use Rattle.dop_core.proofs.BitLaws.{so_far, so_far_on}
use Rattle.dop_core.proofs.MarkerLaws.{broken_both, no_samples, nothing_times, or_else, piece_holds}
use Rattle.dop_core.proofs.ReadingLaws.{pulls_on}
use Rattle.dop_core.proofs.SampleStarts.{any_refused, nothing_laced, piece_starts, so_far_starts}
use Rattle.dop_core.specs.Markers.{plus}
use Rattle.dop_core.proofs.converting.put_samples.Given.{Over}
use Rattle.dop_core.proofs.converting.put_samples.Goals as goal
use Rattle.dop_core.proofs.converting.put_samples.Goals.{In_ok-push_piece}

pub loop-done-init : goal.loop-done-init
loop-done-init g c =
    let o = c.args.outline.now in
    let n = o.head.channels in
    let none = nothing_times 0 n refl in
    record {
      sound = [];
      pulled = Consumes-nil (g.R.Read.remaining (inlet_reader c.args.inlet.now));
      long = omega (arith, none);
      within = omega arith;
      groups = λ more. refl;
      marked = no_samples n o.first [] (0 * n) none;
      written = nothing_laced (interleaving_in c.args.form) n o.count (g.W.Write.contents (outlet_writer c.args.outlet.now)) c.requires.outline.some;
    }

pub returns-in_err-read_marked-clause-prefix : goal.returns-in_err-read_marked-clause-prefix
returns-in_err-read_marked-clause-prefix g c =
    let inv = c.loop-done.invariant in
    any_refused c.from_residual.result (so_far_starts g.R.Read.remaining g.W.Write.contents c.args.outline.now c.requires.outline c.args.form c.args.inlet.now c.loop-done.inlet c.args.outlet.now c.loop-done.outlet inv.sound c.loop-done.done inv.pulled inv.long inv.within inv.groups inv.written)

pub returns-in_err-push_piece-clause-prefix : goal.returns-in_err-push_piece-clause-prefix
returns-in_err-push_piece-clause-prefix g c =
    let inv = c.loop-done.invariant in
    any_refused c.from_residual-in_err-push_piece.result (so_far_starts g.R.Read.remaining g.W.Write.contents c.args.outline.now c.requires.outline c.args.form c.args.inlet.now c.loop-done.inlet c.args.outlet.now c.loop-done.outlet inv.sound c.loop-done.done inv.pulled inv.long inv.within inv.groups inv.written)

-- what was made of a piece, in other words
out_made : (n : ℕ) {empty out piece bytes : List ℕ} {to form : Interleaving} {k count : ℕ} → empty ≡ [] → to ≡ form → piece ≡ bytes → k ≡ count → out ≡ empty ++ laced_in to (dop_channels n piece k) → out ≡ laced_in form (dop_channels n bytes count)
out_made n {empty} {out} {piece} {bytes} {to} {form} {k} {count} none one two three is =
    is ∙ ap (λ xs. xs ++ laced_in to (dop_channels n piece k)) none ∙ ap₂ (λ f xs. laced_in f (dop_channels n xs k)) one two ∙ ap (λ m. laced_in form (dop_channels n bytes m)) three

-- what a piece of the sound becomes
made : (g : Over) (c : In_ok-push_piece g) → c.push_piece.new.out.items ≡ laced_in (interleaving_in c.args.form) (dop_channels c.args.outline.now.head.channels c.read_marked.new.piece.items (min (c.args.outline.now.count - 16 * c.loop-done.done) (16 * c.min-frames.result)))
made g c =
    out_made c.args.outline.now.head.channels c.clear.ensures.items c.interleaving_in.ensures c.deref.ensures.value c.min-count.ensures c.in_ok-push_piece.ensures

-- whole groups of frames were read, or the last ones
next_groups : (most frames done more : ℕ) → most % 32768 ≡ 0 → 16 * done % 32768 ≡ 0 → more ≡ min (frames - done) (most / 16) → done + more < frames → 16 * (done + more) % 32768 ≡ 0
next_groups most frames done more groups so_far is less = omega (arith, groups, so_far, is, less)

pub returns-in_err-put_piece-clause-prefix : goal.returns-in_err-put_piece-clause-prefix
returns-in_err-put_piece-clause-prefix g c =
    let at = (goal.at.returns-in_err-put_piece-clause-prefix g c).In_ok-push_piece in
    let inv = c.loop-done.invariant in
    let o = c.args.outline.now in
    let read = c.in_ok-read_marked.ensures in
    let held = g.W.Write.contents in
    let less : c.loop-done.done < o.head.frames = omega (arith, c.loop-done-test.true) in
    let groups = inv.groups less in
    any_refused c.from_residual-in_err-put_piece.result
    (piece_starts g.R.Read.remaining held o c.requires.outline c.args.form c.args.inlet.now c.loop-done.inlet c.read_marked.new.inlet c.args.outlet.now c.loop-done.outlet c.put_piece.new.outlet inv.sound c.read_marked.new.piece.items c.loop-done.done c.min-frames.result
    (pulls_on g.R.Read.remaining c.args.inlet.now c.loop-done.inlet c.read_marked.new.inlet inv.sound c.read_marked.new.piece.items inv.pulled read.read) inv.long read.long less (omega (arith, c.min-frames.ensures, less)) groups
    (next_groups c.segment_bits-most.result o.head.frames c.loop-done.done c.min-frames.result c.segment_bits-most.ensures.groups groups c.min-frames.ensures) inv.written
    (subst (PutsPrefix held c.loop-done.outlet c.put_piece.new.outlet) (c.deref-in-loop-done.ensures.value ∙ made g at) c.in_err-put_piece.ensures.err))

pub loop-done-preserved : goal.loop-done-preserved
loop-done-preserved g c =
    let at = (goal.at.loop-done-preserved g c).In_ok-push_piece in
    let inv = c.loop-done.invariant in
    let o = c.args.outline.now in
    let n = o.head.channels in
    let is = c.requires.outline in
    let read = c.in_ok-read_marked.ensures in
    let held = g.W.Write.contents in
    let piece = c.read_marked.new.piece.items in
    let done = c.loop-done.done in
    let more = c.min-frames.result in
    let less : done < o.head.frames = omega (arith, c.loop-done-test.true) in
    let within : done + more ≤ o.head.frames = omega (arith, c.min-frames.ensures, less) in
    let groups = inv.groups less in
    let put = subst (Puts held c.loop-done.outlet c.put_piece.new.outlet) (c.deref-in-loop-done.ensures.value ∙ made g at) c.in_ok-put_piece.ensures.ok in
    record {
      sound = inv.sound ++ piece;
      pulled = pulls_on g.R.Read.remaining c.args.inlet.now c.loop-done.inlet c.read_marked.new.inlet inv.sound piece inv.pulled read.read;
      long = omega (arith, length-append inv.sound piece, inv.long, read.long, add-mul done more n);
      within = within;
      groups = next_groups c.segment_bits-most.result o.head.frames done more c.segment_bits-most.ensures.groups groups c.min-frames.ensures;
      marked = broken_both n o.first inv.sound piece done more is.some inv.long ∙ ap₂ (λ a b. or_else a (plus done b)) inv.marked read.marked;
      written = subst (Appends (held (outlet_writer c.args.outlet.now)) (held (outlet_writer c.put_piece.new.outlet))) (sym (so_far_on (interleaving_in c.args.form) n o.head.frames o.count is.some is.most is.least inv.sound piece done more less within groups inv.long)) (Appends-trans (held (outlet_writer c.args.outlet.now)) (held (outlet_writer c.loop-done.outlet)) (held (outlet_writer c.put_piece.new.outlet)) _ _ inv.written put);
    }

pub returns-in_err-read_marked-clause-ok : goal.returns-in_err-read_marked-clause-ok
returns-in_err-read_marked-clause-ok g c = no_ok _ _ c.from_residual.result c.from_residual.ensures.1

pub overflow_mul-done : goal.overflow_mul-done
overflow_mul-done g c = omega (arith, c.loop-done.invariant.within, c.requires.outline.few)

pub overflow_mul-frames : goal.overflow_mul-frames
overflow_mul-frames g c = omega (arith, c.min-frames.ensures, c.requires.outline.few)

pub push_piece-requires-clause-size : goal.push_piece-requires-clause-size
push_piece-requires-clause-size g c =
    piece_holds c.min-count.result c.min-frames.result c.args.outline.now.head.channels c.deref.result.now c.read_marked.new.piece.items (omega (arith, c.min-count.ensures)) c.deref.ensures.value c.in_ok-read_marked.ensures.long

pub returns-clause-ok : goal.returns-clause-ok
returns-clause-ok g c =
    let inv = c.loop-done.invariant in
    let o = c.args.outline.now in
    let n = o.head.channels in
    let all : c.loop-done.done ≡ o.head.frames = omega (arith, inv.within, c.loop-done-test.false) in
    let count : min o.count (16 * c.loop-done.done) ≡ o.count = omega (arith, all, c.requires.outline.most) in
    record {
      sound = inv.sound;
      pulled = inv.pulled;
      samples = record {
        long = subst (λ (k : ℕ). length inv.sound ≡ 3 * (k * n)) all inv.long;
        marked = subst (λ (k : ℕ). broken_from n o.first inv.sound 0 (k * n) ≡ None) all inv.marked;
      };
      written = subst (λ (k : ℕ). Puts g.W.Write.contents c.args.outlet.now c.loop-done.outlet (laced_in (interleaving_in c.args.form) (dop_channels n inv.sound k))) count inv.written;
    }
