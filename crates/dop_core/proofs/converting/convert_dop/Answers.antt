use Rattle.std.proofs.Common.{◌+◌, ◌^◌, ◌≤◌, [], ◌++◌, append-nil, ap, length, subst, ◌∙◌, refl, arith}
use Rattle.std.proofs.KnownBytes.{Appends-trans}
use Rattle.chunk_core.specs.Inlets.{PullsBytes}
use Rattle.chunk_core.specs.Outlets.{Puts, PutsPrefix, outlet_writer}
use Rattle.form_core.specs.Parts.{head_in, tail_in}
use Rattle.dop_core.specs.Converting.{written_in}
use Rattle.dop_core.specs.Outlines.{file_in, recording_in, silent_in}
use Rattle.dop_core.proofs.OutlineLaws.{recorded}
use Rattle.dop_core.proofs.PlayLaws.{prefix_nil}
use Rattle.dop_core.proofs.ReadingLaws.{pulls_on}
use Rattle.dop_core.proofs.SampleStarts.{any_refused}
use Rattle.dop_core.proofs.WrittenLaws.{holds, starts_head, starts_not, starts_samples, starts_tail, text_is}
use Rattle.dop_core.proofs.converting.convert_dop.Given.{Over}
use Rattle.dop_core.proofs.converting.convert_dop.Goals as goal
use Rattle.dop_core.proofs.converting.convert_dop.Goals.{In_ok-put_piece, In_ok-read_same}

pub returns-in_err-ends-clause-prefix : goal.returns-in_err-ends-clause-prefix
returns-in_err-ends-clause-prefix g c = any_refused c.from_residual.result (starts_not c.written_in_parts.ensures c.args.outline.now c.requires.outline c.args.form c.requires.fits g.R.Read.remaining g.W.Write.contents c.args.inlet.now c.args.outlet.now c.args.outlet.now refl)

pub returns-in_err-read_same-clause-prefix : goal.returns-in_err-read_same-clause-prefix
returns-in_err-read_same-clause-prefix g c = any_refused c.from_residual-in_err-read_same.result (starts_not c.written_in_parts.ensures c.args.outline.now c.requires.outline c.args.form c.requires.fits g.R.Read.remaining g.W.Write.contents c.args.inlet.now c.args.outlet.now c.args.outlet.now refl)

pub returns-in_err-put_piece-clause-prefix : goal.returns-in_err-put_piece-clause-prefix
returns-in_err-put_piece-clause-prefix g c =
    any_refused c.from_residual-in_err-put_piece.result (starts_head c.written_in_parts.ensures c.args.outline.now c.requires.outline c.args.form c.requires.fits g.R.Read.remaining g.W.Write.contents c.args.inlet.now c.args.outlet.now c.put_piece.new.outlet
    (subst (PutsPrefix g.W.Write.contents c.args.outlet.now c.put_piece.new.outlet) (c.deref-2.ensures.value ∙ c.in_ok-ends.ensures.head) c.in_err-put_piece.ensures.err))

-- what is before the samples was read, and written
front_pulled : (g : Over) (c : In_ok-read_same g) → PullsBytes g.R.Read.remaining c.args.inlet.now c.read_same.new.inlet c.args.outline.now.front.items
front_pulled g c = subst (PullsBytes g.R.Read.remaining c.args.inlet.now c.read_same.new.inlet) c.deref.ensures.value c.in_ok-read_same.ensures.ok

head_put : (g : Over) (c : In_ok-put_piece g) → Puts g.W.Write.contents c.args.outlet.now c.put_piece.new.outlet (head_in c.args.form (silent_in c.args.outline.now) c.args.outline.now.count)
head_put g c = subst (Puts g.W.Write.contents c.args.outlet.now c.put_piece.new.outlet) (c.deref-2.ensures.value ∙ c.in_ok-ends.ensures.head) c.in_ok-put_piece.ensures.ok

pub returns-in_err-put_samples-clause-prefix : goal.returns-in_err-put_samples-clause-prefix
returns-in_err-put_samples-clause-prefix g c =
    let at = goal.at.returns-in_err-put_samples-clause-prefix g c in
    any_refused c.from_residual-in_err-put_samples.result (starts_samples c.written_in_parts.ensures c.args.outline.now c.requires.outline c.args.form c.requires.fits g.R.Read.remaining g.W.Write.contents c.args.inlet.now c.read_same.new.inlet c.args.outlet.now c.put_piece.new.outlet c.put_samples.new.outlet
    (front_pulled g at.In_ok-read_same) (head_put g at.In_ok-put_piece) c.in_err-put_samples.ensures.prefix)

pub returns-in_err-read_same-2-clause-prefix : goal.returns-in_err-read_same-2-clause-prefix
returns-in_err-read_same-2-clause-prefix g c =
    let at = goal.at.returns-in_err-read_same-2-clause-prefix g c in
    any_refused c.from_residual-in_err-read_same-2.result (starts_tail c.written_in_parts.ensures c.args.outline.now c.requires.outline c.args.form c.requires.fits g.R.Read.remaining g.W.Write.contents c.args.inlet.now c.read_same.new.inlet c.put_samples.new.inlet c.args.outlet.now c.put_piece.new.outlet c.put_samples.new.outlet c.put_samples.new.outlet
    (front_pulled g at.In_ok-read_same) (head_put g at.In_ok-put_piece) c.in_ok-put_samples.ensures.ok (prefix_nil (g.W.Write.contents (outlet_writer c.put_samples.new.outlet)) _))

pub returns-in_err-read_end-clause-prefix : goal.returns-in_err-read_end-clause-prefix
returns-in_err-read_end-clause-prefix g c =
    let at = goal.at.returns-in_err-read_end-clause-prefix g c in
    any_refused c.from_residual-in_err-read_end.result (starts_tail c.written_in_parts.ensures c.args.outline.now c.requires.outline c.args.form c.requires.fits g.R.Read.remaining g.W.Write.contents c.args.inlet.now c.read_same.new.inlet c.put_samples.new.inlet c.args.outlet.now c.put_piece.new.outlet c.put_samples.new.outlet c.put_samples.new.outlet
    (front_pulled g at.In_ok-read_same) (head_put g at.In_ok-put_piece) c.in_ok-put_samples.ensures.ok (prefix_nil (g.W.Write.contents (outlet_writer c.put_samples.new.outlet)) _))

pub returns-in_err-put_piece-2-clause-prefix : goal.returns-in_err-put_piece-2-clause-prefix
returns-in_err-put_piece-2-clause-prefix g c =
    let at = goal.at.returns-in_err-put_piece-2-clause-prefix g c in
    any_refused c.from_residual-in_err-put_piece-2.result (starts_tail c.written_in_parts.ensures c.args.outline.now c.requires.outline c.args.form c.requires.fits g.R.Read.remaining g.W.Write.contents c.args.inlet.now c.read_same.new.inlet c.put_samples.new.inlet c.args.outlet.now c.put_piece.new.outlet c.put_samples.new.outlet c.put_piece-2.new.outlet
    (front_pulled g at.In_ok-read_same) (head_put g at.In_ok-put_piece) c.in_ok-put_samples.ensures.ok
    (subst (PutsPrefix g.W.Write.contents c.put_samples.new.outlet c.put_piece-2.new.outlet) (c.deref-4.ensures.value ∙ c.in_ok-ends.ensures.tail) c.in_err-put_piece-2.ensures.err))

pub returns-clause-ok : goal.returns-clause-ok
returns-clause-ok g c =
    let at = goal.at.returns-clause-ok g c in
    let left = g.R.Read.remaining in
    let held = g.W.Write.contents in
    let o = c.args.outline.now in
    let form = c.args.form in
    let samples = c.in_ok-put_samples.ensures.ok in
    let back = o.back.items in
    let i = c.args.inlet.now in
    let last = c.read_end.new.inlet in
    let rest = subst (PullsBytes left c.put_samples.new.inlet c.read_same-2.new.inlet) c.deref-3.ensures.value c.in_ok-read_same-2.ensures.ok in
    let end = subst (PullsBytes left c.put_samples.new.inlet last) (append-nil back) (pulls_on left c.put_samples.new.inlet c.read_same-2.new.inlet last back [] rest c.in_ok-read_end.ensures.ok) in
    let tail = subst (Puts held c.put_samples.new.outlet c.put_piece-2.new.outlet) (c.deref-4.ensures.value ∙ c.in_ok-ends.ensures.tail) c.in_ok-put_piece-2.ensures.ok in
    let few : length (head_in form (silent_in o) o.count) + length (tail_in form (silent_in o) o.count) ≤ 2 ^ 62 = omega (arith, c.in_ok-ends.ensures.few, ap length c.in_ok-ends.ensures.head, ap length c.in_ok-ends.ensures.tail) in
    record {
      read = file_in o samples.sound;
      pulled = pulls_on left i c.read_same.new.inlet last o.front.items (samples.sound ++ back) (front_pulled g at.In_ok-read_same) (pulls_on left c.read_same.new.inlet c.put_samples.new.inlet last samples.sound back samples.pulled end);
      at_end = c.in_ok-read_end.ensures.at_end;
      recording = recording_in o samples.sound;
      has = recorded o c.requires.outline samples.sound samples.samples;
      bytes = written_in form o samples.sound;
      text = text_is c.written_in_parts.ensures o c.requires.outline form c.requires.fits samples.sound;
      sound = holds c.written_in_parts.ensures o c.requires.outline form c.requires.fits c.written_is_read.ensures c.in_ok-ends.ensures.fields few samples.sound;
      written = Appends-trans (held (outlet_writer c.args.outlet.now)) (held (outlet_writer c.put_piece.new.outlet)) (held (outlet_writer c.put_piece-2.new.outlet)) _ _ (head_put g at.In_ok-put_piece)
          (Appends-trans (held (outlet_writer c.put_piece.new.outlet)) (held (outlet_writer c.put_samples.new.outlet)) (held (outlet_writer c.put_piece-2.new.outlet)) _ _ samples.written tail);
    }
