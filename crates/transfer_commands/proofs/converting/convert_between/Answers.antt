use Rattle.std.proofs.Common.{subst, sym}
use Rattle.std.proofs.lemmas.Result.{IfOk-weaker}
use Rattle.chunk_core.specs.Inlets.{inlet_reader}
use Rattle.chunk_core.specs.Outlets.{outlet_writer}
use Rattle.transfer_commands.specs.Converting.{ConvertsTo}
use Rattle.transfer_commands.proofs.ConvertLaws.{converts_to}
use Rattle.transfer_commands.proofs.converting.convert_between.Goals as goal

pub returns : goal.returns
returns g c =
    let left = g.R.Read.remaining in
    let held = g.W.Write.contents in
    let outline = c.args.outline.now in
    let form = c.args.form in
    let came = c.convert_stream-came.result in
    let stream = c.convert_stream-came.ensures in
    let before = outlet_writer c.new-outlet.result in
    let after = outlet_writer c.convert_stream-came.new.outlet in
    let ends = converts_to outline form (left (inlet_reader c.new-inlet.result)) (held before) (held after) came stream.ok (IfOk-weaker came _ _ (λ dropped h. (h.0, h.1, h.3, h.4)) stream.any_reader) stream.prefix stream.refused in
    let from = subst (λ r. ConvertsTo outline form (left r) (held before) (held after) came) c.new-inlet.ensures.reader ends in
    let to = subst (λ w. ConvertsTo outline form (left c.args.file) (held w) (held after) came) c.new-outlet.ensures.writer from in
    subst (λ w. ConvertsTo outline form (left c.args.file) (held c.args.made) (held w) came) (sym c.into_inner.ensures) to
