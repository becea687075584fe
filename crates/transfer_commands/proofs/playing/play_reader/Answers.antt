use Rattle.std.proofs.Common.{ap, subst, sym}
use Rattle.std.proofs.lemmas.Result.{IfErr-weaker, IfOk-weaker}
use Rattle.chunk_core.specs.Inlets.{inlet_reader}
use Rattle.chunk_core.specs.Outlets.{outlet_writer}
use Rattle.transfer_commands.specs.Playing.{PlaysTo}
use Rattle.transfer_commands.proofs.PlayLaws.{first_named, plays_to}
use Rattle.transfer_commands.proofs.playing.play_reader.Goals as goal

pub returns : goal.returns
returns g c =
    let left = g.R.Read.remaining in
    let held = g.W.Write.contents in
    let came = c.play_stream-played.result in
    let played = c.play_stream-played.ensures in
    let before = outlet_writer c.new-outlet.result in
    let after = outlet_writer c.play_stream-played.new.outlet in
    let plays = plays_to held c.args.project.now c.args.range (left (inlet_reader c.new-inlet.result)) before after came played.ok (IfOk-weaker came _ _ (λ n h. (h.0, h.1, h.3, h.4)) played.any_reader)
    played.refused (IfErr-weaker came _ _ (first_named left c.new-inlet.result c.play_stream-played.new.inlet) played.named) played.cause played.prefix (IfErr-weaker came _ _ (λ fault none early. ap held (none early)) played.unwritten) in
    let from = subst (λ r. PlaysTo held c.args.project.now c.args.range (left r) before after came) c.new-inlet.ensures.reader plays in
    let to = subst (λ w. PlaysTo held c.args.project.now c.args.range (left c.args.reader) w after came) c.new-outlet.ensures.writer from in
    subst (λ w. PlaysTo held c.args.project.now c.args.range (left c.args.reader) c.args.wave w came) (sym c.into_inner.ensures) to
