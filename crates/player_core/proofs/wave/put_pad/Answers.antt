use Rattle.std.proofs.Common.{◌∙◌, subst}
use Rattle.std.specs.Io.KnownBytes.{Appends}
use Rattle.std.proofs.lemmas.Result.{on_err_weaker, on_ok_weaker}
use Rattle.dsd_bits.proofs.ExitLaws.{any_err}
use Rattle.chunk_core.specs.Outlets.{AppendsPrefix, outlet_writer}
use Rattle.player_core.specs.Wave.{pad_of}
use Rattle.player_core.proofs.PieceLaws.{part_is_prefix, prefix_nil}
use Rattle.player_core.proofs.WaveLaws.{pad_is}
use Rattle.player_core.proofs.wave.put_pad.Goals as goal

pub returns-in_err-push_pad-clause-err : goal.returns-in_err-push_pad-clause-err
returns-in_err-push_pad-clause-err g c = any_err c.from_residual.result (prefix_nil (g.W.Write.contents (outlet_writer c.args.outlet.now)) (pad_of c.args.taps.now c.args.sound.now))

pub returns-clause-ok : goal.returns-clause-ok
returns-clause-ok g c =
    let is = c.as_slice.ensures.value ∙ pad_is c.args.taps.now c.args.sound.now c.spec_of.result c.total_frames.result c.clear.new.self.items c.push_pad.new.out.items c.spec_of.ensures.spec c.total_frames.ensures c.clear.ensures.items c.in_ok-push_pad.ensures.ok in
    on_ok_weaker c.put.result (subst (Appends (g.W.Write.contents (outlet_writer c.args.outlet.now)) (g.W.Write.contents (outlet_writer c.put.new.outlet))) is) c.put.ensures.ok

pub returns-clause-err : goal.returns-clause-err
returns-clause-err g c =
    let is = c.as_slice.ensures.value ∙ pad_is c.args.taps.now c.args.sound.now c.spec_of.result c.total_frames.result c.clear.new.self.items c.push_pad.new.out.items c.spec_of.ensures.spec c.total_frames.ensures c.clear.ensures.items c.in_ok-push_pad.ensures.ok in
    let a = g.W.Write.contents (outlet_writer c.args.outlet.now) in
    let b = g.W.Write.contents (outlet_writer c.put.new.outlet) in
    on_err_weaker c.put.result (λ out. subst (AppendsPrefix a b) is (part_is_prefix a b _ out)) c.put.ensures.err
