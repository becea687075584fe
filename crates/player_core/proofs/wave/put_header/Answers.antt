use Rattle.std.proofs.Common.{Err, ap, ◌≤◌, ◌∙◌, add-zero, refl, subst, sym}
use Rattle.std.proofs.lemmas.Bool.{true≢false}
use Rattle.std.proofs.lemmas.Result.{IfErr-weaker, on_err_weaker, on_ok_weaker}
use Rattle.chunk_core.specs.Outlets.{AppendsPrefix, outlet_writer}
use Rattle.wave_core.specs.Heads.{limit_of, size_in}
use Rattle.wave_core.specs.declared.spec.WaveSpec.{WaveSpec}
use Rattle.sound_core.proofs.FaultLaws.{by_writing}
use Rattle.player_core.specs.Wave.{IsOpeningFault, sound_header}
use Rattle.player_core.proofs.FaultLaws.{writing_later}
use Rattle.player_core.proofs.PieceLaws.{part_is_prefix, prefix_nil}
use Rattle.player_core.proofs.WaveLaws.{header_is, opens_wave}
use Rattle.player_core.proofs.wave.put_header.Goals as goal

pub returns-then-not-rate_fits : goal.returns-then-not-rate_fits
returns-then-not-rate_fits g c = record {
  ok = tt;
  err = prefix_nil (g.W.Write.contents (outlet_writer c.args.outlet.now)) (sound_header c.args.head c.args.taps.now c.args.sound.now);
  least = tt;
  fault = λ fits. absurd (true≢false (sym (c.rate_fits.ensures.1 fits) ∙ c.if-not-rate_fits.true));
  unwritten = λ early. refl;
  failures = sym (add-zero _);
}

pub returns-in-Ok : goal.returns-in-Ok
returns-in-Ok g c =
    let d = c.args.taps.now in
    let s = c.args.sound.now in
    let a = g.W.Write.contents (outlet_writer c.args.outlet.now) in
    let b = g.W.Write.contents (outlet_writer c.put.new.outlet) in
    let is = c.as_slice.ensures.value ∙ header_is d s c.spec_of.result c.total_frames.result c.clear.new.self.items c.push_header_as.new.out.items c.spec_of.ensures.spec c.total_frames.ensures c.clear.ensures.items c.args.head c.in-Ok.ensures.ok in
    record {
      ok = on_ok_weaker c.put.result (opens_wave d s c.spec_of.result c.total_frames.result c.clear.new.self.items c.push_header_as.new.out.items c.spec_of.ensures.spec c.total_frames.ensures c.clear.ensures.items c.args.head c.as_slice.result.now a b (c.rate_fits.ensures.0 c.if-not-rate_fits.false) c.in-Ok.ensures.fits is) c.put.ensures.ok;
      err = on_err_weaker c.put.result (λ out. subst (AppendsPrefix a b) is (part_is_prefix a b _ out)) c.put.ensures.err;
      least = on_ok_weaker c.put.result (λ put. c.spec_of.ensures.factor) c.put.ensures.ok;
      fault = IfErr-weaker c.put.result _ _ (λ f h. by_writing (IsOpeningFault c.args.head d s) tt tt f h) c.put.ensures.fault;
      unwritten = IfErr-weaker c.put.result _ _ (λ f h early. absurd (writing_later f h early)) c.put.ensures.fault;
      failures = c.put.ensures.failures;
    }

pub returns-in-Err-TooLarge : goal.returns-in-Err-TooLarge
returns-in-Err-TooLarge g c =
    let d = c.args.taps.now in
    let s = c.args.sound.now in
    let large = c.push_header_as.ensures.too_large.0 (c.in-Err-TooLarge.is ∙ ap (λ f. Err f) c.in-Err-TooLarge.field-0-is) in
    record {
      ok = tt;
      err = prefix_nil (g.W.Write.contents (outlet_writer c.args.outlet.now)) (sound_header c.args.head d s);
      least = tt;
      fault = (c.rate_fits.ensures.0 c.if-not-rate_fits.false, subst (λ n. limit_of c.args.head ≤ size_in c.args.head s.channels d.width n) c.total_frames.ensures (subst (λ (t : WaveSpec). limit_of c.args.head ≤ size_in c.args.head t.channels t.width c.total_frames.result) c.spec_of.ensures.spec large));
      unwritten = λ early. refl;
      failures = sym (add-zero _);
    }

pub returns-in-Err-Memory : goal.returns-in-Err-Memory
returns-in-Err-Memory g c = record {
  ok = tt;
  err = prefix_nil (g.W.Write.contents (outlet_writer c.args.outlet.now)) (sound_header c.args.head c.args.taps.now c.args.sound.now);
  least = tt;
  fault = tt;
  unwritten = λ early. absurd early;
  failures = sym (add-zero _);
}
