use Rattle.std.proofs.Common.{◌≡◌, ◌++◌, ◌∙◌, ◌-◌, [], add-zero, ap, append-nil, arith, refl, subst, sym}
use Rattle.std.proofs.Math.Seq.{drop-nil}
use Rattle.std.specs.Io.KnownBytes.{Appends}
use Rattle.chunk_core.specs.Outlets.{AppendsPrefix, outlet_writer}
use Rattle.dsd_bits.specs.declared.sound.Sound.{Sound}
use Rattle.sound_core.proofs.FaultLaws.{fault_is}
use Rattle.wave_core.specs.Heads.{FitsIn}
use Rattle.player_core.specs.Laws.{total_frames}
use Rattle.player_core.specs.Parts.{frames_sound, part_bytes}
use Rattle.player_core.specs.PartView.{IsPartFed, IsPartOf, part_due, part_start}
use Rattle.player_core.specs.Wave.{IsOpeningFault, OpensWave, sound_header, pad_of}
use Rattle.player_core.specs.Ranges.{number_of, stop_of}
use Rattle.player_core.specs.Sinks.{range_sound}
use Rattle.player_core.proofs.FaultLaws.{opening}
use Rattle.player_core.proofs.PieceLaws.{prefix_more, prefix_nil, whole_prefix}
use Rattle.player_core.proofs.PlayLaws.{frames_number}
use Rattle.player_core.proofs.SinkLaws.{all_fed, due_at_first}
use Rattle.player_core.proofs.sink.PlayingSinkSoundSink.begin.Goals as goal

pub returns-then-not-is_inside : goal.returns-then-not-is_inside
returns-then-not-is_inside g c = record {
  has = tt;
  own = tt;
  refused = record {
    same = refl;
    fault = c.is_inside.ensures.outside c.if-not-is_inside.true;
    unwritten = λ early. absurd early;
    prefix = λ rest long. prefix_nil _ _;
    failures = sym (add-zero _);
  };
}

pub returns-in_err-put_header-clause-refused : goal.returns-in_err-put_header-clause-refused
returns-in_err-put_header-clause-refused g c =
    let p = c.args.self.now in
    let d = p.taps.now in
    let s = c.args.sound in
    let at = c.is_inside.ensures.inside c.if-not-is_inside.false in
    let fs = range_sound d s p.range in
    let frames : c.frames_sound-frames.result ≡ fs = c.frames_sound-frames.ensures.sound ∙ ap (λ n. frames_sound d s (n - p.range.start)) c.stop_in-stop.ensures in
    let f = c.in_err-put_header.field-0.0 in
    let err = c.in_err-put_header.ensures.err in
    let a = g.W.Write.contents (outlet_writer p.outlet.now) in
    let b = g.W.Write.contents (outlet_writer c.put_header.new.outlet) in
    rw (fault_is c.from_residual.result _ c.from_residual.ensures.1) (record {
      same = refl;
      fault = opening d s p.range (omega (arith, c.frames_sound-frames.ensures.limits.least_factor)) at f (subst (λ (t : Sound). IsOpeningFault p.range.head d t f) frames c.in_err-put_header.ensures.fault);
      unwritten = c.in_err-put_header.ensures.unwritten;
      prefix = λ rest long. prefix_more a b (sound_header p.range.head d fs) (part_bytes d s ([] ++ rest) p.range.start (stop_of p.range (total_frames d s)) ++ pad_of d fs) (subst (λ (t : Sound). AppendsPrefix a b (sound_header p.range.head d t)) frames err);
      failures = c.in_err-put_header.ensures.failures;
    })

pub returns-in_err-player-clause-refused : goal.returns-in_err-player-clause-refused
returns-in_err-player-clause-refused g c =
    let p = c.args.self.now in
    let d = p.taps.now in
    let s = c.args.sound in
    let fs = range_sound d s p.range in
    let frames : c.frames_sound-frames.result ≡ fs = c.frames_sound-frames.ensures.sound ∙ ap (λ n. frames_sound d s (n - p.range.start)) c.stop_in-stop.ensures in
    let a = g.W.Write.contents (outlet_writer p.outlet.now) in
    let b = g.W.Write.contents (outlet_writer c.put_header.new.outlet) in
    rw (fault_is c.from_residual-in_err-player.result _ c.from_residual-in_err-player.ensures.1) (record {
      same = refl;
      fault = tt;
      unwritten = λ early. absurd early;
      prefix = λ rest long. prefix_more a b (sound_header p.range.head d fs) (part_bytes d s ([] ++ rest) p.range.start (stop_of p.range (total_frames d s)) ++ pad_of d fs)
          (whole_prefix a b (sound_header p.range.head d fs) (subst (λ (t : Sound). Appends a b (sound_header p.range.head d t)) frames c.in_ok-put_header.ensures.ok.written));
      failures = c.in_ok-put_header.ensures.failures;
    })

pub returns-clause-has : goal.returns-clause-has
returns-clause-has g c =
    let p = c.args.self.now in
    let d = p.taps.now in
    let s = c.args.sound in
    let at = c.is_inside.ensures.inside c.if-not-is_inside.false in
    let fs = range_sound d s p.range in
    let frames : c.frames_sound-frames.result ≡ fs = c.frames_sound-frames.ensures.sound ∙ ap (λ n. frames_sound d s (n - p.range.start)) c.stop_in-stop.ensures in
    let a = g.W.Write.contents (outlet_writer p.outlet.now) in
    let b = g.W.Write.contents (outlet_writer c.put_header.new.outlet) in
    let opens : OpensWave p.range.head d fs a b = subst (λ (t : Sound). OpensWave p.range.head d t a b) frames c.in_ok-put_header.ensures.ok in
    let player = c.in_ok-player.player in
    let n = part_start player in
    all_fed g.W.Write.contents p _ s [] (record {
      same = refl;
      taps = refl;
      range = refl;
      is_sound = c.requires.fed.is_sound;
      divided = opens.divided;
      inside = at;
      fits = subst (FitsIn p.range.head s.channels d.width) (frames_number d s (number_of p.range (total_frames d s)) (omega (arith, c.frames_sound-frames.ensures.limits.least_factor)) (omega (arith, at.0, at.1))) opens.fits;
      player = player;
      player_is = c.put_in.ensures;
      is_player = c.in_ok-player.ensures.ready;
      plays = subst (λ n. IsPartOf d s p.range.start n player) c.stop_in-stop.ensures c.in_ok-player.ensures.part;
      fed = subst (IsPartFed player) (sym (drop-nil n)) c.in_ok-player.ensures.fed;
      came = refl;
      written = subst (Appends a b) (sym (ap (λ xs. sound_header p.range.head d fs ++ xs) (ap (part_due player) (drop-nil n) ∙ due_at_first player) ∙ append-nil (sound_header p.range.head d fs))) opens.written;
      ready = c.requires.ready;
      failures = omega (arith, c.in_ok-put_header.ensures.failures);
    })
