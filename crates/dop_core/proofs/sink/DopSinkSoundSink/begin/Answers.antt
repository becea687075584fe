use Rattle.std.proofs.Common.{◌++◌, ◌∙◌, [], ap, append-nil, refl, subst, sym}
use Rattle.std.specs.Io.KnownBytes.{Appends}
use Rattle.sound_core.proofs.RelayLaws.{each_err, each_ok}
use Rattle.dop_core.specs.Sinks.{head_of_sound, samples_of}
use Rattle.dop_core.specs.Writing.{dop_tail}
use Rattle.dop_core.proofs.PlayLaws.{IfErr-both, prefix_more, samples_none}
use Rattle.dop_core.proofs.sink.DopSinkSoundSink.begin.Goals as goal

pub returns-clause-has : goal.returns-clause-has
returns-clause-has g c =
    let head = head_of_sound c.args.sound in
    each_ok _ _ c.put_head.result c.put_head.ensures.ok c.put_head.ensures.failures (λ opens failures. record {
      same = refl;
      divided = opens.divided;
      fits = opens.fits;
      ready = c.requires.ready;
      written = subst (Appends _ _) (sym (ap (λ xs. head ++ xs) (samples_none c.native_joins.ensures c.args.sound c.requires.fed.is_sound.some_channel) ∙ append-nil head)) opens.written;
      failures = failures;
    })

pub returns-clause-refused : goal.returns-clause-refused
returns-clause-refused g c =
    let s = c.args.sound in
    each_err _ _ c.put_head.result c.put_head.ensures.err (IfErr-both c.put_head.result _ _ c.put_head.ensures.fault c.put_head.ensures.unwritten) c.put_head.ensures.failures (λ f out both failures. record {
      same = refl;
      fault = both.0;
      unwritten = both.1;
      prefix = λ rest long. prefix_more _ _ (head_of_sound s) (samples_of s s.count ([] ++ rest) ++ dop_tail s.channels s.count) out;
      failures = failures;
    })
