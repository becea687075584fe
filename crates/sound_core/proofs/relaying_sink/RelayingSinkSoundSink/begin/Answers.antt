use Rattle.std.proofs.Common.{rules, ◌++◌, [], ◌∙◌, ap, append-nil, refl, subst, sym}
use Rattle.std.specs.Io.KnownBytes.{Appends}
use Rattle.sound_core.specs.Relays.{reinterleaved_sound}
use Rattle.sound_core.proofs.RelayLaws.{each_err, each_ok, relaced_none, until_more, until_part, writing_is_own}
use Rattle.sound_core.proofs.relaying_sink.RelayingSinkSoundSink.begin.Goals as goal

pub returns-clause-has : goal.returns-clause-has
returns-clause-has g c =
    let target = c.args.self.now.target in
    each_ok _ _ c.put.result c.put.ensures.ok c.put.ensures.failures (λ out failures. record {
      same = refl;
      target = refl;
      own = search rules;
      ready = c.requires.ready;
      written = subst (Appends _ _) (sym (ap (λ xs. target.head.now ++ xs) (relaced_none c.args.sound target.interleaving) ∙ append-nil target.head.now)) out;
      failures = failures;
    })

pub returns-clause-refused : goal.returns-clause-refused
returns-clause-refused g c =
    let target = c.args.self.now.target in
    each_err _ _ c.put.result c.put.ensures.err c.put.ensures.fault c.put.ensures.failures (λ f out fault failures. record {
      same = refl;
      fault = writing_is_own c.args.self.now.sound c.args.sound f fault;
      prefix = λ own rest long. until_more _ _ target.head.now (reinterleaved_sound c.args.sound target.interleaving ([] ++ rest) ++ target.tail.now) f (until_part _ _ target.head.now f out);
      failures = failures;
    })
