use Rattle.std.proofs.Common.{inl, inr, refl, subst, arith}
use Rattle.sound_core.specs.Readers.{CountsFault}
use Rattle.sound_core.proofs.ReaderLaws.{counts_later, same_self}
use Rattle.sound_core.proofs.naming.unread.Goals as goal

pub refusal_of-requires : goal.refusal_of-requires
refusal_of-requires g c = record { known = c.requires.known c.in-FileRefused.is; counted = c.requires.counted }

pub returns-in-FileRefused : goal.returns-in-FileRefused
returns-in-FileRefused g c =
    let is = c.in-FileRefused.is in
    record {
      same = c.refusal_of.ensures.same;
      named = λ first known. c.refusal_of.ensures.named first (known is);
      how = inr (is, c.refusal_of.ensures.how);
      counts = λ start same counts.
          let so_far = subst (CountsFault start c.args.reader.now) is counts in
          counts_later {X = Unit {0}} {Y = Unit {0}} start c.args.reader.now c.refusal_of.new.reader _ same.limit (omega (arith, so_far.failures)) c.refusal_of.ensures.counts;
    }

pub returns-in_default : goal.returns-in_default
returns-in_default g c = record {
  same = same_self c.args.reader.now;
  named = λ first known. tt;
  how = inl (c.in_default.not-FileRefused, refl, refl);
  counts = λ start same counts. counts;
}
