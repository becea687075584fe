use Rattle.std.proofs.Common.{subst, sym}
use Rattle.chunk_core.specs.declared.inlet.Inlet.{Inlet}
use Rattle.sound_core.specs.Reads.{Reads}
use Rattle.sound_core.proofs.ReaderLaws.{same_on}
use Rattle.sound_core.proofs.UnsureLaws.{counts_from}
use Rattle.sound_core.proofs.PassingLaws.{on_first}
use Rattle.sound_core.proofs.passing.name_faulty.Goals as goal

pub drop_ahead-requires : goal.drop_ahead-requires
drop_ahead-requires g c = record { within = c.requires.known.1.states.0 }

pub name_passed-requires : goal.name_passed-requires
name_passed-requires g c =
    let known = c.requires.known.1 in
    record {
      reading = c.drop_ahead.ensures.reading known.reading;
      on = (c.args.reader.now.ahead.now.items, on_first g.R.Read.remaining c.requires.known.0 c.args.reader.now c.drop_ahead.new.self c.args.start known c.drop_ahead.ensures.same.given c.drop_ahead.ensures.untouched c.drop_ahead.ensures.rest);
    }

pub returns : goal.returns
returns g c = record {
  same = same_on c.args.reader.now c.drop_ahead.new.self c.name_passed.new.reader c.drop_ahead.ensures.same c.name_passed.ensures.same;
  named = λ first known. c.name_passed.ensures.named first c.args.reader.now.ahead.now.items (on_first g.R.Read.remaining first c.args.reader.now c.drop_ahead.new.self c.args.start known c.drop_ahead.ensures.same.given c.drop_ahead.ensures.untouched c.drop_ahead.ensures.rest)
      (subst (λ (i : Inlet _). Reads g.R.Read.remaining first i c.args.reader.now.ahead.now.items) (sym c.drop_ahead.ensures.untouched) known.reads);
  counts = counts_from c.args.reader.now c.drop_ahead.new.self c.name_passed.new.reader _ c.drop_ahead.ensures.same c.drop_ahead.ensures.untouched c.name_passed.ensures.counts;
  fault = c.name_passed.ensures.fault;
}
