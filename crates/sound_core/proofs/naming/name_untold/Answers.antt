use Rattle.std.proofs.Common.{◌≡◌, ◌+◌, ◌++◌, ◌∙◌, ℕ, List, ap, arith, length, length-drop, length-take, subst, sym}
use Rattle.chunk_core.specs.Inlets.{inlet_given}
use Rattle.dsdiff_core.specs.Located.{EndsAtHead}
use Rattle.sound_core.specs.Reads.{Reads}
use Rattle.sound_core.proofs.FaultLaws.{fault_is}
use Rattle.sound_core.proofs.ReaderLaws.{same_on}
use Rattle.sound_core.proofs.UnsureLaws.{counts_from, counts_none, reads_parted}
use Rattle.sound_core.proofs.naming.name_untold.Goals as goal

pub take_head-requires : goal.take_head-requires
take_head-requires g c = record { within = c.requires.known.1.states.0 }

pub returns-in_err-head : goal.returns-in_err-head
returns-in_err-head g c =
    rw (fault_is c.from_residual.result _ c.from_residual.ensures.1, c.in_err-head.ensures.fault) (record {
      same = c.take_head.ensures.same;
      named = λ first known. tt;
      counts = counts_none c.args.reader.now c.take_head.new.self c.requires.known.1.reading c.take_head.ensures.untouched;
      fault = tt;
    })

pub name_after-requires : goal.name_after-requires
name_after-requires g c =
    let known = c.requires.known.1 in
    let ahead = c.args.reader.now.ahead.now.items in
    let parts : length ahead ≡ length c.in_ok-head.head.items + length c.take_head.new.self.ahead.now.items = omega (arith, known.states.0, ap length c.in_ok-head.ensures.head, ap length c.in_ok-head.ensures.rest, length-take (c.args.at + 12) ahead, length-drop (c.args.at + 12) ahead) in
    record {
      head = subst EndsAtHead (sym (c.deref.ensures.value ∙ c.in_ok-head.ensures.head)) known.states.1;
      reading = c.take_head.ensures.reading known.reading;
      given = omega (arith, ap inlet_given c.take_head.ensures.untouched, known.given, c.take_head.ensures.same.given, parts, ap length c.deref.ensures.value);
    }

pub returns : goal.returns
returns g c = record {
  same = same_on c.args.reader.now c.take_head.new.self c.name_after.new.reader c.take_head.ensures.same c.name_after.ensures.same;
  named = λ first known. c.name_after.ensures.named first (subst (λ (xs : List ℕ). Reads g.R.Read.remaining first c.take_head.new.self.inlet.now (xs ++ c.take_head.new.self.ahead.now.items)) (sym c.deref.ensures.value)
      (reads_parted g.R.Read.remaining first c.args.reader.now.inlet.now c.take_head.new.self.inlet.now c.args.reader.now.ahead.now.items c.in_ok-head.head.items c.take_head.new.self.ahead.now.items (c.args.at + 12) known.reads c.take_head.ensures.untouched c.in_ok-head.ensures.head c.in_ok-head.ensures.rest));
  counts = counts_from c.args.reader.now c.take_head.new.self c.name_after.new.reader _ c.take_head.ensures.same c.take_head.ensures.untouched c.name_after.ensures.counts;
  fault = c.name_after.ensures.fault;
}
