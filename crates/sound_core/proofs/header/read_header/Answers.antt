use Rattle.std.proofs.Common.{◌≡◌, ◌+◌, ◌++◌, ◌∙◌, ℕ, List, [], ap, inl, inr, arith, length, length-append, refl, subst, sym}
use Rattle.std.specs.Prelude.{Err}
use Rattle.dsd_bits.specs.declared.sound.Sound.{Sound}
use Rattle.dsdiff_core.specs.Walks.{IsWalked}
use Rattle.dsdiff_core.proofs.SeekLoop.{walked_first, walked_later}
use Rattle.form_core.specs.Opening.{opened_of}
use Rattle.sound_core.specs.Causes.{IsCauseIn}
use Rattle.sound_core.proofs.CauseLaws.{prefix_stated}
use Rattle.sound_core.proofs.NamingLaws.{whole_sure}
use Rattle.chunk_core.specs.Inlets.{inlet_given, inlet_reader}
use Rattle.sound_core.specs.Files.{IsBeforeSound, IsRefused, LeadsToSound}
use Rattle.sound_core.specs.Reads.{Reads}
use Rattle.sound_core.proofs.StatedLaws.{before_first, gives_none}
use Rattle.sound_core.proofs.ReadLaws.{after, at_end, reads_none, reads_on}
use Rattle.sound_core.proofs.ReaderLaws.{counts_later, counts_ok, counts_refused, counts_want, same_on, same_self}
use Rattle.sound_core.proofs.FaultLaws.{fault_is, memory_unnamed, reading_in_prefix, reading_unnamed}
use Rattle.sound_core.proofs.header.read_header.Goals as goal

-- no file is empty
none_refused : IsRefused []
none_refused r (inl dsdiff) = omega (arith, dsdiff.long)
none_refused r (inr dsf) = omega (arith, ap length dsf.1.first)

pub loop-count-init : goal.loop-count-init
loop-count-init g c =
    let inlet = c.args.reader.now.inlet.now in (
      subst (Reads g.R.Read.remaining inlet inlet) (sym c.requires.empty) (reads_none g.R.Read.remaining inlet),
      subst IsRefused (sym c.requires.empty) none_refused,
      c.requires.reading,
      same_self c.args.reader.now,
      refl,
      before_first c.args.reader.now.ahead.now.items c.requires.empty,
      walked_first c.args.reader.now.ahead.now.items,
    )

pub read_more-requires : goal.read_more-requires
read_more-requires g c = record { reading = c.loop-count.invariant.2 }

pub loop-count-preserved : goal.loop-count-preserved
loop-count-preserved g c =
    let so_far = c.loop-count.invariant in
    let read = c.in_ok-count.ensures.read in
    let more = rw c.in-More.is at c.in_ok-sound.ensures.more in
    let before = rw c.in-More.is at c.in_ok-sound.ensures.before in
    let walked = rw c.in-More.is at c.in_ok-sound.ensures.walked in (
      subst (Reads g.R.Read.remaining c.args.reader.now.inlet.now c.read_more.new.self.inlet.now) (sym read.3) (reads_on g.R.Read.remaining c.args.reader.now.inlet.now c.loop-count.reader.inlet.now c.read_more.new.self.inlet.now c.loop-count.reader.ahead.now.items read.0 so_far.0 read.1),
      subst IsRefused c.as_slice-in-loop-count.ensures.value more,
      c.in_ok-count.ensures.reading,
      same_on c.args.reader.now c.loop-count.reader c.read_more.new.self so_far.3 c.read_more.ensures.same,
      omega (arith, so_far.4, c.in_ok-count.ensures.counts.failures),
      subst IsBeforeSound c.as_slice-in-loop-count.ensures.value before,
      subst (λ prefix. IsWalked prefix c.in-More.at) c.as_slice-in-loop-count.ensures.value walked,
    )

pub stated_by-requires : goal.stated_by-requires
stated_by-requires g c =
    let so_far = c.loop-count.invariant in
    let read = c.in_ok-count.ensures.read in
    record { walked = subst (λ prefix. IsWalked prefix c.loop-count.walked) (sym (c.as_slice-in-loop-count.ensures.value ∙ read.3)) (walked_later c.loop-count.reader.ahead.now.items read.0 c.loop-count.walked so_far.6) }

pub loop-count-smaller : goal.loop-count-smaller
loop-count-smaller g c = omega (arith, c.in_ok-count.ensures.turn, c.in_ok-count.ensures.counts.most, c.loop-count.invariant.3.limit)

pub returns-in_err-count : goal.returns-in_err-count
returns-in_err-count g c =
    let so_far = c.loop-count.invariant in
    let f = c.in_err-count.field-0.0 in
    rw (fault_is c.from_residual.result _ c.from_residual.ensures.1) (record {
      same = same_on c.args.reader.now c.loop-count.reader c.read_more.new.self so_far.3 c.read_more.ensures.same;
      reading = tt;
      given = tt;
      read = tt;
      states = tt;
      named = reading_unnamed f c.in_err-count.ensures.fault;
      counts = counts_later c.args.reader.now c.loop-count.reader c.read_more.new.self f so_far.3.limit so_far.4 c.in_err-count.ensures.counts;
      fault = reading_in_prefix (g.R.Read.remaining (inlet_reader c.args.reader.now.inlet.now)) f c.in_err-count.ensures.fault;
      stopped = λ stops. gives_none g.R.Read.remaining c.args.reader.now.inlet.now c.loop-count.reader.inlet.now (inlet_given c.read_more.new.self.inlet.now) c.loop-count.reader.ahead.now.items so_far.0 so_far.5 (c.in_err-count.ensures.none stops);
    })

pub returns-then-count-eq0 : goal.returns-then-count-eq0
returns-then-count-eq0 g c =
    let so_far = c.loop-count.invariant in
    let read = c.in_ok-count.ensures.read in
    let same = same_on c.args.reader.now c.loop-count.reader c.read_more.new.self so_far.3 c.read_more.ensures.same in
    let counts = counts_refused {Y = Sound} c.args.reader.now c.loop-count.reader c.read_more.new.self c.in_ok-count.count so_far.3.limit so_far.4 c.in_ok-count.ensures.counts in
    record {
      same = record { reference = same.reference; given = same.given; limit = same.limit };
      reading = tt;
      given = tt;
      read = tt;
      states = tt;
      named = λ is. whole_sure g.R.Read.remaining c.args.reader.now.inlet.now c.read_more.new.self.inlet.now c.read_more.new.self.ahead.now.items _ (rw read.3 (reads_on g.R.Read.remaining c.args.reader.now.inlet.now c.loop-count.reader.inlet.now c.read_more.new.self.inlet.now c.loop-count.reader.ahead.now.items read.0 so_far.0 read.1)) (c.in_ok-count.ensures.end c.if-count-eq0.true)
          (subst (λ f. opened_of f ≡ Err c.in_ok-fault_of.field-0) c.as_slice.ensures.value c.in_ok-fault_of.ensures);
      counts = record { failures = counts.failures; turns = counts.turns; most = counts.most };
      fault = at_end g.R.Read.remaining c.args.reader.now.inlet.now c.loop-count.reader.inlet.now c.read_more.new.self.inlet.now c.loop-count.reader.ahead.now.items read.0 IsRefused so_far.0 read.1 (omega (arith, read.2, c.if-count-eq0.true)) (c.in_ok-count.ensures.end c.if-count-eq0.true) so_far.1;
      stopped = λ stops. absurd stops;
    }

pub returns-in_err-sound : goal.returns-in_err-sound
returns-in_err-sound g c =
    let so_far = c.loop-count.invariant in
    rw (fault_is c.from_residual-in_err-sound.result _ c.from_residual-in_err-sound.ensures.1) (record {
      same = same_on c.args.reader.now c.loop-count.reader c.read_more.new.self so_far.3 c.read_more.ensures.same;
      reading = tt;
      given = tt;
      read = tt;
      states = tt;
      named = memory_unnamed;
      counts = counts_want c.args.reader.now c.loop-count.reader c.read_more.new.self c.in_ok-count.count so_far.3.limit so_far.4 c.in_ok-count.ensures.counts;
      fault = tt;
      stopped = λ stops. absurd stops;
    })

pub returns-in-Refused : goal.returns-in-Refused
returns-in-Refused g c =
    let so_far = c.loop-count.invariant in
    let read = c.in_ok-count.ensures.read in
    let same = same_on c.args.reader.now c.loop-count.reader c.read_more.new.self so_far.3 c.read_more.ensures.same in
    let still = c.in_ok-count.ensures.reading in
    let counts = counts_refused {Y = Sound} c.args.reader.now c.loop-count.reader c.read_more.new.self c.in_ok-count.count so_far.3.limit so_far.4 c.in_ok-count.ensures.counts in
    let prefix = reads_on g.R.Read.remaining c.args.reader.now.inlet.now c.loop-count.reader.inlet.now c.read_more.new.self.inlet.now c.loop-count.reader.ahead.now.items read.0 so_far.0 read.1 in
    let counted : inlet_given c.read_more.new.self.inlet.now ≡ c.read_more.new.self.given + length c.read_more.new.self.ahead.now.items = omega (arith, so_far.0.given, read.1.given, ap length read.3, length-append c.loop-count.reader.ahead.now.items read.0, c.requires.given, so_far.3.given, c.read_more.ensures.same.given) in
    let none = subst (λ f. (rest : List ℕ) → IsRefused (f ++ rest)) c.as_slice-in-loop-count.ensures.value (rw c.in-Refused.is at c.in_ok-sound.ensures.refused) in
    record {
      same = record { reference = same.reference; given = same.given; limit = same.limit };
      reading = tt;
      given = tt;
      read = tt;
      states = tt;
      named = λ is.
          prefix_stated ⊥ g.R.Read.remaining c.args.reader.now.inlet.now _ (record { ready = still.ready; budget = still.budget; size = still.size }) (subst (Reads g.R.Read.remaining c.args.reader.now.inlet.now c.read_more.new.self.inlet.now) (sym read.3) prefix)
          counted none c.in-Refused.cause
          (subst (λ f. IsCauseIn f c.in-Refused.cause) c.as_slice-in-loop-count.ensures.value (rw c.in-Refused.is at c.in_ok-sound.ensures.sure));
      counts = record { failures = counts.failures; turns = counts.turns; most = counts.most };
      fault = after IsRefused _ _ _ prefix.consumed (rw read.3 at none);
      stopped = λ stops. absurd stops;
    }

pub returns-in-Found : goal.returns-in-Found
returns-in-Found g c =
    let so_far = c.loop-count.invariant in
    let read = c.in_ok-count.ensures.read in
    record {
      same = same_on c.args.reader.now c.loop-count.reader c.read_more.new.self so_far.3 c.read_more.ensures.same;
      reading = c.in_ok-count.ensures.reading;
      given = omega (arith, so_far.0.given, read.1.given, ap length read.3, length-append c.loop-count.reader.ahead.now.items read.0, c.requires.given, so_far.3.given, c.read_more.ensures.same.given);
      read = rw read.3 (reads_on g.R.Read.remaining c.args.reader.now.inlet.now c.loop-count.reader.inlet.now c.read_more.new.self.inlet.now c.loop-count.reader.ahead.now.items read.0 so_far.0 read.1);
      states = subst (λ prefix. LeadsToSound prefix c.in-Found.sound) c.as_slice-in-loop-count.ensures.value (rw c.in-Found.is at c.in_ok-sound.ensures.found);
      named = tt;
      counts = counts_ok _ _ _ _ _ so_far.3.limit so_far.4 c.in_ok-count.ensures.counts;
      fault = tt;
      stopped = tt;
    }
