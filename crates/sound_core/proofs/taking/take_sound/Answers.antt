use Rattle.std.proofs.Common.{◌+◌, ◌-◌, ◌≤◌, ◌++◌, [], inl, inr, arith, refl, subst}
use Rattle.interleave_core.proofs.GroupLaws.{last_groups, size_fits}
use Rattle.sound_core.proofs.FaultLaws.{fault_is}
use Rattle.sound_core.proofs.ReaderLaws.{same_on, same_self}
use Rattle.sound_core.proofs.TakingLaws.{short_on, some_all, some_none, some_on, stops_on}
use Rattle.sound_core.proofs.taking.take_sound.Goals as goal

pub loop-done-init : goal.loop-done-init
loop-done-init g c = (
  some_none g.R.Read.remaining g.S.SoundSink.has c.args.sound c.args.reader.now.inlet.now c.args.sink.now c.begin.new.self c.args.reader.now.ahead.now.items c.requires.fed c.in_ok-begin.ensures.has,
  c.requires.reading,
  same_self c.args.reader.now,
  refl,
)

pub invariant_of-part : goal.invariant_of-part
invariant_of-part g c =
    let bits = c.min-bits.result in
    let left = c.args.sound.count - c.loop-done.done in
    let most = c.segment_bits-most.result in
    let some : 1 ≤ bits = omega (arith, c.min-bits.ensures, c.loop-done-test.true, c.segment_bits-most.ensures.some) in
    let within : c.loop-done.done + bits ≤ c.args.sound.count = omega (arith, c.min-bits.ensures, c.loop-done-test.true) in
    record {
      is_sound = c.requires.fed.is_sound;
      some = some;
      within = within;
      groups = λ less. elim (last_groups left most bits c.segment_bits-most.ensures.groups c.min-bits.ensures) [
        | inl even ↦ even
        | inr rest ↦ absurd (omega (arith, rest, less))
      ];
      fits = size_fits c.args.sound.interleaving c.args.sound.channels bits most (omega (arith, c.min-bits.ensures)) c.segment_bits-most.ensures.groups c.segment_bits-most.ensures.fits;
    }

pub loop-done-preserved : goal.loop-done-preserved
loop-done-preserved g c =
    let so_far = c.loop-done.invariant in (
      some_on g.R.Read.remaining g.S.SoundSink.has _ c.args.reader.now.inlet.now c.loop-done.reader.inlet.now c.args.sink.now c.loop-done.sink c.args.reader.now.ahead.now.items c.loop-done.reader.ahead.now.items so_far.0
          c.take_part.new.reader.inlet.now c.take_part.new.sink c.take_part.new.reader.ahead.now.items (c.in_ok-take_part.ensures.ok c.if-not-branch.false),
      c.in_ok-take_part.ensures.reading,
      same_on c.args.reader.now c.loop-done.reader c.take_part.new.reader so_far.2 c.take_part.ensures.same,
      omega (arith, so_far.3, c.in_ok-take_part.ensures.counts.failures),
    )

pub returns-in_err-take_part-clause-fault : goal.returns-in_err-take_part-clause-fault
returns-in_err-take_part-clause-fault g c =
    rw (fault_is c.from_residual-in_err-take_part.result _ c.from_residual-in_err-take_part.ensures.1)
    (stops_on g.R.Read.remaining g.S.SoundSink.has _ c.args.reader.now.inlet.now c.loop-done.reader.inlet.now c.args.sink.now c.loop-done.sink c.args.reader.now.ahead.now.items c.loop-done.reader.ahead.now.items c.loop-done.invariant.0
    g.S.SoundSink.refused c.take_part.new.reader.inlet.now c.take_part.new.sink c.take_part.new.reader.ahead.now.items c.in_err-take_part.field-0.0 c.in_err-take_part.ensures.fault)

pub returns-in_err-begin-clause-own : goal.returns-in_err-begin-clause-own
returns-in_err-begin-clause-own g c = rw (fault_is c.from_residual.result _ c.from_residual.ensures.1) (λ is. (c.args.sound, [], subst (g.S.SoundSink.refused c.args.sink.now c.begin.new.self c.args.sound []) is c.in_err-begin.ensures.refused))

pub returns-in_err-take_part-clause-own : goal.returns-in_err-take_part-clause-own
returns-in_err-take_part-clause-own g c =
    rw (fault_is c.from_residual-in_err-take_part.result _ c.from_residual-in_err-take_part.ensures.1) (λ is.
    let refuses = c.in_err-take_part.ensures.own is in
    let so_far = c.loop-done.invariant.0 in
    (c.args.sound, so_far.passes.passed ++ refuses.passes.passed, subst (g.S.SoundSink.refused c.args.sink.now c.take_part.new.sink c.args.sound (so_far.passes.passed ++ refuses.passes.passed)) is (refuses.refuses c.args.sink.now so_far.passes.passed so_far.fed so_far.taken)))

pub returns-clause-ok : goal.returns-clause-ok
returns-clause-ok g c = λ yes.
    some_all g.R.Read.remaining g.S.SoundSink.has c.args.sound c.args.reader.now.inlet.now c.loop-done.reader.inlet.now c.args.sink.now c.loop-done.sink c.loop-done.done c.args.reader.now.ahead.now.items c.loop-done.reader.ahead.now.items c.loop-done.invariant.0 c.loop-done-test.false

pub returns-then-not-branch-clause-short : goal.returns-then-not-branch-clause-short
returns-then-not-branch-clause-short g c = λ no.
    let short = c.in_ok-take_part.ensures.short c.if-not-branch.true in
    short_on g.R.Read.remaining g.S.SoundSink.has _ c.args.reader.now.inlet.now c.loop-done.reader.inlet.now c.args.sink.now c.loop-done.sink c.args.reader.now.ahead.now.items c.loop-done.reader.ahead.now.items c.loop-done.invariant.0
    g.S.SoundSink.refused c.take_part.new.reader.inlet.now c.take_part.new.sink c.take_part.new.reader.ahead.now.items short
