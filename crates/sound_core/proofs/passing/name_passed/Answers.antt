use Rattle.std.proofs.Common.{◌<◌, ◌++◌, arith, refl}
use Rattle.sound_core.specs.Passing.{EndsOn}
use Rattle.sound_core.specs.declared.passing.Passed.TheVariants as passed
use Rattle.sound_core.proofs.FaultLaws.{fault_is}
use Rattle.sound_core.proofs.PassingLaws.{ends_named, on_end, on_now, walks_after}
use Rattle.sound_core.proofs.ReaderLaws.{counts_later, counts_ok, same_on, same_self}
use Rattle.sound_core.proofs.passing.name_passed.Goals as goal

pub loop-next-init : goal.loop-next-init
loop-next-init g c = (
  c.requires.reading,
  same_self c.args.reader.now,
  refl,
  λ file on. on_now g.R.Read.remaining c.args.reader.now file c.args.start on,
  c.requires.on,
)

pub pass_chunk-requires : goal.pass_chunk-requires
pass_chunk-requires g c = record { reading = c.loop-next.invariant.0; on = c.loop-next.invariant.4 }

pub loop-next-preserved : goal.loop-next-preserved
loop-next-preserved g c =
    let so_far = c.loop-next.invariant in
    let step = rw c.in-More.is at c.in_ok-next.ensures.passed in (
      c.in_ok-next.ensures.reading,
      same_on c.args.reader.now c.loop-next.reader c.pass_chunk.new.reader so_far.1 c.pass_chunk.ensures.same,
      omega (arith, so_far.2, c.in_ok-next.ensures.counts.failures),
      λ file on.
          let h = so_far.3 file on in
          walks_after g.R.Read.remaining c.args.reader.now c.loop-next.reader c.pass_chunk.new.reader file h.more (passed.More c.in-More.next) h.reads (step (file ++ h.more) h.on),
      (let h = step so_far.4.0 so_far.4.1 in (so_far.4.0 ++ h.more, h.on)),
    )

pub loop-next-smaller : goal.loop-next-smaller
loop-next-smaller g c =
    let so_far = c.loop-next.invariant in
    let later : c.loop-next.now.end < c.in-More.next.end = rw c.in-More.is at c.in_ok-next.ensures.later in
    omega (arith, later, on_end c.loop-next.reader so_far.4.0 c.loop-next.now so_far.4.1 so_far.0)

pub returns-in_err-next : goal.returns-in_err-next
returns-in_err-next g c =
    let so_far = c.loop-next.invariant in
    rw (fault_is c.from_residual.result _ c.from_residual.ensures.1) (record {
      same = same_on c.args.reader.now c.loop-next.reader c.pass_chunk.new.reader so_far.1 c.pass_chunk.ensures.same;
      named = λ first file on reads. tt;
      counts = counts_later c.args.reader.now c.loop-next.reader c.pass_chunk.new.reader c.in_err-next.field-0.0 so_far.1.limit so_far.2 c.in_err-next.ensures.counts;
      fault = c.in_err-next.ensures.fault;
    })

pub returns-in-All : goal.returns-in-All
returns-in-All g c =
    let so_far = c.loop-next.invariant in
    let last = rw c.in-All.is at c.in_ok-next.ensures.passed in
    record {
      same = same_on c.args.reader.now c.loop-next.reader c.pass_chunk.new.reader so_far.1 c.pass_chunk.ensures.same;
      named = λ first file on reads.
          let h = so_far.3 file on in
          let ends : EndsOn g.R.Read.remaining c.args.reader.now c.pass_chunk.new.reader file c.in-All.last c.in-All.next = walks_after g.R.Read.remaining c.args.reader.now c.loop-next.reader c.pass_chunk.new.reader file h.more (passed.All c.in-All.last c.in-All.next) h.reads (last (file ++ h.more) h.on) in
          rw c.from.ensures (ends_named g.R.Read.remaining first c.args.reader.now c.pass_chunk.new.reader file c.in-All.last c.in-All.next _ c.fault_after.result reads ends (omega (arith, c.given.ensures)) c.fault_after.ensures);
      counts = counts_ok c.args.reader.now c.loop-next.reader c.pass_chunk.new.reader _ _ so_far.1.limit so_far.2 c.in_ok-next.ensures.counts;
      fault = tt;
    }
