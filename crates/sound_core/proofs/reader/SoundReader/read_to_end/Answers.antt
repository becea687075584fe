use Rattle.std.proofs.Common.{◌++◌, ◌∙◌, [], arith, refl}
use Rattle.sound_core.proofs.FaultLaws.{fault_is}
use Rattle.sound_core.proofs.ReadLaws.{reads_none, reads_on}
use Rattle.sound_core.proofs.ReaderLaws.{counts_later, counts_ok, same_on, same_self}
use Rattle.sound_core.proofs.reader.SoundReader.read_to_end.Goals as goal

pub loop-count-preserved : goal.loop-count-preserved
loop-count-preserved g c =
    let so_far = c.loop-count.invariant in
    let pulls = c.in_ok-count.ensures.read in (
      so_far.0 ++ pulls.read,
      reads_on g.R.Read.remaining c.args.self.now.inlet.now c.loop-count.self.inlet.now c.pull_after.new.self.inlet.now so_far.0 pulls.read so_far.1 pulls.reads,
      c.pull_after.ensures.kept ∙ so_far.2,
      c.in_ok-count.ensures.reading,
      same_on c.args.self.now c.loop-count.self c.pull_after.new.self so_far.4 c.pull_after.ensures.same,
      omega (arith, so_far.5, c.in_ok-count.ensures.counts.failures),
    )

pub loop-count-init : goal.loop-count-init
loop-count-init g c = (
  [],
  reads_none g.R.Read.remaining c.args.self.now.inlet.now,
  refl,
  c.requires.reading,
  same_self c.args.self.now,
  refl,
)

pub loop-count-smaller : goal.loop-count-smaller
loop-count-smaller g c = omega (arith, c.in_ok-count.ensures.turn, c.in_ok-count.ensures.counts.most, c.loop-count.invariant.4.limit)

pub pull_after-requires : goal.pull_after-requires
pull_after-requires g c = record { reading = c.loop-count.invariant.3; room = omega arith; fits = omega arith }

pub returns-in_err-count : goal.returns-in_err-count
returns-in_err-count g c =
    let so_far = c.loop-count.invariant in
    rw (fault_is c.from_residual.result _ c.from_residual.ensures.1) (record {
      same = same_on c.args.self.now c.loop-count.self c.pull_after.new.self c.loop-count.invariant.4 c.pull_after.ensures.same;
      kept = c.pull_after.ensures.kept ∙ c.loop-count.invariant.2;
      read = tt;
      counts = counts_later c.args.self.now c.loop-count.self c.pull_after.new.self c.in_err-count.field-0.0 so_far.4.limit so_far.5 c.in_err-count.ensures.counts;
      fault = c.in_err-count.ensures.fault;
    })

pub returns-then-count-eq0 : goal.returns-then-count-eq0
returns-then-count-eq0 g c =
    let so_far = c.loop-count.invariant in
    let pulls = c.in_ok-count.ensures.read in
    record {
      same = same_on c.args.self.now c.loop-count.self c.pull_after.new.self c.loop-count.invariant.4 c.pull_after.ensures.same;
      kept = c.pull_after.ensures.kept ∙ c.loop-count.invariant.2;
      read = record {
        bytes = so_far.0 ++ pulls.read;
        reads = reads_on g.R.Read.remaining c.args.self.now.inlet.now c.loop-count.self.inlet.now c.pull_after.new.self.inlet.now so_far.0 pulls.read so_far.1 pulls.reads;
        at_end = pulls.end c.if-count-eq0.true;
      };
      counts = counts_ok c.args.self.now c.loop-count.self c.pull_after.new.self c.in_ok-count.count _ so_far.4.limit so_far.5 c.in_ok-count.ensures.counts;
      fault = tt;
    }
