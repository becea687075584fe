use Rattle.std.proofs.Common.{◌++◌, [], append-nil, arith, inl, inr, refl, sym}
use Rattle.sound_core.proofs.FaultLaws.{fault_is}
use Rattle.sound_core.proofs.ReadLaws.{ahead_on, reads_none, reads_on}
use Rattle.sound_core.proofs.ReaderLaws.{counts_later, counts_ok, counts_so_far, same_on, same_self}
use Rattle.sound_core.proofs.reader.SoundReader.read_until.Goals as goal

pub loop-self-preserved : goal.loop-self-preserved
loop-self-preserved g c =
    let so_far = c.loop-self.invariant in
    let read = c.in_ok-count.ensures.read in (
      so_far.0 ++ read.0,
      reads_on g.R.Read.remaining c.args.self.now.inlet.now c.loop-self.self.inlet.now c.read_more.new.self.inlet.now so_far.0 read.0 so_far.1 read.1,
      ahead_on c.args.self.now.ahead.now.items c.loop-self.self.ahead.now.items c.read_more.new.self.ahead.now.items so_far.0 read.0 so_far.2 read.3,
      c.in_ok-count.ensures.reading,
      same_on c.args.self.now c.loop-self.self c.read_more.new.self so_far.4 c.read_more.ensures.same,
      omega (arith, so_far.5, c.in_ok-count.ensures.counts.failures),
    )

pub returns-then-count-eq0 : goal.returns-then-count-eq0
returns-then-count-eq0 g c =
    let so_far = c.loop-self.invariant in
    let read = c.in_ok-count.ensures.read in
    record {
      same = same_on c.args.self.now c.loop-self.self c.read_more.new.self c.loop-self.invariant.4 c.read_more.ensures.same;
      reading = c.in_ok-count.ensures.reading;
      read = record {
        bytes = so_far.0 ++ read.0;
        reads = reads_on g.R.Read.remaining c.args.self.now.inlet.now c.loop-self.self.inlet.now c.read_more.new.self.inlet.now so_far.0 read.0 so_far.1 read.1;
        appended = ahead_on c.args.self.now.ahead.now.items c.loop-self.self.ahead.now.items c.read_more.new.self.ahead.now.items so_far.0 read.0 so_far.2 read.3;
        enough = inr (c.in_ok-count.ensures.end c.if-count-eq0.true);
      };
      counts = counts_ok c.args.self.now c.loop-self.self c.read_more.new.self c.in_ok-count.count _ so_far.4.limit so_far.5 c.in_ok-count.ensures.counts;
      fault = tt;
    }

pub returns : goal.returns
returns g c =
    let so_far = c.loop-self.invariant in
    record {
      same = c.loop-self.invariant.4;
      reading = c.loop-self.invariant.3;
      read = record { bytes = so_far.0; reads = so_far.1; appended = so_far.2; enough = inl (omega (arith, c.loop-self-test.false)) };
      counts = counts_so_far c.args.self.now c.loop-self.self _ so_far.3 so_far.4 so_far.5;
      fault = tt;
    }

pub loop-self-init : goal.loop-self-init
loop-self-init g c = (
  [],
  reads_none g.R.Read.remaining c.args.self.now.inlet.now,
  sym (append-nil c.args.self.now.ahead.now.items),
  c.requires.reading,
  same_self c.args.self.now,
  refl,
)

pub loop-self-smaller : goal.loop-self-smaller
loop-self-smaller g c = omega (arith, c.in_ok-count.ensures.turn, c.in_ok-count.ensures.counts.most, c.loop-self.invariant.4.limit)

pub read_more-requires : goal.read_more-requires
read_more-requires g c = record { reading = c.loop-self.invariant.3 }

pub returns-in_err-count : goal.returns-in_err-count
returns-in_err-count g c =
    let so_far = c.loop-self.invariant in
    rw (fault_is c.from_residual.result _ c.from_residual.ensures.1) (record {
      same = same_on c.args.self.now c.loop-self.self c.read_more.new.self c.loop-self.invariant.4 c.read_more.ensures.same;
      reading = tt;
      read = tt;
      counts = counts_later c.args.self.now c.loop-self.self c.read_more.new.self c.in_err-count.field-0.0 so_far.4.limit so_far.5 c.in_err-count.ensures.counts;
      fault = c.in_err-count.ensures.fault;
    })
