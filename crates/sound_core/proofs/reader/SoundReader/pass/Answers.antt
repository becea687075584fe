use Rattle.std.proofs.Common.{◌≡◌, ◌+◌, ◌-◌, ◌++◌, ◌∙◌, ap, arith, length, refl, subst, sym}
use Rattle.chunk_core.specs.Inlets.{inlet_failures}
use Rattle.sound_core.specs.Readers.{Passes}
use Rattle.sound_core.proofs.FaultLaws.{fault_is}
use Rattle.sound_core.proofs.OutlineLaws.{pass_more, pass_none, pass_part, pass_short}
use Rattle.sound_core.proofs.ReaderLaws.{counts_later, counts_ok, counts_so_far, same_on, same_self}
use Rattle.sound_core.proofs.reader.SoundReader.pass.Goals as goal

pub loop-left-init : goal.loop-left-init
loop-left-init g c =
    let none : 0 ≡ c.args.wanted - c.args.wanted = omega arith in
    let ahead = c.args.self.now.ahead.now.items in (
      subst (λ n. Passes g.R.Read.remaining c.args.self.now.inlet.now c.args.self.now.inlet.now n ahead ahead) none (pass_none g.R.Read.remaining c.args.self.now.inlet.now ahead),
      omega arith,
      c.requires.reading,
      same_self c.args.self.now,
      refl,
    )

pub loop-left-preserved : goal.loop-left-preserved
loop-left-preserved g c =
    let so_far = c.loop-left.invariant in
    let read = c.in_ok-read_more.ensures.read in
    let same = c.read_more.ensures.same in
    let old = c.args.self.now.ahead.now.items in
    let ahead = c.loop-left.self.ahead.now.items in
    let i = c.args.self.now.inlet.now in
    let k = c.read_more.new.self.inlet.now in
    let sum : c.args.wanted - c.loop-left.left + length ahead ≡ c.args.wanted - (c.loop-left.left - c.len-in-loop-left.result) = omega (arith, so_far.1, c.len.ensures, c.len-in-loop-left.ensures, c.loop-left-test.true) in
    let is : c.read_more.new.self.ahead.now.items ≡ read.0 = read.3 ∙ ap (λ xs. xs ++ read.0) c.clear.ensures.items in (
      subst (λ xs. Passes g.R.Read.remaining i k (c.args.wanted - (c.loop-left.left - c.len-in-loop-left.result)) old xs) (sym is)
          (subst (λ n. Passes g.R.Read.remaining i k n old read.0) sum (pass_more g.R.Read.remaining i c.loop-left.self.inlet.now (c.args.wanted - c.loop-left.left) old ahead so_far.0 k read.0 read.1)),
      omega (arith, so_far.1),
      c.in_ok-read_more.ensures.reading,
      record { reference = same.reference ∙ so_far.3.reference; given = same.given ∙ so_far.3.given; limit = same.limit ∙ so_far.3.limit },
      omega (arith, so_far.4, c.in_ok-read_more.ensures.counts.failures),
    )

pub returns : goal.returns
returns g c =
    let so_far = c.loop-left.invariant in
    let old = c.args.self.now.ahead.now.items in
    let rest = c.drop_ahead.new.self.ahead.now.items in
    let sum : c.args.wanted - c.loop-left.left + c.loop-left.left ≡ c.args.wanted = omega (arith, so_far.1) in
    record {
      same = same_on c.args.self.now c.loop-left.self c.drop_ahead.new.self c.loop-left.invariant.3 c.drop_ahead.ensures.same;
      reading = c.drop_ahead.ensures.reading c.loop-left.invariant.2;
      ok = λ yes. subst (λ n. Passes g.R.Read.remaining c.args.self.now.inlet.now c.drop_ahead.new.self.inlet.now n old rest) sum
          (pass_part g.R.Read.remaining c.args.self.now.inlet.now c.loop-left.self.inlet.now (c.args.wanted - c.loop-left.left) old c.loop-left.self.ahead.now.items so_far.0 c.drop_ahead.new.self.inlet.now c.loop-left.left rest c.drop_ahead.ensures.untouched (omega (arith, c.len.ensures, c.loop-left-test.false)) c.drop_ahead.ensures.rest);
      short = λ no. absurd cc;
      counts = counts_so_far c.args.self.now c.drop_ahead.new.self _ (c.drop_ahead.ensures.reading so_far.2) (same_on c.args.self.now c.loop-left.self c.drop_ahead.new.self so_far.3 c.drop_ahead.ensures.same) (ap inlet_failures c.drop_ahead.ensures.untouched ∙ so_far.4);
      fault = tt;
    }

pub loop-left-smaller : goal.loop-left-smaller
loop-left-smaller g c = omega (arith, c.in_ok-read_more.ensures.turn, c.in_ok-read_more.ensures.counts.most, c.loop-left.invariant.3.limit)

pub read_more-requires : goal.read_more-requires
read_more-requires g c = let still = c.loop-left.invariant.2 in record { reading = record { ready = still.ready; budget = still.budget; size = still.size } }

pub drop_ahead-requires : goal.drop_ahead-requires
drop_ahead-requires g c = record { within = omega (arith, c.len.ensures, c.loop-left-test.false) }

pub returns-in_err-read_more : goal.returns-in_err-read_more
returns-in_err-read_more g c =
    let so_far = c.loop-left.invariant in
    let same = c.read_more.ensures.same in
    rw (fault_is c.from_residual.result _ c.from_residual.ensures.1) (record {
      same = record { reference = same.reference ∙ so_far.3.reference; given = same.given ∙ so_far.3.given; limit = same.limit ∙ so_far.3.limit };
      reading = tt;
      ok = tt;
      short = tt;
      counts = counts_later c.args.self.now _ c.read_more.new.self c.in_err-read_more.field-0.0 so_far.3.limit so_far.4 c.in_err-read_more.ensures.counts;
      fault = c.in_err-read_more.ensures.fault;
    })

pub returns-then-branch-eq0 : goal.returns-then-branch-eq0
returns-then-branch-eq0 g c =
    let so_far = c.loop-left.invariant in
    let same = c.read_more.ensures.same in
    let read = c.in_ok-read_more.ensures.read in
    record {
      same = record { reference = same.reference ∙ so_far.3.reference; given = same.given ∙ so_far.3.given; limit = same.limit ∙ so_far.3.limit };
      reading = c.in_ok-read_more.ensures.reading;
      ok = λ yes. absurd cc;
      short = λ no. pass_short g.R.Read.remaining c.args.self.now.inlet.now c.loop-left.self.inlet.now (c.args.wanted - c.loop-left.left) c.args.self.now.ahead.now.items c.loop-left.self.ahead.now.items so_far.0 c.read_more.new.self.inlet.now read.0 c.args.wanted read.1
          (omega (arith, read.2, c.if-branch-eq0.true)) (c.in_ok-read_more.ensures.end c.if-branch-eq0.true) (omega (arith, so_far.1, c.len.ensures, c.loop-left-test.true));
      counts = counts_ok c.args.self.now _ c.read_more.new.self c.in_ok-read_more.field-0 _ so_far.3.limit so_far.4 c.in_ok-read_more.ensures.counts;
      fault = tt;
    }
