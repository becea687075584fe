use Rattle.std.proofs.Common.{◌≡◌, ◌++◌, [], ◌∙◌, ap, append-nil, append_assoc, arith, length-append, length-take, subst, sym, take}
use Rattle.chunk_core.specs.Inlets.{inlet_failures}
use Rattle.sound_core.specs.Reads.{Reads}
use Rattle.sound_core.proofs.FaultLaws.{fault_is}
use Rattle.sound_core.proofs.ReadLaws.{joined_after, reads_none, reads_on}
use Rattle.sound_core.proofs.ReaderLaws.{same_on}
use Rattle.sound_core.proofs.reader.SoundReader.fill.Goals as goal

pub loop-filled-init : goal.loop-filled-init
loop-filled-init g c =
    let moved = c.move_ahead-filled.ensures in (
      [],
      subst (λ k. Reads g.R.Read.remaining c.args.self.now.inlet.now k []) (sym moved.untouched) (reads_none g.R.Read.remaining c.args.self.now.inlet.now),
      moved.moved ∙ sym (append-nil (take c.args.size c.args.self.now.ahead.now.items)),
      omega (arith, moved.number),
      omega (arith, moved.number, length-take c.args.size c.args.self.now.ahead.now.items),
      moved.rest,
      moved.reading,
      moved.same,
      ap inlet_failures moved.untouched,
    )

pub loop-filled-preserved : goal.loop-filled-preserved
loop-filled-preserved g c =
    let so_far = c.loop-filled.invariant in
    let pulls = c.in_ok-count.ensures.read in (
      so_far.0 ++ pulls.read,
      reads_on g.R.Read.remaining c.args.self.now.inlet.now c.loop-filled.self.inlet.now c.pull_after.new.self.inlet.now so_far.0 pulls.read so_far.1 pulls.reads,
      pulls.prefix ∙ ap (λ xs. xs ++ pulls.read) so_far.2 ∙ append_assoc (take c.args.size c.args.self.now.ahead.now.items) so_far.0 pulls.read,
      omega (arith, so_far.3, pulls.number, length-append so_far.0 pulls.read),
      pulls.few,
      c.pull_after.ensures.kept ∙ so_far.5,
      c.in_ok-count.ensures.reading,
      same_on c.args.self.now c.loop-filled.self c.pull_after.new.self so_far.7 c.pull_after.ensures.same,
      omega (arith, so_far.8, c.in_ok-count.ensures.counts.failures),
    )

pub returns-in_err-count-clause-pace : goal.returns-in_err-count-clause-pace
returns-in_err-count-clause-pace g c =
    let so_far = c.loop-filled.invariant in
    rw (fault_is c.from_residual.result _ c.from_residual.ensures.1) (λ stops.
    omega (arith, so_far.1.given, so_far.3, c.in_err-count.ensures.none, c.loop-filled-test.true, length-take c.args.size c.args.self.now.ahead.now.items))

pub returns-then-count-eq0-clause-short : goal.returns-then-count-eq0-clause-short
returns-then-count-eq0-clause-short g c = λ no.
    let so_far = c.loop-filled.invariant in
    let pulls = c.in_ok-count.ensures.read in
    let ahead = c.args.self.now.ahead.now.items in
    record {
      read = so_far.0 ++ pulls.read;
      reads = reads_on g.R.Read.remaining c.args.self.now.inlet.now c.loop-filled.self.inlet.now c.pull_after.new.self.inlet.now so_far.0 pulls.read so_far.1 pulls.reads;
      few = omega (arith, so_far.3, c.loop-filled-test.true, pulls.number, c.if-count-eq0.true, length-append ahead (so_far.0 ++ pulls.read), length-append so_far.0 pulls.read, length-take c.args.size ahead);
      at_end = pulls.end c.if-count-eq0.true;
    }

pub returns-clause-ok : goal.returns-clause-ok
returns-clause-ok g c = λ yes.
    let so_far = c.loop-filled.invariant in
    let ahead = c.args.self.now.ahead.now.items in
    let first = take c.args.size ahead in
    let full : c.loop-filled.filled ≡ c.args.size = omega (arith, so_far.4, c.loop-filled-test.false) in
    record {
      passes = record {
        passed = first ++ so_far.0;
        read = so_far.0;
        reads = so_far.1;
        parts = joined_after c.args.size ahead so_far.0 (omega (arith, so_far.3, full)) ∙ ap (λ xs. (first ++ so_far.0) ++ xs) (sym so_far.5);
        long = omega (arith, length-append first so_far.0, so_far.3, full);
      };
      first = ap (λ n. take n c.loop-filled.self.block.now.items) (sym full) ∙ so_far.2;
    }
