use Rattle.std.proofs.Common.{◌≡◌, ◌≢◌, ℕ, ◌+◌, Result, Ok, Err, OnErr, arith, length, length-take-le, subst, sym, take}
use Rattle.std.specs.Io.Iter.{u64_saturate}
use Rattle.std.specs.Io.KnownBytes.{Consumes}
use Rattle.std.proofs.KnownBytes.{Consumes-kept, Consumes-trans}
use Rattle.chunk_core.specs.Inlets.{CountsReads, inlet_reader, inlet_reads}
use Rattle.chunk_core.proofs.inlet.Inlet.fill.Goals as goal

-- one read more, which gave some
reads_on : (a b c n count : ℕ) → CountsReads a b n 0 → c ≡ u64_saturate (b + 1) → count ≢ 0 → CountsReads a c (n + count) 0
reads_on a b c n count so_far read some = (so_far.0 + 1, omega arith, omega (arith, so_far.2, some), omega (arith, so_far.3, read))

-- one read more, which gave none
reads_end : (a b c n : ℕ) → CountsReads a b n 0 → c ≡ u64_saturate (b + 1) → CountsReads a c n 1
reads_end a b c n so_far read = (so_far.0, so_far.1, so_far.2, omega (arith, so_far.3, read))

any_err : {X E : Type 0} {P : Type 0} (r : Result X E) → P → OnErr r P
any_err (Ok x) p = tt
any_err (Err e) p = p

pub loop-filled-preserved : goal.loop-filled-preserved
loop-filled-preserved g c =
    let so_far = c.loop-filled.invariant in
    let read = c.in_ok-count.ensures.bytes in
    let old = g.R.Read.remaining (inlet_reader c.args.self.now) in
    let new = g.R.Read.remaining (inlet_reader c.pull_after.new.self) in (
      read.2,
      subst (Consumes old new) (sym read.3) (Consumes-trans old (g.R.Read.remaining (inlet_reader c.loop-filled.self)) new (take c.loop-filled.filled c.loop-filled.buffer) read.0 so_far.1 read.4),
      omega (arith, so_far.2, c.in_ok-count.ensures.failures),
      omega (arith, so_far.3, c.in_ok-count.ensures.given),
      reads_on _ _ _ _ _ so_far.4 c.pull_after.ensures.reads c.if-count-eq0.false,
    )

pub returns-in_err-count-clause-err : goal.returns-in_err-count-clause-err
returns-in_err-count-clause-err g c =
    let so_far = c.loop-filled.invariant in
    let bytes = take c.loop-filled.filled c.loop-filled.buffer in
    let long : length bytes ≡ c.loop-filled.filled = length-take-le c.loop-filled.filled c.loop-filled.buffer so_far.0 in
    any_err c.from_residual.result (record {
      bytes = bytes;
      few = omega (arith, long, c.loop-filled-test.true, c.pull_after.auto.buffer);
      consumed = Consumes-kept (g.R.Read.remaining (inlet_reader c.args.self.now)) (g.R.Read.remaining (inlet_reader c.loop-filled.self)) (g.R.Read.remaining (inlet_reader c.pull_after.new.self)) bytes so_far.1 c.in_err-count.ensures.bytes;
      given = omega (arith, long, so_far.3, c.in_err-count.ensures.given);
      reads = subst (λ n. CountsReads (inlet_reads c.args.self.now) (inlet_reads c.pull_after.new.self) n 1) (sym long) (reads_end _ _ _ c.loop-filled.filled so_far.4 c.pull_after.ensures.reads);
    })
