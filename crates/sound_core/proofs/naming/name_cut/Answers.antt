use Rattle.std.proofs.Common.{◌+◌, ◌≤◌, arith, length, refl}
use Rattle.dsdiff_core.specs.Fields.{form_size}
use Rattle.sound_core.proofs.FaultLaws.{fault_is}
use Rattle.sound_core.proofs.ReaderLaws.{counts_ok, same_counts}
use Rattle.sound_core.proofs.UnsureLaws.{chunk_long, past_named}
use Rattle.sound_core.proofs.naming.name_cut.Goals as goal

pub u64_at-size-requires : goal.u64_at-size-requires
u64_at-size-requires g c = omega (arith, chunk_long c.args.head.now c.requires.past.0)

pub pass-requires : goal.pass-requires
pass-requires g c = record { reading = c.requires.reading }

pub returns-in_err-_whole : goal.returns-in_err-_whole
returns-in_err-_whole g c =
    rw (fault_is c.from_residual.result _ c.from_residual.ensures.1) (record {
      same = c.pass.ensures.same;
      named = λ first reads. tt;
      counts = same_counts c.args.reader.now c.pass.new.self c.in_err-_whole.field-0.0 c.in_err-_whole.ensures.counts;
      fault = c.in_err-_whole.ensures.fault;
    })

pub cut_fault-requires : goal.cut_fault-requires
cut_fault-requires g c = c.requires.past.0

pub returns : goal.returns
returns g c =
    let most : 11 + form_size c.args.head.now ≤ length c.args.head.now + c.saturating_sub.result = omega (arith, c.saturating_sub.ensures, c.u64_at-size.ensures, chunk_long c.args.head.now c.requires.past.0) in
    record {
      same = c.pass.ensures.same;
      named = λ first reads. rw (c.from.ensures, c.cut_fault.ensures.value) (past_named g.R.Read.remaining first c.args.reader.now.inlet.now c.args.head.now c.args.reader.now.ahead.now.items reads c.pass.new.self.inlet.now c.pass.new.self.ahead.now.items _ _ c.args.reader.now.given _ c.requires.past most c.in_ok-_whole.ensures.ok c.in_ok-_whole.ensures.short c.requires.given
          (omega (arith, c.given.ensures, c.pass.ensures.same.given)));
      counts = counts_ok c.args.reader.now c.args.reader.now c.pass.new.self _ _ refl refl c.in_ok-_whole.ensures.counts;
      fault = tt;
    }
