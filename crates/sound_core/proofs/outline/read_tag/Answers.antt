use Rattle.std.proofs.Common.{◌-◌, ℕ, [], inl, arith, refl}
use Rattle.chunk_core.specs.Inlets.{inlet_reader}
use Rattle.sound_core.proofs.TagLaws.{short_at_tag, short_in_tag}
use Rattle.sound_core.proofs.FaultLaws.{early_tag, fault_is, reading_in_tag, reading_unnamed}
use Rattle.sound_core.proofs.ReadLaws.{reads_none}
use Rattle.sound_core.proofs.OutlineLaws.{tag_none, tag_some}
use Rattle.sound_core.proofs.ReaderLaws.{counts_later, counts_none_refused, counts_ok, counts_refused, same_counts, same_on, same_self}
use Rattle.sound_core.proofs.outline.read_tag.Goals as goal

pub read_to_end-requires : goal.read_to_end-requires
read_to_end-requires g c = record { reading = c.requires.reading }

pub pass-requires : goal.pass-requires
pass-requires g c = record { reading = c.requires.reading }

pub read_all-requires : goal.read_all-requires
read_all-requires g c = record { reading = c.in_ok-pass.ensures.reading }

pub returns-in_err-read_to_end : goal.returns-in_err-read_to_end
returns-in_err-read_to_end g c =
    rw (fault_is c.from_residual.result _ c.from_residual.ensures.1) (record {
      same = c.read_to_end.ensures.same;
      ok = tt;
      off = reading_unnamed c.in_err-read_to_end.field-0.0 c.in_err-read_to_end.ensures.fault;
      counts = same_counts c.args.reader.now c.read_to_end.new.self c.in_err-read_to_end.field-0.0 c.in_err-read_to_end.ensures.counts;
      fault = reading_in_tag (g.R.Read.remaining (inlet_reader c.args.reader.now.inlet.now)) c.args.place c.args.stop c.args.reader.now.ahead.now.items c.in_err-read_to_end.field-0.0 c.in_err-read_to_end.ensures.fault;
    })

pub returns-then-place-eq0 : goal.returns-then-place-eq0
returns-then-place-eq0 g c =
    let same = c.read_to_end.ensures.same in
    let all = c.in_ok-read_to_end.ensures.read in
    record {
      same = record { reference = same.reference; given = same.given; limit = same.limit };
      ok = tag_none g.R.Read.remaining c.args.reader.now.inlet.now c.read_to_end.new.self.inlet.now c.args.place c.args.stop _ c.args.reader.now.ahead.now.items _ c.if-place-eq0.true all c.clear.ensures.items (omega (arith, c.given.ensures, all.reads.given, c.requires.given, c.read_to_end.ensures.same.given));
      counts = counts_ok c.args.reader.now c.args.reader.now _ _ _ refl refl (let all = c.in_ok-read_to_end.ensures.counts in record { failures = all.failures; turns = all.turns; most = all.most });
      off = tt;
      fault = tt;
    }

pub returns-then-place-stop : goal.returns-then-place-stop
returns-then-place-stop g c =
    record {
      same = same_self c.args.reader.now;
      ok = tt;
      off = λ is. record { read = []; reads = reads_none g.R.Read.remaining c.args.reader.now.inlet.now; some = c.if-place-eq0.false; how = inl c.if-place-stop.true };
      counts = counts_none_refused c.args.reader.now c.args.reader.now refl c.requires.reading.budget.reads;
      fault = early_tag (g.R.Read.remaining (inlet_reader c.args.reader.now.inlet.now)) c.args.place c.args.stop c.args.reader.now.ahead.now.items c.if-place-eq0.false c.if-place-stop.true;
    }

pub returns-in_err-pass : goal.returns-in_err-pass
returns-in_err-pass g c =
    rw (fault_is c.from_residual-in_err-pass.result _ c.from_residual-in_err-pass.ensures.1) (record {
      same = c.pass.ensures.same;
      ok = tt;
      off = reading_unnamed c.in_err-pass.field-0.0 c.in_err-pass.ensures.fault;
      counts = same_counts c.args.reader.now c.pass.new.self c.in_err-pass.field-0.0 c.in_err-pass.ensures.counts;
      fault = reading_in_tag (g.R.Read.remaining (inlet_reader c.args.reader.now.inlet.now)) c.args.place c.args.stop c.args.reader.now.ahead.now.items c.in_err-pass.field-0.0 c.in_err-pass.ensures.fault;
    })

pub returns-then-not-branch : goal.returns-then-not-branch
returns-then-not-branch g c =
    let short = c.in_ok-pass.ensures.short c.if-not-branch.true in
    let same = c.pass.ensures.same in
    let counts = counts_refused {Y = ℕ} c.args.reader.now c.args.reader.now c.pass.new.self _ refl refl c.in_ok-pass.ensures.counts in
    record {
      same = record { reference = same.reference; given = same.given; limit = same.limit };
      ok = tt;
      off = λ is. short_at_tag g.R.Read.remaining c.args.reader.now.inlet.now c.pass.new.self.inlet.now c.args.place c.args.stop c.args.reader.now.ahead.now.items c.if-place-eq0.false short;
      counts = record { failures = counts.failures; turns = counts.turns; most = counts.most };
      fault = short_in_tag g.R.Read.remaining c.args.reader.now.inlet.now c.pass.new.self.inlet.now c.args.place c.args.stop c.args.reader.now.ahead.now.items c.if-place-eq0.false short;
    }

pub returns-in_err-read_all : goal.returns-in_err-read_all
returns-in_err-read_all g c =
    rw (fault_is c.from_residual-in_err-read_all.result _ c.from_residual-in_err-read_all.ensures.1) (record {
      same = same_on c.args.reader.now c.pass.new.self c.read_all.new.self c.pass.ensures.same c.read_all.ensures.same;
      ok = tt;
      off = reading_unnamed c.in_err-read_all.field-0.0 c.in_err-read_all.ensures.fault;
      counts = counts_later c.args.reader.now c.pass.new.self c.read_all.new.self c.in_err-read_all.field-0.0 c.pass.ensures.same.limit (omega (arith, c.in_ok-pass.ensures.counts.failures)) c.in_err-read_all.ensures.counts;
      fault = reading_in_tag (g.R.Read.remaining (inlet_reader c.args.reader.now.inlet.now)) c.args.place c.args.stop c.args.reader.now.ahead.now.items c.in_err-read_all.field-0.0 c.in_err-read_all.ensures.fault;
    })

pub returns : goal.returns
returns g c =
    record {
      same = same_on c.args.reader.now c.pass.new.self c.read_all.new.self c.pass.ensures.same c.read_all.ensures.same;
      ok = tag_some g.R.Read.remaining c.args.reader.now.inlet.now c.pass.new.self.inlet.now c.read_all.new.self.inlet.now c.args.place c.args.stop (c.args.place - c.args.stop) c.args.reader.now.ahead.now.items c.pass.new.self.ahead.now.items _ c.if-place-eq0.false (omega (arith, c.if-place-stop.false)) (c.in_ok-pass.ensures.ok c.if-not-branch.false) c.in_ok-read_all.ensures.read;
      counts = counts_ok c.args.reader.now c.pass.new.self c.read_all.new.self _ _ c.pass.ensures.same.limit (omega (arith, c.in_ok-pass.ensures.counts.failures)) c.in_ok-read_all.ensures.counts;
      off = tt;
      fault = tt;
    }
