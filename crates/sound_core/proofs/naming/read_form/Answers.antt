use Rattle.std.proofs.Common.{◌≡◌, ◌+◌, ℕ, inr, ap, arith, subst}
use Rattle.std.proofs.lemmas.Result.{on_ok_weaker}
use Rattle.dsdiff_core.specs.Fields.{form_size}
use Rattle.sound_core.specs.Reads.{ReadsAll, ReadsUntil}
use Rattle.sound_core.proofs.naming.read_form.Goals as goal

pub u64_at-size-requires : goal.u64_at-size-requires
u64_at-size-requires g c = omega (arith, c.requires.long)

pub read_all-requires : goal.read_all-requires
read_all-requires g c = record { reading = c.requires.reading }

pub read_until-requires : goal.read_until-requires
read_until-requires g c = record { reading = c.requires.reading }

pub returns-then-size-clause-read : goal.returns-then-size-clause-read
returns-then-size-clause-read g c =
    on_ok_weaker c.read_all.result (λ (all : ReadsAll g.R.Read.remaining c.args.reader.now.inlet.now c.read_all.new.self.inlet.now c.args.reader.now.ahead.now.items c.read_all.new.self.ahead.now.items).
    record { bytes = all.bytes; reads = all.reads; appended = all.appended; enough = inr all.at_end }) c.read_all.ensures.read

pub returns-clause-read : goal.returns-clause-read
returns-clause-read g c =
    let wanted : c.u64_at-size.result + 12 ≡ 12 + form_size c.args.reader.now.ahead.now.items = omega (arith, c.u64_at-size.ensures, ap form_size c.as_slice.ensures.value) in
    on_ok_weaker c.read_until.result (λ read. subst (λ (n : ℕ). ReadsUntil g.R.Read.remaining c.args.reader.now.inlet.now c.read_until.new.self.inlet.now c.args.reader.now.ahead.now.items c.read_until.new.self.ahead.now.items n) wanted read) c.read_until.ensures.read
