use Rattle.std.proofs.Common.{◌≡◌, Err, arith, refl, subst}
use Rattle.form_core.specs.Opening.{opened_of}
use Rattle.sound_core.proofs.FaultLaws.{fault_is}
use Rattle.sound_core.proofs.ReaderLaws.{counts_ok, counts_want, same_counts}
use Rattle.sound_core.proofs.UnsureLaws.{begins, soundless}
use Rattle.sound_core.proofs.naming.name_soundless.Goals as goal

pub read_form-requires : goal.read_form-requires
read_form-requires g c = record { reading = c.requires.known.1.reading; long = omega (arith, (begins c.args.reader.now.ahead.now.items c.requires.known.1.states).1) }

pub returns-in_err-read_form : goal.returns-in_err-read_form
returns-in_err-read_form g c =
    rw (fault_is c.from_residual.result _ c.from_residual.ensures.1) (record {
      same = c.read_form.ensures.same;
      named = λ first known. tt;
      counts = same_counts c.args.reader.now c.read_form.new.reader c.in_err-read_form.field-0.0 c.in_err-read_form.ensures.counts;
      fault = c.in_err-read_form.ensures.fault;
    })

pub returns-in_err-fault_of : goal.returns-in_err-fault_of
returns-in_err-fault_of g c =
    rw (fault_is c.from_residual-in_err-fault_of.result _ c.from_residual-in_err-fault_of.ensures.1) (record {
      same = c.read_form.ensures.same;
      named = λ first known. tt;
      counts = counts_want c.args.reader.now c.args.reader.now c.read_form.new.reader _ refl refl c.in_ok-read_form.ensures.counts;
      fault = tt;
    })

pub returns : goal.returns
returns g c = record {
  same = c.read_form.ensures.same;
  named = λ first known.
      soundless g.R.Read.remaining first c.args.reader.now.inlet.now c.read_form.new.reader.inlet.now c.args.reader.now.ahead.now.items c.read_form.new.reader.ahead.now.items c.in_ok-fault_of.field-0 known.states known.reads c.in_ok-read_form.ensures.read
      (subst (λ f. opened_of f ≡ Err c.in_ok-fault_of.field-0) c.as_slice.ensures.value c.in_ok-fault_of.ensures);
  counts = counts_ok c.args.reader.now c.args.reader.now c.read_form.new.reader _ _ refl refl c.in_ok-read_form.ensures.counts;
  fault = tt;
}
