use Rattle.std.proofs.Common.{◌≡◌, List, ℕ, Some, None, refl, sym, ap}
use Rattle.std.proofs.lemmas.Result.{IfOk-weaker, err_from_is_err_and}
use Rattle.dsdiff_core.specs.ReadAgain as dsdiff
use Rattle.dsf_core.specs.ReadAgain as dsf
use Rattle.form_core.proofs.writing.write_in.Goals as goal

-- there is a text
no_none : (P : Type 0) (text : List ℕ) → Some text ≡ None → P
no_none P text e = absurd cc

pub returns-in-Dsdiff-clause-read_again : goal.returns-in-Dsdiff-clause-read_again
returns-in-Dsdiff-clause-read_again c = rw c.in-Dsdiff.is (IfOk-weaker c.write.result _ _ (λ file holds. record { again = dsdiff.as_stored c.args.recording.now; holds = holds; same_rate = refl; same_channels = refl; same_marks = λ e. refl }) c.write.ensures.read_again)

pub returns-in_ok-write-in-Dsf : goal.returns-in_ok-write-in-Dsf
returns-in_ok-write-in-Dsf c =
    let reported = c.in_ok-write-in-Dsf.ensures in
    rw c.in-Dsf.is (record {
      text = ap Some (sym reported.text);
      read_again = record { again = dsf.as_stored c.args.recording.now; holds = reported.read_again; same_rate = refl; same_channels = refl; same_marks = λ e. absurd cc };
      refused = tt;
      not_whole_bytes = λ e. no_none _ _ e;
    })

pub returns-in_ok-write-in-Dsf8 : goal.returns-in_ok-write-in-Dsf8
returns-in_ok-write-in-Dsf8 c =
    let reported = c.in_ok-write-in-Dsf8.ensures in
    rw c.in-Dsf8.is (record {
      text = ap Some (sym reported.text);
      read_again = record { again = dsf.as_stored c.args.recording.now; holds = reported.read_again; same_rate = refl; same_channels = refl; same_marks = λ e. absurd cc };
      refused = tt;
      not_whole_bytes = λ e. no_none _ _ e;
    })

pub returns-in_err-write-in-Dsf : goal.returns-in_err-write-in-Dsf
returns-in_err-write-in-Dsf c =
    let e = err_from_is_err_and c.from_residual.result c.from_residual.ensures.1 in
    rw (e.1, e.2, c.in-Dsf.is) (record { text = tt; read_again = tt; refused = tt; not_whole_bytes = λ e. no_none _ _ e })

pub returns-in_err-write-in-Dsf8 : goal.returns-in_err-write-in-Dsf8
returns-in_err-write-in-Dsf8 c =
    let e = err_from_is_err_and c.from_residual-in_err-write-in-Dsf8.result c.from_residual-in_err-write-in-Dsf8.ensures.1 in
    rw (e.1, e.2, c.in-Dsf8.is) (record { text = tt; read_again = tt; refused = tt; not_whole_bytes = λ e. no_none _ _ e })
