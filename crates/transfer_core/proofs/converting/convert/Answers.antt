use Rattle.std.proofs.Common.{◌∙◌, ap, arith}
use Rattle.dsd_bits.proofs.ExitLaws.{no_value}
use Rattle.form_core.specs.Forms.{dropped_in}
use Rattle.transfer_core.proofs.StreamLaws.{fault_is}
use Rattle.transfer_core.proofs.ReadingLaws.{file_unread, file_unwritten, text_converted}
use Rattle.transfer_core.proofs.converting.convert.Goals as goal

pub returns-clause-kept : goal.returns-clause-kept
returns-clause-kept c =
    let again = c.in_ok-bytes.ensures.read_again in
    record {
      source = c.in_ok-opened.opened.form;
      before = c.in_ok-opened.opened.recording;
      after = again.again;
      file_holds = c.in_ok-opened.ensures.found;
      bytes_hold = again.holds;
      same_rate = again.same_rate;
      same_channels = again.same_channels;
    }

pub returns-in_err-opened-clause-found : goal.returns-in_err-opened-clause-found
returns-in_err-opened-clause-found c = no_value _ _ c.from_residual.result c.from_residual.ensures.1

pub returns-in_err-opened-clause-kept : goal.returns-in_err-opened-clause-kept
returns-in_err-opened-clause-kept c = no_value _ _ c.from_residual.result c.from_residual.ensures.1

pub returns-in_err-bytes-clause-found : goal.returns-in_err-bytes-clause-found
returns-in_err-bytes-clause-found c = no_value _ _ c.from_residual-in_err-bytes.result c.from_residual-in_err-bytes.ensures.1

pub returns-in_err-bytes-clause-kept : goal.returns-in_err-bytes-clause-kept
returns-in_err-bytes-clause-kept c = no_value _ _ c.from_residual-in_err-bytes.result c.from_residual-in_err-bytes.ensures.1

pub returns-in_err-opened-clause-whole : goal.returns-in_err-opened-clause-whole
returns-in_err-opened-clause-whole c = no_value _ _ c.from_residual.result c.from_residual.ensures.1

pub returns-in_err-bytes-clause-whole : goal.returns-in_err-bytes-clause-whole
returns-in_err-bytes-clause-whole c = no_value _ _ c.from_residual-in_err-bytes.result c.from_residual-in_err-bytes.ensures.1

pub returns-in_err-opened-clause-exact : goal.returns-in_err-opened-clause-exact
returns-in_err-opened-clause-exact c =
    rw (fault_is c.from_residual.result _ c.from_residual.ensures.1) (file_unread c.args.file.now c.args.form c.in_err-opened.field-0.0 c.in_err-opened.ensures.exact)

pub returns-in_err-bytes-clause-exact : goal.returns-in_err-bytes-clause-exact
returns-in_err-bytes-clause-exact c =
    rw (fault_is c.from_residual-in_err-bytes.result _ c.from_residual-in_err-bytes.ensures.1) (file_unwritten c.args.file.now c.args.form c.in_ok-opened.opened c.in_ok-opened.ensures.exact c.in_err-bytes.field-0.0 c.in_err-bytes.ensures.refused)

pub returns-clause-found : goal.returns-clause-found
returns-clause-found c = record {
  source = c.in_ok-opened.opened.form;
  recording = c.in_ok-opened.opened.recording;
  file_holds = c.in_ok-opened.ensures.found;
  text = c.in_ok-bytes.ensures.text;
  dropped_is = c.dropped_in-dropped.ensures ∙ ap (dropped_in c.args.form) c.description.ensures;
}

pub returns-clause-whole : goal.returns-clause-whole
unfolding returns-clause-found
returns-clause-whole c = λ none. (c.converted_is_kept.ensures c.args.file.now c.args.form c.in_ok-bytes.bytes.items c.dropped_in-dropped.result (returns-clause-found c) c.has_shape.ensures c.fields_fit.ensures (omega arith)).whole none

pub returns-clause-exact : goal.returns-clause-exact
returns-clause-exact c = text_converted c.args.file.now c.args.form c.in_ok-opened.opened c.in_ok-opened.ensures.exact c.in_ok-bytes.bytes.items c.dropped_in-dropped.result c.in_ok-bytes.ensures.text (c.dropped_in-dropped.ensures ∙ ap (dropped_in c.args.form) c.description.ensures)
