use Rattle.std.proofs.Common.{◌∙◌, Err, ap, inl, refl, subst, sym}
use Rattle.std.proofs.lemmas.Result.{err_from_is_err_and}
use Rattle.folder_core.specs.Files.{IsPut, IsPutInPart}
use Rattle.form_core.specs.Writing.{IsWriteFault}
use Rattle.transfer_commands.specs.DopConverting.{ConvertDopComesTo}
use Rattle.transfer_commands.proofs.ConvertLaws.{kept_by}
use Rattle.transfer_commands.proofs.DopLaws.{dop_unwritten}
use Rattle.transfer_commands.proofs.RefusalLaws.{dop_refused}
use Rattle.transfer_commands.proofs.convert_dop.convert_read.Goals as goal

pub returns-in_err-write_file : goal.returns-in_err-write_file
returns-in_err-write_file g c = λ input read.
    let p = err_from_is_err_and c.from_residual.result c.from_residual.ensures.1 in
    let old = g.F.Folder.view c.args.folder.now in
    let new = g.F.Folder.view c.write_file.new.folder in
    let output = c.args.output.now in
    subst (ConvertDopComesTo c.args.form input output old new) (sym (p.1 ∙ ap Err p.2)) (dop_unwritten c.args.form input output old new c.in_err-write_file.field-0.0 c.in_err-write_file.ensures.fault (record {
      recording = c.in-Ok.recording;
      reads = record { file = c.args.file.now; file_read = read; has = c.in-Ok.ensures.exact };
      bytes = c.in-Ok-write_in.bytes.items;
      text = c.in-Ok-write_in.ensures.text;
      last = c.args.file.now;
      last_read = read;
      part = λ same. subst (IsPutInPart output old new) c.deref.ensures.value c.in_err-write_file.ensures.refused;
      kept = kept_by output old new _ c.in_err-write_file.ensures.refused;
      others = c.in_err-write_file.ensures.others;
    }))

pub returns-in-Err : goal.returns-in-Err
returns-in-Err g c = λ input read. dop_refused c.args.form input c.args.output.now (g.F.Folder.view c.args.folder.now) c.args.file.now c.in-Err.fault c.refusal_of.result read c.in-Err.ensures.exact c.refusal_of.ensures

pub returns-in-Err-NotWholeBytes : goal.returns-in-Err-NotWholeBytes
returns-in-Err-NotWholeBytes g c = λ input read. (
  refl,
  record {
    recording = c.in-Ok.recording;
    reads = record { file = c.args.file.now; file_read = read; has = c.in-Ok.ensures.exact };
    none = subst (IsWriteFault c.args.form c.in-Ok.recording) c.in-Err-NotWholeBytes.field-0-is c.in-Err-NotWholeBytes.ensures.refused;
  },
)

pub returns-in-Err-Memory : goal.returns-in-Err-Memory
returns-in-Err-Memory g c = λ input read. inl refl

pub returns : goal.returns
returns g c = λ input read. record {
  recording = c.in-Ok.recording;
  reads = record { file = c.args.file.now; file_read = read; has = c.in-Ok.ensures.exact };
  bytes = c.in-Ok-write_in.bytes.items;
  text = c.in-Ok-write_in.ensures.text;
  sound = c.in-Ok-write_in.ensures.read_again;
  output_put = subst (IsPut (g.F.Folder.view c.write_file.new.folder) c.args.output.now) c.deref.ensures.value c.in_ok-write_file.ensures.bytes;
  others = c.in_ok-write_file.ensures.others;
}
