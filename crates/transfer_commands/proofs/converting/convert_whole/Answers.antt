use Rattle.std.proofs.Common.{◌∙◌, Err, ap, subst, sym}
use Rattle.std.proofs.lemmas.Result.{err_from_is_err_and}
use Rattle.folder_core.specs.Files.{IsPut, IsPutInPart}
use Rattle.transfer_commands.specs.Converting.{ConvertComesTo}
use Rattle.transfer_commands.proofs.ConvertLaws.{convert_unwritten}
use Rattle.transfer_commands.proofs.converting.convert_whole.Goals as goal

pub returns : goal.returns
returns g c = λ input read. record {
  file = c.args.file.now;
  bytes = c.in_ok-converted.converted.bytes.items;
  file_read = read;
  output_put = subst (IsPut (g.F.Folder.view c.write_file.new.folder) c.args.output.now) c.deref.ensures.value c.in_ok-write_file.ensures.bytes;
  others = c.in_ok-write_file.ensures.others;
  converts = c.in_ok-converted.ensures.found;
  kept = c.in_ok-converted.ensures.kept;
  whole = c.in_ok-converted.ensures.whole;
}

pub returns-in_err-write_file : goal.returns-in_err-write_file
returns-in_err-write_file g c = λ input read.
    let p = err_from_is_err_and c.from_residual-in_err-write_file.result c.from_residual-in_err-write_file.ensures.1 in
    let old = g.F.Folder.view c.args.folder.now in
    let new = g.F.Folder.view c.write_file.new.folder in
    subst (ConvertComesTo c.args.form input c.args.output.now old new) (sym (p.1 ∙ ap Err p.2)) (convert_unwritten old new
    c.args.form input c.args.output.now c.args.file.now c.in_ok-converted.converted.bytes.items c.in_ok-converted.converted.dropped c.in_err-write_file.field-0.0
    read
    (subst (IsPutInPart c.args.output.now old new) c.deref.ensures.value c.in_err-write_file.ensures.refused)
    c.in_err-write_file.ensures.others
    c.in_ok-converted.ensures.found
    c.in_err-write_file.ensures.fault)
