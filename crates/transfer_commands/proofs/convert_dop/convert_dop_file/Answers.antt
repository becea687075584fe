use Rattle.std.proofs.Common.{◌∙◌, Err, ap, subst, sym}
use Rattle.std.proofs.lemmas.Result.{err_from_is_err_and}
use Rattle.folder_core.specs.Files.{IsReadOf, View}
use Rattle.transfer_commands.specs.DopConverting.{ConvertDopComesTo, ScansRead}
use Rattle.transfer_commands.proofs.DopFileLaws.{unscanned_unconverted}
use Rattle.transfer_commands.proofs.convert_dop.convert_dop_file.Goals as goal

pub returns-in_err-outline : goal.returns-in_err-outline
returns-in_err-outline g c =
    let view = g.F.Folder.view in
    let e = err_from_is_err_and c.from_residual.result c.from_residual.ensures.1 in
    subst (ConvertDopComesTo c.args.form c.args.input.now c.args.output.now (view c.args.folder.now) (view c.scan_file.new.folder)) (sym (e.1 ∙ ap Err e.2)) (unscanned_unconverted c.args.form c.args.input.now c.args.output.now (view c.args.folder.now) (view c.scan_file.new.folder) c.in_err-outline.field-0.0 c.scan_file.ensures.same c.in_err-outline.ensures.fault)

pub returns-then-reopens : goal.returns-then-reopens
returns-then-reopens g c =
    let view = g.F.Folder.view in
    let input = c.args.input.now in
    let same = c.scan_file.ensures.same in
    subst (λ (v : View). ConvertDopComesTo c.args.form input c.args.output.now v (view c.convert_scanned.new.folder) c.convert_scanned.result) same
    (c.convert_scanned.ensures (subst (λ (v : View). ScansRead input v c.in_ok-outline.outline) (sym same) c.in_ok-outline.ensures.found))

pub returns : goal.returns
returns g c =
    let view = g.F.Folder.view in
    let input = c.args.input.now in
    let same = c.in_ok-file.ensures.same in
    let read = subst (IsReadOf (view c.args.folder.now) input) (sym c.deref.ensures.value) c.in_ok-file.ensures.bytes in
    subst (λ (v : View). ConvertDopComesTo c.args.form input c.args.output.now v (view c.convert_read.new.folder) c.convert_read.result) same
    (c.convert_read.ensures input (subst (λ (v : View). IsReadOf v input c.deref.result.now) (sym same) read))
