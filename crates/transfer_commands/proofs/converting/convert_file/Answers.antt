use Rattle.std.proofs.Common.{◌∙◌, Err, ap, subst, sym}
use Rattle.std.proofs.lemmas.Result.{err_from_is_err_and}
use Rattle.folder_core.specs.Files.{IsReadOf, View}
use Rattle.transfer_commands.specs.Converting.{ConvertComesTo}
use Rattle.transfer_commands.specs.Outlining.{OutlinesRead}
use Rattle.transfer_commands.proofs.ConvertLaws.{unoutlined_unconverted}
use Rattle.transfer_commands.proofs.converting.convert_file.Goals as goal

pub returns-in_err-outline : goal.returns-in_err-outline
returns-in_err-outline g c =
    let view = g.F.Folder.view in
    let e = err_from_is_err_and c.from_residual.result c.from_residual.ensures.1 in
    subst (ConvertComesTo c.args.form c.args.input.now c.args.output.now (view c.args.folder.now) (view c.outline_file.new.folder)) (sym (e.1 ∙ ap Err e.2)) (unoutlined_unconverted c.args.form c.args.input.now c.args.output.now (view c.args.folder.now) (view c.outline_file.new.folder) c.in_err-outline.field-0.0 c.outline_file.ensures.same c.in_err-outline.ensures.fault)

pub returns-then-reopens : goal.returns-then-reopens
returns-then-reopens g c =
    let view = g.F.Folder.view in
    let input = c.args.input.now in
    let same = c.outline_file.ensures.same in
    subst (λ (v : View). ConvertComesTo c.args.form input c.args.output.now v (view c.convert_outlined.new.folder) c.convert_outlined.result) same
    (c.convert_outlined.ensures (subst (λ (v : View). OutlinesRead input v c.in_ok-outline.outline) (sym same) c.in_ok-outline.ensures.found))

pub convert_outlined-requires : goal.convert_outlined-requires
convert_outlined-requires g c = record { reported = c.in_ok-outline.ensures.around }

pub returns-in_err-file : goal.returns-in_err-file
returns-in_err-file g c =
    let view = g.F.Folder.view in
    let e = err_from_is_err_and c.from_residual-in_err-file.result c.from_residual-in_err-file.ensures.1 in
    subst (ConvertComesTo c.args.form c.args.input.now c.args.output.now (view c.args.folder.now) (view c.hold_file.new.folder)) (sym (e.1 ∙ ap Err e.2)) (unoutlined_unconverted c.args.form c.args.input.now c.args.output.now (view c.args.folder.now) (view c.hold_file.new.folder) c.in_err-file.field-0.0 c.hold_file.ensures.same c.in_err-file.ensures.fault)

pub returns : goal.returns
returns g c =
    let view = g.F.Folder.view in
    let input = c.args.input.now in
    let same = c.hold_file.ensures.same in
    let read = subst (IsReadOf (view c.args.folder.now) input) (sym c.deref.ensures.value) c.in_ok-file.ensures.bytes in
    subst (λ (v : View). ConvertComesTo c.args.form input c.args.output.now v (view c.convert_whole.new.folder) c.convert_whole.result) same
    (c.convert_whole.ensures input (subst (λ (v : View). IsReadOf v input c.deref.result.now) (sym same) read))
