use Rattle.std.proofs.Common.{◌∙◌, Err, ap, subst, sym}
use Rattle.std.proofs.lemmas.Result.{err_from_is_err_and}
use Rattle.folder_core.specs.Files.{IsGiven, IsReadOf, View}
use Rattle.transfer_commands.specs.Opening.{left_of}
use Rattle.transfer_commands.specs.Outlining.{IsUnoutlined, OutlinesRead}
use Rattle.transfer_commands.specs.SpeakersConverting.{ConvertSpeakersComesTo}
use Rattle.transfer_commands.proofs.RenamingLaws.{renaming_refused, unoutlined_unspoken}
use Rattle.transfer_commands.proofs.SpokenLaws.{fits_found, no_type_found, renamed_found}
use Rattle.transfer_commands.proofs.convert_speakers.convert_speakers_file.Goals as goal

pub returns-in_err-outline : goal.returns-in_err-outline
returns-in_err-outline g c =
    let view = g.F.Folder.view in
    let e = err_from_is_err_and c.from_residual.result c.from_residual.ensures.1 in
    subst (ConvertSpeakersComesTo c.args.form c.args.input.now c.args.output.now (view c.args.folder.now) (view c.outline_file.new.folder)) (sym (e.1 ∙ ap Err e.2))
    (unoutlined_unspoken c.args.form c.args.input.now c.args.output.now (view c.args.folder.now) (view c.outline_file.new.folder) c.in_err-outline.field-0.0 c.outline_file.ensures.same c.in_err-outline.ensures.fault)

pub renaming_of-requires : goal.renaming_of-requires
renaming_of-requires g c = record { stated = c.in_ok-outline.ensures.around }

pub returns-in_err-renaming_of : goal.returns-in_err-renaming_of
returns-in_err-renaming_of g c =
    let view = g.F.Folder.view in
    let e = err_from_is_err_and c.from_residual-in_err-renaming_of.result c.from_residual-in_err-renaming_of.ensures.1 in
    subst (ConvertSpeakersComesTo c.args.form c.args.input.now c.args.output.now (view c.args.folder.now) (view c.outline_file.new.folder)) (sym (e.1 ∙ ap Err e.2))
    (renaming_refused c.args.form c.args.input.now c.args.output.now (view c.args.folder.now) (view c.outline_file.new.folder) c.outline_file.ensures.same c.in_ok-outline.outline c.in_ok-outline.ensures.found c.in_err-renaming_of.field-0.0 c.in_err-renaming_of.ensures.refused)

pub returns-in_err-renaming : goal.returns-in_err-renaming
returns-in_err-renaming g c =
    let view = g.F.Folder.view in
    let e = err_from_is_err_and c.from_residual-in_err-renaming.result c.from_residual-in_err-renaming.ensures.1 in
    let none = c.in_err-renaming.ensures.err in
    subst (ConvertSpeakersComesTo c.args.form c.args.input.now c.args.output.now (view c.args.folder.now) (view c.outline_file.new.folder)) (sym (e.1 ∙ ap Err (e.2 ∙ none.0)))
    (no_type_found c.args.form c.args.input.now c.args.output.now (view c.args.folder.now) (view c.outline_file.new.folder) c.outline_file.ensures.same c.in_ok-outline.outline c.in_ok-outline.ensures.found c.in_ok-renaming_of.field-0 none.1 c.in_ok-renaming_of.ensures.none)

pub returns-in_err-opened : goal.returns-in_err-opened
returns-in_err-opened g c =
    let view = g.F.Folder.view in
    let first = c.outline_file.ensures.same in
    let e = err_from_is_err_and c.from_residual-in_err-opened.result c.from_residual-in_err-opened.ensures.1 in
    let fault = c.in_err-opened.field-0.0 in
    subst (ConvertSpeakersComesTo c.args.form c.args.input.now c.args.output.now (view c.args.folder.now) (view c.open_prefix.new.folder)) (sym (e.1 ∙ ap Err e.2))
    (unoutlined_unspoken c.args.form c.args.input.now c.args.output.now (view c.args.folder.now) (view c.open_prefix.new.folder) fault (c.open_prefix.ensures.same ∙ first) (subst (λ (v : View). IsUnoutlined c.args.input.now v fault) first c.in_err-opened.ensures.fault))

pub convert_opened-requires : goal.convert_opened-requires
convert_opened-requires g c = record {
  stated = c.in_ok-outline.ensures.around;
  fits = fits_found c.in_ok-outline.outline.sound.count c.in_ok-renaming_of.field-0 c.in_ok-renaming.renaming c.in_ok-renaming.ensures.ok c.in_ok-renaming_of.ensures.fits;
  within = c.in_ok-opened.ensures.states.within;
}

pub returns-then-reopens : goal.returns-then-reopens
returns-then-reopens g c =
    let view = g.F.Folder.view in
    let input = c.args.input.now in
    let outline = c.in_ok-outline.outline in
    let again = c.open_prefix.ensures.same in
    let same = again ∙ c.outline_file.ensures.same in
    let found = c.in_ok-outline.ensures.found in
    subst (λ (v : View). ConvertSpeakersComesTo c.args.form input c.args.output.now v (view c.convert_opened.new.folder) c.convert_opened.result) same
    (c.convert_opened.ensures c.args.form input (subst (λ (v : View). OutlinesRead input v c.in_ok-outline.outline) (sym same) found)
    (renamed_found c.args.form outline c.in_ok-renaming_of.field-0 c.in_ok-renaming.renaming c.in_ok-renaming.ensures.ok c.in_ok-renaming_of.ensures.renamed found.file found.is_outline)
    (subst (λ (v : View). IsGiven v input (left_of g.F.In.Read.remaining c.in_ok-opened.opened)) (sym again) c.in_ok-opened.ensures.given))

pub returns-in_err-file : goal.returns-in_err-file
returns-in_err-file g c =
    let view = g.F.Folder.view in
    let e = err_from_is_err_and c.from_residual-in_err-file.result c.from_residual-in_err-file.ensures.1 in
    subst (ConvertSpeakersComesTo c.args.form c.args.input.now c.args.output.now (view c.args.folder.now) (view c.hold_file.new.folder)) (sym (e.1 ∙ ap Err e.2))
    (unoutlined_unspoken c.args.form c.args.input.now c.args.output.now (view c.args.folder.now) (view c.hold_file.new.folder) c.in_err-file.field-0.0 c.hold_file.ensures.same c.in_err-file.ensures.fault)

pub returns : goal.returns
returns g c =
    let view = g.F.Folder.view in
    let input = c.args.input.now in
    let same = c.hold_file.ensures.same in
    subst (λ (v : View). ConvertSpeakersComesTo c.args.form input c.args.output.now v (view c.convert_held.new.folder) c.convert_held.result) same
    (c.convert_held.ensures input (subst (λ (v : View). IsReadOf v input c.in_ok-file.file.items) (sym same) c.in_ok-file.ensures.bytes))
