use Rattle.std.proofs.Common.{◌∙◌, Err, Some, ap, arith, length, refl, subst, sym}
use Rattle.std.proofs.lemmas.Result.{err_from_is_err_and}
use Rattle.dsd_bits.specs.declared.sound.Sound.{Sound}
use Rattle.folder_core.specs.Files.{IsReadOf}
use Rattle.sound_core.specs.Outlines.{around_of}
use Rattle.transfer_commands.specs.SpeakersConverting.{ConvertSpeakersComesTo}
use Rattle.transfer_commands.proofs.HeldLaws.{held_given, held_left, starts_within}
use Rattle.transfer_commands.proofs.OpeningLaws.{outlined}
use Rattle.transfer_commands.proofs.RenamingLaws.{renaming_refused, unoutlined_unspoken}
use Rattle.transfer_commands.proofs.ReportLaws.{unoutlined_left}
use Rattle.transfer_commands.proofs.SpokenLaws.{fits_found, no_type_found, renamed_found}
use Rattle.transfer_commands.proofs.convert_speakers.convert_held.Goals as goal

pub returns-in_err-outline : goal.returns-in_err-outline
returns-in_err-outline g c = λ input read.
    let view = g.F.Folder.view c.args.folder.now in
    let e = err_from_is_err_and c.from_residual.result c.from_residual.ensures.1 in
    let given = held_given view input c.args.file.items c.as_slice.result.now read c.as_slice.ensures.value in
    subst (ConvertSpeakersComesTo c.args.form input c.args.output.now view view) (sym (e.1 ∙ ap Err e.2))
    (unoutlined_unspoken c.args.form input c.args.output.now view view c.in_err-outline.field-0.0 refl (unoutlined_left view input (Some c.as_slice.result.now) given c.in_err-outline.field-0.0 c.in_err-outline.ensures.fault))

pub returns-in_err-renaming_of : goal.returns-in_err-renaming_of
returns-in_err-renaming_of g c = λ input read.
    let view = g.F.Folder.view c.args.folder.now in
    let r = c.from_residual-in_err-renaming_of.result in
    let e = err_from_is_err_and r c.from_residual-in_err-renaming_of.ensures.1 in
    let given = held_given view input c.args.file.items c.as_slice.result.now read c.as_slice.ensures.value in
    let found = outlined view input (Some c.as_slice.result.now) given c.in_ok-outline.outline c.in_ok-outline.ensures.found in
    subst (ConvertSpeakersComesTo c.args.form input c.args.output.now view view) (sym (e.1 ∙ ap Err e.2))
    (renaming_refused c.args.form input c.args.output.now view view refl c.in_ok-outline.outline found c.in_err-renaming_of.field-0.0 c.in_err-renaming_of.ensures.refused)

pub returns-in_err-renaming : goal.returns-in_err-renaming
returns-in_err-renaming g c = λ input read.
    let view = g.F.Folder.view c.args.folder.now in
    let r = c.from_residual-in_err-renaming.result in
    let e = err_from_is_err_and r c.from_residual-in_err-renaming.ensures.1 in
    let none = c.in_err-renaming.ensures.err in
    let given = held_given view input c.args.file.items c.as_slice.result.now read c.as_slice.ensures.value in
    let found = outlined view input (Some c.as_slice.result.now) given c.in_ok-outline.outline c.in_ok-outline.ensures.found in
    subst (ConvertSpeakersComesTo c.args.form input c.args.output.now view view) (sym (e.1 ∙ ap Err (e.2 ∙ none.0)))
    (no_type_found c.args.form input c.args.output.now view view refl c.in_ok-outline.outline found c.in_ok-renaming_of.field-0 none.1 c.in_ok-renaming_of.ensures.none)

pub renaming_of-requires : goal.renaming_of-requires
renaming_of-requires g c = record { stated = c.in_ok-outline.ensures.found.reported }

pub convert_opened-requires : goal.convert_opened-requires
convert_opened-requires g c =
    let found = c.in_ok-outline.ensures.found in
    let whole = c.opened_whole-opened.ensures in
    let within = starts_within (around_of c.in_ok-outline.outline) c.as_slice.result.now found.reported found.known in
    record {
      stated = found.reported;
      fits = fits_found c.in_ok-outline.outline.sound.count c.in_ok-renaming_of.field-0 c.in_ok-renaming.renaming c.in_ok-renaming.ensures.ok c.in_ok-renaming_of.ensures.fits;
      within = omega (arith, within, ap (λ (s : Sound). s.start) whole.sound, ap length whole.bytes, ap length c.as_slice.ensures.value);
    }

pub returns : goal.returns
returns g c = λ input read.
    let view = g.F.Folder.view c.args.folder.now in
    let outline = c.in_ok-outline.outline in
    let opened = c.opened_whole-opened.result in
    let whole = c.opened_whole-opened.ensures in
    let given = held_given view input c.args.file.items c.as_slice.result.now read c.as_slice.ensures.value in
    let found = outlined view input (Some c.as_slice.result.now) given outline c.in_ok-outline.ensures.found in
    c.convert_opened.ensures c.args.form input found
    (renamed_found c.args.form outline c.in_ok-renaming_of.field-0 c.in_ok-renaming.renaming c.in_ok-renaming.ensures.ok c.in_ok-renaming_of.ensures.renamed found.file found.is_outline)
    (held_left view input opened.prefix.items opened.file.now (subst (IsReadOf view input) (sym whole.bytes) read) whole.none)
