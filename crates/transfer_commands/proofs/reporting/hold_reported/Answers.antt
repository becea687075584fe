use Rattle.std.proofs.Common.{◌∙◌, Err, Some, ap, subst, sym}
use Rattle.std.proofs.lemmas.Result.{err_from_is_err_and}
use Rattle.dsd_bits.proofs.ExitLaws.{no_value}
use Rattle.folder_core.specs.Files.{IsReadOf}
use Rattle.sound_core.specs.Outlines.{AreAround, around_of}
use Rattle.transfer_commands.specs.PartPlaying.{DescribesRead}
use Rattle.transfer_commands.specs.Outlining.{IsOutlined}
use Rattle.transfer_commands.proofs.ExcerptLaws.{err_says}
use Rattle.transfer_commands.proofs.HeldLaws.{described_held, held_given, held_left, starts_within}
use Rattle.transfer_commands.proofs.ReportLaws.{unoutlined_left}
use Rattle.transfer_commands.proofs.reporting.hold_reported.Goals as goal
use Rattle.transfer_commands.proofs.reporting.hold_reported.Goals.{After-reported_by-reported}
use Rattle.transfer_commands.proofs.reporting.hold_reported.Given.{Over}

pub reported_by-reported-requires : goal.reported_by-reported-requires
reported_by-reported-requires g c = c.in_ok-outline.ensures.found.reported.is_sound.in_limit

-- the outline is that of the file
is_outline : (g : Over) (c : After-reported_by-reported g) → IsOutlined c.in_ok-file.file.items c.in_ok-outline.outline
is_outline g c =
    let found = c.in_ok-outline.ensures.found in
    record { reported = found.reported; around = subst (AreAround (around_of c.in_ok-outline.outline)) c.as_slice.ensures.value found.known }

pub returns : goal.returns
returns g c =
    let view = g.F.Folder.view c.args.folder.now in
    let name = c.args.name.now in
    let outline = c.in_ok-outline.outline in
    let file = c.in_ok-file.file.items in
    let read = c.in_ok-file.ensures.bytes in
    let opened = c.opened_whole-opened.result in
    let whole = c.opened_whole-opened.ensures in
    let is = is_outline g (goal.at.returns g c).After-reported_by-reported in
    record {
      same = c.hold_file.ensures.same;
      reports = record { file = file; file_read = read; is_known = c.reported_by-reported.ensures file is };
      states = (outline.head.items, rw whole.sound is.reported.states);
      within = rw (whole.sound, whole.bytes) (starts_within (around_of outline) file is.reported is.around);
      given = held_left view name opened.prefix.items opened.file.now (subst (IsReadOf view name) (sym whole.bytes) read) whole.none;
      described = subst (DescribesRead name view) (sym whole.sound) (described_held view name file (around_of outline) read is.reported is.around);
      fault = tt;
    }

pub returns-in_err-file : goal.returns-in_err-file
returns-in_err-file g c =
    let r = c.from_residual.result in
    let is = c.from_residual.ensures.1 in
    let e = err_from_is_err_and r is in
    record {
      same = c.hold_file.ensures.same;
      reports = no_value _ _ r is;
      states = no_value _ _ r is;
      within = no_value _ _ r is;
      given = no_value _ _ r is;
      described = no_value _ _ r is;
      fault = err_says r _ _ (e.1 ∙ ap Err e.2) c.in_err-file.ensures.fault;
    }

pub returns-in_err-outline : goal.returns-in_err-outline
returns-in_err-outline g c =
    let view = g.F.Folder.view c.args.folder.now in
    let name = c.args.name.now in
    let fault = c.in_err-outline.field-0.0 in
    let r = c.from_residual-in_err-outline.result in
    let is = c.from_residual-in_err-outline.ensures.1 in
    let e = err_from_is_err_and r is in
    let given = held_given view name c.in_ok-file.file.items c.as_slice.result.now c.in_ok-file.ensures.bytes c.as_slice.ensures.value in
    record {
      same = c.hold_file.ensures.same;
      reports = no_value _ _ r is;
      states = no_value _ _ r is;
      within = no_value _ _ r is;
      given = no_value _ _ r is;
      described = no_value _ _ r is;
      fault = err_says r _ _ (e.1 ∙ ap Err e.2) (unoutlined_left view name (Some c.as_slice.result.now) given fault c.in_err-outline.ensures.fault);
    }
