use Rattle.std.proofs.Common.{Err, Some, ap, subst, sym, ◌∙◌}
use Rattle.std.proofs.lemmas.Result.{err_from_is_err_and}
use Rattle.folder_core.specs.Files.{IsReadOf, View}
use Rattle.transfer_commands.specs.Faults.{of_file}
use Rattle.transfer_commands.specs.Opening.{left_of}
use Rattle.transfer_commands.specs.PartPlaying.{DescribesRead}
use Rattle.transfer_commands.specs.Speaking.{SpeakComesTo}
use Rattle.transfer_commands.specs.declared.parts.PartFault.TheVariants.{Command}
use Rattle.transfer_commands.proofs.ExcerptLaws.{unread_of}
use Rattle.transfer_commands.proofs.FindingLaws.{unopened_unfound}
use Rattle.transfer_commands.proofs.HeldLaws.{still_known}
use Rattle.transfer_commands.proofs.SpeakLaws.{speak_refused, speak_unread}
use Rattle.transfer_commands.proofs.speaking.play_speakers_file.Goals as goal

pub speak_reported-requires : goal.speak_reported-requires
speak_reported-requires g c = record { sound = c.in_ok-file.ensures.states.is_sound; within = c.in_ok-file.ensures.states.within }

pub speak_reported-requires-2 : goal.speak_reported-requires-2
speak_reported-requires-2 g c = record { sound = c.in_ok-file-2.ensures.states.1.is_sound; within = c.in_ok-file-2.ensures.within }

pub returns-in_err-text : goal.returns-in_err-text
returns-in_err-text g c =
    let view = g.F.Folder.view in
    let asked = c.args.asked in
    let fault = c.in_err-text.field-0.0 in
    let e = err_from_is_err_and c.from_residual.result c.from_residual.ensures.1 in
    subst (SpeakComesTo asked.is_wide c.args.project.now c.args.input.now c.args.output.now asked.span (view c.args.folder.now) (view c.read_project.new.folder)) (sym (e.1 ∙ ap Err e.2))
    (speak_unread asked.is_wide c.args.project.now c.args.input.now c.args.output.now asked.span (view c.args.folder.now) (view c.read_project.new.folder) (of_file fault) c.read_project.ensures.same (unread_of fault c.in_err-text.ensures.fault))

pub returns-in_err-file : goal.returns-in_err-file
returns-in_err-file g c =
    let view = g.F.Folder.view in
    let asked = c.args.asked in
    let input = c.args.input.now in
    let text = c.in_ok-text.text.items in
    let fault = c.in_err-file.field-0.0 in
    let read = view c.read_project.new.folder in
    let e = err_from_is_err_and c.from_residual-in_err-file.result c.from_residual-in_err-file.ensures.1 in
    subst (SpeakComesTo asked.is_wide c.args.project.now input c.args.output.now asked.span (view c.args.folder.now) (view c.open_reported.new.folder)) (sym (e.1 ∙ ap Err e.2))
    (speak_refused asked.is_wide c.args.project.now input c.args.output.now asked.span (view c.args.folder.now) (view c.open_reported.new.folder) text read c.in_ok-text.ensures.bytes c.read_project.ensures.same c.open_reported.ensures.same (Command fault)
    (unopened_unfound text input read asked.span fault c.in_err-file.ensures.fault))

pub returns-in_err-file-2 : goal.returns-in_err-file-2
returns-in_err-file-2 g c =
    let view = g.F.Folder.view in
    let asked = c.args.asked in
    let input = c.args.input.now in
    let text = c.in_ok-text.text.items in
    let fault = c.in_err-file-2.field-0.0 in
    let read = view c.read_project.new.folder in
    let e = err_from_is_err_and c.from_residual-in_err-file-2.result c.from_residual-in_err-file-2.ensures.1 in
    subst (SpeakComesTo asked.is_wide c.args.project.now input c.args.output.now asked.span (view c.args.folder.now) (view c.hold_reported.new.folder)) (sym (e.1 ∙ ap Err e.2))
    (speak_refused asked.is_wide c.args.project.now input c.args.output.now asked.span (view c.args.folder.now) (view c.hold_reported.new.folder) text read c.in_ok-text.ensures.bytes c.read_project.ensures.same c.hold_reported.ensures.same (Command fault)
    (unopened_unfound text input read asked.span fault c.in_err-file-2.ensures.fault))

pub returns-then-reopens : goal.returns-then-reopens
returns-then-reopens g c =
    let view = g.F.Folder.view in
    let asked = c.args.asked in
    let project = c.args.project.now in
    let input = c.args.input.now in
    let found = c.in_ok-file.ensures in
    let opened = c.in_ok-file.file.opened in
    let read = subst (IsReadOf (view c.args.folder.now) project) (sym c.deref.ensures.value) c.in_ok-text.ensures.bytes in
    still_known (view c.args.folder.now) (view c.read_project.new.folder) (view c.open_reported.new.folder) c.read_project.ensures.same c.open_reported.ensures.same
    (λ v. DescribesRead input v opened.sound → SpeakComesTo asked.is_wide project input c.args.output.now asked.span v (view c.speak_reported.new.folder) c.speak_reported.result) project c.deref.result.now input c.in_ok-file.file.reported (left_of g.F.In.Read.remaining opened)
    (λ p r o d. c.speak_reported.ensures project input p r d o) read found.reports found.given (subst (λ (v : View). DescribesRead input v opened.sound) c.read_project.ensures.same found.described)

pub returns : goal.returns
returns g c =
    let view = g.F.Folder.view in
    let asked = c.args.asked in
    let project = c.args.project.now in
    let input = c.args.input.now in
    let found = c.in_ok-file-2.ensures in
    let opened = c.in_ok-file-2.file.opened in
    let read = subst (IsReadOf (view c.args.folder.now) project) (sym c.deref.ensures.value) c.in_ok-text.ensures.bytes in
    still_known (view c.args.folder.now) (view c.read_project.new.folder) (view c.hold_reported.new.folder) c.read_project.ensures.same c.hold_reported.ensures.same
    (λ v. DescribesRead input v opened.sound → SpeakComesTo asked.is_wide project input c.args.output.now asked.span v (view c.speak_reported-2.new.folder) c.speak_reported-2.result) project c.deref.result.now input c.in_ok-file-2.file.reported (left_of (λ file. Some file.now) opened)
    (λ p r o d. c.speak_reported-2.ensures project input p r d o) read found.reports found.given (subst (λ (v : View). DescribesRead input v opened.sound) c.read_project.ensures.same found.described)
