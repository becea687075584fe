use Rattle.std.proofs.Common.{◌∙◌, Err, Some, ap, inl, inr, subst, sym}
use Rattle.std.proofs.lemmas.Result.{err_from_is_err_and}
use Rattle.folder_core.specs.Files.{View}
use Rattle.form_core.specs.Steps.{FailsUnless}
use Rattle.request_core.specs.Projects.{SaysDecimator, decimator_of_text}
use Rattle.request_core.specs.declared.fault.Fault.TheVariants.{Memory}
use Rattle.transfer_commands.specs.BetweenSpeaking.{SpeakBetweenComesTo}
use Rattle.transfer_commands.specs.Opening.{left_of}
use Rattle.transfer_commands.specs.Outlining.{IsUnoutlined}
use Rattle.transfer_commands.specs.PartPlaying.{DescribesRead}
use Rattle.transfer_commands.specs.Faults.{of_file}
use Rattle.transfer_commands.specs.declared.between.BetweenFault.TheVariants.{Command}
use Rattle.transfer_commands.specs.declared.fault.CommandFault.TheVariants.{Call}
use Rattle.transfer_commands.proofs.BetweenRefusals.{not_spoken, unopened_before}
use Rattle.transfer_commands.proofs.HeldLaws.{still_known}
use Rattle.transfer_commands.proofs.RefusalLaws.{unoutlined_unopened, unread_before}
use Rattle.transfer_commands.proofs.between_speakers.play_between_speakers_file.Goals as goal

pub speak_reported-requires : goal.speak_reported-requires
speak_reported-requires g c = record { sound = c.in_ok-file.ensures.states.is_sound; within = c.in_ok-file.ensures.states.within }

pub speak_reported-requires-2 : goal.speak_reported-requires-2
speak_reported-requires-2 g c = record { sound = c.in_ok-file-2.ensures.states.1.is_sound; within = c.in_ok-file-2.ensures.within }

pub returns-then-reopens : goal.returns-then-reopens
returns-then-reopens g c =
    let view = g.F.Folder.view in
    let asked = c.args.asked in
    let project = c.args.project.now in
    let input = c.args.input.now in
    let text = c.in_ok-text.text.items in
    let found = c.in_ok-file.ensures in
    let opened = c.in_ok-file.file.opened in
    let says = subst (λ text. SaysDecimator text c.in_ok-taps.taps) c.deref.ensures.value c.in_ok-taps.ensures.found in
    still_known (view c.args.folder.now) (view c.read_project.new.folder) (view c.open_reported.new.folder) c.read_project.ensures.same c.open_reported.ensures.same
    (λ v. DescribesRead input v opened.sound → SpeakBetweenComesTo asked.is_wide project input c.args.output.now asked.around v (view c.speak_reported.new.folder) c.speak_reported.result) project text input c.in_ok-file.file.reported (left_of g.F.In.Read.remaining opened)
    (λ p r o d. c.speak_reported.ensures project input text p says r d o) c.in_ok-text.ensures.bytes found.reports found.given (subst (λ (v : View). DescribesRead input v opened.sound) c.read_project.ensures.same found.described)

pub returns : goal.returns
returns g c =
    let view = g.F.Folder.view in
    let asked = c.args.asked in
    let project = c.args.project.now in
    let input = c.args.input.now in
    let text = c.in_ok-text.text.items in
    let found = c.in_ok-file-2.ensures in
    let opened = c.in_ok-file-2.file.opened in
    let says = subst (λ text. SaysDecimator text c.in_ok-taps.taps) c.deref.ensures.value c.in_ok-taps.ensures.found in
    still_known (view c.args.folder.now) (view c.read_project.new.folder) (view c.hold_reported.new.folder) c.read_project.ensures.same c.hold_reported.ensures.same
    (λ v. DescribesRead input v opened.sound → SpeakBetweenComesTo asked.is_wide project input c.args.output.now asked.around v (view c.speak_reported-2.new.folder) c.speak_reported-2.result) project text input c.in_ok-file-2.file.reported (left_of (λ file. Some file.now) opened)
    (λ p r o d. c.speak_reported-2.ensures project input text p says r d o) c.in_ok-text.ensures.bytes found.reports found.given (subst (λ (v : View). DescribesRead input v opened.sound) c.read_project.ensures.same found.described)

pub returns-in_err-text : goal.returns-in_err-text
returns-in_err-text g c =
    let view = g.F.Folder.view in
    let asked = c.args.asked in
    let project = c.args.project.now in
    let input = c.args.input.now in
    let output = c.args.output.now in
    let old = view c.args.folder.now in
    let new = view c.read_project.new.folder in
    let r = c.from_residual.result in
    let e = err_from_is_err_and r c.from_residual.ensures.1 in
    let fault = c.in_err-text.field-0.0 in
    subst (SpeakBetweenComesTo asked.is_wide project input output asked.around old new) (sym (e.1 ∙ ap Err e.2))
    (not_spoken project input output asked.around old new asked.is_wide (Command (of_file fault)) (unread_before project input asked.around old new fault c.in_err-text.ensures.fault c.read_project.ensures.same))

pub returns-in_err-taps : goal.returns-in_err-taps
returns-in_err-taps g c =
    let view = g.F.Folder.view in
    let asked = c.args.asked in
    let project = c.args.project.now in
    let input = c.args.input.now in
    let output = c.args.output.now in
    let old = view c.args.folder.now in
    let new = view c.read_project.new.folder in
    let r = c.from_residual-in_err-taps.result in
    let e = err_from_is_err_and r c.from_residual-in_err-taps.ensures.1 in
    let fault = c.in_err-taps.field-0.0 in
    subst (SpeakBetweenComesTo asked.is_wide project input output asked.around old new) (sym (e.1 ∙ ap Err e.2))
    (not_spoken project input output asked.around old new asked.is_wide (Command (Call fault)) (inr (record {
      project = c.in_ok-text.text.items;
      project_read = c.in_ok-text.ensures.bytes;
      why = inl (subst (λ text. FailsUnless Memory fault (decimator_of_text text)) c.deref.ensures.value c.in_err-taps.ensures.exact);
      same = c.read_project.ensures.same;
    })))

pub returns-in_err-file : goal.returns-in_err-file
returns-in_err-file g c =
    let view = g.F.Folder.view in
    let asked = c.args.asked in
    let project = c.args.project.now in
    let input = c.args.input.now in
    let output = c.args.output.now in
    let old = view c.args.folder.now in
    let new = view c.open_reported.new.folder in
    let r = c.from_residual-in_err-file.result in
    let e = err_from_is_err_and r c.from_residual-in_err-file.ensures.1 in
    let fault = c.in_err-file.field-0.0 in
    subst (SpeakBetweenComesTo asked.is_wide project input output asked.around old new) (sym (e.1 ∙ ap Err e.2))
    (not_spoken project input output asked.around old new asked.is_wide (Command fault) (unopened_before project input c.in_ok-text.text.items asked.around old new c.in_ok-text.ensures.bytes (c.open_reported.ensures.same ∙ c.read_project.ensures.same) fault
    (unoutlined_unopened input old fault (subst (λ (v : View). IsUnoutlined input v fault) c.read_project.ensures.same c.in_err-file.ensures.fault))))

pub returns-in_err-file-2 : goal.returns-in_err-file-2
returns-in_err-file-2 g c =
    let view = g.F.Folder.view in
    let asked = c.args.asked in
    let project = c.args.project.now in
    let input = c.args.input.now in
    let output = c.args.output.now in
    let old = view c.args.folder.now in
    let new = view c.hold_reported.new.folder in
    let r = c.from_residual-in_err-file-2.result in
    let e = err_from_is_err_and r c.from_residual-in_err-file-2.ensures.1 in
    let fault = c.in_err-file-2.field-0.0 in
    subst (SpeakBetweenComesTo asked.is_wide project input output asked.around old new) (sym (e.1 ∙ ap Err e.2))
    (not_spoken project input output asked.around old new asked.is_wide (Command fault) (unopened_before project input c.in_ok-text.text.items asked.around old new c.in_ok-text.ensures.bytes (c.hold_reported.ensures.same ∙ c.read_project.ensures.same) fault
    (unoutlined_unopened input old fault (subst (λ (v : View). IsUnoutlined input v fault) c.read_project.ensures.same c.in_err-file-2.ensures.fault))))
