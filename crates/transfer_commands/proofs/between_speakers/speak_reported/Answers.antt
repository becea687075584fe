use Rattle.std.proofs.Common.{List, Err, Option, ap, inl, inr, refl, subst, sym, ◌∙◌, ℕ}
use Rattle.std.proofs.lemmas.Result.{err_from_is_err_and}
use Rattle.folder_core.specs.Files.{IsGiven, View}
use Rattle.request_core.specs.declared.fault.Fault.TheVariants.{NotWholeBytes}
use Rattle.transfer_commands.specs.BetweenSpeaking.{SpeakBetweenComesTo}
use Rattle.transfer_commands.specs.Renaming.{left_parts}
use Rattle.transfer_commands.specs.Speaking.{AreSpeakersOf}
use Rattle.transfer_commands.specs.declared.between.BetweenFault.TheVariants.{Command}
use Rattle.transfer_commands.specs.declared.fault.CommandFault.TheVariants.{Call}
use Rattle.transfer_commands.proofs.BetweenRefusals.{not_spoken, unheard_before, unopened_before}
use Rattle.transfer_commands.proofs.BetweenSpeaking.{spoken_between_ends, spoken_between_fails}
use Rattle.transfer_commands.proofs.RefusalLaws.{unspoken_before}
use Rattle.transfer_commands.proofs.SkippedLaws.{limits_said}
use Rattle.transfer_commands.proofs.between_speakers.speak_reported.Given.{Over}
use Rattle.transfer_commands.proofs.between_speakers.speak_reported.Goals as goal
use Rattle.transfer_commands.proofs.between_speakers.speak_reported.Goals.{After-speak_to}

pub returns-then-opened-ne0 : goal.returns-then-opened-ne0
returns-then-opened-ne0 g c = λ project input text project_read says reports described given.
    let old = g.F.Folder.view c.args.folder.now in
    let around = c.args.asked.between.around in
    subst (λ fault. SpeakBetweenComesTo c.args.asked.between.is_wide project input c.args.asked.output.now around old old (Err fault)) (sym c.from.ensures)
    (not_spoken project input c.args.asked.output.now around old old c.args.asked.between.is_wide (Command (Call NotWholeBytes))
    (unopened_before project input text around old old project_read refl (Call NotWholeBytes) (inr (inr (refl, (c.args.opened.sound, described, λ whole. c.if-opened-ne0.true whole))))))

pub returns-in_err-edges : goal.returns-in_err-edges
returns-in_err-edges g c = λ project input text project_read says reports described given.
    let view = g.F.Folder.view in
    let old = view c.args.folder.now in
    let new = view c.edges_of.new.folder in
    let around = c.args.asked.between.around in
    let output = c.args.asked.output.now in
    let taps = c.args.asked.taps.now in
    let fault = c.in_err-edges.field-0.0 in
    let e = err_from_is_err_and c.from_residual-in_err-edges.result c.from_residual-in_err-edges.ensures.1 in
    subst (SpeakBetweenComesTo c.args.asked.between.is_wide project input output around old new) (sym (e.1 ∙ ap Err e.2))
    (not_spoken project input output around old new c.args.asked.between.is_wide fault
    (unheard_before project input around old new c.edges_of.ensures.same c.args.opened.sound described taps (limits_said text taps says) fault c.in_err-edges.ensures.refused))

-- what is left of the file, once its neighbours were read
given_then : (g : Over) (c : After-speak_to g) (input : List ℕ) → IsGiven (g.F.Folder.view c.args.folder.now) input (left_parts g.R.Read.remaining c.in_ok-spoken.spoken.parts)
    → IsGiven (g.F.Folder.view c.protect.new.self) input (left_parts g.R.Read.remaining c.in_ok-spoken.spoken.parts)
given_then g c input = subst (λ (v : View). IsGiven v input (left_parts g.R.Read.remaining c.in_ok-spoken.spoken.parts)) (sym (c.protect.ensures.same ∙ c.edges_of.ensures.same))

pub returns-in_err-size : goal.returns-in_err-size
returns-in_err-size g c = λ project input text project_read says reports described given.
    let at = (goal.at.returns-in_err-size g c).After-speak_to in
    let view = g.F.Folder.view in
    let old = view c.args.folder.now in
    let output = c.args.asked.output.now in
    let taps = c.args.asked.taps.now in
    let speakers = c.in_ok-speakers.speakers in
    let are : AreSpeakersOf input old speakers = record { reported = c.args.reported.now; reports = reports; mask = c.in_ok-speakers.ensures.mask; order = c.in_ok-speakers.ensures.order } in
    let opened = subst (λ (o : Option (List ℕ)). IsGiven old input o) (sym (c.in_ok-spoken.ensures.left g.R.Read.remaining)) given in
    let e = err_from_is_err_and c.from_residual-in_err-size.result c.from_residual-in_err-size.ensures.1 in
    subst (SpeakBetweenComesTo c.args.asked.between.is_wide project input output c.args.asked.between.around old (view c.speak_to.new.folder)) (sym (e.1 ∙ ap Err e.2))
    (spoken_between_fails c.args.asked.between.is_wide project input output text c.args.asked.between.around old (view c.protect.new.self) (view c.speak_to.new.folder) taps speakers c.args.opened.sound c.in_ok-edges.edges c.in_ok-spoken.spoken
    project_read says (limits_said text taps says) are described c.requires.sound.some_channel c.in_ok-edges.ensures.heard c.in_ok-spoken.ensures.spoken (c.protect.ensures.same ∙ c.edges_of.ensures.same)
    c.in_err-size.field-0.0 (c.in_err-size.ensures input (given_then g at input opened)))

pub returns : goal.returns
returns g c = λ project input text project_read says reports described given.
    let at = (goal.at.returns g c).After-speak_to in
    let view = g.F.Folder.view in
    let old = view c.args.folder.now in
    let taps = c.args.asked.taps.now in
    let speakers = c.in_ok-speakers.speakers in
    let spoken = c.in_ok-spoken.spoken in
    let are : AreSpeakersOf input old speakers = record { reported = c.args.reported.now; reports = reports; mask = c.in_ok-speakers.ensures.mask; order = c.in_ok-speakers.ensures.order } in
    let opened = subst (λ (o : Option (List ℕ)). IsGiven old input o) (sym (c.in_ok-spoken.ensures.left g.R.Read.remaining)) given in
    spoken_between_ends c.args.asked.between.is_wide project input c.args.asked.output.now text c.args.asked.between.around old (view c.protect.new.self) (view c.speak_to.new.folder) taps speakers c.args.opened.sound c.in_ok-edges.edges spoken
    project_read says (limits_said text taps says) are described c.requires.sound.some_channel c.in_ok-edges.ensures.heard c.in_ok-spoken.ensures.spoken (c.protect.ensures.same ∙ c.edges_of.ensures.same)
    c.in_ok-size.size (c.in_ok-size.ensures input (given_then g at input opened))

pub spoken_between-requires : goal.spoken_between-requires
spoken_between-requires g c = record { sound = c.requires.sound; within = c.requires.within; channels = c.in_ok-speakers.ensures.channels }

pub returns-in_err-speakers : goal.returns-in_err-speakers
returns-in_err-speakers g c = λ project input text project_read says reports described given.
    let old = g.F.Folder.view c.args.folder.now in
    let e = err_from_is_err_and c.from_residual.result c.from_residual.ensures.1 in
    subst (SpeakBetweenComesTo c.args.asked.between.is_wide project input c.args.asked.output.now c.args.asked.between.around old old) (sym (e.1 ∙ ap Err (e.2 ∙ ap (λ f. Command (Call f)) c.in_err-speakers.ensures.fault))) (inl (refl, refl))

pub returns-in_err-spoken : goal.returns-in_err-spoken
returns-in_err-spoken g c = λ project input text project_read says reports described given.
    let view = g.F.Folder.view in
    let old = view c.args.folder.now in
    let new = view c.protect.new.self in
    let around = c.args.asked.between.around in
    let output = c.args.asked.output.now in
    let fault = c.in_err-spoken.field-0.0 in
    let e = err_from_is_err_and c.from_residual-in_err-spoken.result c.from_residual-in_err-spoken.ensures.1 in
    subst (SpeakBetweenComesTo c.args.asked.between.is_wide project input output around old new) (sym (e.1 ∙ ap Err e.2))
    (not_spoken project input output around old new c.args.asked.between.is_wide (Command fault) (unspoken_before project input around old new c.in_ok-speakers.speakers c.args.opened.sound fault c.in_err-spoken.ensures.fault (c.protect.ensures.same ∙ c.edges_of.ensures.same)))
