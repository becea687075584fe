use Rattle.std.proofs.Common.{Err, List, ap, inl, refl, subst, sym, ◌∙◌, ℕ}
use Rattle.std.proofs.lemmas.Result.{err_from_is_err_and}
use Rattle.folder_core.specs.Files.{IsGiven}
use Rattle.transfer_commands.specs.PartPlaying.{ReportsRead}
use Rattle.transfer_commands.specs.Speaking.{AreSpeakersOf, IsToBeSpoken, SpeakComesTo}
use Rattle.transfer_commands.proofs.FindingLaws.{unfound_in_report}
use Rattle.transfer_commands.proofs.SpeakLaws.{speak_refused, speak_unspoken, speech_ends, speech_fails}
use Rattle.transfer_commands.proofs.speaking.speak_reported.Given.{Over}
use Rattle.transfer_commands.proofs.speaking.speak_reported.Goals as goal
use Rattle.transfer_commands.proofs.speaking.speak_reported.Goals.{After-speak_to}

pub returns-in_err-speakers : goal.returns-in_err-speakers
returns-in_err-speakers g c = λ project input project_read reports described given.
    let old = g.F.Folder.view c.args.folder.now in
    let e = err_from_is_err_and c.from_residual.result c.from_residual.ensures.1 in
    subst (SpeakComesTo c.args.asked.part.is_wide project input c.args.asked.output.now c.args.asked.part.span old old) (sym (e.1 ∙ ap Err e.2))
    (inl (refl, c.in_err-speakers.ensures.fault))

pub returns-in_err-part : goal.returns-in_err-part
returns-in_err-part g c = λ project input project_read reports described given.
    let old = g.F.Folder.view c.args.folder.now in
    let text = c.args.asked.project.now in
    let span = c.args.asked.part.span in
    let fault = c.in_err-part.field-0.0 in
    let e = err_from_is_err_and c.from_residual-in_err-part.result c.from_residual-in_err-part.ensures.1 in
    subst (SpeakComesTo c.args.asked.part.is_wide project input c.args.asked.output.now span old old) (sym (e.1 ∙ ap Err e.2))
    (speak_refused c.args.asked.part.is_wide project input c.args.asked.output.now span old old text old project_read refl refl fault
    (unfound_in_report text input old c.args.reported.now span reports fault c.in_err-part.ensures.refused))

pub returns-in_err-spoken : goal.returns-in_err-spoken
returns-in_err-spoken g c = λ project input project_read reports described given.
    let old = g.F.Folder.view c.args.folder.now in
    let e = err_from_is_err_and c.from_residual-in_err-spoken.result c.from_residual-in_err-spoken.ensures.1 in
    subst (SpeakComesTo c.args.asked.part.is_wide project input c.args.asked.output.now c.args.asked.part.span old old) (sym (e.1 ∙ ap Err e.2))
    (speak_unspoken c.args.asked.part.is_wide project input c.args.asked.output.now c.args.asked.part.span old old c.in_ok-speakers.speakers c.args.opened.sound c.in_err-spoken.field-0.0 refl c.in_err-spoken.ensures.refused)

-- the loudspeakers are those of the file
are : (g : Over) (c : After-speak_to g) (input : List ℕ) → ReportsRead input (g.F.Folder.view c.args.folder.now) c.args.reported.now → AreSpeakersOf input (g.F.Folder.view c.args.folder.now) c.in_ok-speakers.speakers
are g c input reports = record { reported = c.args.reported.now; reports = reports; mask = c.in_ok-speakers.ensures.mask; order = c.in_ok-speakers.ensures.order }

-- what is played is the part that was found
is_part : (g : Over) (c : After-speak_to g) → IsToBeSpoken c.args.asked.project.now c.in_ok-part.part.start c.in_ok-part.part.stop c.in_ok-speakers.speakers c.args.asked.part.is_wide c.args.opened.sound c.in_ok-spoken.spoken
is_part g c =
    let part = c.in_ok-part.part in
    subst (λ p. IsToBeSpoken p part.start part.stop c.in_ok-speakers.speakers c.args.asked.part.is_wide c.args.opened.sound c.in_ok-spoken.spoken) c.in_ok-part.ensures.project c.in_ok-spoken.ensures.spoken

pub returns-in_err-size : goal.returns-in_err-size
returns-in_err-size g c = λ project input project_read reports described given.
    let view = g.F.Folder.view in
    let at = (goal.at.returns-in_err-size g c).After-speak_to in
    let part = c.in_ok-part.part in
    let old = view c.args.folder.now in
    let opened = subst (IsGiven old input) (sym (c.in_ok-spoken.ensures.left g.R.Read.remaining)) given in
    let e = err_from_is_err_and c.from_residual-in_err-size.result c.from_residual-in_err-size.ensures.1 in
    subst (SpeakComesTo c.args.asked.part.is_wide project input c.args.asked.output.now c.args.asked.part.span old (view c.speak_to.new.folder)) (sym (e.1 ∙ ap Err e.2))
    (speech_fails c.args.asked.part.is_wide project input c.args.asked.output.now c.args.asked.project.now c.args.asked.part.span old (view c.speak_to.new.folder) part.start part.stop c.in_ok-speakers.speakers c.args.opened.sound c.in_ok-spoken.spoken
    project_read (are g at input reports) (inl (c.args.reported.now, reports, c.in_ok-part.ensures.found)) described (is_part g at) c.in_err-size.field-0.0 (c.in_err-size.ensures input opened))

pub returns : goal.returns
returns g c = λ project input project_read reports described given.
    let view = g.F.Folder.view in
    let at = (goal.at.returns g c).After-speak_to in
    let part = c.in_ok-part.part in
    let old = view c.args.folder.now in
    let opened = subst (IsGiven old input) (sym (c.in_ok-spoken.ensures.left g.R.Read.remaining)) given in
    speech_ends c.args.asked.part.is_wide project input c.args.asked.output.now c.args.asked.project.now c.args.asked.part.span old (view c.speak_to.new.folder) part.start part.stop c.in_ok-speakers.speakers c.args.opened.sound c.in_ok-spoken.spoken
    project_read (are g at input reports) (inl (c.args.reported.now, reports, c.in_ok-part.ensures.found)) described (is_part g at) c.in_ok-size.size (c.in_ok-size.ensures input opened)
