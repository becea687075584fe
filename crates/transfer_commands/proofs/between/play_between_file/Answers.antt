use Rattle.std.proofs.Common.{◌≡◌, ◌∙◌, Err, ap, subst, sym}
use Rattle.std.proofs.lemmas.Result.{err_from_is_err_and}
use Rattle.fir_core.specs.Decimator.{IsWithinLimits}
use Rattle.folder_core.specs.Files.{IsGiven, View}
use Rattle.request_core.specs.Projects.{SaysDecimator}
use Rattle.wave_core.specs.Heads.{head_of}
use Rattle.transfer_commands.specs.BetweenPlaying.{IsNotOpened, PlayBetweenComesTo}
use Rattle.transfer_commands.specs.Neighbours.{AreHeard, AreUnheard}
use Rattle.transfer_commands.specs.Opening.{left_of}
use Rattle.transfer_commands.specs.PartPlaying.{DescribesRead}
use Rattle.transfer_commands.proofs.BetweenLaws.{between_ends, between_fails, between_unheard, between_unopened}
use Rattle.transfer_commands.proofs.SkippedLaws.{limits_said}
use Rattle.transfer_commands.proofs.between.play_between_file.Given.{Over}
use Rattle.transfer_commands.proofs.between.play_between_file.Goals as goal
use Rattle.transfer_commands.proofs.between.play_between_file.Goals.{After-join_to, After-open_whole}

-- the filter is that of the project
says : (g : Over) (c : After-open_whole g) → SaysDecimator c.in_ok-project.project.items c.in_ok-taps.taps
says g c = subst (λ text. SaysDecimator text c.in_ok-taps.taps) c.deref.ensures.value c.in_ok-taps.ensures.found

limits : (g : Over) (c : After-open_whole g) → IsWithinLimits c.in_ok-taps.taps
limits g c = limits_said c.in_ok-project.project.items c.in_ok-taps.taps (says g c)

pub returns-in_err-opened : goal.returns-in_err-opened
returns-in_err-opened g c =
    let view = g.F.Folder.view in
    let fault = c.in_err-opened.field-0.0 in
    let e = err_from_is_err_and c.from_residual-in_err-opened.result c.from_residual-in_err-opened.ensures.1 in
    let read = c.read_project.ensures.same in
    subst (PlayBetweenComesTo (head_of c.args.asked.is_wide 0) c.args.project.now c.args.input.now c.args.output.now c.args.asked.around (view c.args.folder.now) (view c.open_whole.new.folder)) (sym (e.1 ∙ ap Err e.2))
    (between_unopened (head_of c.args.asked.is_wide 0) c.args.project.now c.args.input.now c.args.output.now c.in_ok-project.project.items c.args.asked.around (view c.args.folder.now) (view c.open_whole.new.folder) c.in_ok-project.ensures.bytes (c.open_whole.ensures.same ∙ read) fault
    (subst (λ (v : View). IsNotOpened c.args.input.now v fault) read c.in_err-opened.ensures.refused))

pub returns-in_err-edges : goal.returns-in_err-edges
returns-in_err-edges g c =
    let at = (goal.at.returns-in_err-edges g c).After-open_whole in
    let view = g.F.Folder.view in
    let fault = c.in_err-edges.field-0.0 in
    let e = err_from_is_err_and c.from_residual-in_err-edges.result c.from_residual-in_err-edges.ensures.1 in
    let read = c.read_project.ensures.same in
    let opened = c.open_whole.ensures.same ∙ read in
    let sound = c.in_ok-opened.opened.sound in
    let taps = c.in_ok-taps.taps in
    subst (PlayBetweenComesTo (head_of c.args.asked.is_wide 0) c.args.project.now c.args.input.now c.args.output.now c.args.asked.around (view c.args.folder.now) (view c.edges_of.new.folder)) (sym (e.1 ∙ ap Err e.2))
    (between_unheard (head_of c.args.asked.is_wide 0) c.args.project.now c.args.input.now c.args.output.now c.args.asked.around (view c.args.folder.now) (view c.edges_of.new.folder) (c.edges_of.ensures.same ∙ opened) sound
    (subst (λ (v : View). DescribesRead c.args.input.now v sound) read c.in_ok-opened.ensures.described) taps (limits g at) fault
    (subst (λ (v : View). AreUnheard c.args.asked.around v sound taps fault) opened c.in_err-edges.ensures.refused))

-- nothing was changed before
unchanged : (g : Over) (c : After-join_to g) → g.F.Folder.view c.protect.new.self ≡ g.F.Folder.view c.args.folder.now
unchanged g c = c.protect.ensures.same ∙ c.edges_of.ensures.same ∙ c.open_whole.ensures.same ∙ c.read_project.ensures.same

-- the file that is played was opened under its name
given : (g : Over) (c : After-join_to g) → IsGiven (g.F.Folder.view c.protect.new.self) c.args.input.now (left_of g.F.In.Read.remaining c.in_ok-opened.opened)
given g c = subst (λ (v : View). IsGiven v c.args.input.now (left_of g.F.In.Read.remaining c.in_ok-opened.opened)) (sym (c.protect.ensures.same ∙ c.edges_of.ensures.same ∙ c.open_whole.ensures.same)) c.in_ok-opened.ensures.given

described : (g : Over) (c : After-join_to g) → DescribesRead c.args.input.now (g.F.Folder.view c.args.folder.now) c.in_ok-opened.opened.sound
described g c = subst (λ (v : View). DescribesRead c.args.input.now v c.in_ok-opened.opened.sound) c.read_project.ensures.same c.in_ok-opened.ensures.described

heard : (g : Over) (c : After-join_to g) → AreHeard c.args.asked.around (g.F.Folder.view c.args.folder.now) c.in_ok-opened.opened.sound c.in_ok-taps.taps c.in_ok-edges.edges
heard g c = subst (λ (v : View). AreHeard c.args.asked.around v c.in_ok-opened.opened.sound c.in_ok-taps.taps c.in_ok-edges.edges) (c.open_whole.ensures.same ∙ c.read_project.ensures.same) c.in_ok-edges.ensures.heard

pub returns-in_err-join_to : goal.returns-in_err-join_to
returns-in_err-join_to g c =
    let at = (goal.at.returns-in_err-join_to g c).After-join_to in
    let view = g.F.Folder.view in
    let fault = c.in_err-join_to.field-0.0 in
    let e = err_from_is_err_and c.from_residual-in_err-join_to.result c.from_residual-in_err-join_to.ensures.1 in
    let edges = c.in_ok-edges.edges in
    let own = subst (λ text. SaysDecimator text c.in_ok-taps.taps) c.deref.ensures.value c.in_ok-taps.ensures.found in
    subst (PlayBetweenComesTo (head_of c.args.asked.is_wide 0) c.args.project.now c.args.input.now c.args.output.now c.args.asked.around (view c.args.folder.now) (view c.join_to.new.folder)) (sym (e.1 ∙ ap Err e.2))
    (between_fails (head_of c.args.asked.is_wide 0) c.args.project.now c.args.input.now c.args.output.now c.in_ok-project.project.items c.args.asked.around (view c.args.folder.now) (view c.protect.new.self) (view c.join_to.new.folder) c.in_ok-taps.taps edges c.in_ok-project.ensures.bytes own
    c.in_ok-opened.opened.sound (described g at) (heard g at) (unchanged g at) fault (c.in_err-join_to.ensures c.args.input.now (given g at)))

pub returns : goal.returns
returns g c =
    let at = (goal.at.returns g c).After-join_to in
    let view = g.F.Folder.view in
    let edges = c.in_ok-edges.edges in
    let own = subst (λ text. SaysDecimator text c.in_ok-taps.taps) c.deref.ensures.value c.in_ok-taps.ensures.found in
    between_ends (head_of c.args.asked.is_wide 0) c.args.project.now c.args.input.now c.args.output.now c.in_ok-project.project.items c.args.asked.around (view c.args.folder.now) (view c.protect.new.self) (view c.join_to.new.folder) c.in_ok-taps.taps edges c.in_ok-project.ensures.bytes own
    c.in_ok-opened.opened.sound (described g at) (heard g at) (unchanged g at) c.in_ok-join_to.field-0 (c.in_ok-join_to.ensures c.args.input.now (given g at))
