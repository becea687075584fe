use Rattle.std.proofs.Common.{◌≡◌, ◌∙◌, ℕ, Err, Ok, Result, ap, ap₂, subst, sym}
use Rattle.std.specs.Io.KnownBytes.{prepend_known}
use Rattle.std.proofs.lemmas.Result.{err_from_is_err_and}
use Rattle.folder_core.specs.Files.{IsGiven, View}
use Rattle.transfer_commands.specs.Opening.{left_of}
use Rattle.transfer_commands.specs.PartPlaying.{FindsSpan, IsUnfound, PlayPartComesTo}
use Rattle.transfer_commands.specs.Playing.{PlayedComesTo, SourceComesTo, left_in}
use Rattle.transfer_commands.specs.declared.fault.CommandFault.{CommandFault}
use Rattle.transfer_core.specs.Streaming.{part_range}
use Rattle.wave_core.specs.Heads.{head_of}
use Rattle.transfer_commands.proofs.PartLaws.{part_ends, part_fails, part_refused, project_unread}
use Rattle.transfer_commands.proofs.parts.play_part_file.Given.{Over}
use Rattle.transfer_commands.proofs.parts.play_part_file.Goals as goal
use Rattle.transfer_commands.proofs.parts.play_part_file.Goals.{After-play_to}

pub returns-in_err-project : goal.returns-in_err-project
returns-in_err-project g c =
    let view = g.F.Folder.view in
    let e = err_from_is_err_and c.from_residual.result c.from_residual.ensures.1 in
    subst (PlayPartComesTo (head_of c.args.asked.is_wide 0) c.args.project.now c.args.input.now c.args.output.now c.args.asked.span (view c.args.folder.now) (view c.read_project.new.folder)) (sym (e.1 ∙ ap Err e.2))
    (project_unread (head_of c.args.asked.is_wide 0) c.args.project.now c.args.input.now c.args.output.now c.args.asked.span (view c.args.folder.now) (view c.read_project.new.folder) c.read_project.ensures.same c.in_err-project.field-0.0 c.in_err-project.ensures.fault)

pub returns-in_err-found : goal.returns-in_err-found
returns-in_err-found g c =
    let view = g.F.Folder.view in
    let text = c.in_ok-project.project.items in
    let fault = c.in_err-found.field-0.0 in
    let e = err_from_is_err_and c.from_residual-in_err-found.result c.from_residual-in_err-found.ensures.1 in
    let none = subst (λ project. IsUnfound project c.args.input.now (view c.read_project.new.folder) c.args.asked.span fault) c.deref.ensures.value c.in_err-found.ensures.refused in
    subst (PlayPartComesTo (head_of c.args.asked.is_wide 0) c.args.project.now c.args.input.now c.args.output.now c.args.asked.span (view c.args.folder.now) (view c.find_part.new.folder)) (sym (e.1 ∙ ap Err e.2))
    (part_refused (head_of c.args.asked.is_wide 0) c.args.project.now c.args.input.now c.args.output.now text c.args.asked.span (view c.args.folder.now) (view c.read_project.new.folder) (view c.find_part.new.folder) c.in_ok-project.ensures.bytes c.read_project.ensures.same c.find_part.ensures.same fault none)

-- what the playing of the part came to, by the project's text
came : (g : Over) (c : After-play_to g) (r : Result ℕ CommandFault) → SourceComesTo g.F.In.Read.remaining c.source_of.result c.args.output.now (g.F.Folder.view c.find_part.new.folder) (g.F.Folder.view c.play_to.new.folder) r
    → PlayedComesTo c.in_ok-project.project.items (part_range (head_of c.args.asked.is_wide 0) c.in_ok-found.found.part.start c.in_ok-found.found.part.stop) c.args.input.now c.args.output.now (g.F.Folder.view c.find_part.new.folder) (g.F.Folder.view c.play_to.new.folder) r
came g c r comes =
    let view = g.F.Folder.view in
    let source = c.source_of.ensures in
    let found = c.in_ok-found.found in
    let file = c.args.input.now in
    let given = subst (λ (v : View). IsGiven v file (left_of g.F.In.Read.remaining found.opened)) (sym c.find_part.ensures.same) c.in_ok-found.ensures.given in
    let left : left_of g.F.In.Read.remaining found.opened ≡ left_in g.F.In.Read.remaining c.source_of.result = ap₂ (λ p i. prepend_known p (g.F.In.Read.remaining i)) (sym source.bytes) (sym source.file) in
    let plays = comes file (subst (IsGiven (view c.find_part.new.folder) file) left given) in
    subst (λ project. PlayedComesTo project (part_range (head_of c.args.asked.is_wide 0) found.part.start found.part.stop) file c.args.output.now (view c.find_part.new.folder) (view c.play_to.new.folder) r) (source.project ∙ c.in_ok-found.ensures.found.0 ∙ c.deref.ensures.value)
    (subst (λ range. PlayedComesTo c.source_of.result.project.now range file c.args.output.now (view c.find_part.new.folder) (view c.play_to.new.folder) r) source.range plays)

-- the span's part
has : (g : Over) (c : After-play_to g) → FindsSpan c.in_ok-project.project.items c.args.input.now (g.F.Folder.view c.args.folder.now) c.args.asked.span c.in_ok-found.found.part.start c.in_ok-found.found.part.stop
has g c =
    let part = c.in_ok-found.found.part in
    subst (λ (v : View). FindsSpan c.in_ok-project.project.items c.args.input.now v c.args.asked.span part.start part.stop) c.read_project.ensures.same
    (subst (λ project. FindsSpan project c.args.input.now (g.F.Folder.view c.read_project.new.folder) c.args.asked.span part.start part.stop) c.deref.ensures.value c.in_ok-found.ensures.found.2)

pub returns-in_err-play_to : goal.returns-in_err-play_to
returns-in_err-play_to g c =
    let view = g.F.Folder.view in
    let at = (goal.at.returns-in_err-play_to g c).After-play_to in
    let e = err_from_is_err_and c.from_residual-in_err-play_to.result c.from_residual-in_err-play_to.ensures.1 in
    let part = c.in_ok-found.found.part in
    let fault = c.in_err-play_to.field-0.0 in
    let fails = came g at (Err fault) c.in_err-play_to.ensures in
    subst (PlayPartComesTo (head_of c.args.asked.is_wide 0) c.args.project.now c.args.input.now c.args.output.now c.args.asked.span (view c.args.folder.now) (view c.play_to.new.folder)) (sym (e.1 ∙ ap Err e.2))
    (part_fails (head_of c.args.asked.is_wide 0) c.args.project.now c.args.input.now c.args.output.now c.in_ok-project.project.items part.start part.stop c.args.asked.span (view c.args.folder.now) (view c.find_part.new.folder) (view c.play_to.new.folder) c.in_ok-project.ensures.bytes (has g at)
    (c.find_part.ensures.same ∙ c.read_project.ensures.same) fault fails)

pub returns : goal.returns
returns g c =
    let view = g.F.Folder.view in
    let at = (goal.at.returns g c).After-play_to in
    let part = c.in_ok-found.found.part in
    let n = c.in_ok-play_to.field-0 in
    let plays = came g at (Ok n) c.in_ok-play_to.ensures in
    part_ends (head_of c.args.asked.is_wide 0) c.args.project.now c.args.input.now c.args.output.now c.in_ok-project.project.items part.start part.stop c.args.asked.span (view c.args.folder.now) (view c.find_part.new.folder) (view c.play_to.new.folder) c.in_ok-project.ensures.bytes (has g at)
    (c.find_part.ensures.same ∙ c.read_project.ensures.same) n plays
