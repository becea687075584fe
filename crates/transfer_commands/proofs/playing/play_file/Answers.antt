use Rattle.std.proofs.Common.{◌≡◌, ◌∙◌, ap, inl, subst, sym}
use Rattle.std.specs.Io.KnownBytes.{prepend_known}
use Rattle.folder_core.specs.Files.{IsGiven, View}
use Rattle.transfer_commands.specs.Playing.{PlayedComesTo}
use Rattle.transfer_commands.proofs.PlayLaws.{none_read, play_ends}
use Rattle.transfer_commands.proofs.playing.play_file.Goals as goal

pub play_to-requires : goal.play_to-requires
play_to-requires g c = inl c.no_gaps.ensures

pub returns : goal.returns
returns g c =
    let view = g.F.Folder.view in
    let input = c.args.input.now in
    let output = c.args.output.now in
    let left = g.F.In.Read.remaining c.in-Ok.file in
    let given = subst (λ (v : View). IsGiven v input left) c.read_project.ensures.same c.in-Ok.ensures.bytes in
    let all : left ≡ prepend_known c.new.result.items left = sym (ap (λ xs. prepend_known xs left) c.new.ensures.items ∙ none_read left) in
    let given_then = subst (IsGiven (view c.open.new.self) input) all (subst (λ (v : View). IsGiven v input left) (sym c.in-Ok.ensures.same) c.in-Ok.ensures.bytes) in
    let came = subst (λ project. PlayedComesTo project c.whole.result input output (view c.open.new.self) (view c.play_to.new.folder) c.play_to.result) c.deref.ensures.value (c.play_to.ensures input given_then) in
    let whole = subst (λ range. PlayedComesTo c.in_ok-project.project.items range input output (view c.open.new.self) (view c.play_to.new.folder) c.play_to.result) c.whole.ensures came in
    play_ends c.whole_plays.ensures c.args.project.now input output c.in_ok-project.project.items (view c.args.folder.now) (view c.open.new.self) (view c.play_to.new.folder)
    c.in_ok-project.ensures.bytes (c.in-Ok.ensures.same ∙ c.read_project.ensures.same) left given c.play_to.result whole
