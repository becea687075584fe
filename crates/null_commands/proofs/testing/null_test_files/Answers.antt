use Rattle.std.proofs.Common.{◌∙◌, Err, ap, subst, sym}
use Rattle.std.proofs.lemmas.Result.{err_from_is_err_and}
use Rattle.folder_core.specs.Files.{View}
use Rattle.null_commands.specs.Testing.{TestComesTo, TestsMixed}
use Rattle.null_commands.proofs.SourceLaws.{are_of_takes}
use Rattle.null_commands.proofs.TestLaws.{comes_to, unsourced}
use Rattle.null_commands.proofs.testing.null_test_files.Goals as goal

pub mixed_of-mixed-requires : goal.mixed_of-mixed-requires
mixed_of-mixed-requires g c =
    let h = c.in_ok-sources.ensures.sources in
    are_of_takes h.text h.files c.in_ok-sources.sources h.sources

pub returns-in_err-sources : goal.returns-in_err-sources
returns-in_err-sources g c =
    let view = g.F.Folder.view in
    let e = err_from_is_err_and c.from_residual.result c.from_residual.ensures.1 in
    subst (TestComesTo c.args.mix.now c.args.master.now (view c.args.folder.now) (view c.read_sources.new.folder)) (sym (e.1 ∙ ap Err e.2))
    (unsourced c.args.mix.now c.args.master.now (view c.args.folder.now) (view c.read_sources.new.folder) c.read_sources.ensures.same c.in_err-sources.field-0.0 c.in_err-sources.ensures.fault)

pub returns : goal.returns
returns g c =
    let view = g.F.Folder.view in
    let h = c.in_ok-sources.ensures.sources in
    let read = c.read_sources.ensures.same in
    let made = c.mixed_of-mixed.result in
    comes_to c.args.mix.now c.args.master.now (view c.args.folder.now) (view c.test_mixed.new.folder) (c.test_mixed.ensures.same ∙ read) c.one_mix.ensures c.in_ok-sources.sources h
    made c.test_mixed.result (c.mixed_of-mixed.ensures.mixed h.text h.files h.sources) (c.mixed_of-mixed.ensures.fault h.text h.files h.sources)
    (subst (λ (v : View). TestsMixed v c.args.master.now made c.test_mixed.result) read c.test_mixed.ensures.tested)
