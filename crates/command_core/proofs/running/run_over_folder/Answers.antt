use Rattle.command_core.proofs.HostLaws.{done_there}
use Rattle.command_core.proofs.running.run_over_folder.Goals as goal

pub returns-in-Ok-clause-done : goal.returns-in-Ok-clause-done
returns-in-Ok-clause-done g c =
    let view = g.H.Files.Folder.view in
    done_there (g.H.Host.state c.args.host.now) (g.H.Host.state c.open_folder-files.new.self) (g.H.Host.state c.close_folder-has_wanted.new.self) (view c.open_folder-files.result) (view c.perform-came.new.folder)
    c.in-Ok.outcome c.memory_or.result c.args.task c.close_folder-has_wanted.result c.open_folder-files.ensures.files c.open_folder-files.ensures.same c.close_folder-has_wanted.ensures.files c.in-Ok.ensures.done
    c.memory_or.ensures.same c.memory_or.ensures.memory c.close_folder-has_wanted.ensures.memory
