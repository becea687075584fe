use Rattle.std.proofs.Common.{map, string_bytes}
use Rattle.command_core.proofs.HostLaws.{asked_by}
use Rattle.command_core.proofs.running.run_words.Goals as goal

pub returns-in-Ok : goal.returns-in-Ok
returns-in-Ok g c =
    let read = c.in-Ok.ensures.read in
    (c.task.result, asked_by (map string_bytes c.args.words.now) read.0 read.1 c.task.result (c.task.ensures.asked read.0 read.2) (c.task.ensures.refused read.0 read.2), c.run_asked.ensures)
