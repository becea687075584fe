use Rattle.std.proofs.Common.{subst}
use Rattle.std.specs.Io.KnownBytes.{Appends}
use Rattle.std.proofs.lemmas.Result.{on_err_weaker, on_ok_weaker}
use Rattle.chunk_core.specs.Outlets.{AppendsPart, outlet_writer}
use Rattle.archive_core.proofs.EditLaws.{one_file}
use Rattle.archive_core.proofs.planning.PlannedMaster.write_master.Goals as goal

pub returns-clause-ok : goal.returns-clause-ok
returns-clause-ok g c = λ file is.
    let old = g.W.Write.contents (outlet_writer c.args.outlet.now) in
    let new = g.W.Write.contents (outlet_writer c.write_master.new.outlet) in
    let planned = c.args.self.now in
    on_ok_weaker c.write_master.result
    (λ written. subst (Appends old new) (one_file planned.cut planned.form written.channels is.channels written.text file written.best is.best written.text_is is.text) written.written) c.write_master.ensures.ok

pub returns-clause-err : goal.returns-clause-err
returns-clause-err g c = λ file is.
    let old = g.W.Write.contents (outlet_writer c.args.outlet.now) in
    let new = g.W.Write.contents (outlet_writer c.write_master.new.outlet) in
    let planned = c.args.self.now in
    on_err_weaker c.write_master.result
    (λ written. subst (AppendsPart old new) (one_file planned.cut planned.form written.channels is.channels written.text file written.best is.best written.text_is is.text) written.written) c.write_master.ensures.prefix
