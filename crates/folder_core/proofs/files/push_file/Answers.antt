use Rattle.std.proofs.lemmas.Result.{err_from_is_err_and}
use Rattle.folder_core.proofs.files.push_file.Goals as goal

pub returns-in_err-file : goal.returns-in_err-file
returns-in_err-file g c =
    let e = err_from_is_err_and c.from_residual.result c.from_residual.ensures.1 in
    rw (e.1, e.2) (record { same = c.read_file.ensures.same; bytes = tt; fault = c.in_err-file.ensures.fault })
