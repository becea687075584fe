use Rattle.std.proofs.lemmas.Result.{err_from_is_err_and}
use Rattle.request_core.specs.Cutting.{said_cut}
use Rattle.command_core.proofs.SourceLaws.{are_takes, gives_refused, not_excerpted, of_takes}
use Rattle.command_core.proofs.sources.cut_of.Goals as goal

pub returns-in_err-takes-clause-refused : goal.returns-in_err-takes-clause-refused
returns-in_err-takes-clause-refused c = λ project files are.
    let p = err_from_is_err_and c.from_residual.result c.from_residual.ensures.1 in
    rw (p.1, p.2) (not_excerpted c.args.sources project files are c.args.form c.in_err-takes.field-0.0 c.in_err-takes.was)

pub cut_excerpts-requires : goal.cut_excerpts-requires
cut_excerpts-requires c = of_takes c.args.sources c.in_ok-takes.field-0 c.in_ok-takes.was c.requires

pub returns-clause-found : goal.returns-clause-found
returns-clause-found c = λ project files are. c.cut_excerpts.ensures.found project files (are_takes c.args.sources project files are c.in_ok-takes.field-0 c.in_ok-takes.was)

pub returns-clause-refused : goal.returns-clause-refused
returns-clause-refused c = λ project files are. gives_refused c.cut_excerpts.result (said_cut project files c.args.form) (c.cut_excerpts.ensures.exact project files (are_takes c.args.sources project files are c.in_ok-takes.field-0 c.in_ok-takes.was))
