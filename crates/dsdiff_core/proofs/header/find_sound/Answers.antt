use Rattle.std.proofs.Common.{◌∙◌, ap, sym, ℕ, Option, Result, Err}
use Rattle.chunk_core.specs.Steps.{◌>>=◌}
use Rattle.dsdiff_core.specs.declared.fault.DsdiffFault.{DsdiffFault}
use Rattle.dsdiff_core.specs.Headers.{seek}
use Rattle.dsdiff_core.specs.Walks.{sought_by}
use Rattle.dsdiff_core.proofs.ExitLaws.{exact_at}
use Rattle.dsdiff_core.proofs.HeaderSteps.{long_prefix, short_prefix}
use Rattle.dsdiff_core.proofs.SeekLoop.{walked_first}
use Rattle.dsdiff_core.proofs.header.find_sound.Goals as goal

pub returns-then-prefix-lt16-clause-exact : goal.returns-then-prefix-lt16-clause-exact
returns-then-prefix-lt16-clause-exact c = short_prefix c.args.prefix.now c.if-prefix-lt16.true

pub returns-in_err-check_form-clause-exact : goal.returns-in_err-check_form-clause-exact
returns-in_err-check_form-clause-exact c = exact_at _ c.from_residual.result _ c.from_residual.ensures.1 (long_prefix c.args.prefix.now c.if-prefix-lt16.false ∙ ap (λ r. r >>= λ form. seek c.args.prefix.now) c.in_err-check_form.ensures)

pub find_head-requires-clause-walked : goal.find_head-requires-clause-walked
find_head-requires-clause-walked c = walked_first c.args.prefix.now

pub returns-in-Head-clause-exact : goal.returns-in-Head-clause-exact
returns-in-Head-clause-exact c =
    long_prefix c.args.prefix.now c.if-prefix-lt16.false ∙ ap (λ r. r >>= λ form. seek c.args.prefix.now) c.in_ok-check_form.ensures ∙ c.find_head.ensures.exact ∙ ap (sought_by c.args.prefix.now) c.in-Head.is

pub returns-in-More-clause-exact : goal.returns-in-More-clause-exact
returns-in-More-clause-exact c =
    long_prefix c.args.prefix.now c.if-prefix-lt16.false ∙ ap (λ r. r >>= λ form. seek c.args.prefix.now) c.in_ok-check_form.ensures ∙ c.find_head.ensures.exact ∙ ap (sought_by c.args.prefix.now) c.in-More.is

pub returns-in-Lost-clause-exact : goal.returns-in-Lost-clause-exact
returns-in-Lost-clause-exact c =
    long_prefix c.args.prefix.now c.if-prefix-lt16.false ∙ ap (λ r. r >>= λ form. seek c.args.prefix.now) c.in_ok-check_form.ensures ∙ c.find_head.ensures.exact ∙ ap (sought_by c.args.prefix.now) c.in-Lost.is

pub returns-in-Past-clause-exact : goal.returns-in-Past-clause-exact
returns-in-Past-clause-exact c =
    long_prefix c.args.prefix.now c.if-prefix-lt16.false ∙ ap (λ r. r >>= λ form. seek c.args.prefix.now) c.in_ok-check_form.ensures ∙ c.find_head.ensures.exact ∙ ap (sought_by c.args.prefix.now) c.in-Past.is ∙ ap (λ (e : DsdiffFault). let r : Result (Option ℕ) DsdiffFault = Err e in r) (sym c.data_cut.ensures)
