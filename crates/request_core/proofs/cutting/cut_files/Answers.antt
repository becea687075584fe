use Rattle.std.proofs.Common.{arith}
use Rattle.std.proofs.lemmas.Result.{err_from_is_err_and}
use Rattle.splice_core.specs.Splices.{splice_content}
use Rattle.form_core.specs.Forms.{HoldsSome}
use Rattle.cut_core.specs.Opening.{file_bytes}
use Rattle.cut_core.proofs.OpeningLaws.{files_are}
use Rattle.cut_core.proofs.ZipLaws.{zip_long}
use Rattle.request_core.specs.Cutting.{AreTakes}
use Rattle.request_core.proofs.CuttingLaws.{unexcerpted, unsaid}
use Rattle.request_core.proofs.cutting.cut_files.Goals as goal
use Rattle.request_core.proofs.cutting.cut_files.Goals.{In_ok-takes}

-- ---- refusals
pub returns-in_err-splice : goal.returns-in_err-splice
returns-in_err-splice c =
    let p = err_from_is_err_and c.from_residual.result c.from_residual.ensures.1 in
    rw (p.1, p.2) (record { found = tt; exact = unsaid c.args.project.now (file_bytes c.args.takes.now) c.args.form c.in_err-splice.field-0.0 c.in_err-splice.ensures.exact })

pub returns-in_err-takes : goal.returns-in_err-takes
returns-in_err-takes c =
    let p = err_from_is_err_and c.from_residual-in_err-takes.result c.from_residual-in_err-takes.ensures.1 in
    rw (p.1, p.2) (record {
      found = tt;
      exact = unexcerpted c.args.project.now (file_bytes c.args.takes.now) (splice_content c.in_ok-splice.splice) c.args.form c.in_err-takes.field-0.0 c.in_ok-splice.ensures.found c.in_err-takes.ensures;
    })

-- ---- the excerpts are of the files
are : (c : In_ok-takes) → AreTakes c.args.project.now (file_bytes c.args.takes.now) (splice_content c.in_ok-splice.splice) c.in_ok-takes.takes.items
are c =
    let taken = c.in_ok-takes.ensures in
    record { project_says = c.in_ok-splice.ensures.found; whole = taken.0; read = files_are (splice_content c.in_ok-splice.splice) (file_bytes c.args.takes.now) taken.0 taken.1; excerpts = taken.2 }

pub cut_excerpts-requires : goal.cut_excerpts-requires
cut_excerpts-requires c =
    let here = are (goal.at.cut_excerpts-requires c).In_ok-takes in
    record { whole = here.whole; excerpts = here.excerpts; as_many = omega (arith, here.read.as_many, zip_long HoldsSome (file_bytes c.args.takes.now) here.whole here.read.held) }

pub returns : goal.returns
returns c =
    let project = c.args.project.now in
    let files = file_bytes c.args.takes.now in
    let here = are (goal.at.returns c).In_ok-takes in
    record { found = c.cut_excerpts.ensures.found project files here; exact = c.cut_excerpts.ensures.exact project files here }
