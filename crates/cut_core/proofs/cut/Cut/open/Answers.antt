use Rattle.std.proofs.Common.{arith, subst, sym}
use Rattle.splice_core.specs.Splices.{splice_content}
use Rattle.form_core.specs.Forms.{HoldsSome}
use Rattle.form_core.specs.Steps.{GivesUnless}
use Rattle.cut_core.specs.declared.fault.CutFault.TheVariants.{Memory}
use Rattle.cut_core.specs.Opening.{file_bytes}
use Rattle.cut_core.proofs.OpeningLaws.{files_are, gives_opens, read_on}
use Rattle.cut_core.proofs.ZipLaws.{zip_long}
use Rattle.cut_core.proofs.cut.Cut.open.Goals as goal

pub of-requires : goal.of-requires
of-requires c =
    let taken = c.in_ok-takes.ensures in
    let read = files_are (splice_content c.args.splice) (file_bytes c.args.files.now) taken.0 taken.1 in
    record { whole = taken.0; excerpts = taken.2; as_many = omega (arith, read.as_many, zip_long HoldsSome (file_bytes c.args.files.now) taken.0 read.held) }

pub returns-clause-found : goal.returns-clause-found
returns-clause-found c =
    let taken = c.in_ok-takes.ensures in
    let splice = splice_content c.args.splice in
    let files = file_bytes c.args.files.now in
    gives_opens splice files c.args.form c.of.result (subst (λ steps. GivesUnless Memory (λ cut. cut) c.of.result steps) (sym (read_on splice files c.args.form taken.0 taken.1)) (c.of.ensures.exact taken.0 taken.2))
