use Rattle.std.proofs.Common.{◌∙◌, ℕ, Result, Err, ap, arith, sym}
use Rattle.dsd_bits.specs.Contents.{Content}
use Rattle.dsdiff_core.specs.declared.fault.DsdiffFault.{DsdiffFault}
use Rattle.dsdiff_core.specs.Cuts.{cut_fault}
use Rattle.dsdiff_core.proofs.CutLaws.{cut_is_refused}
use Rattle.dsdiff_core.proofs.closing.cut_fault.Goals as goal

pub fault_stated-requires : goal.fault_stated-requires
fault_stated-requires c = omega (arith, c.requires.ends)

pub returns-clause-fault : goal.returns-clause-fault
returns-clause-fault c = λ rest long short.
    cut_is_refused c.args.prefix.now rest c.requires short ∙ ap (λ (n : ℕ). let r : Result Content DsdiffFault = Err (cut_fault c.args.prefix.now n) in r) long ∙ ap (λ (e : DsdiffFault). let r : Result Content DsdiffFault = Err e in r) (sym c.fault_stated.ensures)
