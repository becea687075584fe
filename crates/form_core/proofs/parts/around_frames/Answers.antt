use Rattle.std.proofs.Common.{◌≡◌, ◌↔◌, ◌%◌, ℕ, Ok, Err, IsErrAnd, Result, arith}
use Rattle.dsdiff_core.specs.declared.write_fault.WriteFault.{WriteFault}
use Rattle.dsdiff_core.specs.declared.write_fault.WriteFault.TheVariants.{NotWholeBytes, Memory}
use Rattle.form_core.specs.declared.parts.Ends.{Ends}
use Rattle.form_core.proofs.parts.around_frames.Goals as goal

module _ (count : ℕ) (whole : count % 8 ≡ 0) where
  made : (x : Ends) → (Ok x ≡ Err NotWholeBytes) ↔ (count % 8 ≡ 0 → ⊥)
  made x = (λ e. absurd cc, λ part. absurd (part whole))

  refused : (r : Result Ends WriteFault) → IsErrAnd r (λ e. e ≡ Memory) → (r ≡ Err NotWholeBytes) ↔ (count % 8 ≡ 0 → ⊥)
  refused (Ok x) h = absurd h
  refused (Err f) h = (λ e. absurd cc, λ part. absurd (part whole))

pub returns-in_err-tail-clause-not_whole_bytes : goal.returns-in_err-tail-clause-not_whole_bytes
returns-in_err-tail-clause-not_whole_bytes c = refused c.args.count (omega arith) c.from_residual.result c.from_residual.ensures.1

pub returns-in_err-head-clause-not_whole_bytes : goal.returns-in_err-head-clause-not_whole_bytes
returns-in_err-head-clause-not_whole_bytes c = refused c.args.count (omega arith) c.from_residual-in_err-head.result c.from_residual-in_err-head.ensures.1

pub returns-clause-fits : goal.returns-clause-fits
returns-clause-fits c = omega arith

pub returns-clause-not_whole_bytes : goal.returns-clause-not_whole_bytes
returns-clause-not_whole_bytes c = made c.args.count (omega arith) (record { head = c.in_ok-head.head; tail = c.in_ok-tail.tail })
