use Rattle.std.proofs.Common.{arith, inl, inr}
use Rattle.transfer_commands.proofs.gaps.all_but.Goals as goal

pub returns-clause-kept : goal.returns-clause-kept
returns-clause-kept c = λ p after before gap. elim gap [
  | inl at ↦ omega (arith, at.1, after, c.min-stop.ensures, c.saturating_add-last.ensures)
  | inr at ↦ elim before [
    | inl less ↦ omega (arith, at.0, at.1, less, c.min-start.ensures, c.saturating_add-first.ensures, c.saturating_add-end.ensures)
    | inr most ↦ omega (arith, at.0, at.1, most, c.min-start.ensures, c.saturating_add-first.ensures, c.saturating_add-end.ensures)
  ]
]
