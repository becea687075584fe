use Rattle.std.proofs.Common.{arith, inl}
use Rattle.folder_core.proofs.gapped_file.step_at.Goals as goal

pub returns-then-is_in-clause-passed : goal.returns-then-is_in-clause-passed
returns-then-is_in-clause-passed c = λ stated.
    let inside = c.is_in.ensures.inside c.if-is_in.true in
    inl (inside.0, omega (arith, inside.1, c.at_most.ensures.few.1))
