use Rattle.std.proofs.Common.{◌-◌, ◌+◌, ◌≡◌, ℕ, inl, inr, ap₂, arith, length, take, sym, List}
use Rattle.dsdiff_core.proofs.HeldLaws.{back_part}
use Rattle.dsdiff_core.proofs.held.data_of.Goals as goal

pub returns-else-span-size-clause-value : goal.returns-else-span-size-clause-value
returns-else-span-size-clause-value c =
    let at = c.args.span.start - length c.args.file.prefix.now - c.args.file.hole in
    let size : at + c.args.span.size - at ≡ c.args.span.size = omega arith in
    elim c.requires.side [
      | inl prefix ↦ absurd (omega (arith, prefix, c.if-span-size.false))
      | inr back ↦ ap₂ (λ (n : ℕ) (bs : List ℕ). take n bs) size (sym (back_part c.args.file c.args.span.start back.0))
    ]
