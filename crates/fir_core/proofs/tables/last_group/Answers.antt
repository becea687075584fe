use Rattle.std.proofs.Common.{inl, inr}
use Rattle.fir_core.proofs.Dot.{part_small}
use Rattle.fir_core.proofs.RowLaws.{no_last}
use Rattle.fir_core.proofs.tables.last_group.Goals as goal
use Rattle.fir_core.proofs.tables.last_group.Goals.{then-number-eq0-via-then-number-eq0, then-number-eq0-via-else-number-eq0+then-taps-number}

pub returns-then-number-eq0 : goal.returns-then-number-eq0
returns-then-number-eq0 c =
    no_last c.args.layout.taps.now c.args.number c.args.byte c.args.layout.whole (elim c.then-number-eq0.branch [
      | then-number-eq0-via-then-number-eq0 w ↦ inl w.if-number-eq0.true
      | then-number-eq0-via-else-number-eq0+then-taps-number w ↦ inr w.if-taps-number.true
    ])

pub dot_plain-requires-clause-small : goal.dot_plain-requires-clause-small
dot_plain-requires-clause-small c = part_small c.args.layout.taps.now _ _ c.args.layout.small
