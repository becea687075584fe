use Rattle.std.proofs.Common.{◌≡◌, All, length, take}
use Rattle.dsdiff_core.proofs.fields.others_fit.Given as goal

abbrev pub invariant-loop-other : goal.invariant-loop-other
invariant-loop-other l = All (λ o. length o.id ≡ 4) (take l.other-index l.others)
