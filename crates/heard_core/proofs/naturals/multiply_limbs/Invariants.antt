use Rattle.std.proofs.Common.{◌≡◌, ◌+◌, ◌*◌, ◌^◌, ◌≤◌, ℕ, get_or, take}
use Rattle.heard_core.specs.Naturals.{base, natural}
use Rattle.heard_core.proofs.naturals.multiply_limbs.Given as goal

abbrev pub invariant-loop-i : goal.invariant-loop-i
invariant-loop-i l = record {
  done : natural (take l.i l.limbs) + l.carry * base ^ l.i ≡ natural (take l.i l.initial.limbs) * l.factor;
  rest : (k : ℕ) → l.i ≤ k → get_or l.limbs k 0 ≡ get_or l.initial.limbs k 0;
}
