use Rattle.std.proofs.Common.{◌-◌, ◌≤◌, ◌^◌, pow_mono, arith}
use Rattle.master_core.proofs.certifying.CertifyingRoom.new.Goals as goal

pub new-requires : goal.new-requires
new-requires c =
    let w = c.weight_number-weights.result in
    let few : w - 1 ≤ 11 = omega (arith, c.weight_number-weights.ensures.few) in
    let small : 2 ^ (w - 1) ≤ 2 ^ 11 = pow_mono few in
    omega (arith, small)
