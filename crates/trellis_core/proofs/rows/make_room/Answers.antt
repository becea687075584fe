use Rattle.std.proofs.Common.{◌≤◌, ◌^◌, length, pow_mono, arith}
use Rattle.trellis_core.proofs.rows.make_room.Goals as goal

-- a weight more than a state has bits, and twelve at most
pub new-requires : goal.new-requires
new-requires c =
    let limits = c.states.ensures.limits in
    let few : length c.args.window.now.preceding ≤ 11 = omega (arith, limits.before, limits.weights_in.few_weights) in
    let small : 2 ^ length c.args.window.now.preceding ≤ 2 ^ 11 = pow_mono few in
    omega (arith, small, c.states.ensures.value)
