use Rattle.std.proofs.Common.{◌≡◌, ◌^◌, length, ap, ◌∙◌, arith}
use Rattle.std.proofs.Common.{◌%◌, ◌*◌}
use mir.Val.{bool_byte}
use Rattle.cost_core.proofs.Numbers.{states_small, one_shifted}
use Rattle.cost_core.proofs.Reading.{read_more, read_done, state_below}
use Rattle.cost_core.proofs.sums.read_state.Goals as goal

pub overflow_mul-state : goal.overflow_mul-state
overflow_mul-state c = omega (arith, states_small (length c.args.bits.now) c.requires, c.loop-i.invariant.state)

pub loop-i-preserved : goal.loop-i-preserved
loop-i-preserved c =
    let w = length c.args.bits.now in
    let n : (1 * 2 ^ c.len-states.result) % 18446744073709551616 ≡ 2 ^ w = ap (λ m. (1 * 2 ^ m) % 18446744073709551616) c.len-states.ensures.value ∙ one_shifted w c.requires in
    record {
      state = state_below _ w _ n;
      read = read_more c.args.bits.now c.loop-i.i c.from.result (omega arith) (c.from.ensures ∙ ap bool_byte c.get.ensures) w c.loop-i.state _ _ n c.loop-i.invariant.read;
    }

pub returns : goal.returns
returns c = read_done c.args.bits.now c.loop-i.i (length c.args.bits.now) c.loop-i.state _ (omega arith) c.loop-i.invariant.read
