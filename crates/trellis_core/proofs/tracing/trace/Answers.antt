use Rattle.std.proofs.Common.{◌-◌, arith}
use Rattle.cost_core.specs.StateCosts.{trellis_of}
use Rattle.trellis_core.proofs.TableLaws.{traced_step, returned, before_in}
use Rattle.trellis_core.proofs.tracing.trace.Goals as goal

pub loop-level-preserved : goal.loop-level-preserved
loop-level-preserved c =
    let t = trellis_of c.args.window.now in
    record {
      level = omega arith;
      state = rw c.before-state.ensures (before_in t c.length-level.ensures.bounded.some_state (c.loop-level.level - 1) c.loop-level.state c.loop-level.invariant.state);
      bits = rw (c.in_ok-push.ensures.items, c.before-state.ensures) (traced_step t c.loop-level.level c.loop-level.state c.loop-level.bits.items _ (omega arith) c.loop-level.invariant.bits);
    }

pub returns : goal.returns
returns c =
    let t = trellis_of c.args.window.now in
    returned t c.loop-level.level c.loop-level.state c.loop-level.bits.items _ (omega arith) c.loop-level.invariant.bits

pub before-state-requires-clause-decisions : goal.before-state-requires-clause-decisions
before-state-requires-clause-decisions c = c.requires.decisions
