use Rattle.std.proofs.Common.{◌+◌, ◌*◌, ◌∙◌, arith}
use Rattle.std.proofs.lemmas.Simd.{length-put_chunk}
use Rattle.dsd_bits.proofs.LacingLemmas.{more_lanes}
use Rattle.player_core.proofs.groups.pick_of_two.Goals as goal

pub loop-k-preserved : goal.loop-k-preserved
loop-k-preserved c =
    let bytes = c.args.groups.now in
    let to = c.loop-k.to in
    let k = c.loop-k.k in
    let picked = c.pick_lanes.ensures in
    let inv = c.loop-k.invariant in
    record {
      size = length-put_chunk (16 * k) to c.pick_lanes.result ∙ inv.size;
      done = λ j h. more_lanes to c.pick_lanes.result bytes (16 * k) (λ j. j * 2 + c.args.channel) picked.0 (omega arith) inv.done (λ j low. picked.1 j low) j (omega arith);
    }
