use Rattle.std.proofs.Common.{◌≡◌, ℕ, ◌+◌, ◌*◌, ◌∙◌, length, slice_index, ap, arith}
use Rattle.std.proofs.lemmas.Simd.{length-put_chunk}
use Rattle.dsd_bits.proofs.LacingLemmas.{more_lanes, picked_is}
use Rattle.dsd_bits.proofs.lacing.split_two.Goals as goal

pub loop-k-preserved : goal.loop-k-preserved
loop-k-preserved c =
    let bytes = c.args.bytes.now in
    let from = c.args.from in
    let left = c.loop-k.left in
    let right = c.loop-k.right in
    let k = c.loop-k.k in
    let even = c.split_frames.ensures.left in
    let odd = c.split_frames.ensures.right in
    let inv = c.loop-k.invariant in
    let moved : (d j : ℕ) → slice_index bytes ((from + 16 * k + j) * 2 + d) ≡ slice_index bytes ((from + (16 * k + j)) * 2 + d) = λ d j. let e : (from + 16 * k + j) * 2 + d ≡ (from + (16 * k + j)) * 2 + d = omega arith in ap (slice_index bytes) e in
    record {
      left_size = length-put_chunk (16 * k) left c.split_frames.result.0 ∙ inv.left_size;
      right_size = length-put_chunk (16 * k) right c.split_frames.result.1 ∙ inv.right_size;
      left = λ j h. more_lanes left c.split_frames.result.0 bytes (16 * k) (λ j. (from + j) * 2 + 0) even.0 (omega arith) inv.left (λ j low. even.1 j low ∙ moved 0 j) j (omega arith);
      right = λ j h. more_lanes right c.split_frames.result.1 bytes (16 * k) (λ j. (from + j) * 2 + 1) odd.0 (omega arith) inv.right (λ j low. odd.1 j low ∙ moved 1 j) j (omega arith);
    }

pub returns : goal.returns
returns c =
    let inv = c.loop-frame.invariant in
    record {
      left = picked_is c.loop-frame.left c.args.bytes.now 2 0 c.args.from (length c.args.left.now) inv.left_size (λ j h. inv.left j (omega arith));
      right = picked_is c.loop-frame.right c.args.bytes.now 2 1 c.args.from (length c.args.left.now) (inv.right_size ∙ c.requires.right) (λ j h. inv.right j (omega arith));
    }
