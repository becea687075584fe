use Rattle.std.proofs.Common.{◌≡◌, ◌+◌, ◌*◌, ◌++◌, ◌∙◌, slice_index, get_or, ap, refl, arith}
use Rattle.std.proofs.lemmas.List.FromFn.{get_or-map-range_with_len}
use Rattle.dsd_bits.proofs.LacingLemmas.{side_by_side}
use lib.Lanes.{chunk}
use Rattle.dsd_bits.proofs.lacing.split_frames.Goals as goal

pub returns : goal.returns
returns c =
    let bytes = c.args.bytes.now in
    let at = 2 * c.args.frame in
    record {
      left = (
        refl,
        λ k h.
            let place : at + 2 * k ≡ (c.args.frame + k) * 2 + 0 = omega arith in
            get_or-map-range_with_len (λ j. get_or (chunk at 16 bytes ++ chunk (at + 16) 16 bytes) (2 * j) 0) 0 16 k k 0 h (omega arith) ∙ side_by_side bytes at (2 * k) c.requires (omega arith) ∙ ap (slice_index bytes) place,
      );
      right = (
        refl,
        λ k h.
            let place : at + (2 * k + 1) ≡ (c.args.frame + k) * 2 + 1 = omega arith in
            get_or-map-range_with_len (λ j. get_or (chunk at 16 bytes ++ chunk (at + 16) 16 bytes) (2 * j + 1) 0) 0 16 k k 0 h (omega arith) ∙ side_by_side bytes at (2 * k + 1) c.requires (omega arith) ∙ ap (slice_index bytes) place,
      );
    }
