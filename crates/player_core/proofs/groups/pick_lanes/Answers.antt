use Rattle.std.proofs.Common.{◌≡◌, ◌+◌, ◌*◌, ◌++◌, ◌∙◌, slice_index, get_or, ap, refl, arith}
use Rattle.std.proofs.lemmas.List.FromFn.{get_or-map-range_with_len}
use Rattle.dsd_bits.proofs.LacingLemmas.{side_by_side}
use lib.Lanes.{chunk}
use Rattle.player_core.proofs.groups.pick_lanes.Goals as goal
use Rattle.player_core.proofs.groups.pick_lanes.Goals.{then-channel-eq0, else-channel-eq0}

pub returns : goal.returns
returns c =
    let bytes = c.args.groups.now in
    let at = 2 * c.args.frame in
    elim c.if-channel-eq0.branch [
      | then-channel-eq0 w ↦ rw w.result-is (
        refl,
        λ k h.
            let place : at + 2 * k ≡ (c.args.frame + k) * 2 + c.args.channel = omega (arith, w.if-channel-eq0.true) in
            get_or-map-range_with_len (λ j. get_or (chunk at 16 bytes ++ chunk (at + 16) 16 bytes) (2 * j) 0) 0 16 k k 0 h (omega arith) ∙ side_by_side bytes at (2 * k) c.requires.enough (omega arith) ∙ ap (slice_index bytes) place,
      )
      | else-channel-eq0 w ↦ rw w.result-is (
        refl,
        λ k h.
            let place : at + (2 * k + 1) ≡ (c.args.frame + k) * 2 + c.args.channel = omega (arith, w.if-channel-eq0.false, c.requires.channel) in
            get_or-map-range_with_len (λ j. get_or (chunk at 16 bytes ++ chunk (at + 16) 16 bytes) (2 * j + 1) 0) 0 16 k k 0 h (omega arith) ∙ side_by_side bytes at (2 * k + 1) c.requires.enough (omega arith) ∙ ap (slice_index bytes) place,
      )
    ]
