use Rattle.std.proofs.Common.{◌≡◌, ◌+◌, ◌*◌, ◌++◌, min, cond, is_ok, IsOk, List, [], ℕ, length, append_assoc, ap, ◌∙◌, arith}
use Rattle.std.proofs.lemmas.List.{get_or_read}
use Rattle.dsd_bits.specs.Lacing.{laced_part}
use Rattle.dsd_bits.specs.Packing.{packed}
use Rattle.dsd_bits.proofs.PartLemmas.{laced_one, laced_part_join, laced_whole, room_for_part}
use Rattle.dsd_bits.proofs.lacing.push_laced.Goals as goal
use Rattle.dsd_bits.proofs.lacing.push_laced.Goals.{After-push_frames}

room : (c : After-push_frames) → IsOk c.push_frames.result
room c =
    let frames = length c.as_bytes-first.result.now in
    c.push_frames.ensures.succeeds (room_for_part c.args.channels.now c.loop-part.out.items c.args.out.now.items (min (4096 * c.loop-part.part) frames) c.min.result frames _ _ _ c.loop-part.invariant.items c.loop-part.out.ok.0 c.args.out.now.ok.0 (omega arith) c.loop-part.invariant.room)

pub returns-in_err-push_frames : goal.returns-in_err-push_frames
returns-in_err-push_frames c =
    let ok = room (goal.at.returns-in_err-push_frames c).After-push_frames in
    grind arith

pub loop-part-preserved : goal.loop-part-preserved
loop-part-preserved c =
    let channels = c.args.channels.now in
    let old = c.args.out.now.items in
    let part = c.loop-part.part in
    let frames = length c.as_bytes-first.result.now in
    let k = c.min.result in
    let before : min (4096 * part) frames ≡ 4096 * part = omega arith in
    let after : 4096 * part + k ≡ min (4096 * (part + 1)) frames = omega arith in
    let more : List ℕ = laced_part channels (4096 * part) k in
    record {
      items =
          c.in_ok-push_frames.ensures.ok ∙ ap (λ (xs : List ℕ). xs ++ more) c.loop-part.invariant.items ∙ append_assoc old (laced_part channels 0 (min (4096 * part) frames)) more
          ∙ ap (λ (xs : List ℕ). old ++ xs) (ap (λ m. laced_part channels 0 m ++ more) before ∙ laced_part_join channels (4096 * part) k ∙ ap (laced_part channels 0) after);
      room = omega (arith, c.loop-part.invariant.room, c.push_frames.ensures.capacity);
    }

pub returns-then-channels-eq1 : goal.returns-then-channels-eq1
returns-then-channels-eq1 c =
    let channels = c.args.channels.now in
    let first = get_or_read channels 0 c.index-channels-0.result (omega arith) c.index-channels-0.is [] in
    let bytes = c.as_bytes-first.ensures.packed ∙ ap packed first ∙ laced_one channels c.if-channels-eq1.true c.requires.whole_bytes in
    record { text = c.extend_from_slice.ensures.items ∙ ap (λ (bytes : List ℕ). cond (is_ok c.extend_from_slice.result) (c.args.out.now.items ++ bytes) c.args.out.now.items) bytes }

pub returns : goal.returns
returns c =
    let channels = c.args.channels.now in
    let bytes = c.as_bytes-first.result.now in
    let first = get_or_read channels 0 c.index-channels-0.result (omega arith) c.index-channels-0.is [] in
    let all : min (4096 * c.loop-part.part) (length bytes) ≡ length bytes = omega arith in
    record { text = c.loop-part.invariant.items ∙ ap (λ (xs : List ℕ). c.args.out.now.items ++ xs) (laced_whole channels c.index-channels-0.result bytes _ c.as_bytes-first.ensures.packed first c.requires.whole_bytes all) }
