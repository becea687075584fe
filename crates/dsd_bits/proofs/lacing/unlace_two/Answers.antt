use Rattle.std.proofs.Common.{◌≡◌, ◌+◌, ◌*◌, ◌/◌, ◌++◌, ◌∙◌, min, ℕ, List, length, slice_index, refl, ap, arith}
use Rattle.std.proofs.lemmas.List.FromFn.{length-map-range_with_len}
use Rattle.dsd_bits.specs.Lacing.{picked, unlaced}
use Rattle.dsd_bits.proofs.LacingLemmas.{unlaced_from}
use Rattle.dsd_bits.proofs.PartLemmas.{picked_join}
use Rattle.dsd_bits.proofs.lacing.unlace_two.Goals as goal
use Rattle.dsd_bits.proofs.lacing.unlace_two.Goals.{After-loop-part}

pub loop-part-preserved : goal.loop-part-preserved
loop-part-preserved c =
    let bytes = c.args.bytes.now in
    let part = c.loop-part.part in
    let k = c.min.result in
    let before : min (4096 * part) (length bytes / 2) ≡ 4096 * part = omega arith in
    let after : 4096 * part + k ≡ min (4096 * (part + 1)) (length bytes / 2) = omega arith in
    let joined : (d : ℕ) → picked bytes 2 d 0 (min (4096 * part) (length bytes / 2)) ++ picked bytes 2 d (4096 * part) k ≡ picked bytes 2 d 0 (min (4096 * (part + 1)) (length bytes / 2)) = λ d. ap (λ m. picked bytes 2 d 0 m ++ picked bytes 2 d (4096 * part) k) before ∙ picked_join bytes 2 d (4096 * part) k ∙ ap (picked bytes 2 d 0) after in
    record {
      left = c.in_ok-push_split.ensures.left ∙ ap (λ (xs : List ℕ). xs ++ picked bytes 2 0 (4096 * part) k) c.loop-part.invariant.left ∙ joined 0;
      right = c.in_ok-push_split.ensures.right ∙ ap (λ (xs : List ℕ). xs ++ picked bytes 2 1 (4096 * part) k) c.loop-part.invariant.right ∙ joined 1;
    }

at_end : (c : After-loop-part) → min (4096 * c.loop-part.part) (length c.args.bytes.now / 2) ≡ length c.args.bytes.now / 2
at_end c = omega arith

left : (c : After-loop-part) → c.loop-part.left.items ≡ picked c.args.bytes.now 2 0 0 (length c.args.bytes.now / 2)
left c = c.loop-part.invariant.left ∙ ap (picked c.args.bytes.now 2 0 0) (at_end c)

right : (c : After-loop-part) → c.loop-part.right.items ≡ picked c.args.bytes.now 2 1 0 (length c.args.bytes.now / 2)
right c = c.loop-part.invariant.right ∙ ap (picked c.args.bytes.now 2 1 0) (at_end c)

pub from_whole_bytes-requires : goal.from_whole_bytes-requires
from_whole_bytes-requires c =
    let bytes = c.args.bytes.now in
    let own = left (goal.at.from_whole_bytes-requires c).After-loop-part in
    omega (arith, c.loop-part.left.ok.0, ap length own, length-map-range_with_len (λ frame. slice_index bytes (frame * 2 + 0)) 0 (length bytes / 2), c.requires.in_limit)

pub from_whole_bytes-requires-2 : goal.from_whole_bytes-requires-2
from_whole_bytes-requires-2 c =
    let bytes = c.args.bytes.now in
    let own = right (goal.at.from_whole_bytes-requires-2 c).After-loop-part in
    omega (arith, c.loop-part.right.ok.0, ap length own, length-map-range_with_len (λ frame. slice_index bytes (frame * 2 + 1)) 0 (length bytes / 2), c.requires.in_limit)

pub returns : goal.returns
returns c =
    let bytes = c.args.bytes.now in
    let w = (goal.at.returns c).After-loop-part in
    let first : c.from_whole_bytes.result ≡ unlaced bytes 2 0 = unlaced_from _ bytes _ 2 0 (length bytes / 2) _ (left w) c.loop-part.left.ok.0 refl c.from_whole_bytes.ensures in
    let second : c.from_whole_bytes-2.result ≡ unlaced bytes 2 1 = unlaced_from _ bytes _ 2 1 (length bytes / 2) _ (right w) c.loop-part.right.ok.0 refl c.from_whole_bytes-2.ensures in
    rw (c.push_reserved-2.ensures.items, c.push_reserved.ensures.items, c.in_ok-made.ensures.items, first, second) refl
