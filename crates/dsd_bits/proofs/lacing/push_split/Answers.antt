use Rattle.std.proofs.Common.{◌+◌, ◌++◌, ◌∙◌, take, ap, arith, length-append}
use Rattle.std.proofs.Math.Nat.{le-add_right}
use Rattle.dsd_bits.specs.Lacing.{picked}
use Rattle.dsd_bits.proofs.ShiftingLemmas.{written_after}
use Rattle.dsd_bits.proofs.lacing.push_split.Goals as goal

pub returns : goal.returns
returns c = record {
  left = let prefix = c.split_at_mut-to_left.result.0.now in
      let new = c.split_two.new.left in
      written_after c.args.left.now.items _ c.resize.new.self.items prefix new _ c.len-kept.result (c.len-kept.result + c.args.frames) c.resize.new.self.len
      (c.len-kept.ensures ∙ c.args.left.now.ok.0) (le-add_right _ _) c.in_ok-resize.ensures.items (c.split_at_mut-to_left.ensures.front ∙ ap (take c.len-kept.result) c.as_mut_slice.ensures.value)
      (omega (arith, length-append prefix new))
      ∙ ap (λ xs. c.args.left.now.items ++ xs) (c.split_two.ensures.left ∙ ap (picked c.args.bytes.now 2 0 c.args.from) (omega (arith, c.in_ok-resize.ensures.len)));
  right = let prefix = c.split_at_mut-to_right.result.0.now in
      let new = c.split_two.new.right in
      written_after c.args.right.now.items _ c.resize-2.new.self.items prefix new _ c.len-kept-2.result (c.len-kept-2.result + c.args.frames) c.resize-2.new.self.len
      (c.len-kept-2.ensures ∙ c.args.right.now.ok.0) (le-add_right _ _) c.in_ok-resize-2.ensures.items (c.split_at_mut-to_right.ensures.front ∙ ap (take c.len-kept-2.result) c.as_mut_slice-2.ensures.value)
      (omega (arith, length-append prefix new))
      ∙ ap (λ xs. c.args.right.now.items ++ xs) (c.split_two.ensures.right ∙ ap (picked c.args.bytes.now 2 1 c.args.from) (omega (arith, c.in_ok-resize.ensures.len)));
}
