use Rattle.std.proofs.Common.{◌≡◌, ◌≤◌, ◌*◌, ◌-◌, ◌++◌, ◌∙◌, IsOk, length, length-drop, take, drop, map, slice_index, subst, ap, arith}
use Rattle.std.proofs.lemmas.Result.{err_from_is_err_and}
use Rattle.std.specs.List.{range_with_len}
use Rattle.dsd_bits.specs.Blocks.{ordered}
use Rattle.dsd_bits.proofs.BlockLemmas.{filled, grown, tail_changed}
use Rattle.dsd_bits.proofs.blocks.push_block.Goals as goal

pub returns-clause-ok : goal.returns-clause-ok
returns-clause-ok c =
    let bytes = c.args.bytes.now in
    let used = c.split_at-2.result.0.now in
    let old = c.args.out.now in
    let block = map (slice_index bytes) (range_with_len (4096 * c.args.group) 4096) in
    let f = filled bytes used (4096 * c.args.group) c.min.result 4096 c.requires (omega (arith, ap length c.split_at.ensures.back, length-drop (4096 * c.args.group) bytes)) (c.split_at-2.ensures.front ∙ ap (take c.min.result) c.split_at.ensures.back) in
    let all = c.extend_from_slice.new.self in
    let size = all.ok.0 in
    let long : length used ≤ 4096 = omega arith in
    let grown_len = c.in_ok-extend_from_slice.ensures.len in
    let resized : c.resize.new.self.items ≡ old.items ++ block =
    c.in_ok-resize.ensures.items ∙ grown old.items used all.items block _ _ (4096 - length used) c.in_ok-extend_from_slice.ensures.items (omega (arith, size, grown_len, c.len-kept.ensures, long)) (omega (arith, grown_len, c.len-kept.ensures, long)) f in
    tail_changed c.resize.new.self.items old.items block _ _ c.put_in_order.new.bytes _ (ordered c.args.order) _ _ resized (omega (arith, c.len-kept.ensures, old.ok.0)) (c.split_at_mut-block.ensures.front ∙ ap (take _) c.as_mut_slice.ensures.value) (c.split_at_mut-block.ensures.back ∙ ap (drop _) c.as_mut_slice.ensures.value) c.put_in_order.ensures (omega (arith, c.resize.new.self.ok.0))

pub returns-in_err-resize : goal.returns-in_err-resize
returns-in_err-resize c =
    let e = err_from_is_err_and c.from_residual-in_err-resize.result c.from_residual-in_err-resize.ensures.1 in
    record {
      ok = rw e.1 tt;
      capacity = omega (arith, c.extend_from_slice.ensures.capacity, c.resize.ensures.capacity);
      succeeds = λ room. rw e.1 (subst IsOk c.in_err-resize.was (c.resize.ensures.succeeds (omega (arith, room, c.len-kept.ensures, c.extend_from_slice.ensures.capacity))));
    }
