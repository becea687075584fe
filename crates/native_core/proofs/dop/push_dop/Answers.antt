use Rattle.std.proofs.Common.{◌≡◌, ◌+◌, ◌*◌, ◌/◌, ◌++◌, ◌∙◌, length, take, ap, ap₂, arith, length-append}
use Rattle.dsd_bits.proofs.ShiftingLemmas.{written_after}
use Rattle.native_core.proofs.dop.push_dop.Goals as goal

pub returns : goal.returns
returns c =
    let prefix = c.split_at_mut-samples.result.0.now in
    let new = c.fill.new.to in
    let same : c.reserve.new.self.items ≡ c.args.out.now.items = c.reserve.ensures.items in
    written_after c.reserve.new.self.items _ c.resize.new.self.items prefix new _ c.len-kept.result (c.len-kept.result + length c.args.bytes.now / 2 * 3) c.resize.new.self.len
    (omega (arith, ap length same)) (omega arith) c.in_ok-resize.ensures.items (c.split_at_mut-samples.ensures.front ∙ ap (take c.len-kept.result) c.as_mut_slice.ensures.value)
    (omega (arith, length-append prefix new))
    ∙ ap₂ (λ xs ys. xs ++ ys) same c.fill.ensures
