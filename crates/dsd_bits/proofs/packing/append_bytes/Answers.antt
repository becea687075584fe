use Rattle.std.proofs.Common.{◌≡◌, ℕ, ◌+◌, ◌<◌, List, length, slice_index, sym, ap, ◌∙◌, arith}
use Rattle.dsd_bits.proofs.ShiftingLemmas.{appended, bytes_from-whole, written_back}
use Rattle.dsd_bits.proofs.packing.append_bytes.Goals as goal

pub returns-then-at-eq0-clause-items : goal.returns-then-at-eq0-clause-items
returns-then-at-eq0-clause-items c =
    let small : (j : ℕ) → slice_index c.args.source.now j < 256 = λ j. omega (arith, c.type_inv.source j) in
    rw (← bytes_from-whole c.args.source.now small c.args.at c.args.size c.if-at-eq0.true c.requires) c.extend_from_slice.ensures.items

pub returns-clause-items : goal.returns-clause-items
returns-clause-items c =
    let old = c.args.bytes.now.items in
    let to = c.shift_into.new.to in
    let resized = c.in_ok-resize.ensures.len in
    let kept : c.len-kept.result ≡ length old = omega (arith, c.len-kept.ensures, c.args.bytes.now.ok.0) in
    let size : length to ≡ c.len-kept.result + c.args.size = c.shift_into.auto.to ∙ c.as_mut_slice.ensures.len ∙ resized in
    written_back to _ _ (size ∙ sym resized)
    ∙ appended old to c.args.source.now c.args.at c.args.size (omega arith)
    (λ j h. c.shift_into.ensures.before j (omega arith) ∙ ap (λ (xs : List ℕ). slice_index xs j) c.as_mut_slice.ensures.value ∙ c.in_ok-resize.ensures.by_index.0 j 0 (omega arith) (omega (arith, c.args.bytes.now.ok.0)))
    (λ j h. ap (λ n. slice_index to (n + j)) (sym kept) ∙ c.shift_into.ensures.after j (omega (arith, c.as_mut_slice.ensures.len)))
