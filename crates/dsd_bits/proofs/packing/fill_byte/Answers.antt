use Rattle.std.proofs.Common.{ℕ, ◌-◌, ◌/◌, ◌<◌, eqb, length, slice_index, ap, ◌∙◌, arith}
use Rattle.std.specs.Int.{bit_at}
use Rattle.std.proofs.lemmas.List.{get_or_read}
use Rattle.dsd_bits.proofs.ShiftingLemmas.{bit_of_byte_from, filled_after, filled_before}
use Rattle.dsd_bits.proofs.packing.fill_byte.Goals as goal

pub returns-then-used-gt0-clause-before : goal.returns-then-used-gt0-clause-before
returns-then-used-gt0-clause-before c = λ i h.
    let bytes = c.args.bytes.now.items in
    let size = c.args.bytes.now.ok.0 in
    let room : c.args.at / 8 < length bytes = omega arith in
    let read = get_or_read bytes (c.args.at / 8) _ room c.index_mut.ensures.value 0 in
    rw read (filled_before bytes c.args.at c.byte_from.result (omega (arith, c.byte_from.ensures)) room i h)

pub returns-then-used-gt0-clause-filled : goal.returns-then-used-gt0-clause-filled
returns-then-used-gt0-clause-filled c = λ i h below.
    let bytes = c.args.bytes.now.items in
    let at = c.args.at in
    let size = c.args.bytes.now.ok.0 in
    let room : at / 8 < length bytes = omega arith in
    let read = get_or_read bytes (at / 8) _ room c.index_mut.ensures.value 0 in
    let small : (j : ℕ) → slice_index c.args.source.now j < 256 = λ j. omega (arith, c.type_inv.source j) in
    let written = filled_after bytes at c.byte_from.result (omega (arith, c.byte_from.ensures)) room i h (omega arith) (c.requires.spare i h below) in
    rw read (written ∙ ap (λ b. eqb (bit_at b (7 - (i - at))) 1) c.byte_from.ensures ∙ bit_of_byte_from c.args.source.now small c.args.from (i - at) (omega arith))
