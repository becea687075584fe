use Rattle.std.proofs.Common.{◌*◌, ◌/◌, ◌<◌, length, arith}
use Rattle.std.proofs.lemmas.List.{get_or_read}
use Rattle.dsd_bits.proofs.PackingLemmas.{Holds_true, Holds_false}
use Rattle.dsd_bits.proofs.packing.put_bit.Goals as goal

pub returns-then-bit-clause-put : goal.returns-then-bit-clause-put
returns-then-bit-clause-put c = λ xs e h.
    let bytes = c.args.bytes.now.items in
    let room : c.args.at < 8 * length bytes = omega (arith, c.args.bytes.now.ok.0) in
    let read = get_or_read bytes (c.args.at / 8) _ (omega arith) c.index_mut.ensures.value 0 in
    rw (read, c.if-bit.true) (Holds_true bytes xs c.args.at room e h)

pub returns-else-bit-clause-put : goal.returns-else-bit-clause-put
returns-else-bit-clause-put c = λ xs e h. rw c.if-bit.false (Holds_false c.args.bytes.now.items xs h)
