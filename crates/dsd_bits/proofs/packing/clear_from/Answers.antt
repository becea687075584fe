use Rattle.std.proofs.Common.{◌<◌, ◌/◌, slice_index, rules, arith}
use Rattle.std.proofs.lemmas.List.{get_or_read}
use Rattle.dsd_bits.proofs.PackingLemmas.{Holds_cleared, Holds_whole}
use Rattle.dsd_bits.proofs.packing.clear_from.Goals as goal

pub returns-then-used-gt0-clause-holds : goal.returns-then-used-gt0-clause-holds
returns-then-used-gt0-clause-holds c =
    let bytes = c.args.bytes.now.items in
    let size = c.args.bytes.now.ok.0 in
    let read = get_or_read bytes (c.args.from / 8) _ (omega arith) c.index_mut.ensures.value 0 in
    let small : slice_index bytes (c.args.from / 8) < 256 = search rules in
    rw read (Holds_cleared bytes c.args.from small (omega arith) (omega arith) (omega arith))

pub returns-else-used-gt0-clause-holds : goal.returns-else-used-gt0-clause-holds
returns-else-used-gt0-clause-holds c = Holds_whole c.args.bytes.now.items c.args.from (omega (arith, c.args.bytes.now.ok.0))
