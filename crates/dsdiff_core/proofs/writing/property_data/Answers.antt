use Rattle.std.proofs.Common.{arith}
use Rattle.dsdiff_core.proofs.WritingLemmas.{property_is}
use Rattle.dsdiff_core.proofs.writing.property_data.Goals as goal

pub returns : goal.returns
returns c =
    property_is c.args.recording.now c.deref.result.now c.deref-2.result.now
    c.extend_from_slice.new.self.items c.push_chunk.new.out.items c.push_chunk-2.new.out.items c.push_chunk-3.new.out.items c.push_others.new.out.items
    (grind arith) (grind arith) (grind arith) c.in_ok-push_chunk.ensures.ok c.in_ok-push_chunk-2.ensures.ok c.in_ok-push_chunk-3.ensures.ok (grind arith)
