use Rattle.std.proofs.Common.{sym, arith}
use Rattle.std.proofs.lemmas.List.FromFn.{map-range_with_len_more}
use Rattle.dsd_bits.specs.Lacing.{unlaced}
use Rattle.dsd_bits.proofs.lacing.unlace_bytes.Goals as goal

pub loop-c-preserved : goal.loop-c-preserved
loop-c-preserved c = record {
  items = rw (c.push_reserved.ensures.items, c.loop-c.invariant.items, c.in_ok-unlace_channel.ensures) (sym (map-range_with_len_more (unlaced c.args.bytes.now c.args.channels) 0 c.loop-c.c c.loop-c.c (omega arith)));
  len = omega (arith, c.push_reserved.ensures.len, c.loop-c.invariant.len);
  room = omega (arith, c.push_reserved.ensures.capacity, c.loop-c.invariant.room);
}
