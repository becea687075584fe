use Rattle.std.proofs.Common.{◌<◌, get_or, rules}
use Rattle.dsd_bits.proofs.PackingLemmas.{at_own_length, packed-unpacked}
use Rattle.dsd_bits.proofs.bits.Bits.as_bytes.Goals as goal

pub returns : goal.returns
returns c = record {
  packed = rw (← c.self.view_is, c.as_slice-bytes.ensures.value) (packed-unpacked _ _ c.self.invariant (λ j. let small : get_or c.as_slice-bytes.result.now j 0 < 256 = search rules in rw (← c.as_slice-bytes.ensures.value) small));
  bits = rw (← c.self.view_is, c.as_slice-bytes.ensures.value) (at_own_length _ _ c.self.invariant).0;
  tight = rw (← c.self.view_is, c.as_slice-bytes.ensures.value) (at_own_length _ _ c.self.invariant).1;
}
