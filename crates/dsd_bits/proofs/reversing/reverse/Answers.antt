use Rattle.std.proofs.Common.{arith}
use Rattle.std.proofs.lemmas.Grind.{elements}
use Rattle.dsd_bits.proofs.ReversingLemmas.{is_reversed}
use Rattle.dsd_bits.proofs.reversing.reverse.Goals as goal

pub returns : goal.returns
returns c = record {
  values = grind (arith, elements);
  bits = record {
    size = c.loop-k.invariant.size;
    at = λ k h. is_reversed _ _ (c.loop-k.invariant.done k (omega (arith, c.loop-k-test.false)));
  };
}
