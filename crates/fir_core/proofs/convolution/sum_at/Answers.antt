use Rattle.std.proofs.Common.{◌∙◌, ap, sym, w32}
use Rattle.std.proofs.lemmas.Int.{to_z-of_z}
use Rattle.dsd_bits.specs.Packing.{unpacked}
use Rattle.fir_core.specs.Convolution.{conv}
use Rattle.fir_core.proofs.convolution.sum_at.Goals as goal

pub returns : goal.returns
returns c = record {
  value = let bits = ap (unpacked c.as_bytes.result.now) c.len.ensures.value ∙ sym c.as_bytes.ensures.bits in
      to_z-of_z w32 c.sum_over.result (record { sfits = c.sum_over.type_inv })
      ∙ c.sum_over.ensures.value
      ∙ ap (λ bs. conv c.args.taps.now.taps bs c.args.place) bits;
  bound = rw (to_z-of_z w32 c.sum_over.result (record { sfits = c.sum_over.type_inv })) c.sum_over.ensures.bound;
}
