use Rattle.std.proofs.Common.{◌+◌, ◌-◌, ◌/◌, ◌∙◌, ap, arith, length, take, drop, length-drop, sym, w32}
use Rattle.std.proofs.lemmas.Int.{to_z-of_z}
use Rattle.std.proofs.lemmas.List.{take_rest}
use Rattle.dsd_bits.specs.Packing.{unpacked}
use Rattle.fir_core.specs.Signed.{dot, bits_of}
use Rattle.fir_core.proofs.Dot.{dot_bound}
use Rattle.fir_core.proofs.TileLaws.{conv_at}
use Rattle.fir_core.proofs.WindowLaws.{length-aligned}
use Rattle.fir_core.proofs.lanes.sum_at_by_lanes.Goals as goal

pub returns : goal.returns
returns c =
    let bytes = c.as_bytes.result.now in
    let at = c.args.n / 8 + 1 - length c.args.reversed.reversed.now / 8 in
    record {
      value = let h = c.args.reversed.taps.now.taps in
          let packed = c.as_bytes.ensures.bits ∙ ap (unpacked bytes) (sym c.len.ensures.value) in
          to_z-of_z w32 c.dot_by_lanes.result (record { sfits = c.dot_by_lanes.type_inv })
          ∙ c.dot_by_lanes.ensures
          ∙ ap (λ bs. dot c.args.reversed.reversed.now (bits_of bs)) (take_rest bytes at)
          ∙ sym (conv_at h c.args.reversed.reversed.now c.args.bits.now bytes c.len.result c.args.n c.args.reversed.taps.now.delay c.args.reversed.are c.requires.phase packed (omega (arith, c.if-n-size.false)) c.if-len-n.false (omega (arith, c.as_bytes.ensures.tight.enough, c.len.ensures.value)));
      bound = rw (to_z-of_z w32 c.dot_by_lanes.result (record { sfits = c.dot_by_lanes.type_inv }), c.dot_by_lanes.ensures)
          (omega (arith, dot_bound c.args.reversed.reversed.now (bits_of (take (length bytes - at) (drop at bytes))), c.args.reversed.small));
    }

pub dot_by_lanes-requires-clause-enough : goal.dot_by_lanes-requires-clause-enough
dot_by_lanes-requires-clause-enough c =
    let at = c.args.n / 8 + 1 - length c.args.reversed.reversed.now / 8 in
    let size = ap length c.args.reversed.are ∙ length-aligned c.args.reversed.taps.now.taps c.args.reversed.taps.now.delay in
    rw (take_rest c.as_bytes.result.now at) (omega (arith, size, length-drop at c.as_bytes.result.now, c.as_bytes.ensures.tight.enough, c.len.ensures.value))
