use Rattle.std.proofs.Common.{◌≡◌, ◌≤◌, ◌+◌, [], ◌∷◌, ◌++◌, length, ◌∙◌, sym, ap, arith}
use Rattle.std.proofs.lemmas.List.{length_push}
use Rattle.dsd_bits.specs.Packing.{Holds}
use Rattle.dsd_bits.proofs.PackingLemmas.{Holds_resized, unpacked_is, IsTight-from_holds, length-unpacked}
use Rattle.dsd_bits.proofs.bits.Bits.push_bit.Goals as goal
use Rattle.dsd_bits.proofs.bits.Bits.push_bit.Goals.{After-put_bit}

old_length : (c : After-put_bit) → length c.args.self.now ≡ c.self.inside.count
old_length c = ap length (sym c.self.view_is) ∙ length-unpacked c.self.inside.bytes.items c.self.inside.count

holds : (c : After-put_bit) → Holds c.put_bit.new.bytes.items (c.args.self.now ++ c.args.bit ∷ [])
holds c =
    let bytes = c.self.inside.bytes in
    let grows : length bytes.items ≤ c.div_ceil.result = omega (arith, c.self.invariant.no_more) in
    c.put_bit.ensures.put c.args.self.now (old_length c)
    (rw (c.in_ok-resize.ensures.items, bytes.ok.0) (Holds_resized bytes.items c.self.inside.count c.div_ceil.result c.args.self.now c.self.invariant c.self.view_is grows))

new_length : (c : After-put_bit) → length (c.args.self.now ++ c.args.bit ∷ []) ≡ c.self.inside.count + 1
new_length c = length_push c.args.self.now c.args.bit ∙ ap (λ n. n + 1) (old_length c)

pub invariant_of-self-2 : goal.invariant_of-self-2
invariant_of-self-2 c =
    let p = (goal.at.invariant_of-self-2 c).After-put_bit in
    let size = c.put_bit.new.bytes.ok.0 in
    let resized = c.in_ok-resize.ensures.len in
    IsTight-from_holds _ _ _ (holds p) (new_length p) (omega arith) (omega arith) (omega (arith, old_length p))

pub returns-clause-ok : goal.returns-clause-ok
returns-clause-ok c =
    let p = (goal.at.returns-clause-ok c).After-put_bit in
    unpacked_is _ _ _ (holds p) (new_length p)
