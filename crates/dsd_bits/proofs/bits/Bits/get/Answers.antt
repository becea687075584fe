use Rattle.std.proofs.Common.{◌/◌, ◌%◌, ◌-◌, ℕ, eqb, length, refl, sym, ap, ◌∙◌, arith}
use Rattle.std.proofs.lemmas.Nat.Bits.{shr_and_one}
use Rattle.std.proofs.lemmas.List.{get_or_read_under}
use Rattle.std.specs.Int.{bit_at}
use Rattle.dsd_bits.proofs.PackingLemmas.{length-unpacked, get_or-unpacked}
use Rattle.dsd_bits.proofs.bits.Bits.get.Goals as goal

pub index-requires : goal.index-requires
index-requires c = omega (arith, length-unpacked c.self.inside.bytes.items c.self.inside.count, ap length c.self.view_is, c.self.inside.bytes.ok.0)

pub returns : goal.returns
returns c =
    let bytes = c.self.inside.bytes.items in
    let i = c.args.i in
    let m = length-unpacked bytes c.self.inside.count in
    let e = ap length c.self.view_is in
    let in_list = c.requires in
    let read = get_or_read_under bytes (i / 8) (length bytes) c.index.result.now 0 c.index.ensures (omega (arith, c.self.invariant.enough)) refl in
    rw (← c.self.view_is) (ap (λ (x : ℕ). eqb x 1) (shr_and_one c.index.result.now (7 - i % 8) ∙ ap (λ b. bit_at b (7 - i % 8)) read) ∙ sym (get_or-unpacked bytes c.self.inside.count i (omega arith)))
