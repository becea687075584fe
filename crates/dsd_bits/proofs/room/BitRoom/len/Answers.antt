use Rattle.std.proofs.Common.{length, sym, ap, ◌∙◌, arith}
use Rattle.dsd_bits.specs.Rooms.{RoomContent}
use Rattle.dsd_bits.proofs.PackingLemmas.{length-unpacked}
use Rattle.dsd_bits.proofs.room.BitRoom.len.Goals as goal

pub returns : goal.returns
returns c =
    let n = ap (λ (r : RoomContent). length r.bits) (sym c.self.view_is) ∙ length-unpacked c.self.inside.bytes.items c.self.inside.count in
    record { value = sym n; in_limit = omega (arith, c.self.invariant.tight.in_limit) }
