use Rattle.std.proofs.Common.{ℕ, ◌<◌, get_or, ◌∙◌, ap, rules}
use Rattle.dsd_bits.specs.Packing.{packed}
use Rattle.dsd_bits.specs.Rooms.{RoomContent}
use Rattle.dsd_bits.proofs.PackingLemmas.{packed-unpacked}
use Rattle.dsd_bits.proofs.room.BitRoom.as_bytes.Goals as goal

pub returns : goal.returns
returns c =
    let x = c.self.inside in
    let small : (j : ℕ) → get_or x.bytes.items j 0 < 256 = λ j. (let here : get_or c.as_slice-bytes.result.now j 0 < 256 = search rules in rw (← c.as_slice-bytes.ensures.value) here) in
    c.as_slice-bytes.ensures.value ∙ packed-unpacked x.bytes.items x.count c.self.invariant.tight small ∙ ap (λ (r : RoomContent). packed r.bits) c.self.view_is
