use Rattle.std.proofs.Common.{ℕ, ◌++◌, Bool, List, length, slice_range, ap, ap₂, ◌∙◌, arith}
use Rattle.dsd_bits.specs.Rooms.{RoomContent}
use Rattle.dsd_bits.proofs.PackingLemmas.{length-unpacked}
use Rattle.dsd_bits.proofs.room.BitRoom.push_range.Goals as goal

pub append_held-requires-clause-in_limit : goal.append_held-requires-clause-in_limit
append_held-requires-clause-in_limit c =
    omega (arith, c.requires.in_room, c.self.invariant.in_limit, ap (λ (r : RoomContent). length r.bits) c.self.view_is, ap (λ (r : RoomContent). r.most) c.self.view_is, length-unpacked c.self.inside.bytes.items c.self.inside.count)

pub append_held-requires-clause-held : goal.append_held-requires-clause-held
append_held-requires-clause-held c =
    omega (arith, c.requires.in_room, c.self.invariant.held, ap (λ (r : RoomContent). length r.bits) c.self.view_is, ap (λ (r : RoomContent). r.most) c.self.view_is, length-unpacked c.self.inside.bytes.items c.self.inside.count)

pub returns : goal.returns
returns c =
    let make : List Bool → ℕ → RoomContent = λ bits most. record { bits = bits; most = most } in
    ap₂ make (c.append_held.ensures.appended ∙ ap (λ (r : RoomContent). r.bits ++ slice_range c.args.source.now c.args.start c.args.stop) c.self.view_is) (ap (λ (r : RoomContent). r.most) c.self.view_is)
