use Rattle.std.proofs.Common.{◌≡◌, ◌-◌, ◌<◌, length, refl, subst, ◌∙◌, arith}
use Rattle.dsd_bits.specs.Rooms.{rooms_bits}
use Rattle.dsd_bits.proofs.RoomLemmas.{length-rooms_bits}
use Rattle.cut_core.specs.Cuts.{take_channels}
use Rattle.master_core.proofs.WritingLaws.{ArePartsUpTo, most_at, most_kept, no_parts, parts_all, parts_more, same_long}
use Rattle.master_core.proofs.writing.fill_rooms.Goals as goal
use Rattle.master_core.proofs.writing.fill_rooms.Goals.{In-loop-channel}

pub loop-channel-init : goal.loop-channel-init
loop-channel-init c = record { parts = no_parts c.args.source.now.cut.now c.args.range (rooms_bits c.args.rooms.now.items); most = refl }

-- there is a room
there : (c : In-loop-channel) → c.loop-channel.channel < length c.loop-channel.rooms.items
there c = omega (arith, same_long c.args.rooms.now.items c.loop-channel.rooms.items c.loop-channel.invariant.most, c.loop-channel-test.true, c.len-channel-end.ensures, c.args.rooms.now.ok.0)

pub fill_room-requires-clause-in_room : goal.fill_room-requires-clause-in_room
fill_room-requires-clause-in_room c =
    most_at c.args.rooms.now.items c.loop-channel.rooms.items c.loop-channel.channel c.index_mut.result.now (c.args.range.stop - c.args.range.start) c.loop-channel.invariant.most (there (goal.at.fill_room-requires-clause-in_room c).In-loop-channel) c.index_mut.ensures.value c.requires.fits

pub loop-channel-preserved : goal.loop-channel-preserved
loop-channel-preserved c =
    let lt = there (goal.at.loop-channel-preserved c).In-loop-channel in
    let rooms = c.loop-channel.rooms.items in
    let i = c.loop-channel.channel in
    record {
      parts = parts_more c.args.source.now.cut.now c.args.range i rooms c.fill_room.new.room lt c.loop-channel.invariant.parts c.fill_room.ensures.part;
      most = most_kept rooms i c.fill_room.new.room c.index_mut.result.now lt c.index_mut.ensures.value c.fill_room.ensures.most ∙ c.loop-channel.invariant.most;
    }

pub returns-clause-parts : goal.returns-clause-parts
returns-clause-parts c =
    let cut = c.args.source.now.cut.now in
    let parts = rooms_bits c.loop-channel.rooms.items in
    let many : length c.loop-channel.rooms.items ≡ take_channels cut = same_long c.args.rooms.now.items c.loop-channel.rooms.items c.loop-channel.invariant.most ∙ c.requires.number in
    let all : c.loop-channel.channel ≡ take_channels cut = omega (arith, c.loop-channel-test.false, c.len-channel-end.ensures, c.args.rooms.now.ok.0, c.loop-channel.auto.channel-end, c.requires.number) in
    parts_all cut c.args.range parts (length-rooms_bits c.loop-channel.rooms.items ∙ many) (subst (λ n. ArePartsUpTo cut c.args.range n parts) all c.loop-channel.invariant.parts)
