use Rattle.std.proofs.Common.{◌≡◌, ◌≤◌, ◌∷◌, [], ap, arith, refl, subst}
use Rattle.std.proofs.lemmas.Result.{err_from_is_err_and}
use Rattle.std.proofs.lemmas.List.{length-append}
use Rattle.std.proofs.lemmas.List.Elements.{All-nil, All-push}
use Rattle.master_core.specs.Writing.{AreRooms}
use Rattle.dsd_bits.specs.Rooms.{RoomContent}
use Rattle.master_core.proofs.writing.bit_rooms.Goals as goal

pub returns-in_err-made : goal.returns-in_err-made
returns-in_err-made c = let e = err_from_is_err_and c.from_residual.result c.from_residual.ensures.1 in rw e.1 tt

pub returns-in_err-new : goal.returns-in_err-new
returns-in_err-new c = let e = err_from_is_err_and c.from_residual-in_err-new.result c.from_residual-in_err-new.ensures.1 in rw e.1 tt

pub new-requires : goal.new-requires
new-requires c = c.requires

pub push_reserved-requires : goal.push_reserved-requires
push_reserved-requires c = omega (arith, c.loop-k.invariant.len, c.loop-k.invariant.room, c.loop-k-test.true)

pub loop-k-init : goal.loop-k-init
loop-k-init c = record { rooms = rw c.in_ok-made.ensures.items (record { as_many = refl; large = All-nil _ }); len = c.in_ok-made.ensures.len; room = c.in_ok-made.ensures.capacity }

pub returns : goal.returns
returns c =
    let all : c.loop-k.k ≡ c.args.number = omega (arith, c.loop-k-test.false, c.loop-k.auto.k-end) in
    subst (λ n. AreRooms n c.args.most c.loop-k.made.items) all c.loop-k.invariant.rooms

pub loop-k-preserved : goal.loop-k-preserved
loop-k-preserved c =
    let so_far = c.loop-k.invariant in
    let added = c.push_reserved.ensures in
    record {
      rooms = rw added.items (record {
        as_many = omega (arith, length-append c.loop-k.made.items (c.in_ok-new.field-0 ∷ []), so_far.rooms.as_many);
        large = All-push (λ (room : RoomContent). c.args.most ≤ room.most) c.loop-k.made.items c.in_ok-new.field-0 so_far.rooms.large (omega (arith, ap (λ (room : RoomContent). room.most) c.in_ok-new.ensures));
      });
      len = omega (arith, added.len, so_far.len);
      room = omega (arith, added.capacity, so_far.room);
    }
