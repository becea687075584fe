use Rattle.std.proofs.Common.{Err, ap}
use Rattle.std.proofs.lemmas.Result.{err_from_is_err_and}
use Rattle.master_core.proofs.planning.plan.Goals as goal

pub is_master-requires : goal.is_master-requires
is_master-requires g c = record { bridges = c.in_ok-bridges.ensures.bridges; total = c.in_ok-bridges.ensures.total; ends = c.in_ok-ends.ensures.ok }

pub returns : goal.returns
returns g c = record {
  master = c.is_master.ensures;
  bridges = c.in_ok-bridges.ensures.bridges;
  ends = c.in_ok-ends.ensures.ok;
  room = c.in_ok-room.ensures;
  cert_room = c.in_ok-cert_room.ensures;
  not_whole_bytes = tt;
}

pub returns-in_err-bridges : goal.returns-in_err-bridges
returns-in_err-bridges g c =
    let e = err_from_is_err_and c.from_residual-in_err-bridges.result c.from_residual-in_err-bridges.ensures.1 in
    rw (e.1, e.2) (record { master = tt; bridges = tt; ends = tt; room = tt; cert_room = tt; not_whole_bytes = λ is. absurd cc })

pub returns-in_err-cert_room : goal.returns-in_err-cert_room
returns-in_err-cert_room g c =
    let e = err_from_is_err_and c.from_residual-in_err-cert_room.result c.from_residual-in_err-cert_room.ensures.1 in
    rw (e.1, e.2) (record { master = tt; bridges = tt; ends = tt; room = tt; cert_room = tt; not_whole_bytes = λ is. absurd cc })

pub returns-in_err-room : goal.returns-in_err-room
returns-in_err-room g c =
    let e = err_from_is_err_and c.from_residual-in_err-room.result c.from_residual-in_err-room.ensures.1 in
    rw (e.1, e.2) (record { master = tt; bridges = tt; ends = tt; room = tt; cert_room = tt; not_whole_bytes = λ is. absurd cc })

pub returns-in_err-ends : goal.returns-in_err-ends
returns-in_err-ends g c =
    let e = err_from_is_err_and c.from_residual.result c.from_residual.ensures.1 in
    rw (e.1, e.2) (record { master = tt; bridges = tt; ends = tt; room = tt; cert_room = tt; not_whole_bytes = λ is. c.in_err-ends.ensures.not_whole_bytes (ap Err is) })
