use Rattle.std.proofs.Common.{◌+◌, ◌*◌, ◌≤◌, arith, length}
use Rattle.std.proofs.lemmas.Nat.{mul-le}
use Rattle.dop_core.proofs.PackLaws.{others_on, own_on, size_on}
use Rattle.dop_core.proofs.packing.pack_channel.Goals as goal

pub loop-j-preserved : goal.loop-j-preserved
loop-j-preserved c =
    let inv = c.loop-j.invariant in
    let n = c.args.channels in
    let row : (c.loop-j.j + 1) * n ≤ c.args.frames * n = mul-le (c.loop-j.j + 1) n c.args.frames n (omega (arith, c.loop-j-test.true)) (omega arith) in
    let room : 2 * ((c.loop-j.j + 1) * n) ≤ length c.loop-j.to = omega (arith, row, inv.size, c.requires.room) in
    record {
      size = size_on c.loop-j.to _ _ _ _ inv.size;
      own = own_on n c.args.c c.requires.channel c.loop-j.to c.loop-j.j room c.args.piece.now inv.own;
      others = others_on n c.args.c c.requires.channel c.loop-j.to c.loop-j.j room c.args.piece.now c.args.to.now inv.others;
    }
