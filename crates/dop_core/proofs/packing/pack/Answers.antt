use Rattle.std.proofs.Common.{◌≡◌, ◌+◌, ◌*◌, ◌/◌, ◌≤◌, take, length, slice_index, ap, ◌∙◌, arith}
use Rattle.std.proofs.lemmas.List.{length-take-le}
use Rattle.std.proofs.lemmas.Nat.{mul-le}
use Rattle.std.proofs.Math.Nat.{add-mul}
use Rattle.dsd_bits.proofs.ShiftingLemmas.{written_back}
use Rattle.dop_core.proofs.BitLaws.{packed_are, row_taken}
use Rattle.dop_core.proofs.packing.pack.Goals as goal
use Rattle.dop_core.proofs.packing.pack.Goals.{After-truncate}

-- what is left is the first bytes that were written
taken : (c : After-truncate) → c.truncate.new.self.items ≡ take (c.args.count / 8 * c.args.channels) c.loop-c.to
taken c =
    let size : length c.loop-c.to ≡ c.resize.new.self.len = omega (arith, c.loop-c.invariant.room, c.in_ok-resize.ensures.len) in
    c.truncate.ensures.items ∙ ap (take (c.args.count / 8 * c.args.channels)) (written_back c.loop-c.to _ c.resize.new.self.len size)

fits : (c : After-truncate) → c.args.count / 8 * c.args.channels ≤ length c.loop-c.to
fits c =
    let frames = c.div_ceil-frames.result in
    let n = c.args.channels in
    let rows : c.args.count / 8 * n ≤ (frames + frames) * n = mul-le (c.args.count / 8) n (frames + frames) n (omega (arith, c.div_ceil-frames.ensures)) (omega arith) in
    omega (arith, rows, add-mul frames frames n, c.loop-c.invariant.room)

pub returns-clause-long : goal.returns-clause-long
returns-clause-long c = let at = (goal.at.returns-clause-long c).After-truncate in ap length (taken at) ∙ length-take-le (c.args.count / 8 * c.args.channels) c.loop-c.to (fits at)

pub returns-clause-bits : goal.returns-clause-bits
returns-clause-bits c =
    let at = (goal.at.returns-clause-bits c).After-truncate in
    let n = c.args.channels in
    let frames = c.div_ceil-frames.result in
    let long = ap length (taken at) ∙ length-take-le (c.args.count / 8 * n) c.loop-c.to (fits at) in
    packed_are n c.args.piece.now c.truncate.new.self.items c.args.count c.requires.some c.requires.whole long (λ p d row low.
    ap (λ xs. slice_index xs (p * n + d)) (taken at) ∙ row_taken c.loop-c.to n (c.args.count / 8) p d row low ∙ c.loop-c.invariant.done p d (omega (arith, row, c.div_ceil-frames.ensures)) (omega (arith, low, c.loop-c-test.false)))
