use Rattle.std.proofs.Common.{◌≡◌, ◌+ℤ◌, ap, arith, sym, ◌∙◌, subst, get_or, [], w32, unsigned_abs, sum_by, ◌^◌, ◌≤◌, length, ◌/◌, ◌*◌, to_z, of_z}
use Rattle.std.specs.Simd.Lanes.{zip2, Each1, fold_l}
use Rattle.std.proofs.lemmas.Int.{to_z-of_z, fits_signed_from_abs}
use mir.Val.{SFits}
use Rattle.fir_core.specs.Signed.{dot, bits_of, bits_of_byte, signed}
use Rattle.fir_core.proofs.LaneLaws.{chunk_small, chunk_step, ends}
use Rattle.fir_core.proofs.Dot.{abs_sum_split, dot_bound}
use Rattle.fir_core.proofs.LaneSums.{wrap_add}
use Rattle.fir_core.proofs.lanes.dot_by_lanes.Goals as goal

pub signed_taps-lanes-requires : goal.signed_taps-lanes-requires
signed_taps-lanes-requires c =
    let hs = c.args.taps.now in
    subst (λ ws. Each1 (λ h. unsigned_abs h ≤ 2 ^ 30) (get_or ws c.loop-i.i [])) (sym c.as_chunks.ensures.front)
    (chunk_small hs c.loop-i.i (omega arith) c.requires.small)

pub loop-i-preserved : goal.loop-i-preserved
loop-i-preserved c =
    let inv = c.loop-i.invariant in
    chunk_step c.args.taps.now c.args.bytes.now c.loop-i.lanes c.loop-i.i c.signed_taps-lanes.result inv.sized inv.fit inv.right (omega arith) c.requires.enough c.requires.small
    (c.signed_taps-lanes.ensures ∙ ap (λ ws. zip2 signed (bits_of_byte (get_or c.args.bytes.now c.loop-i.i 0)) (get_or ws c.loop-i.i [])) c.as_chunks.ensures.front)

pub dot_plain-requires-clause-small : goal.dot_plain-requires-clause-small
dot_plain-requires-clause-small c =
    let hs = c.args.taps.now in
    omega (arith, ap (sum_by unsigned_abs) c.as_chunks.ensures.back, abs_sum_split (length hs / 8 * 8) hs, c.requires.small)

total : (c : goal.After-dot_plain) → dot c.args.taps.now (bits_of c.args.bytes.now) ≡ to_z w32 (fold_l wrap_add 0 c.loop-i.lanes) +ℤ to_z w32 (of_z w32 c.dot_plain.result)
total c =
    let r = c.dot_plain.result in
    let fits : SFits w32 r = record { sfits = c.dot_plain.type_inv } in
    ends c.args.taps.now c.as_chunks.result.1.now c.args.bytes.now c.loop-i.lanes (length c.as_chunks.result.0.now) c.loop-i.i (to_z w32 (of_z w32 r))
    c.loop-i.invariant.fit c.loop-i.invariant.right c.loop-i-test.false c.loop-i.auto.i-end c.as_chunks.ensures.front_len c.as_chunks.ensures.back c.requires.small
    (to_z-of_z w32 r fits ∙ c.dot_plain.ensures)

total_fits : (c : goal.After-dot_plain) → SFits w32 (to_z w32 (fold_l wrap_add 0 c.loop-i.lanes) +ℤ to_z w32 (of_z w32 c.dot_plain.result))
total_fits c = subst (SFits w32) (total c) (fits_signed_from_abs w32 _ (omega (arith, dot_bound c.args.taps.now (bits_of c.args.bytes.now), c.requires.small)))

pub overflow_add-result : goal.overflow_add-result
overflow_add-result c = total_fits c

pub returns : goal.returns
returns c = to_z-of_z w32 _ (total_fits c) ∙ sym (total c)
