use Rattle.std.proofs.Common.{◌≡◌, ◌+◌, ◌*◌, ◌-◌, ◌^◌, ◌≤◌, ap, ◌∙◌, get_or, length, map, sym, take, arith, rules}
use Rattle.std.proofs.lemmas.Nat.{mul-le}
use Rattle.std.proofs.lemmas.List.{take_all}
use Rattle.std.specs.List.{flat_map}
use Rattle.std.specs.Int.{bytes_high_first, w64, to_be_bytes}
use Rattle.cert_core.proofs.Bytes.{high_moved}
use Rattle.cert_core.proofs.Narrow.{narrow_more}
use Rattle.cert_core.proofs.spelling.put_some.Goals as goal
use Rattle.cert_core.proofs.spelling.put_some.Goals.{After-to_be_bytes-bytes}

pub loop-place-preserved : goal.loop-place-preserved
loop-place-preserved c =
    let w = c.args.width in
    let i = c.loop-place.place in
    let e = get_or c.args.row.now i 0 - c.args.least in
    let low : c.copy_from_slice.new.self ≡ to_be_bytes w64 (e * 2 ^ (64 - 8 * w)) = c.copy_from_slice.ensures.after ∙ c.to_be_bytes-bytes.ensures ∙ ap (to_be_bytes w64) (high_moved w e c.requires.few (c.requires.fits i (omega arith))) in
    (narrow_more w i _ c.args.least c.args.row.now c.loop-place.buffer c.copy_from_slice.new.self c.requires.few c.loop-place.invariant.0 low (omega arith) (search (arith, rules)), search (arith, rules))

-- the eight bytes from a number's place on are in the buffer
in_buffer : (c : After-to_be_bytes-bytes) → c.args.width * c.loop-place.place + 8 ≤ length c.loop-place.buffer
in_buffer c = omega (arith, mul-le c.args.width c.loop-place.place c.args.width (length c.args.row.now) (omega arith) (omega arith), c.requires.room, c.loop-place.invariant.1)

pub overflow_sub-row : goal.overflow_sub-row
overflow_sub-row c = c.requires.below c.loop-place.place (omega arith)

pub overflow_shl-row : goal.overflow_shl-row
overflow_shl-row c = omega (arith, c.requires.some)

pub overflow_mul-spare : goal.overflow_mul-spare
overflow_mul-spare c = omega (arith, c.requires.few)

pub overflow_sub-spare : goal.overflow_sub-spare
overflow_sub-spare c = omega (arith, c.requires.few)

pub overflow_mul-width : goal.overflow_mul-width
overflow_mul-width c = omega (arith, in_buffer (goal.at.overflow_mul-width c).After-to_be_bytes-bytes)

pub overflow_add-width : goal.overflow_add-width
overflow_add-width c = omega (arith, in_buffer (goal.at.overflow_add-width c).After-to_be_bytes-bytes)

pub overflow_mul-width-in-loop-place : goal.overflow_mul-width-in-loop-place
overflow_mul-width-in-loop-place c = omega (arith, in_buffer (goal.at.overflow_mul-width-in-loop-place c).After-to_be_bytes-bytes)

pub slice_bounds-copy_from_slice-end : goal.slice_bounds-copy_from_slice-end
slice_bounds-copy_from_slice-end c = omega (arith, in_buffer (goal.at.slice_bounds-copy_from_slice-end c).After-to_be_bytes-bytes)

pub slice_bounds-copy_from_slice-count : goal.slice_bounds-copy_from_slice-count
slice_bounds-copy_from_slice-count c = omega arith

pub returns-clause-text : goal.returns-clause-text
returns-clause-text c =
    let w = c.args.width in
    let row = c.args.row.now in
    let all : c.loop-place.place ≡ length row = omega (arith, c.loop-place-test.false, c.loop-place.auto.place-end) in
    ap (λ n. take (w * n) c.loop-place.buffer) (sym all) ∙ c.loop-place.invariant.0 ∙ ap (λ l. flat_map (bytes_high_first w) (map (λ v. v - c.args.least) l)) (take_all c.loop-place.place row (omega (arith, all)))
