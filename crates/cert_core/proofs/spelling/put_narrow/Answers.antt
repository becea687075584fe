use Rattle.std.proofs.Common.{ap, length-take, length-set, ◌≡◌, ℕ, List, set, ◌*◌, ◌-◌, ◌^◌, ◌<◌, ◌≤◌, ◌∙◌, length, take, sym, subst, arith, rules}
use borrow.Rule.Slice.PartMut.{put_mid, same_len_mid}
use Rattle.std.proofs.lemmas.Nat.{mul-le}
use Rattle.cert_core.specs.Spelling.{byte_width}
use Rattle.cert_core.proofs.Narrow.{narrow_is, narrow_text}
use Rattle.cert_core.proofs.Raised.{peak_high, width_fits}
use Rattle.cert_core.proofs.spelling.put_narrow.Goals as goal
use Rattle.cert_core.proofs.spelling.put_narrow.Goals.{After-width_of-width}

pub put_excesses-requires-clause-fits : goal.put_excesses-requires-clause-fits
put_excesses-requires-clause-fits c = λ q h.
    let greatest = c.bounds_of-least.result.1 in
    let least = c.bounds_of-least.result.0 in
    let fits : greatest - least < 256 ^ byte_width (greatest - least) = (width_fits (greatest - least) (omega arith)).0 in
    let fits2 : greatest - least < 256 ^ c.width_of-width.result = subst (λ w. greatest - least < 256 ^ w) (sym c.width_of-width.ensures.width) fits in
    omega (arith, fits2, peak_high c.args.row.now q h, c.bounds_of-least.ensures.greatest)

pub returns-clause-text : goal.returns-clause-text
returns-clause-text c =
    let count = c.width_of-width.result * length c.args.row.now in
    let prefix = c.copy_from_slice.new.self in
    let ys = take count c.put_excesses.new.buffer in
    let eight : length prefix ≡ 8 = search (arith, rules) in
    narrow_is prefix _ c.put_excesses.new.buffer c.width_of-width.result _ count eight (search (arith, rules)) (search (arith, rules))
    ∙ narrow_text c.args.row.now prefix ys c.bounds_of-least.result.0 c.bounds_of-least.result.1 c.width_of-width.result c.bounds_of-least.ensures.least c.bounds_of-least.ensures.greatest (c.copy_from_slice.ensures.after ∙ c.to_be_bytes.ensures) c.width_of-width.ensures.width c.put_excesses.ensures.text

-- a row has at most eight bytes for each excess
few_bytes : (c : After-width_of-width) → c.width_of-width.result * length c.args.row.now ≤ 8 * length c.args.row.now
few_bytes c = mul-le c.width_of-width.result (length c.args.row.now) 8 (length c.args.row.now) c.width_of-width.ensures.few (omega arith)

pub overflow_mul-count : goal.overflow_mul-count
overflow_mul-count c = record { fits = omega (arith, few_bytes (goal.at.overflow_mul-count c).After-width_of-width, c.requires.room) }

pub overflow_add-count : goal.overflow_add-count
overflow_add-count c = record { fits = omega (arith, few_bytes (goal.at.overflow_add-count c).After-width_of-width, c.requires.room) }

pub overflow_add-result : goal.overflow_add-result
overflow_add-result c = record { fits = omega (arith, few_bytes (goal.at.overflow_add-result c).After-width_of-width, c.requires.room) }

pub copy_from_slice-requires : goal.copy_from_slice-requires
copy_from_slice-requires c = omega (arith, length-take 8 c.args.buffer.now, c.requires.room, ap length c.to_be_bytes.ensures)

pub put_excesses-requires-clause-few : goal.put_excesses-requires-clause-few
put_excesses-requires-clause-few c = c.width_of-width.ensures.few

pub put_excesses-requires-clause-below : goal.put_excesses-requires-clause-below
put_excesses-requires-clause-below c = c.bounds_of-least.ensures.below

pub overflow_cast-buffer : goal.overflow_cast-buffer
overflow_cast-buffer c = omega (arith, c.width_of-width.ensures.few)

-- the buffer stays as long as it is
as_long : (buffer prefix : List ℕ) (w : ℕ) → length prefix ≡ length (take 8 buffer) → length (set (put_mid 0 8 buffer prefix) 8 w) ≡ length buffer
as_long buffer prefix w e = length-set (put_mid 0 8 buffer prefix) 8 w ∙ same_len_mid 0 8 buffer prefix e

pub slice_bounds-put_excesses-end : goal.slice_bounds-put_excesses-end
slice_bounds-put_excesses-end c = omega (arith, few_bytes (goal.at.slice_bounds-put_excesses-end c).After-width_of-width, c.requires.room, as_long c.args.buffer.now c.copy_from_slice.new.self c.width_of-width.result c.copy_from_slice.ensures.len)

pub returns-clause-room : goal.returns-clause-room
returns-clause-room c = same_len_mid 9 _ _ c.put_excesses.new.buffer c.put_excesses.ensures.room ∙ as_long c.args.buffer.now c.copy_from_slice.new.self c.width_of-width.result c.copy_from_slice.ensures.len

pub returns-clause-count : goal.returns-clause-count
returns-clause-count c =
    let long = same_len_mid 9 _ _ c.put_excesses.new.buffer c.put_excesses.ensures.room ∙ as_long c.args.buffer.now c.copy_from_slice.new.self c.width_of-width.result c.copy_from_slice.ensures.len in
    omega (arith, few_bytes (goal.at.returns-clause-count c).After-width_of-width, c.requires.room, long)
