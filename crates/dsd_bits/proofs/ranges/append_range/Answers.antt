use Rattle.std.proofs.Common.{◌≡◌, ℕ, ◌<◌, ◌+◌, ◌-◌, ◌*◌, ◌++◌, IsOk, List, length, slice_index, vec_capacity, vec_len, ◌≤◌, ◌∙◌, ap, refl, subst, arith, rules}
use Rattle.std.proofs.lemmas.Result.{err_from_is_err_and}
use Rattle.std.specs.Int.{div_ceil}
use Rattle.dsd_bits.specs.Packing.{packed_bit, unpacked}
use Rattle.dsd_bits.specs.Shifting.{bytes_from}
use Rattle.dsd_bits.proofs.PackingLemmas.{unpacked_is, IsTight-from_holds, length-unpacked}
use Rattle.dsd_bits.proofs.RangeLemmas.{range_appended}
use Rattle.dsd_bits.proofs.ShiftingLemmas.{packed_bit-append_before}
use Rattle.dsd_bits.proofs.ranges.append_range.Goals as goal
use Rattle.dsd_bits.proofs.ranges.append_range.Goals.{After-append_bytes, After-as_bytes-from, In_ok-append_bytes}

-- the bytes that there are now are as many as the bits need
all_bytes : (c : In_ok-append_bytes) → vec_len c.append_bytes.new.bytes ≡ div_ceil (c.args.before + (c.args.stop - c.args.start)) 8
all_bytes c = omega (arith, c.in_ok-append_bytes.ensures.len, c.len-kept.ensures, c.div_ceil.ensures, c.args.bytes.now.ok.0, c.requires.tight.no_more, c.requires.tight.enough)

pub clear_from-requires : goal.clear_from-requires
clear_from-requires c =
    let size = all_bytes (goal.at.clear_from-requires c).In_ok-append_bytes in
    let same = c.fill_byte.ensures.len in
    record { in_last = (omega arith, omega arith) }

pub returns-clause-tight : goal.returns-clause-tight
returns-clause-tight c =
    let size = all_bytes (goal.at.returns-clause-tight c).In_ok-append_bytes in
    let filled = c.fill_byte.ensures.len in
    let cleared = c.clear_from.ensures.len in
    let items = c.clear_from.new.bytes.ok.0 in
    IsTight-from_holds _ _ _ c.clear_from.ensures.holds (length-unpacked _ _) (omega arith) (omega arith) (omega (arith, c.requires.in_limit))

small_source : (c : After-as_bytes-from) → (j : ℕ) → slice_index c.as_bytes-from.result.now j < 256
small_source c j = search rules

pub returns-clause-appended : goal.returns-clause-appended
returns-clause-appended c =
    let bytes = c.args.bytes.now.items in
    let n = c.args.before in
    let source = c.as_bytes-from.result.now in
    let kept = c.len-kept.ensures ∙ c.args.bytes.now.ok.0 in
    let size : length bytes + (c.div_ceil.result - c.len-kept.result) ≡ div_ceil (n + (c.args.stop - c.args.start)) 8 = omega (arith, c.div_ceil.ensures, c.requires.tight.no_more, c.requires.tight.enough) in
    let small = small_source (goal.at.returns-clause-appended c).After-as_bytes-from in
    let added = c.div_ceil.result - c.len-kept.result in
    let appended = c.in_ok-append_bytes.ensures.items ∙ ap (λ (k : ℕ). bytes ++ bytes_from source (c.args.start + (8 * k - n)) added) kept in
    unpacked_is _ _ _ c.clear_from.ensures.holds (length-unpacked _ _)
    ∙ range_appended bytes n c.requires.tight (unpacked bytes n) refl source small c.args.source.now c.as_bytes-from.ensures.bits c.as_bytes-from.ensures.tight
    c.args.start c.args.stop added c.requires.in_order c.requires.in_source size c.fill_byte.new.bytes.items
    (λ i h. c.fill_byte.ensures.before i h ∙ ap (λ (b : List ℕ). packed_bit b i) appended)
    (λ i h below. c.fill_byte.ensures.filled i h below)
    (λ i h. c.fill_byte.ensures.after i h ∙ ap (λ (b : List ℕ). packed_bit b i) appended)

-- where room for the bits is held, there is room for their bytes
fits : (c : After-append_bytes) → c.args.before + (c.args.stop - c.args.start) ≤ 8 * vec_capacity c.args.bytes.now → IsOk c.append_bytes.result
fits c room = c.append_bytes.ensures.succeeds (omega (arith, room, c.len-kept.ensures, c.div_ceil.ensures, c.args.bytes.now.ok.0, c.requires.tight.no_more, c.requires.tight.enough))

pub returns-in_err-append_bytes-clause-err : goal.returns-in_err-append_bytes-clause-err
returns-in_err-append_bytes-clause-err c = let e = err_from_is_err_and c.from_residual.result c.from_residual.ensures.1 in rw e.1 c.in_err-append_bytes.ensures.items

pub returns-in_err-append_bytes-clause-tight : goal.returns-in_err-append_bytes-clause-tight
returns-in_err-append_bytes-clause-tight c = let e = err_from_is_err_and c.from_residual.result c.from_residual.ensures.1 in rw e.1 tt

pub returns-in_err-append_bytes-clause-appended : goal.returns-in_err-append_bytes-clause-appended
returns-in_err-append_bytes-clause-appended c = let e = err_from_is_err_and c.from_residual.result c.from_residual.ensures.1 in rw e.1 tt

pub returns-in_err-append_bytes-clause-succeeds : goal.returns-in_err-append_bytes-clause-succeeds
returns-in_err-append_bytes-clause-succeeds c = λ room.
    let e = err_from_is_err_and c.from_residual.result c.from_residual.ensures.1 in
    rw e.1 (subst IsOk c.in_err-append_bytes.was (fits (goal.at.returns-in_err-append_bytes-clause-succeeds c).After-append_bytes room))

pub append_bytes-requires : goal.append_bytes-requires
append_bytes-requires c = omega (arith, c.as_bytes-from.ensures.tight.enough, c.requires.in_source, c.requires.in_order, c.div_ceil.ensures, c.len-kept.ensures, c.args.bytes.now.ok.0, c.requires.tight.enough, c.requires.tight.no_more)

pub fill_byte-requires : goal.fill_byte-requires
fill_byte-requires c =
    let bytes = c.args.bytes.now.items in
    record {
      in_bytes = omega (arith, c.in_ok-append_bytes.ensures.len, c.requires.tight.enough, c.args.bytes.now.ok.0, c.len-kept.ensures);
      spare = λ i h below. ap (λ (b : List ℕ). packed_bit b i) c.in_ok-append_bytes.ensures.items ∙ packed_bit-append_before bytes _ i (omega (arith, below, c.requires.tight.enough)) ∙ c.requires.tight.spare i h;
    }
