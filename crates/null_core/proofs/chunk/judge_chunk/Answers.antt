use Rattle.std.proofs.Common.{◌≡◌, ℕ, ◌+◌, ◌-◌, ◌*◌, ◌/◌, ◌<◌, ◌≤◌, ◌^◌, All, unsigned_abs, length, None, sym, subst, arith, rules}
use Rattle.dsd_bits.proofs.ExitLaws.{no_value}
use Rattle.heard_core.specs.Residuals.{window_residuals}
use Rattle.null_core.specs.Chunks.{IsLoudAround, IsPeak, ListsErrors, errors_around}
use Rattle.null_core.specs.Parts.{asked_content}
use Rattle.null_core.proofs.ChunkLaws.{all_small, chunk_stretch, first_loud, peak_within, windows_within}
use Rattle.null_core.proofs.chunk.judge_chunk.Goals as goal
use Rattle.null_core.proofs.chunk.judge_chunk.Goals.{After-deref_mut, After-peak_of-peak, In_default, In_ok-loud}

-- as many errors as the windows read
abbrev size : In_ok-loud → ℕ
size c = c.args.chunk.last - c.args.chunk.first + length c.args.asked.audible.now

found : (c : In_ok-loud) → ListsErrors (asked_content c.args.asked) c.args.bits.now c.args.chunk.first (size c) c.list_errors_around.new.errors.items c.in_ok-loud.loud
found c = subst (λ n. ListsErrors (asked_content c.args.asked) c.args.bits.now c.args.chunk.first (c.args.chunk.last - c.args.chunk.first + n) c.list_errors_around.new.errors.items c.in_ok-loud.loud) c.len.ensures.value c.in_ok-loud.ensures

pub returns-in-Some : goal.returns-in-Some
returns-in-Some c =
    let a = asked_content c.args.asked in
    let p = (goal.at.returns-in-Some c).In_ok-loud in
    first_loud a c.requires.asked c.args.bits.now c.args.chunk c.requires.chunk c.requires.quiet c.in-Some.place (subst (ListsErrors a c.args.bits.now c.args.chunk.first (size p) c.list_errors_around.new.errors.items) c.in-Some.is (found p))

none_loud : (c : In_default) → ListsErrors (asked_content c.args.asked) c.args.bits.now c.args.chunk.first (c.args.chunk.last - c.args.chunk.first + length c.args.asked.audible.now) c.list_errors_around.new.errors.items None
none_loud c = subst (ListsErrors (asked_content c.args.asked) c.args.bits.now c.args.chunk.first (c.args.chunk.last - c.args.chunk.first + length c.args.asked.audible.now) c.list_errors_around.new.errors.items) c.in_default.is (subst (λ n. ListsErrors (asked_content c.args.asked) c.args.bits.now c.args.chunk.first (c.args.chunk.last - c.args.chunk.first + n) c.list_errors_around.new.errors.items c.in_ok-loud.loud) c.len.ensures.value c.in_ok-loud.ensures)

-- the errors are listed
listed : (c : In_default) → c.list_errors_around.new.errors.items ≡ errors_around (asked_content c.args.asked) c.args.bits.now c.args.chunk.first (c.args.chunk.last - c.args.chunk.first + length c.args.asked.audible.now)
listed c = (none_loud c).0

-- and none is too loud
quiet : (c : In_default) (m : ℕ) → IsLoudAround (asked_content c.args.asked) c.args.bits.now c.args.chunk.first (c.args.chunk.last - c.args.chunk.first + length c.args.asked.audible.now) m → ⊥
quiet c = (none_loud c).1

-- as many residuals as judged places
windows : (c : After-deref_mut) → length c.deref_mut.result.now ≡ (c.args.chunk.last - c.args.chunk.first) / c.args.asked.every + 1
windows c = omega (arith, c.deref_mut.ensures.len, c.in_ok-resize.ensures.len)

pub peak_of-peak-requires-clause-within : goal.peak_of-peak-requires-clause-within
peak_of-peak-requires-clause-within c = λ i lt.
    let p = (goal.at.peak_of-peak-requires-clause-within c).In_default in
    let within = windows_within (asked_content c.args.asked) c.requires.asked c.args.bits.now c.args.chunk c.requires.chunk c.list_errors_around.new.errors.items (length c.deref_mut.result.now) (listed p) (windows c) i lt in
    subst (λ es. i * c.args.asked.every + length c.args.asked.audible.now ≤ length es) (sym c.deref.ensures.value) within

pub peak_of-peak-requires-clause-small : goal.peak_of-peak-requires-clause-small
peak_of-peak-requires-clause-small c =
    let p = (goal.at.peak_of-peak-requires-clause-small c).In_default in
    subst (All (λ error. unsigned_abs error < 2 ^ 31)) (sym c.deref.ensures.value) (all_small (asked_content c.args.asked) c.args.bits.now c.args.chunk.first (c.args.chunk.last - c.args.chunk.first + length c.args.asked.audible.now) c.list_errors_around.new.errors.items (listed p) (quiet p))

peak : (c : After-peak_of-peak) → IsPeak (window_residuals c.args.asked.audible.now c.list_errors_around.new.errors.items c.args.asked.every ((c.args.chunk.last - c.args.chunk.first) / c.args.asked.every + 1)) c.peak_of-peak.result
peak c =
    let same : length c.deref_mut.result.now ≡ (c.args.chunk.last - c.args.chunk.first) / c.args.asked.every + 1 = omega (arith, c.deref_mut.ensures.len, c.in_ok-resize.ensures.len) in
    subst (λ n. IsPeak (window_residuals c.args.asked.audible.now c.list_errors_around.new.errors.items c.args.asked.every n) c.peak_of-peak.result) same (subst (λ es. IsPeak (window_residuals c.args.asked.audible.now es c.args.asked.every (length c.deref_mut.result.now)) c.peak_of-peak.result) c.deref.ensures.value c.peak_of-peak.ensures)

within : (c : After-peak_of-peak) → c.args.chunk.first + c.peak_of-peak.result.index * c.args.asked.every ≤ c.args.chunk.last
within c = peak_within (asked_content c.args.asked) c.requires.asked c.args.bits.now c.args.chunk c.requires.chunk c.list_errors_around.new.errors.items c.peak_of-peak.result (peak c)

pub overflow_mul-result : goal.overflow_mul-result
overflow_mul-result c =
    let last : c.args.chunk.last < 2 ^ 64 = search rules in
    record { fits = omega (arith, within (goal.at.overflow_mul-result c).After-peak_of-peak, last) }

pub overflow_add-result : goal.overflow_add-result
overflow_add-result c =
    let last : c.args.chunk.last < 2 ^ 64 = search rules in
    record { fits = omega (arith, within (goal.at.overflow_add-result c).After-peak_of-peak, last) }

pub returns : goal.returns
returns c =
    let p = (goal.at.returns c).In_default in
    let q = (goal.at.returns c).After-peak_of-peak in
    chunk_stretch (asked_content c.args.asked) c.requires.asked c.args.bits.now c.args.chunk c.requires.chunk c.requires.quiet c.list_errors_around.new.errors.items c.peak_of-peak.result (listed p) (quiet p) (peak q)

pub returns-in_err-loud : goal.returns-in_err-loud
returns-in_err-loud c = no_value _ _ c.from_residual.result c.from_residual.ensures.1

pub returns-in_err-resize : goal.returns-in_err-resize
returns-in_err-resize c = no_value _ _ c.from_residual-in_err-resize.result c.from_residual-in_err-resize.ensures.1
