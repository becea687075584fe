use Rattle.std.proofs.Common.{length, ◌≡◌, ◌+◌, ◌-◌, ◌≤◌, ℕ, Result, Err, ap, ◌∙◌, arith}
use Rattle.chunk_core.specs.declared.fault.ChunkFault.TheVariants.{HeadCut}
use Rattle.dsd_bits.specs.Contents.{Content}
use Rattle.dsdiff_core.specs.declared.fault.DsdiffFault.{DsdiffFault}
use Rattle.dsdiff_core.specs.declared.fault.DsdiffFault.TheVariants.{Chunk}
use Rattle.dsdiff_core.specs.Faulty.{next_place}
use Rattle.dsdiff_core.specs.Fields.{form_end, form_size}
use Rattle.dsdiff_core.proofs.FaultyPlaces.{left_is, seen_whole, start_data_cut, start_fails, start_head_cut, start_told}
use Rattle.dsdiff_core.proofs.faulty.fault_after.Goals as goal
use Rattle.dsdiff_core.proofs.faulty.fault_after.Goals.{then-total-lt11-via-then-total-lt11, then-total-lt11-via-else-total-lt11+then-total-start}

pub returns-then-total-lt11 : goal.returns-then-total-lt11
returns-then-total-lt11 c = λ file h seen ends next.
    start_fails file c.args.start h c.args.total _ seen (elim c.then-total-lt11.branch [
      | then-total-lt11-via-then-total-lt11 w ↦ omega (arith, w.if-total-lt11.true)
      | then-total-lt11-via-else-total-lt11+then-total-start w ↦ omega (arith, w.if-total-lt11.false, w.if-total-start.true, h.size)
    ]) (omega (arith, c.saturating_sub.ensures))

pub returns-then-left-pad : goal.returns-then-left-pad
returns-then-left-pad c = λ file h seen ends next.
    let whole : 12 + form_size file ≤ length file + 1 = seen_whole file c.args.total seen (omega (arith, c.if-total-lt11.false, c.if-total-start.false, h.size)) in
    let left : c.min-left.result ≡ form_end file - c.args.start.end = omega (arith, c.min-left.ensures, c.saturating_sub-in_form.ensures, c.saturating_sub-2.ensures, c.saturating_sub-3.ensures, left_is file c.args.start h c.args.total seen) in
    start_told file c.args.start h whole (omega (arith, left, c.if-left-pad.true, h.inside))

pub returns-in-Some : goal.returns-in-Some
returns-in-Some c = λ file h seen ends next.
    let whole : 12 + form_size file ≤ length file + 1 = seen_whole file c.args.total seen (omega (arith, c.if-total-lt11.false, c.if-total-start.false, h.size)) in
    let left : c.min-left.result ≡ form_end file - c.args.start.end = omega (arith, c.min-left.ensures, c.saturating_sub-in_form.ensures, c.saturating_sub-2.ensures, c.saturating_sub-3.ensures, left_is file c.args.start h c.args.total seen) in
    let place : next_place c.args.start ≡ c.saturating_add-place.result = omega (arith, c.saturating_add-place.ensures, c.ranges.total.fits, c.min-left.ensures, c.saturating_sub-3.ensures, c.if-left-pad.false) in
    start_data_cut file c.args.start h whole c.saturating_add-place.result c.in-Some.head place (rw c.in-Some.is at next) (omega (arith, left, c.if-left-pad.false, c.if-left-pad-ge12.true, h.inside)) ends

pub returns-in_default : goal.returns-in_default
returns-in_default c = λ file h seen ends next.
    let whole : 12 + form_size file ≤ length file + 1 = seen_whole file c.args.total seen (omega (arith, c.if-total-lt11.false, c.if-total-start.false, h.size)) in
    let left : c.min-left.result ≡ form_end file - c.args.start.end = omega (arith, c.min-left.ensures, c.saturating_sub-in_form.ensures, c.saturating_sub-2.ensures, c.saturating_sub-3.ensures, left_is file c.args.start h c.args.total seen) in
    let place : next_place c.args.start ≡ c.saturating_add-place.result = omega (arith, c.saturating_add-place.ensures, c.ranges.total.fits, c.min-left.ensures, c.saturating_sub-3.ensures, c.if-left-pad.false) in
    start_head_cut file c.args.start h whole (omega (arith, left, c.if-left-pad.false, h.inside)) (omega (arith, left, c.if-left-pad.false, c.if-left-pad-ge12.false, h.inside))
    ∙ ap (λ (n : ℕ). let r : Result Content DsdiffFault = Err (Chunk (HeadCut n)) in r) place

pub returns-in_default-2 : goal.returns-in_default-2
returns-in_default-2 c = λ file h seen ends next.
    let whole : 12 + form_size file ≤ length file + 1 = seen_whole file c.args.total seen (omega (arith, c.if-total-lt11.false, c.if-total-start.false, h.size)) in
    let left : c.min-left.result ≡ form_end file - c.args.start.end = omega (arith, c.min-left.ensures, c.saturating_sub-in_form.ensures, c.saturating_sub-2.ensures, c.saturating_sub-3.ensures, left_is file c.args.start h c.args.total seen) in
    let place : next_place c.args.start ≡ c.saturating_add-place.result = omega (arith, c.saturating_add-place.ensures, c.ranges.total.fits, c.min-left.ensures, c.saturating_sub-3.ensures, c.if-left-pad.false) in
    start_head_cut file c.args.start h whole (omega (arith, left, c.if-left-pad.false, h.inside)) (rw c.in_default.is at next)
    ∙ ap (λ (n : ℕ). let r : Result Content DsdiffFault = Err (Chunk (HeadCut n)) in r) place
