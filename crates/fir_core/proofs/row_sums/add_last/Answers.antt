use Rattle.std.proofs.Common.{◌≡◌, ℕ, ℤ, ◌+◌, ◌-◌, ◌*◌, ◌/◌, ◌^◌, ◌+ℤ◌, ◌<◌, ◌≤◌, ◌∙◌, inl, inr, arith, get_or, length, pos, w32, to_z, of_z}
use Rattle.std.proofs.Math.Nat.{mul-le-mul_right}
use Rattle.std.proofs.lemmas.Bool.{cases_lt}
use Rattle.fir_core.specs.Lookup.{AreRowEntries, sum_before}
use Rattle.fir_core.proofs.InPlace.{one_less, one_more, read_back}
use Rattle.fir_core.proofs.RowLaws.{all_before, begins_after, byte_fits, byte_is, few_entries, not_begun, sum_small, window_reaches}
use Rattle.fir_core.proofs.row_sums.add_last.Goals as goal
use Rattle.fir_core.proofs.row_sums.add_last.Goals.{After-min, In-loop-k}

reaches : (c : After-min) → c.args.spot.window + 1 ≤ length c.args.sums.now + c.args.spot.lookup.span
reaches c =
    let spot = c.args.spot in
    window_reaches spot.lookup.step spot.lookup.span (length spot.lookup.taps.now / 8) spot.p spot.window spot.place (length c.args.sums.now) spot.spot spot.lookup.laid.wide c.requires.reached

pub loop-k-init : goal.loop-k-init
loop-k-init c =
    let spot = c.args.spot in
    let lookup = spot.lookup in
    record {
      done = λ k h.
          let early : k + lookup.span ≤ spot.window = omega (arith, h, c.saturating_sub-start.ensures) in
          let product : (k + lookup.span) * lookup.step ≤ spot.window * lookup.step = mul-le-mul_right lookup.step early in
          let ended : length lookup.taps.now / 8 + k * lookup.step ≤ spot.p = omega (arith, spot.spot.at, lookup.laid.wide) in
          c.requires.so_far k (omega (arith, early, reaches (goal.at.loop-k-init c).After-min)) ∙ all_before lookup.taps.now spot.bytes.now lookup.step spot.p (spot.p + 1) k lookup.laid.whole ended (omega (arith, ended));
      rest = λ k h l. c.requires.so_far k l;
    }

-- the entries of the byte's windows
has : (c : In-loop-k) → AreRowEntries c.args.spot.lookup.taps.now c.args.spot.bytes.now c.args.spot.lookup.step c.args.spot.lookup.entries.now c.args.spot.p c.saturating_sub-start.result (c.min.result - c.saturating_sub-start.result) c.row_place-at.result
has c = c.row_place-at.ensures (c.min.result - c.saturating_sub-start.result) (omega (arith, c.saturating_sub-start.ensures, c.min.ensures))

few : (c : In-loop-k) → length c.args.spot.lookup.entries.now ≤ 2 ^ 26
few c = let lookup = c.args.spot.lookup in few_entries lookup.taps.now lookup.entries.now lookup.step lookup.span lookup.laid

-- one of the sums so far
was : (c : In-loop-k) → to_z w32 (of_z w32 (get_or c.loop-k.sums (c.saturating_sub-start.result + c.loop-k.k) (pos 0))) ≡ sum_before c.args.spot.lookup.taps.now c.args.spot.bytes.now c.args.spot.lookup.step c.args.spot.p (c.saturating_sub-start.result + c.loop-k.k)
was c =
    let spot = c.args.spot in
    let j = c.saturating_sub-start.result + c.loop-k.k in
    read_back _ _ (c.loop-k.invariant.rest j (omega arith) (omega (arith, c.loop-k-test.true, c.min.ensures, c.loop-k.auto.sums))) (sum_small spot.lookup.taps.now spot.bytes.now spot.lookup.step spot.p j spot.lookup.laid.small)

pub overflow_add-sums-in-loop-k-2 : goal.overflow_add-sums-in-loop-k-2
overflow_add-sums-in-loop-k-2 c =
    let spot = c.args.spot in
    let here = (goal.at.overflow_add-sums-in-loop-k-2 c).In-loop-k in
    byte_fits spot.lookup.taps.now spot.bytes.now spot.lookup.step spot.p (c.saturating_sub-start.result + c.loop-k.k) spot.lookup.laid.small c.requires.within _ _ ((has here).each c.loop-k.k c.loop-k-test.true) (was here)

pub loop-k-preserved : goal.loop-k-preserved
loop-k-preserved c =
    let spot = c.args.spot in
    let hs = spot.lookup.taps.now in
    let bytes = spot.bytes.now in
    let step = spot.lookup.step in
    let here = (goal.at.loop-k-preserved c).In-loop-k in
    let j = c.saturating_sub-start.result + c.loop-k.k in
    let done = λ (k : ℕ). sum_before hs bytes step (spot.p + 1) k in
    let rest = λ (k : ℕ). sum_before hs bytes step spot.p k in
    let within : j < length c.loop-k.sums = omega (arith, c.loop-k-test.true, c.min.ensures, c.loop-k.auto.sums) in
    let entry = (has here).each c.loop-k.k c.loop-k-test.true in
    let sum : ℤ = to_z w32 (of_z w32 (get_or c.loop-k.sums j (pos 0))) +ℤ to_z w32 (of_z w32 (get_or spot.lookup.entries.now (c.row_place-at.result + c.loop-k.k) (pos 0))) in
    let is = byte_is hs bytes step spot.p j spot.lookup.laid.small c.requires.within _ _ entry (was here) in
    record {
      done = λ k h. one_more done rest c.loop-k.sums j sum within is c.loop-k.invariant.done c.loop-k.invariant.rest k (omega (arith, h));
      rest = λ k h l. one_less done rest c.loop-k.sums j sum within is c.loop-k.invariant.done c.loop-k.invariant.rest k (omega (arith, h)) l;
    }

pub returns-clause-sums : goal.returns-clause-sums
returns-clause-sums c = λ k l.
    let spot = c.args.spot in
    let step = spot.lookup.step in
    rw (c.next.ensures.lookup, c.next.ensures.bytes, c.next.ensures.p) (elim (cases_lt k (c.saturating_sub-start.result + c.loop-k.k)) [
      | inl before ↦ c.loop-k.invariant.done k before
      | inr after ↦
          let late : spot.window < k = omega (arith, after, l, c.loop-k-test.false, c.saturating_sub-start.ensures, c.min.ensures, c.loop-k.auto.sums) in
          let begins = begins_after step spot.p spot.window spot.place k spot.spot late in
          c.loop-k.invariant.rest k after l ∙ not_begun spot.lookup.taps.now spot.bytes.now step spot.p (spot.p + 1) k (omega (arith, begins)) (omega (arith, begins))
    ])

pub overflow_sub-number : goal.overflow_sub-number
overflow_sub-number c = omega (arith, c.saturating_sub-start.ensures, c.min.ensures, reaches c)

pub overflow_add-sums : goal.overflow_add-sums
overflow_add-sums c = omega (arith, (has c).within, few c, c.loop-k-test.true)

pub offset_bounds-spot-at : goal.offset_bounds-spot-at
offset_bounds-spot-at c = omega (arith, (has c).within, few c, c.loop-k-test.true)

pub bounds-spot-at : goal.bounds-spot-at
bounds-spot-at c = omega (arith, (has c).within, c.loop-k-test.true)
