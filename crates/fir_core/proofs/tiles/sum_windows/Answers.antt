use Rattle.std.proofs.lemmas.Int.{to_z-of_z}
use Rattle.std.proofs.Common.{w32, ◌≡◌, ◌-◌, drop, take, ℕ, ◌*◌, ◌∙◌, ap, arith, get_or, length, length-drop, pos, refl}
use Rattle.std.proofs.lemmas.List.{take_rest}
use Rattle.std.proofs.lemmas.List.FromFn.{fill_by_all}
use Rattle.fir_core.specs.Signed.{bits_of, dot}
use Rattle.fir_core.specs.Windows.{window_sum}
use Rattle.fir_core.proofs.InPlace.{one_more}
use Rattle.fir_core.proofs.tiles.sum_windows.Goals as goal
use Rattle.fir_core.proofs.tiles.sum_windows.Goals.{After-as_slice-taps}

stated : (c : After-as_slice-taps) → c.as_slice-taps.result.now ≡ c.args.tables.now
stated c = c.as_slice-taps.ensures.value ∙ c.tables.view_is

pub dot_by_lanes-requires-clause-enough : goal.dot_by_lanes-requires-clause-enough
dot_by_lanes-requires-clause-enough c =
    let at = c.loop-i.i * c.args.step in
    rw (take_rest c.args.bytes.now at) (omega (arith, length-drop at c.args.bytes.now, c.requires.each c.loop-i.i (omega (arith, c.loop-i.auto.sums)), c.tables.invariant.whole, ap length (stated (goal.at.dot_by_lanes-requires-clause-enough c).After-as_slice-taps)))

pub loop-i-preserved : goal.loop-i-preserved
loop-i-preserved c =
    let done = λ (k : ℕ). window_sum c.args.tables.now c.args.bytes.now (k * c.args.step) in
    let is = c.dot_by_lanes.ensures ∙ ap (λ hs. dot hs (bits_of (take (length c.args.bytes.now - c.loop-i.i * c.args.step) (drop (c.loop-i.i * c.args.step) c.args.bytes.now)))) (stated (goal.at.loop-i-preserved c).After-as_slice-taps) ∙ ap (λ bs. dot c.args.tables.now (bits_of bs)) (take_rest c.args.bytes.now (c.loop-i.i * c.args.step)) in
    one_more done (λ k. get_or c.loop-i.sums k (pos 0)) c.loop-i.sums c.loop-i.i c.dot_by_lanes.result (omega arith) (to_z-of_z w32 _ (record { sfits = c.dot_by_lanes.type_inv }) ∙ is) c.loop-i.invariant (λ k h l. refl)

pub returns : goal.returns
returns c =
    fill_by_all (λ i. window_sum c.args.tables.now c.args.bytes.now (i * c.args.step)) c.loop-i.sums (length c.args.sums.now) (pos 0) c.loop-i.auto.sums (λ k h. c.loop-i.invariant k (omega arith))
