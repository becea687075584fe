use Rattle.std.proofs.Common.{◌<◌, ◌+◌, ◌-◌, ◌++◌, ◌∙◌, sym, ap, length, subst, slice_range, arith}
use Rattle.std.proofs.lemmas.List.{length-map}
use Rattle.splice_core.specs.Cues.{CueContent, cue_content}
use Rattle.splice_core.specs.Splices.{splice_content}
use Rattle.cost_core.specs.Bridges.{Bridging}
use Rattle.cost_core.specs.Limits.{IsBridging}
use Rattle.std.proofs.lemmas.Result.{IfOk-from_err}
use Rattle.cost_core.proofs.Windows.{bridging_limits, cue_fits, cue_read, preceding_many, splicing, targets_many}
use Rattle.cost_core.proofs.window.Window.between.Goals as goal

pub returns : goal.returns
returns c =
    let splice = c.args.splice.now in
    let i = c.args.cue in
    let there : i < length (splice_content splice).cues = omega (arith, c.requires.cues) in
    let ws = c.as_slice-weights.ensures.value in
    let ew = c.in_ok-weights.ensures.items ∙ ws in
    let el = ap (λ (q : CueContent). q.bridge) (cue_read splice i c.index.result.now there c.index.ensures) in
    let ep = c.in_ok-push_range.ensures.ok ∙ (λ j. c.new-preceding.ensures j ++ slice_range c.args.seam.own.now (c.args.seam.stop - (length (ws j) - 1)) c.args.seam.stop) in
    let ef = c.in_ok-push_range-2.ensures.ok ∙ (λ j. c.new-following.ensures j ++ slice_range c.args.seam.next.now c.args.seam.start (c.args.seam.start + (length (ws j) - 1))) in
    let et = c.in_ok-targets.ensures in
    λ j. record { weights = ew j; levels = el j; preceding = ep j; following = ef j; targets = et j }

pub invariant_of-result : goal.invariant_of-result
invariant_of-result c =
    let content = splice_content c.args.splice.now in
    let room = c.requires.room in
    let there : c.args.cue < length content.cues = omega (arith, c.requires.cues) in
    let many = targets_many content (splicing c.args.splice.now) c.args.cue c.args.seam.own.now c.args.seam.stop c.args.seam.next.now c.args.seam.start there room.ends (omega (arith, room.after)) room.goes_on in
    let is = returns c in
    record {
      limits = subst IsBridging (sym is) (bridging_limits content (splicing c.args.splice.now) c.args.cue c.args.seam.own.now c.args.seam.stop c.args.seam.next.now c.args.seam.start there room.ends (omega (arith, room.after)) room.goes_on);
      as_many_targets = ap (λ (d : Bridging). length d.targets) is ∙ many ∙ sym (ap (λ (d : Bridging). d.levels + length d.following) is);
      start_is = c.read_state-state.ensures;
      table_is = rw c.in_ok-weights.ensures.items c.in_ok-scaled.ensures;
    }

-- ---- what the calls ask for
pub overflow_sub-width : goal.overflow_sub-width
overflow_sub-width c = omega (arith, (splicing c.args.splice.now).weights_fit.two_weights)

pub overflow_add-start : goal.overflow_add-start
overflow_add-start c = omega (arith, c.requires.room.start_in, (splicing c.args.splice.now).weights_fit.few_weights)

pub index-requires : goal.index-requires
index-requires c = omega (arith, c.requires.cues, length-map c.args.splice.now.cues.items cue_content, c.args.splice.now.cues.ok.0)

pub push_range-requires-clause-in_order : goal.push_range-requires-clause-in_order
push_range-requires-clause-in_order c = omega arith

pub push_range-requires-clause-in_source : goal.push_range-requires-clause-in_source
push_range-requires-clause-in_source c = omega (arith, c.requires.room.after)

pub push_range-requires-clause-in_limit : goal.push_range-requires-clause-in_limit
push_range-requires-clause-in_limit c = rw c.new-preceding.ensures (omega (arith, c.requires.room.stop_in))

pub push_range-requires-2-clause-in_order : goal.push_range-requires-2-clause-in_order
push_range-requires-2-clause-in_order c = omega arith

pub push_range-requires-2-clause-in_source : goal.push_range-requires-2-clause-in_source
push_range-requires-2-clause-in_source c = omega (arith, c.requires.room.goes_on, (splicing c.args.splice.now).weights_fit.two_weights)

pub push_range-requires-2-clause-in_limit : goal.push_range-requires-2-clause-in_limit
push_range-requires-2-clause-in_limit c = rw c.new-following.ensures (omega (arith, (splicing c.args.splice.now).weights_fit.few_weights))

pub targets_after-requires-clause-cues : goal.targets_after-requires-clause-cues
targets_after-requires-clause-cues c = c.requires.cues

pub targets_after-requires-clause-room : goal.targets_after-requires-clause-room
targets_after-requires-clause-room c = c.requires.room

pub scaled_sums-requires-clause-weights : goal.scaled_sums-requires-clause-weights
scaled_sums-requires-clause-weights c = rw c.as_slice-weights.ensures.value (splicing c.args.splice.now).weights_fit

pub scaled_sums-requires-clause-levels : goal.scaled_sums-requires-clause-levels
scaled_sums-requires-clause-levels c =
    let splice = c.args.splice.now in
    let there : c.args.cue < length (splice_content splice).cues = omega (arith, c.requires.cues) in
    omega (arith, ap (λ (q : CueContent). q.bridge) (cue_read splice c.args.cue c.index.result.now there c.index.ensures), (cue_fits (splice_content splice) (splicing splice) c.args.cue there).bridge_fits)

pub read_state-state-requires : goal.read_state-state-requires
read_state-state-requires c =
    let room = c.requires.room in
    let before = c.in_ok-push_range.ensures.ok ∙ (λ j. c.new-preceding.ensures j ++ slice_range c.args.seam.own.now (c.args.seam.stop - (length (c.as_slice-weights.ensures.value j) - 1)) c.args.seam.stop) in
    let many = preceding_many (splice_content c.args.splice.now) (splicing c.args.splice.now) c.args.cue c.args.seam.own.now c.args.seam.stop c.args.seam.next.now c.args.seam.start (omega (arith, c.requires.cues)) room.ends (omega (arith, room.after)) room.goes_on in
    omega (arith, ap length before ∙ many, (splicing c.args.splice.now).weights_fit.few_weights)

-- ---- the exits
pub returns-in_err-push_range : goal.returns-in_err-push_range
returns-in_err-push_range c = IfOk-from_err c.from_residual.result _ c.from_residual.ensures.0

pub returns-in_err-push_range-2 : goal.returns-in_err-push_range-2
returns-in_err-push_range-2 c = IfOk-from_err c.from_residual-in_err-push_range-2.result _ c.from_residual-in_err-push_range-2.ensures.0

pub returns-in_err-targets : goal.returns-in_err-targets
returns-in_err-targets c = IfOk-from_err c.from_residual-in_err-targets.result _ c.from_residual-in_err-targets.ensures.0

pub returns-in_err-scaled : goal.returns-in_err-scaled
returns-in_err-scaled c = IfOk-from_err c.from_residual-in_err-scaled.result _ c.from_residual-in_err-scaled.ensures.0

pub returns-in_err-weights : goal.returns-in_err-weights
returns-in_err-weights c = IfOk-from_err c.from_residual-in_err-weights.result _ c.from_residual-in_err-weights.ensures.0
