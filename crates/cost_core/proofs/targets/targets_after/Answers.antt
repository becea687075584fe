use Rattle.std.proofs.Common.{◌≡◌, length, sym, ap, subst, ◌∙◌, arith}
use Rattle.std.proofs.lemmas.List.{length-map}
use Rattle.std.specs.Prelude.{IfOk}
use Rattle.splice_core.specs.Cues.{CueContent, IsLine, cue_content}
use Rattle.splice_core.specs.Splices.{splice_content}
use Rattle.splice_core.specs.declared.cue.Target.TheVariants.{Fade, Line}
use Rattle.cost_core.specs.Fade.{fade_targets}
use Rattle.cost_core.specs.Line.{line_targets}
use Rattle.cost_core.specs.Targets.{Reach, reach_of, targets_of}
use Rattle.cost_core.specs.Windows.{splice_cue}
use Rattle.cost_core.proofs.SumLaws.{kept}
use Rattle.cost_core.proofs.Windows.{cue_fits, cue_read, splicing}
use Rattle.cost_core.proofs.targets.targets_after.Goals as goal
use Rattle.cost_core.proofs.targets.targets_after.Goals.{In-Fade, In-Line, After-index}

-- the levels and the target that were read are those of the cue
levels : (c : After-index) → c.index.result.now.bridge ≡ (splice_cue (splice_content c.args.splice.now) c.args.cue).bridge
levels c = ap (λ (q : CueContent). q.bridge) (cue_read c.args.splice.now c.args.cue c.index.result.now (omega (arith, c.requires.cues)) c.index.ensures)

fades : (c : In-Fade) → (splice_cue (splice_content c.args.splice.now) c.args.cue).target ≡ Fade
fades c = sym (ap (λ (q : CueContent). q.target) (cue_read c.args.splice.now c.args.cue c.index-2.result.now (omega (arith, c.requires.cues)) c.index-2.ensures)) ∙ c.in-Fade.is

lined : (c : In-Line) → (splice_cue (splice_content c.args.splice.now) c.args.cue).target ≡ Line c.in-Line.a c.in-Line.b
lined c = sym (ap (λ (q : CueContent). q.target) (cue_read c.args.splice.now c.args.cue c.index-2.result.now (omega (arith, c.requires.cues)) c.index-2.ensures)) ∙ c.in-Line.is

line_fits : (c : In-Line) → IsLine c.in-Line.a c.in-Line.b
line_fits c = (cue_fits (splice_content c.args.splice.now) (splicing c.args.splice.now) c.args.cue (omega (arith, c.requires.cues))).target_fits c.in-Line.a c.in-Line.b (lined c)

pub index-requires : goal.index-requires
index-requires c = omega (arith, c.requires.cues, length-map c.args.splice.now.cues.items cue_content, c.args.splice.now.cues.ok.0)

pub index-requires-2 : goal.index-requires-2
index-requires-2 c = omega (arith, c.requires.cues, length-map c.args.splice.now.cues.items cue_content, c.args.splice.now.cues.ok.0)

pub fade_targets-requires : goal.fade_targets-requires
fade_targets-requires c =
    let content = splice_content c.args.splice.now in
    let room = c.requires.room in
    let fine = (splicing c.args.splice.now).weights_fit in
    let reach = ap (λ t. reach_of t (length content.weights) (splice_cue content c.args.cue).bridge) (fades c) in
    rw (c.as_slice-weights.ensures.value, levels (goal.at.In-Fade c).After-index) (record {
      weights_in = fine;
      levels_in = (cue_fits content (splicing c.args.splice.now) c.args.cue (omega (arith, c.requires.cues))).bridge_fits;
      stop_in = room.stop_in;
      start_in = room.start_in;
      before_in = room.ends;
      after_in = room.goes_on;
      before_b = omega (arith, ap (λ (r : Reach). r.before) reach, room.before, fine.two_weights);
      after_a = omega (arith, ap (λ (r : Reach). r.after) reach, room.after);
    })

pub line_targets-requires-clause-line : goal.line_targets-requires-clause-line
line_targets-requires-clause-line c =
    let fits = line_fits c in
    rw (kept c.in-Line.a (omega (arith, fits.a_fits)), kept c.in-Line.b (omega (arith, fits.b_fits))) fits

pub line_targets-requires-clause-levels : goal.line_targets-requires-clause-levels
line_targets-requires-clause-levels c = rw (levels (goal.at.In-Line c).After-index) (cue_fits (splice_content c.args.splice.now) (splicing c.args.splice.now) c.args.cue (omega (arith, c.requires.cues))).bridge_fits

pub line_targets-requires-clause-weights : goal.line_targets-requires-clause-weights
line_targets-requires-clause-weights c =
    let fine = (splicing c.args.splice.now).weights_fit in
    rw c.as_slice-weights.ensures.value (omega (arith, fine.two_weights), fine.few_weights)

pub returns-in-Fade : goal.returns-in-Fade
returns-in-Fade c =
    let content = splice_content c.args.splice.now in
    let at = (goal.at.returns-in-Fade c).In-Fade in
    let many = levels (goal.at.returns-in-Fade c).After-index in
    let is = (λ j. fade_targets (c.as_slice-weights.ensures.value j) c.args.seam.own.now c.args.seam.stop c.args.seam.next.now c.args.seam.start (many j)) ∙ sym (ap (λ t. targets_of t content.weights c.args.seam.own.now c.args.seam.stop c.args.seam.next.now c.args.seam.start (splice_cue content c.args.cue).bridge) (fades at)) in
    subst (λ m. IfOk c.fade_targets.result (λ made. made.items ≡ m)) is c.fade_targets.ensures

pub returns-in-Line : goal.returns-in-Line
returns-in-Line c =
    let content = splice_content c.args.splice.now in
    let at = (goal.at.returns-in-Line c).In-Line in
    let many = levels (goal.at.returns-in-Line c).After-index in
    let fits = line_fits at in
    let from = kept c.in-Line.a (omega (arith, fits.a_fits)) in
    let to = kept c.in-Line.b (omega (arith, fits.b_fits)) in
    let is = (λ j. line_targets (from j) (to j) (length (c.as_slice-weights.ensures.value j)) (many j)) ∙ sym (ap (λ t. targets_of t content.weights c.args.seam.own.now c.args.seam.stop c.args.seam.next.now c.args.seam.start (splice_cue content c.args.cue).bridge) (lined at)) in
    subst (λ m. IfOk c.line_targets.result (λ made. made.items ≡ m)) is c.line_targets.ensures
