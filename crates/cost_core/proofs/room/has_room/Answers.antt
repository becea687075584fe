use Rattle.std.proofs.Common.{◌≡◌, ℕ, ◌+◌, ◌<◌, ◌≤◌, Some, None, length, refl, ap, arith}
use Rattle.std.proofs.lemmas.Bool.{le-ltb, lt-ltb}
use Rattle.splice_core.specs.Cues.{CueContent, IsCueWithin, cue_content}
use Rattle.splice_core.specs.Splices.{SpliceContent, splice_content}
use Rattle.cost_core.specs.declared.fault.RoomFault.TheVariants.{NoRoomAfter, NoRoomBefore}
use Rattle.cost_core.specs.Faults.{HasRoom, missing_room, reach_at}
use Rattle.cost_core.specs.Windows.{splice_cue}
use Rattle.cost_core.proofs.Windows.{cue_fits, cue_read, splicing}
use Rattle.cost_core.proofs.room.has_room.Goals as goal
use Rattle.cost_core.proofs.room.has_room.Goals.{After-index, After-index-here}

there : (c : After-index-here) → c.args.cue < length (splice_content c.args.splice.now).cues
there c = omega (arith, c.requires)

fits : (c : After-index-here) → IsCueWithin (length (splice_content c.args.splice.now).weights) (length (splice_content c.args.splice.now).takes) (splice_cue (splice_content c.args.splice.now) c.args.cue)
fits c = cue_fits (splice_content c.args.splice.now) (splicing c.args.splice.now) c.args.cue (there c)

here : (c : After-index-here) → cue_content c.index-here.result.now ≡ splice_cue (splice_content c.args.splice.now) c.args.cue
here c = cue_read c.args.splice.now c.args.cue c.index-here.result.now (there c) c.index-here.ensures

pub overflow_add-here : goal.overflow_add-here
overflow_add-here c =
    let e = (goal.at.overflow_add-here c).After-index-here in
    omega (arith, ap (λ (q : CueContent). q.stop) (here e), (fits e).stop_fits, c.reach_at-before.ensures.few)

-- the places that were read are those of the two cues
stop_is : (c : After-index-here) → c.index-here.result.now.stop ≡ (splice_cue (splice_content c.args.splice.now) c.args.cue).stop
stop_is c = ap (λ (q : CueContent). q.stop) (here c)

start_is : (c : After-index) → c.index.result.now.start ≡ (splice_cue (splice_content c.args.splice.now) (c.args.cue + 1)).start
start_is c = ap (λ (q : CueContent). q.start) (cue_read c.args.splice.now (c.args.cue + 1) c.index.result.now c.requires c.index.ensures)

-- which fault is the first, by the two tests
module _ (splice : SpliceContent) (i count : ℕ) where
  none_wants : HasRoom splice i count → missing_room splice i count ≡ None
  none_wants room =
      rw (le-ltb (splice_cue splice (i + 1)).start (reach_at splice i).before room.before, le-ltb count ((splice_cue splice i).stop + (reach_at splice i).after) room.after) refl

  before_wants : (splice_cue splice (i + 1)).start < (reach_at splice i).before → missing_room splice i count ≡ Some NoRoomBefore
  before_wants less = rw (lt-ltb (splice_cue splice (i + 1)).start (reach_at splice i).before less) refl

  after_wants : (reach_at splice i).before ≤ (splice_cue splice (i + 1)).start → count < (splice_cue splice i).stop + (reach_at splice i).after → missing_room splice i count ≡ Some NoRoomAfter
  after_wants before less =
      rw (le-ltb (splice_cue splice (i + 1)).start (reach_at splice i).before before, lt-ltb count ((splice_cue splice i).stop + (reach_at splice i).after) less) refl

pub returns-then-index-before-clause-found : goal.returns-then-index-before-clause-found
returns-then-index-before-clause-found c = tt

pub returns-then-index-before-clause-only : goal.returns-then-index-before-clause-only
returns-then-index-before-clause-only c = λ room.
    absurd (omega (arith, start_is (goal.at.returns-then-index-before-clause-only c).After-index, c.reach_at-before.ensures.before, room.before))

pub returns-then-index-before-clause-order : goal.returns-then-index-before-clause-order
returns-then-index-before-clause-order c =
    before_wants (splice_content c.args.splice.now) c.args.cue c.args.count (omega (arith, start_is (goal.at.returns-then-index-before-clause-order c).After-index, c.reach_at-before.ensures.before))

pub returns-then-count-here-clause-found : goal.returns-then-count-here-clause-found
returns-then-count-here-clause-found c = tt

pub returns-then-count-here-clause-only : goal.returns-then-count-here-clause-only
returns-then-count-here-clause-only c = λ room.
    absurd (omega (arith, stop_is (goal.at.returns-then-count-here-clause-only c).After-index-here, c.reach_at-before.ensures.after, room.after))

pub returns-then-count-here-clause-order : goal.returns-then-count-here-clause-order
returns-then-count-here-clause-order c =
    let at = goal.at.returns-then-count-here-clause-order c in
    after_wants (splice_content c.args.splice.now) c.args.cue c.args.count (omega (arith, start_is at.After-index, c.reach_at-before.ensures.before)) (omega (arith, stop_is at.After-index-here, c.reach_at-before.ensures.after))

pub returns-clause-found : goal.returns-clause-found
returns-clause-found c =
    let at = goal.at.returns-clause-found c in
    record {
      before = omega (arith, start_is at.After-index, c.reach_at-before.ensures.before);
      after = omega (arith, stop_is at.After-index-here, c.reach_at-before.ensures.after);
    }

pub returns-clause-only : goal.returns-clause-only
returns-clause-only c = λ _. refl

pub returns-clause-order : goal.returns-clause-order
returns-clause-order c = none_wants (splice_content c.args.splice.now) c.args.cue c.args.count (returns-clause-found c)
