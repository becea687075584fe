use Rattle.std.proofs.Common.{◌<◌, ◌+◌, ◌∙◌, ap, arith, length, refl, sym}
use Rattle.std.proofs.lemmas.List.{length-map}
use Rattle.splice_core.specs.Cues.{CueContent, cue_content}
use Rattle.splice_core.specs.Splices.{splice_content}
use Rattle.cost_core.specs.Faults.{missing_room}
use Rattle.cost_core.specs.Windows.{bridging_at}
use Rattle.cost_core.proofs.Windows.{cue_fits, cue_read, splicing}
use Rattle.cost_core.proofs.window.Window.new.Goals as goal
use Rattle.std.proofs.lemmas.Result.{IfOk-from_err, err_from_is_err_and}

-- what the target and the weights read is there: in both cues, and beyond them where there is room
pub between-requires-clause-room : goal.between-requires-clause-room
between-requires-clause-room c =
    let splice = c.args.splice.now in
    let content = splice_content splice in
    let i = c.args.cue in
    let there : i < length content.cues = omega (arith, c.requires.cues) in
    let here = cue_fits content (splicing splice) i there in
    let next = cue_fits content (splicing splice) (i + 1) c.requires.cues in
    let stop = ap (λ (q : CueContent). q.stop) (cue_read splice i c.index.result.now there c.index.ensures) in
    let start = ap (λ (q : CueContent). q.start) (cue_read splice (i + 1) c.index-2.result.now c.requires.cues c.index-2.ensures) in
    let room = c.in_ok-has_room.ensures.found in
    record {
      stop_in = omega (arith, stop, here.stop_fits);
      start_in = omega (arith, start, next.start_fits);
      ends = omega (arith, stop, here.long_enough);
      goes_on = omega (arith, start, next.long_enough, c.requires.after);
      before = omega (arith, start, room.before);
      after = omega (arith, stop, room.after);
    }

pub between-requires-clause-cues : goal.between-requires-clause-cues
between-requires-clause-cues c = c.requires.cues

pub has_room-requires : goal.has_room-requires
has_room-requires c = c.requires.cues

pub index-requires : goal.index-requires
index-requires c = omega (arith, length-map c.args.splice.now.cues.items cue_content, c.requires.cues)

pub index-requires-2 : goal.index-requires-2
index-requires-2 c = omega (arith, length-map c.args.splice.now.cues.items cue_content, c.requires.cues)

-- ---- the exits
pub returns-in_err-has_room : goal.returns-in_err-has_room
returns-in_err-has_room c = record {
  ok = IfOk-from_err c.from_residual.result _ c.from_residual.ensures.0;
  found = IfOk-from_err c.from_residual.result _ c.from_residual.ensures.0;
  only = λ room. let h = c.in_err-has_room.ensures.only (rw c.len.ensures.value room) in cc;
  order = let p = err_from_is_err_and c.from_residual.result c.from_residual.ensures.1 in
      rw p.1 (ap (missing_room (splice_content c.args.splice.now) c.args.cue) (sym c.len.ensures.value) ∙ c.in_err-has_room.ensures.order ∙ sym p.2);
}

pub returns-in_err-between : goal.returns-in_err-between
returns-in_err-between c = record {
  ok = IfOk-from_err c.from_residual-in_err-between.result _ c.from_residual-in_err-between.ensures.0;
  found = IfOk-from_err c.from_residual-in_err-between.result _ c.from_residual-in_err-between.ensures.0;
  only = λ _.
      let p = err_from_is_err_and c.from_residual-in_err-between.result c.from_residual-in_err-between.ensures.1 in
      rw (p.1, p.2) refl;
  order = let p = err_from_is_err_and c.from_residual-in_err-between.result c.from_residual-in_err-between.ensures.1 in
      rw (p.1, p.2) (ap (missing_room (splice_content c.args.splice.now) c.args.cue) (sym c.len.ensures.value) ∙ c.in_ok-has_room.ensures.order);
}

pub returns : goal.returns
returns c = record {
  ok = let splice = c.args.splice.now in
      let i = c.args.cue in
      let stop = ap (λ (q : CueContent). q.stop) (cue_read splice i c.index.result.now (omega (arith, c.requires.cues)) c.index.ensures) in
      let start = ap (λ (q : CueContent). q.start) (cue_read splice (i + 1) c.index-2.result.now c.requires.cues c.index-2.ensures) in
      c.in_ok-between.ensures ∙ (λ z. bridging_at (splice_content splice) i c.args.own.now (stop z) c.args.next.now (start z));
  found = rw (← c.len.ensures.value) c.in_ok-has_room.ensures.found;
  only = λ _. tt;
  order = ap (missing_room (splice_content c.args.splice.now) c.args.cue) (sym c.len.ensures.value) ∙ c.in_ok-has_room.ensures.order;
}
