use Rattle.std.proofs.Common.{◌≡◌, ◌<◌, ◌≤◌, ◌^◌, ◌+◌, ◌++◌, ◌∙◌, Bool, List, ap, arith, length, sum_by, take}
use Rattle.std.proofs.lemmas.List.Sums.{sum_by_more, sum_by_more_le}
use Rattle.dsd_bits.specs.Rooms.{RoomContent}
use Rattle.splice_core.specs.Cues.{CueContent}
use Rattle.cut_core.proofs.CutLaws.{fits_at}
use Rattle.cut_core.specs.Cuts.{cue_at, cue_bits, span}
use Rattle.cut_core.specs.Claims.{bridge_start}
use Rattle.master_core.specs.Parting.{within}
use Rattle.master_core.proofs.PartLaws.{part_more, prefix_best, prefix_long, prefix_nothing}
use Rattle.cut_core.proofs.SliceLaws.{length-slice}
use Rattle.master_core.proofs.parting.push_part.Goals as goal
use Rattle.master_core.proofs.parting.push_part.Goals.{In-loop-cue}

-- a bridge ends inside the master
after_bridge : (c : In-loop-cue) → bridge_start c.args.source.now.cut.now c.loop-cue.cue + (cue_at c.args.source.now.cut.now c.loop-cue.cue).bridge ≤ 2 ^ 36
after_bridge c =
    let cues = c.args.source.now.cut.now.splice.cues in
    let i = c.loop-cue.cue in
    let most : sum_by span (take i cues) + span (cue_at c.args.source.now.cut.now i) ≤ sum_by span cues = sum_by_more_le span cues i _ (omega (arith, c.loop-cue-test.true, c.cue_number-cue-end.ensures.value)) in
    omega (arith, most, c.can_cut.ensures.in_limit)

pub loop-cue-init : goal.loop-cue-init
loop-cue-init c =
    let cut = c.args.source.now.cut.now in
    let first = cue_bits cut c.args.channel 0 in
    record {
      so_far = record {
        whole = first;
        prefix = prefix_nothing cut c.can_cut.ensures c.args.channel c.requires.channel (omega (arith, c.cue_number-cue-end.ensures.value, c.cue_number-cue-end.ensures.some));
        part_is = ap (λ (r : RoomContent). r.bits) c.push_cue_part.ensures ∙ ap (λ (l : List Bool). l ++ within c.args.range first) c.requires.empty;
      };
      place = omega (arith, c.cue_length-at.ensures);
      most = ap (λ (r : RoomContent). r.most) c.push_cue_part.ensures;
      can = c.can_cut.ensures;
    }

pub loop-cue-preserved : goal.loop-cue-preserved
loop-cue-preserved c =
    let cut = c.args.source.now.cut.now in
    let i = c.loop-cue.cue in
    let so_far = c.loop-cue.invariant in
    let lt : i + 1 < length cut.splice.cues = omega (arith, c.cue_number-cue-end.ensures.value) in
    let one : sum_by span (take (i + 1) cut.splice.cues) ≡ sum_by span (take i cut.splice.cues) + span (cue_at cut i) = sum_by_more span cut.splice.cues i _ (omega (arith, lt)) in
    record {
      so_far = part_more cut c.can_cut.ensures c.args.channel c.requires.channel i c.args.range c.loop-cue.room.bits c.push_step.new.room.bits lt so_far.so_far c.push_step.ensures.step;
      place = omega (arith, so_far.place, ap (λ (q : CueContent). q.bridge) c.cue.ensures.value, c.cue_length-at-in-loop-cue.ensures, one);
      most = c.push_step.ensures.most ∙ so_far.most;
      can = c.can_cut.ensures;
    }

pub returns : goal.returns
returns c = record {
  most = c.loop-cue.invariant.most;
  part = let cut = c.args.source.now.cut.now in
      let so_far = c.loop-cue.invariant.so_far in
      let n = c.loop-cue.cue in
      let all : n + 1 ≡ length cut.splice.cues = omega (arith, c.cue_number-cue-end.ensures.value, c.cue_number-cue-end.ensures.some, c.loop-cue-test.false, c.loop-cue.auto.cue-end) in
      record {
        whole = so_far.whole;
        best = prefix_best cut c.can_cut.ensures c.args.channel c.requires.channel so_far.whole n all so_far.prefix;
        long = prefix_long cut c.can_cut.ensures c.args.channel c.requires.channel so_far.whole n all so_far.prefix;
        part_is = so_far.part_is;
      };
}

pub push_cue_part-requires : goal.push_cue_part-requires
push_cue_part-requires c = record {
  channel = c.requires.channel;
  cue = omega (arith, c.can_cut.ensures.splicing.some_cues);
  in_room = omega (arith, ap length c.requires.empty, c.requires.in_room);
}

pub push_step-requires : goal.push_step-requires
push_step-requires c =
    let so_far = c.loop-cue.invariant in
    let whole = so_far.so_far.whole in
    let range = c.args.range in
    record {
      ready = c.requires.ready;
      channel = c.requires.channel;
      cue = omega (arith, c.cue_number-cue-end.ensures.value, c.loop-cue-test.true);
      start = so_far.place;
      in_room = omega (arith, c.requires.in_room, so_far.most, ap length so_far.so_far.part_is, length-slice whole range.start range.stop, so_far.so_far.prefix.long, so_far.place);
    }

pub overflow_add-cue : goal.overflow_add-cue
overflow_add-cue c = omega (arith, c.loop-cue-test.true, c.cue_number-cue-end.ensures.value, c.can_cut.ensures.splicing.few_cues)

pub cue_length-at-requires : goal.cue_length-at-requires
cue_length-at-requires c = omega (arith, c.can_cut.ensures.splicing.some_cues)

pub overflow_sub-cue-end : goal.overflow_sub-cue-end
overflow_sub-cue-end c = c.cue_number-cue-end.ensures.some

pub cue-requires : goal.cue-requires
cue-requires c = omega (arith, c.loop-cue-test.true, c.cue_number-cue-end.ensures.value)

pub cue_length-at-requires-in-loop-cue : goal.cue_length-at-requires-in-loop-cue
cue_length-at-requires-in-loop-cue c = omega (arith, c.loop-cue-test.true, c.cue_number-cue-end.ensures.value)

pub overflow_add-at : goal.overflow_add-at
overflow_add-at c = omega (arith, c.loop-cue.invariant.place, ap (λ (q : CueContent). q.bridge) c.cue.ensures.value, after_bridge (goal.at.overflow_add-at c).In-loop-cue)

pub overflow_add-at-in-loop-cue : goal.overflow_add-at-in-loop-cue
overflow_add-at-in-loop-cue c =
    let next = fits_at c.args.source.now.cut.now c.can_cut.ensures (c.loop-cue.cue + 1) (omega (arith, c.loop-cue-test.true, c.cue_number-cue-end.ensures.value)) in
    omega (arith, c.loop-cue.invariant.place, ap (λ (q : CueContent). q.bridge) c.cue.ensures.value, c.cue_length-at-in-loop-cue.ensures, next.stop_fits, after_bridge (goal.at.overflow_add-at-in-loop-cue c).In-loop-cue)
