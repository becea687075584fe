use Rattle.std.proofs.Common.{◌≡◌, ◌-◌, ◌+◌, ◌++◌, ◌∙◌, ◌≤◌, ℕ, Bool, List, ap, ap₂, arith, length, length-append, slice_range, sum_by, take}
use Rattle.std.proofs.lemmas.List.Sums.{sum_by_more_le}
use Rattle.dsd_bits.specs.Rooms.{RoomContent}
use Rattle.splice_core.specs.Cues.{CueContent}
use Rattle.cut_core.specs.Cuts.{cue_at, cue_bits, master_length, span}
use Rattle.cut_core.specs.Claims.{bridge_start}
use Rattle.cut_core.proofs.SliceLaws.{length-slice}
use Rattle.master_core.proofs.parting.push_step.Goals as goal

pub push_bridge_part-requires : goal.push_bridge_part-requires
push_bridge_part-requires c = record {
  ready = c.requires.ready;
  channel = c.requires.channel;
  cue = c.requires.cue;
  in_room = omega (arith, c.counted_from.ensures.start, c.counted_from.ensures.stop, c.requires.in_room);
}

pub push_cue_part-requires : goal.push_cue_part-requires
push_cue_part-requires c =
    let bridge = c.push_bridge_part.ensures.bridged in
    let piece = c.counted_from.result in
    let long : length bridge.bits ≡ (cue_at c.args.source.now.cut.now c.args.place.cue).bridge = bridge.given.is_least.long ∙ (c.can_cut.ensures.windowed c.args.place.channel c.args.place.cue c.requires.channel c.requires.cue).levels in
    record {
      channel = c.requires.channel;
      cue = c.requires.cue;
      in_room = omega (
        arith,
        c.requires.in_room,
        c.push_bridge_part.ensures.most,
        ap length bridge.added,
        length-append c.args.room.now.bits (slice_range bridge.bits piece.start piece.stop),
        length-slice bridge.bits piece.start piece.stop,
        long,
        c.counted_from.ensures.start,
        c.counted_from.ensures.stop,
        c.counted_from-2.ensures.start,
        c.counted_from-2.ensures.stop,
        ap (λ (q : CueContent). q.bridge) c.cue.ensures.value,
      );
    }

pub returns : goal.returns
returns c =
    let cut = c.args.source.now.cut.now in
    let p = c.args.place in
    let range = c.args.range in
    let bridge = c.push_bridge_part.ensures.bridged in
    let cue = cue_bits cut p.channel (p.cue + 1) in
    let at = bridge_start cut p.cue in
    let next = at + (cue_at cut p.cue).bridge in
    let long = ap (λ (q : CueContent). q.bridge) c.cue.ensures.value in
    let start : c.counted_from.result.start ≡ range.start - at = omega (arith, c.counted_from.ensures.start, c.requires.start) in
    let stop : c.counted_from.result.stop ≡ range.stop - at = omega (arith, c.counted_from.ensures.stop, c.requires.start) in
    let start_next : c.counted_from-2.result.start ≡ range.start - next = omega (arith, c.counted_from-2.ensures.start, c.requires.start, long) in
    let stop_next : c.counted_from-2.result.stop ≡ range.stop - next = omega (arith, c.counted_from-2.ensures.stop, c.requires.start, long) in
    record {
      most = ap (λ (r : RoomContent). r.most) c.push_cue_part.ensures ∙ c.push_bridge_part.ensures.most;
      step = record {
        bits = bridge.bits;
        best = bridge.given;
        long = bridge.given.is_least.long ∙ (c.can_cut.ensures.windowed p.channel p.cue c.requires.channel c.requires.cue).levels;
        added =
            ap (λ (r : RoomContent). r.bits) c.push_cue_part.ensures
            ∙ ap₂ (λ (l m : List Bool). l ++ m) (bridge.added ∙ ap₂ (λ (s t : ℕ). c.args.room.now.bits ++ slice_range bridge.bits s t) start stop) (ap₂ (λ (s t : ℕ). slice_range cue s t) start_next stop_next);
      };
    }

pub cue-requires : goal.cue-requires
cue-requires c = omega (arith, c.requires.cue)

pub overflow_add-next : goal.overflow_add-next
overflow_add-next c =
    let cut = c.args.source.now.cut.now in
    let cue = c.args.place.cue in
    let within : sum_by span (take cue cut.splice.cues) + span (cue_at cut cue) ≤ master_length cut.splice.cues = sum_by_more_le span cut.splice.cues cue _ (omega (arith, c.requires.cue)) in
    omega (arith, within, c.requires.start, ap (λ (q : CueContent). q.bridge) c.cue.ensures.value, c.can_cut.ensures.in_limit)
